-- The order of remarks.
use Rattle.std.proofs.Common.{◌≡◌, ◌≢◌, ℕ, Bool, cond, codes, true, false, true≢false, List, [], ◌∷◌, ◌++◌, get_or, AllPairs, Option, Some, None, Ordering, Less, Equal, Greater, IsTrue, is_eq, Result, Ok, Err, OnOk, refl, sym, ap, subst, ◌∙◌}
use Rattle.std.specs.List.{filter, slice_split, list_all}
use Rattle.std.specs.List.Sorted.{IsPermutation, IsSorted, IsSortedByClosure}
use Rattle.std.specs.Fn.{Called, ComparesAs}
use Rattle.std.specs.Option.{option_cmp}
use Rattle.std.specs.Str.{bytes_eq}
use Rattle.std.specs.Ordering.{nat_cmp, ordering_then, is_lt}
use Rattle.std.specs.Cmp.{IsTotalOrder}
use Rattle.std.specs.Cmp.Lexicographic.{slice_cmp, texts_ties, options_total}
use denote.Param.Members.{Mut}
use denote.Ref.{Bor}
use Rattle.std.proofs.lemmas.Bool.{and_parts}
use Rattle.std.proofs.lemmas.Cmp.{then_total, on_total, nat_list_cmp_total, tied_itself}
use Rattle.std.proofs.lemmas.List.Sorted.{ranks_by, answers_always}
use Rattle.std.proofs.lemmas.Map.Keys.{Less-from_sorted}
use Rattle.std.proofs.lemmas.Slice.Eq.{bytes_eq-Decides}
use Rattle.zarrs_store.specs.Segments.{is_slash, is_nonempty, has_no_slash, prefix_text, bytes_cmp, IsPrefix}
use Rattle.zarrs_store.proofs.AscendingLists.{strictly_from_sorted}
use Rattle.zarrs_store.proofs.Cuts.{parts-append, parts_one, prefix_text-cons, segments_test, segments_nonempty, segments_clean}
use Rattle.zarrs_path.specs.Paths.{Path, path_cmp}
use Rattle.zarrs_path.specs.PathOrder.{path_decides, path_ties, path_total}
use Rattle.zarrs_cli.specs.declared.kind.RemarkKind.{RemarkKind}
use Rattle.zarrs_cli.specs.declared.kind.RemarkKind.TheVariants.{BadDocument, BadName, NoNode, Orphaned, BadShape, BadFillValue, BadCodecs, NotOpened, BadBlock, BadKey, Shadowed, OwnKey, OwnAttributes, Differs, Unreachable, Stale, Unreached, Missing, Misplaced, Beside, Alike, LeftOver}
use Rattle.zarrs_cli.specs.declared.remark.Remark.{Remark}
use Rattle.zarrs_cli.specs.Kinds.{kind_word}
use Rattle.zarrs_cli.specs.Report.{is_asked, remark_cmp, RemarksAscend}
use Rattle.zarrs_cli.specs.StepsOfReports.{AreSorted}

-- the text of a prefix is cut into its segments and an empty part
parts-prefix_text : (p : Path) → IsTrue (list_all has_no_slash p) → slice_split is_slash (prefix_text p) ≡ p ++ [] ∷ []
parts-prefix_text [] h = refl
parts-prefix_text (n ∷ p) h =
    let both = and_parts (has_no_slash n) (list_all has_no_slash p) h in
    ap (slice_split is_slash) (prefix_text-cons n p)
    ∙ (parts-append n (prefix_text p) ∙ (ap (λ q. q ++ slice_split is_slash (prefix_text p)) (parts_one n both.0) ∙ ap (λ q. n ∷ q) (parts-prefix_text p both.1)))

-- with that part they are in the order of the paths
cmp_ended : (p q : Path) → IsTrue (list_all is_nonempty p) → IsTrue (list_all is_nonempty q) → slice_cmp (slice_cmp nat_cmp) (p ++ [] ∷ []) (q ++ [] ∷ []) ≡ path_cmp p q
cmp_ended [] [] h k = refl
cmp_ended [] ([] ∷ q) h k = let f : false ≡ true = k in cc
cmp_ended [] ((b ∷ n) ∷ q) h k = refl
cmp_ended ([] ∷ p) [] h k = let f : false ≡ true = h in cc
cmp_ended ((b ∷ n) ∷ p) [] h k = refl
cmp_ended (n ∷ p) (m ∷ q) h k =
    ap (ordering_then (slice_cmp nat_cmp n m)) (cmp_ended p q (and_parts (is_nonempty n) (list_all is_nonempty p) h).1 (and_parts (is_nonempty m) (list_all is_nonempty q) k).1)

-- texts of prefixes are ordered by their parts as the prefixes are as paths
pub cmp_prefixes : (p q : Path) (s t : List ℕ) → s ≡ prefix_text p → t ≡ prefix_text q → IsPrefix p → IsPrefix q → slice_cmp (slice_cmp nat_cmp) (slice_split is_slash s) (slice_split is_slash t) ≡ path_cmp p q
cmp_prefixes p q s t e f h k =
    let mine : slice_split is_slash s ≡ p ++ [] ∷ [] = ap (slice_split is_slash) e ∙ parts-prefix_text p (segments_clean p (segments_test p h)) in
    let theirs : slice_split is_slash t ≡ q ++ [] ∷ [] = ap (slice_split is_slash) f ∙ parts-prefix_text q (segments_clean q (segments_test q k)) in
    ap (λ r. slice_cmp (slice_cmp nat_cmp) r (slice_split is_slash t)) mine
    ∙ (ap (slice_cmp (slice_cmp nat_cmp) (p ++ [] ∷ [])) theirs ∙ cmp_ended p q (segments_nonempty p (segments_test p h)) (segments_nonempty q (segments_test q k)))

-- ---- remarks

-- the order of remarks is total
pub remark_total : IsTotalOrder remark_cmp
remark_total =
    then_total
    (then_total
    (then_total (then_total (on_total (λ (r : Remark). r.path) path_total) (on_total (λ (r : Remark). r.group) (options_total path_total)))
    (on_total (λ (r : Remark). r.key) (options_total nat_list_cmp_total)))
    (on_total (λ (r : Remark). r.text) nat_list_cmp_total))
    (on_total (λ (r : Remark). kind_word r.kind) nat_list_cmp_total)

-- what is level in a row is level each
both_level : (o p : Ordering) → ordering_then o p ≡ Equal → (o ≡ Equal) × (p ≡ Equal)
both_level Less p e = let no : Less ≡ Equal = e in cc no
both_level Equal p e = (refl, e)
both_level Greater p e = let no : Greater ≡ Equal = e in cc no

-- paths that are level are one
level_paths : (p q : Path) → path_cmp p q ≡ Equal → p ≡ q
level_paths p q e = (path_decides p q).0 (path_ties p q ∙ ap is_eq e)

-- the kind that a word names
kind_named : List ℕ → RemarkKind
kind_named word =
    cond (bytes_eq word (codes "bad-document")) BadDocument
    (cond (bytes_eq word (codes "bad-name")) BadName
    (cond (bytes_eq word (codes "no-node")) NoNode
    (cond (bytes_eq word (codes "orphaned")) Orphaned
    (cond (bytes_eq word (codes "bad-shape")) BadShape
    (cond (bytes_eq word (codes "bad-fill-value")) BadFillValue
    (cond (bytes_eq word (codes "bad-codecs")) BadCodecs
    (cond (bytes_eq word (codes "not-opened")) NotOpened
    (cond (bytes_eq word (codes "bad-block")) BadBlock
    (cond (bytes_eq word (codes "bad-key")) BadKey
    (cond (bytes_eq word (codes "shadowed")) Shadowed
    (cond (bytes_eq word (codes "own-key")) OwnKey
    (cond (bytes_eq word (codes "own-attributes")) OwnAttributes
    (cond (bytes_eq word (codes "unreached")) Unreached
    (cond (bytes_eq word (codes "differs")) Differs
    (cond (bytes_eq word (codes "unreachable")) Unreachable
    (cond (bytes_eq word (codes "stale")) Stale
    (cond (bytes_eq word (codes "missing")) Missing (cond (bytes_eq word (codes "misplaced")) Misplaced (cond (bytes_eq word (codes "beside")) Beside (cond (bytes_eq word (codes "alike")) Alike LeftOver))))))))))))))))))))

-- the word for a kind names it
kind_named_back : (kind : RemarkKind) → kind_named (kind_word kind) ≡ kind
unfolding kind_named
kind_named_back BadDocument = refl
kind_named_back BadName = refl
kind_named_back NoNode = refl
kind_named_back Orphaned = refl
kind_named_back BadShape = refl
kind_named_back BadFillValue = refl
kind_named_back BadCodecs = refl
kind_named_back NotOpened = refl
kind_named_back BadBlock = refl
kind_named_back BadKey = refl
kind_named_back Shadowed = refl
kind_named_back OwnKey = refl
kind_named_back OwnAttributes = refl
kind_named_back Unreached = refl
kind_named_back Differs = refl
kind_named_back Unreachable = refl
kind_named_back Stale = refl
kind_named_back Missing = refl
kind_named_back Misplaced = refl
kind_named_back Beside = refl
kind_named_back Alike = refl
kind_named_back LeftOver = refl

-- groups that are level are one
level_groups : (g h : Option Path) → option_cmp path_cmp g h ≡ Equal → g ≡ h
level_groups None None e = refl
level_groups None (Some h) e = let no : Less ≡ Equal = e in cc no
level_groups (Some g) None e = let no : Greater ≡ Equal = e in cc no
level_groups (Some g) (Some h) e = ap (λ p. Some p) (level_paths g h e)

-- texts that are level are one
level_texts : (s t : List ℕ) → bytes_cmp s t ≡ Equal → s ≡ t
level_texts s t e = (bytes_eq-Decides s t).0 (texts_ties s t ∙ ap is_eq e)

-- keys that are level are one
level_keys : (j k : Option (List ℕ)) → option_cmp bytes_cmp j k ≡ Equal → j ≡ k
level_keys None None e = refl
level_keys None (Some k) e = let no : Less ≡ Equal = e in cc no
level_keys (Some j) None e = let no : Greater ≡ Equal = e in cc no
level_keys (Some j) (Some k) e = ap (λ t. Some t) (level_texts j k e)

-- kinds whose words are level are one
level_kinds : (j k : RemarkKind) → bytes_cmp (kind_word j) (kind_word k) ≡ Equal → j ≡ k
level_kinds j k e = sym (kind_named_back j) ∙ (ap kind_named (level_texts (kind_word j) (kind_word k) e) ∙ kind_named_back k)

-- a remark of its parts
made : Path → RemarkKind → Option Path → Option (List ℕ) → List ℕ → Remark
made p m g k t = record { path = p; kind = m; group = g; key = k; text = t }

-- the order of paths and groups, and of keys too
abbrev groups_cmp : Remark → Remark → Ordering
groups_cmp q r = ordering_then (path_cmp q.path r.path) (option_cmp path_cmp q.group r.group)

-- the order of paths and groups, and then of keys
abbrev keys_cmp : Remark → Remark → Ordering
keys_cmp q r = ordering_then (groups_cmp q r) (option_cmp bytes_cmp q.key r.key)

-- remarks that are level are one
pub level_remarks : (q r : Remark) → remark_cmp q r ≡ Equal → q ≡ r
unfolding made
level_remarks q r e =
    let kinds = both_level (ordering_then (keys_cmp q r) (bytes_cmp q.text r.text)) (bytes_cmp (kind_word q.kind) (kind_word r.kind)) e in
    let texts = both_level (keys_cmp q r) (bytes_cmp q.text r.text) kinds.0 in
    let keys = both_level (groups_cmp q r) (option_cmp bytes_cmp q.key r.key) texts.0 in
    let groups = both_level (path_cmp q.path r.path) (option_cmp path_cmp q.group r.group) keys.0 in
    ap (λ p. made p q.kind q.group q.key q.text) (level_paths q.path r.path groups.0)
    ∙ (ap (λ m. made r.path m q.group q.key q.text) (level_kinds q.kind r.kind kinds.1)
    ∙ (ap (λ g. made r.path r.kind g q.key q.text) (level_groups q.group r.group groups.1)
    ∙ (ap (λ k. made r.path r.kind r.group k q.text) (level_keys q.key r.key keys.1) ∙ ap (made r.path r.kind r.group r.key) (level_texts q.text r.text texts.1))))

-- remarks that differ and were sorted ascend
pub sorted_ascend : (qs rs : List Remark) → AllPairs (λ q r. q ≢ r) qs → IsPermutation qs rs → IsSorted remark_cmp rs → RemarksAscend rs
sorted_ascend qs rs once moved up i j d l m = Less-from_sorted remark_cmp rs i j d (strictly_from_sorted remark_total level_remarks qs rs once moved up) l m

-- what ascends has nothing twice
pub ascend_once : (rs : List Remark) → RemarksAscend rs → AllPairs (λ q r. q ≢ r) rs
ascend_once rs up i j d l m same =
    true≢false (sym (ap is_eq (tied_itself remark_total (get_or rs j d))) ∙ ap is_eq (subst (λ (q : Remark). remark_cmp q (get_or rs j d) ≡ Less) same (up i j d l m)))

-- ---- what a sort by this order gives, from what its closure answers

module _ {F : Type 0} {g : Mut F (Bor Remark × (Bor Remark × Unit {0})) Ordering} {f : F} (calls : (f : F) (a : Bor Remark × (Bor Remark × Unit {0})) (r : Ordering) (f' : F) → Called g f a r f' → r ≡ remark_cmp a.0.now a.1.0.now) where
  -- the closure compares as the order does
  compares : ComparesAs g (λ q r. is_lt (remark_cmp q r)) f
  compares = answers_always g (λ a r. is_lt r ≡ is_lt (remark_cmp a.0.now a.1.0.now)) f (λ f a r f' k. ap is_lt (calls f a r f' k))

  -- what `sort_by` sorted is in that order
  pub sorted_by : (rs : List Remark) → IsSortedByClosure g f rs → IsSorted remark_cmp rs
  sorted_by rs clause = clause (λ q r. is_lt (remark_cmp q r)) (ranks_by remark_total (λ (r : Remark). r)) compares

-- the remarks that a sort gave are the others in their order
pub sorted_result : {E : Type 0} (r : Result (Unit {0}) E) (qs rs : List Remark) → IsPermutation qs rs → OnOk r (IsSorted remark_cmp rs) → OnOk r (AreSorted qs rs)
sorted_result (Ok done) qs rs moved up = record { moved = moved; ordered = up }
sorted_result (Err e) qs rs moved up = tt

-- ---- what a report has

-- where notes are asked for it has all remarks
pub all_asked : (notes : Bool) (rs : List Remark) → notes ≡ true → rs ≡ filter (is_asked notes) rs
all_asked true [] is = refl
all_asked true (r ∷ rs) is = ap (λ qs. r ∷ qs) (all_asked true rs is)
all_asked false rs is = absurd (true≢false (sym is))

-- and else the findings
pub findings_asked : (notes : Bool) (rs qs : List Remark) → notes ≡ false → qs ≡ filter (is_asked false) rs → qs ≡ filter (is_asked notes) rs
findings_asked notes rs qs is kept = kept ∙ ap (λ n. filter (is_asked n) rs) (sym is)
