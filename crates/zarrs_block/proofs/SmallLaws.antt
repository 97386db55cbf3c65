-- What a small store of members has at a key.
use Rattle.std.proofs.Common.{◌≡◌, ℕ, Bool, true, false, true≢false, cond, ◌||◌, ◌⊎◌, inl, inr, ⊎_elim, List, [], ◌∷◌, ◌++◌, Ordering, Less, Equal, Greater, is_eq, Option, Some, refl, sym, ap, ◌∙◌, bytes_eq}
use Rattle.std.specs.FinMap.{get, find}
use Rattle.std.specs.Ordering.{eq_by_cmp, match_ordering, nat_cmp}
use Rattle.std.specs.Cmp.Lexicographic.{slice_cmp}
use Rattle.std.specs.List.{list_all}
use Rattle.std.proofs.lemmas.Bool.{and_from}
use Rattle.std.proofs.lemmas.List.Folds.{list_all-append}
use Rattle.std.proofs.lemmas.List.Splits.{join_with_byte-slice_split}
use Rattle.std.proofs.lemmas.Map.Text.{is_eq-slice_cmp}
use Rattle.std.proofs.lemmas.Slice.Eq.{bytes_eq-Decides}
use Rattle.serde_json.specs.Data.{Data, Members, no_members, member}
use Rattle.serde_json.specs.Find.{get_member}
use Rattle.zarrs_store.specs.Segments.{Segments, key_cmp, key_text, last_segment, has_no_slash}
use Rattle.zarrs_store.proofs.ChildLemmas.{last_segment-child}
use Rattle.zarrs_store.proofs.Cuts.{parts-join, segments_clean}
use Rattle.zarrs_path.specs.Keys.{zarray, zgroup, zattrs}
use Rattle.zarrs_path.specs.Paths.{Path, IsPath}
use Rattle.zarrs_path.proofs.PathTexts.{segments_from_names}
use Rattle.zarrs_meaning.specs.Small.{is_document_v2, counted_members, small}
use Rattle.zarrs_store.specs.Segments.{stretches}
use Rattle.zarrs_block.proofs.SmallStores.{same_key, own_key, get_based}

-- ---- names and their stretches

-- a text is its stretches, joined by slashes
pub text_of_stretches : (t : List ℕ) → key_text (stretches t) ≡ t
text_of_stretches t = join_with_byte-slice_split 47 t

-- a document's file is one of three
pub one_of_three : (file : List ℕ) → is_document_v2 file ≡ true → (file ≡ zarray) ⊎ ((file ≡ zgroup) ⊎ (file ≡ zattrs))
one_of_three file doc = by (bytes_eq file zarray) refl (bytes_eq file zgroup) refl (bytes_eq file zattrs) refl doc
  where
    by : (a : Bool) → bytes_eq file zarray ≡ a → (g : Bool) → bytes_eq file zgroup ≡ g → (t : Bool) → bytes_eq file zattrs ≡ t → (a || (g || t)) ≡ true
        → (file ≡ zarray) ⊎ ((file ≡ zgroup) ⊎ (file ≡ zattrs))
    by true is g e t f h = inl ((bytes_eq-Decides file zarray).0 is)
    by false a true is t f h = inr (inl ((bytes_eq-Decides file zgroup).0 is))
    by false a false e true is h = inr (inr ((bytes_eq-Decides file zattrs).0 is))
    by false a false e false f h = absurd (true≢false (sym h))

-- it holds no slash
file_clean : (file : List ℕ) → is_document_v2 file ≡ true → has_no_slash file ≡ true
file_clean file doc = ⊎_elim (λ a. ap has_no_slash a) (λ other. ⊎_elim (λ g. ap has_no_slash g) (λ t. ap has_no_slash t) other) (one_of_three file doc)

-- names and a file are not nothing
child_some : (p : Path) (file : List ℕ) → p ++ file ∷ [] ≡ [] → ⊥
child_some [] file e = cc
child_some (n ∷ p) file e = cc

-- names and a document's file are the stretches of the text of both
pub stretches_of : (p : Path) (file : List ℕ) → IsPath p → is_document_v2 file ≡ true → stretches (key_text (p ++ file ∷ [])) ≡ p ++ file ∷ []
stretches_of p file h doc =
    parts-join (p ++ file ∷ []) (child_some p file)
    (list_all-append has_no_slash p (file ∷ []) ∙ and_from (list_all has_no_slash p) (list_all has_no_slash (file ∷ [])) (segments_clean p (segments_from_names p h)) (and_from (has_no_slash file) true (file_clean file doc) refl))

-- ---- look-ups

-- a look-up goes on where the names are not level
got_by : (o : Ordering) (a : Option Data) (d : Data) → match_ordering o a (Some d) a ≡ cond (is_eq o) (Some d) a
got_by Less a d = refl
got_by Equal a d = refl
got_by Greater a d = refl

-- a name is looked up at the first member, and then at the others
pub got_member : (k l : List ℕ) (d : Data) (ms : Members) → get_member k (member l d ms) ≡ cond (bytes_eq k l) (Some d) (get_member k ms)
got_member k l d ms = got_by (slice_cmp nat_cmp k l) (get_member k ms) d ∙ ap (λ b. cond b (Some d) (get_member k ms)) (is_eq-slice_cmp k l)

-- the text of a key and a text are one where the key is the text's stretches
level_text : (k : Segments) (t : List ℕ) → stretches (key_text k) ≡ k → (b : Bool) → bytes_eq (key_text k) t ≡ b → eq_by_cmp key_cmp k (stretches t) ≡ b
level_text k t cut true e =
    let same : stretches t ≡ k = ap stretches (sym ((bytes_eq-Decides (key_text k) t).0 e)) ∙ cut in
    ap (eq_by_cmp key_cmp k) same ∙ own_key k
level_text k t cut false e = by (eq_by_cmp key_cmp k (stretches t)) refl
  where
    by : (b : Bool) → eq_by_cmp key_cmp k (stretches t) ≡ b → b ≡ false
    by false is = refl
    by true is =
        let same : key_text k ≡ t = ap key_text (same_key k (stretches t) is) ∙ text_of_stretches t in
        absurd (true≢false (sym ((bytes_eq-Decides (key_text k) t).1 same) ∙ e))

module _ (k : Segments) (cut : stretches (key_text k) ≡ k) (doc : is_document_v2 (last_segment k) ≡ true) where
  -- among the members that count, a key of a document has what the members have at its text
  pub find_counted : (ms : Members) → find key_cmp k (counted_members ms) ≡ get_member (key_text k) ms
  find_counted no_members = refl
  find_counted (member t d ms) = by (bytes_eq (key_text k) t) refl (is_document_v2 (last_segment (stretches t))) refl (find_counted ms) ∙ sym (got_member (key_text k) t d ms)
    where
      by : (b : Bool) → bytes_eq (key_text k) t ≡ b → (c : Bool) → is_document_v2 (last_segment (stretches t)) ≡ c → find key_cmp k (counted_members ms) ≡ get_member (key_text k) ms
          → find key_cmp k (cond c ((stretches t, d) ∷ counted_members ms) (counted_members ms)) ≡ cond b (Some d) (get_member (key_text k) ms)
      by b here true counts rest = ap (λ x. cond x (Some d) (find key_cmp k (counted_members ms))) (level_text k t cut b here) ∙ ap (cond b (Some d)) rest
      by false here false counts rest = rest
      by true here false counts rest =
          let same : k ≡ stretches t = sym cut ∙ ap stretches ((bytes_eq-Decides (key_text k) t).0 here) in
          absurd (true≢false (sym doc ∙ ap (λ s. is_document_v2 (last_segment s)) same ∙ counts))

-- behind the names of a base a small store has at a key of a document what the members have at its text
pub get_small : (b k : Segments) (ms : Members) → stretches (key_text k) ≡ k → is_document_v2 (last_segment k) ≡ true → get (small b ms) (b ++ k) ≡ get_member (key_text k) ms
get_small b k ms cut doc = get_based b k ms ∙ find_counted k cut doc ms

-- the same of a document of names below the base
pub get_document : (b p : Path) (file : List ℕ) (ms : Members) → IsPath p → is_document_v2 file ≡ true → get (small b ms) (b ++ (p ++ file ∷ [])) ≡ get_member (key_text (p ++ file ∷ [])) ms
get_document b p file ms h doc = get_small b (p ++ file ∷ []) ms (stretches_of p file h doc) (ap is_document_v2 (last_segment-child p file) ∙ doc)
