-- Blocks, entry by entry.
use Rattle.std.proofs.Common.{◌≡◌, ℕ, List, [], ◌∷◌, ◌++◌, map, String, Global, string_bytes, string_cmp, nat_cmp, Ordering, Less, Equal, Greater, Option, Some, None, option_map, Ok, codes, cond, refl, ap, sym, subst, append_assoc, ◌∙◌}
use Rattle.std.specs.List.{AllByRecursion}
use Rattle.std.specs.List.Sorted.{IsStrictlySortedBy}
use Rattle.std.specs.Map.{keys_of, lookup}
use Rattle.std.specs.BTreeMap.{insert_entry, is_at}
use Rattle.std.specs.Ordering.{is_eq, match_ordering, ordering_reverse}
use Rattle.std.specs.Cmp.Lexicographic.{slice_cmp}
use Rattle.std.specs.Result.{result_ok}
use Rattle.std.proofs.lemmas.Cmp.{nat_list_cmp_total}
use Rattle.serde_json.specs.Data.{Data, Members, member, put as put_member}
use Rattle.serde_json.specs.View.{view, members_view}
use Rattle.serde_json.proofs.Views.{Entry}
use Rattle.zarrs_store.specs.Segments.{bytes_cmp}
use Rattle.zarrs_form.specs.Documents.{form_or_fault}
use Rattle.zarrs_form.specs.Forms.{◌>>=◌}
use Rattle.zarrs_form.proofs.MemberLists.{members_by, put_last as put_member_last}
use Rattle.zarrs_fault.specs.declared.numbers.Numbers.{Numbers}
use Rattle.zarrs_meta.specs.Node.{node_in, node_tree}
use Rattle.zarrs_meta.specs.declared.node.NodeMetadata.{NodeMetadata}
use Rattle.zarrs_block.specs.Block.{Block, node_at_key, put, nodes_in, documents}

-- the entries of a map, as a block
abbrev pub shown : List (String Global × NodeMetadata) → Block
shown es = map (λ e. (string_bytes e.0, e.1)) es

-- the keys of the entries of a map, as texts
abbrev pub texts : {X : Type 0} → List (String Global × X) → List (List ℕ)
texts es = map (λ e. string_bytes e.0) es

-- the block of the entries that an order chooses is the one that it chooses of their blocks
shown_by : (o : Ordering) (a b c : List (String Global × NodeMetadata)) → shown (match_ordering o a b c) ≡ match_ordering o (shown a) (shown b) (shown c)
shown_by Less a b c = refl
shown_by Equal a b c = refl
shown_by Greater a b c = refl

-- an entry that is put into a map is put into the block
pub shown_inserted : (es : List (String Global × NodeMetadata)) (k : String Global) (m : NodeMetadata) → shown (insert_entry string_cmp es k m) ≡ put (string_bytes k) m (shown es)
shown_inserted [] k m = refl
shown_inserted (e ∷ es) k m = shown_by (string_cmp k e.0) _ _ _ ∙ rw (shown_inserted es k m)

-- where what is found behind an entry is the same, what is found from the entry on is the same
found_by : (o : Ordering) (m : NodeMetadata) (a b : Option NodeMetadata) → a ≡ b → cond (is_eq o) (Some m) a ≡ cond (is_eq o) (Some m) b
found_by o m a b e = ap (λ x. cond (is_eq o) (Some m) x) e

-- what a map has at a text is what the block has there
pub found_shown : (t : List ℕ) (es : List (String Global × NodeMetadata)) → lookup (is_at (λ k. slice_cmp nat_cmp t (string_bytes k))) es ≡ node_at_key (shown es) t
found_shown t [] = refl
found_shown t (e ∷ es) = found_by (bytes_cmp t (string_bytes e.0)) e.1 _ _ (found_shown t es)

-- ---- a block that grows at its end

-- a key below all keys of a map is below them as a text
texts_below : {X : Type 0} (k : String Global) (es : List (String Global × X)) → AllByRecursion (λ y. string_cmp k y ≡ Less) (keys_of es)
    → AllByRecursion (λ y. bytes_cmp (string_bytes k) y ≡ Less) (texts es)
texts_below k [] h = tt
texts_below k (e ∷ es) h = (h.0, texts_below k es h.1)

-- the keys of a map ascend as texts
pub texts_ascend : {X : Type 0} (es : List (String Global × X)) → IsStrictlySortedBy string_cmp (keys_of es) → IsStrictlySortedBy bytes_cmp (texts es)
unfolding IsStrictlySortedBy
texts_ascend [] h = h
texts_ascend (e ∷ es) h = (texts_below e.0 es h.0, texts_ascend es h.1)

-- a text below all keys of a block and further texts is below the first of these
below_middle : (s : List ℕ) (B : Block) (t : List ℕ) (ts : List (List ℕ)) → AllByRecursion (λ y. bytes_cmp s y ≡ Less) (keys_of B ++ t ∷ ts) → bytes_cmp s t ≡ Less
below_middle s [] t ts h = h.0
below_middle s (e ∷ B) t ts h = below_middle s B t ts h.1

-- the first of further texts is above a text that is below all keys of a block and these texts
above : (s : List ℕ) (B : Block) (t : List ℕ) (ts : List (List ℕ)) → AllByRecursion (λ y. bytes_cmp s y ≡ Less) (keys_of B ++ t ∷ ts) → bytes_cmp t s ≡ Greater
above s B t ts h = nat_list_cmp_total.antisymm t s ∙ ap ordering_reverse (below_middle s B t ts h)

-- a key above those of the block goes last
pub put_last : (B : Block) (t : List ℕ) (m : NodeMetadata) (ts : List (List ℕ)) → IsStrictlySortedBy bytes_cmp (keys_of B ++ t ∷ ts) → put t m B ≡ B ++ (t, m) ∷ []
unfolding IsStrictlySortedBy
put_last [] t m ts h = refl
put_last (e ∷ B) t m ts h = rw (above e.0 B t ts h.0) (ap (λ C. e ∷ C) (put_last B t m ts h.1))

-- the keys of a block with one more at its end, and further texts
pub keys_next : (B : Block) (t : List ℕ) (m : NodeMetadata) (ts : List (List ℕ)) → keys_of (B ++ (t, m) ∷ []) ++ ts ≡ keys_of B ++ t ∷ ts
keys_next [] t m ts = refl
keys_next (e ∷ B) t m ts = ap (λ ks. e.0 ∷ ks) (keys_next B t m ts)

-- a block with the first of the entries that are left put into it, whose key is copied: it goes last, and the keys still ascend
pub grown : {X : Type 0} (B C : Block) (left : List (String Global × X)) (e : String Global × X) (es : List (String Global × X)) (t : List ℕ) (m : NodeMetadata)
    → left ≡ e ∷ es → t ≡ string_bytes e.0 → C ≡ put t m B → IsStrictlySortedBy bytes_cmp (keys_of B ++ texts left)
    → (C ≡ B ++ (string_bytes e.0, m) ∷ []) × IsStrictlySortedBy bytes_cmp (keys_of C ++ texts es)
grown B C left e es t m is key new h =
    let ascend : IsStrictlySortedBy bytes_cmp (keys_of B ++ string_bytes e.0 ∷ texts es) = subst (λ xs. IsStrictlySortedBy bytes_cmp (keys_of B ++ texts xs)) is h in
    let last : C ≡ B ++ (string_bytes e.0, m) ∷ [] = new ∙ ap (λ s. put s m B) key ∙ put_last B (string_bytes e.0) m (texts es) ascend in (
      last,
      subst (λ D. IsStrictlySortedBy bytes_cmp (keys_of D ++ texts es)) (sym last) (subst (IsStrictlySortedBy bytes_cmp) (sym (keys_next B (string_bytes e.0) m (texts es))) ascend),
    )

-- at first nothing is copied, and all is left
pub none_copied : (B C : Block) (left es : List (String Global × NodeMetadata)) → B ≡ [] → left ≡ es → shown es ≡ C → IsStrictlySortedBy string_cmp (keys_of es)
    → IsStrictlySortedBy bytes_cmp (keys_of B ++ texts left) × (B ++ shown left ≡ C)
none_copied B C left es none is all h = rw (none, is) (texts_ascend es h, all)

-- one more is copied
pub copied_next : (B C D : Block) (left : List (String Global × NodeMetadata)) (e : String Global × NodeMetadata) (es : List (String Global × NodeMetadata)) (t : List ℕ) (m : NodeMetadata)
    → left ≡ e ∷ es → t ≡ string_bytes e.0 → m ≡ e.1 → C ≡ put t m B
    → IsStrictlySortedBy bytes_cmp (keys_of B ++ texts left) × (B ++ shown left ≡ D) → IsStrictlySortedBy bytes_cmp (keys_of C ++ texts es) × (C ++ shown es ≡ D)
copied_next B C D left e es t m is key same new h =
    let step = grown B C left e es t m is key new h.0 in (
      step.1,
      ap (λ K. K ++ shown es) step.0 ∙ append_assoc B ((string_bytes e.0, m) ∷ []) (shown es) ∙ ap (λ n. B ++ (string_bytes e.0, n) ∷ shown es) same
          ∙ ap (λ xs. B ++ shown xs) (sym is) ∙ h.1,
    )

-- ---- writing

-- what is written of the entries of a map is what is written of the block
pub written_shown : (es : List (String Global × NodeMetadata)) → members_by node_tree es ≡ documents (shown es)
written_shown [] = refl
written_shown (e ∷ es) = ap (member (string_bytes e.0) (node_tree e.1)) (written_shown es)

-- the first entries are written as the members, and the others are left
abbrev pub Written : Members → Block → List (String Global × NodeMetadata) → Type 0
Written ms B left =
    (done : List (String Global × NodeMetadata)) × IsStrictlySortedBy string_cmp (keys_of (done ++ left)) × (shown (done ++ left) ≡ B) × (ms ≡ members_by node_tree done)

-- one more is written
pub written_next : (ms ns : Members) (B : Block) (left : List (String Global × NodeMetadata)) (e : String Global × NodeMetadata) (es : List (String Global × NodeMetadata)) (t : List ℕ) (d : Data)
    → left ≡ e ∷ es → t ≡ string_bytes e.0 → d ≡ node_tree e.1 → ns ≡ put_member t d ms → Written ms B left → Written ns B es
written_next ms ns B left e es t d is key tree new h =
    let done = h.0 in
    let here : done ++ left ≡ (done ++ e ∷ []) ++ es = ap (λ xs. done ++ xs) is ∙ sym (append_assoc done (e ∷ []) es) in
    let ascend : IsStrictlySortedBy string_cmp (keys_of (done ++ e ∷ es)) = subst (λ xs. IsStrictlySortedBy string_cmp (keys_of (done ++ xs))) is h.1 in (
      done ++ e ∷ [],
      subst (λ xs. IsStrictlySortedBy string_cmp (keys_of xs)) here h.1,
      ap shown (sym here) ∙ h.2,
      new ∙ (λ i. put_member (key i) (tree i) (h.3 i)) ∙ put_member_last node_tree done e es ascend,
    )

-- nothing more behind a list leaves it
pub nothing_behind : {X : Type 0} (xs : List X) → xs ++ [] ≡ xs
nothing_behind [] = refl
nothing_behind (x ∷ xs) = ap (λ ys. x ∷ ys) (nothing_behind xs)

-- where none is left, all is written
pub all_written : (ms : Members) (B : Block) (left : List (String Global × NodeMetadata)) → left ≡ [] → Written ms B left → ms ≡ documents B
all_written ms B left none h =
    h.3 ∙ written_shown h.0 ∙ ap documents (ap shown (sym (nothing_behind h.0) ∙ ap (λ xs. h.0 ++ xs) (sym none)) ∙ h.2)

-- ---- reading

-- what was read, with what is read of the further members behind it
abbrev pub with_rest : Numbers → Block → List Entry → Option Block
with_rest numbers B es = option_map (λ C. B ++ C) (nodes_in numbers (members_view es))

-- a block behind an empty one is that block
with_none : (o : Option Block) → option_map (λ C. [] ++ C) o ≡ o
with_none None = refl
with_none (Some C) = refl

-- at first nothing is read, and all is left
pub none_read : (numbers : Numbers) (B : Block) (left es : List Entry) → B ≡ [] → left ≡ es → IsStrictlySortedBy string_cmp (keys_of es)
    → IsStrictlySortedBy bytes_cmp (keys_of B ++ texts left) × (with_rest numbers B left ≡ nodes_in numbers (members_view es))
none_read numbers B left es none is h = rw (none, is) (texts_ascend es h, with_none (nodes_in numbers (members_view es)))

-- a value of the form, or else a fault, gives back the value that there was
formed_ok : {A : Type 0} (name : List ℕ) (o : Option A) → result_ok (form_or_fault name o) ≡ o
formed_ok name None = refl
formed_ok name (Some x) = refl

-- a value of the form was there
pub formed_some : {A : Type 0} (name : List ℕ) (o : Option A) (x : A) → form_or_fault name o ≡ Ok x → o ≡ Some x
formed_some name o x e = sym (formed_ok name o) ∙ ap result_ok e

-- an entry at the end of what was read is the first of what is read behind the others
next_by : (B : Block) (x : List ℕ × NodeMetadata) (o : Option Block) → option_map (λ C. (B ++ x ∷ []) ++ C) o ≡ option_map (λ C. B ++ C) (o >>= λ C. Some (x ∷ C))
next_by B x None = refl
next_by B x (Some C) = ap Some (append_assoc B (x ∷ []) C)

-- a member that reads as a node may be counted to what was read, or be left to be read
reads_next : (numbers : Numbers) (B : Block) (e : Entry) (es : List Entry) (m : NodeMetadata) → result_ok (node_in numbers (view e.1)) ≡ Some m
    → with_rest numbers (B ++ (string_bytes e.0, m) ∷ []) es ≡ with_rest numbers B (e ∷ es)
reads_next numbers B e es m is = rw is (next_by B (string_bytes e.0, m) (nodes_in numbers (members_view es)))

-- one more is read
pub read_next : (numbers : Numbers) (B C : Block) (o : Option Block) (left : List Entry) (e : Entry) (es : List Entry) (t : List ℕ) (m : NodeMetadata)
    → left ≡ e ∷ es → t ≡ string_bytes e.0 → form_or_fault (codes "metadata") (result_ok (node_in numbers (view e.1))) ≡ Ok m → C ≡ put t m B
    → IsStrictlySortedBy bytes_cmp (keys_of B ++ texts left) × (with_rest numbers B left ≡ o) → IsStrictlySortedBy bytes_cmp (keys_of C ++ texts es) × (with_rest numbers C es ≡ o)
read_next numbers B C o left e es t m is key reads new h =
    let step = grown B C left e es t m is key new h.0 in (
      step.1,
      ap (λ K. with_rest numbers K es) step.0 ∙ reads_next numbers B e es m (formed_some (codes "metadata") (result_ok (node_in numbers (view e.1))) m reads) ∙ ap (with_rest numbers B) (sym is) ∙ h.1,
    )
