-- The pretty text of a block is a head, the texts of its nodes in order, and a tail.
use Rattle.std.proofs.Common.{◌≡◌, ℕ, ◌^◌, ◌<◌, List, [], ◌∷◌, ◌++◌, Bool, true, false, not, codes, length, refl, sym, ap, ◌∙◌, append_assoc}
use Rattle.std.proofs.lemmas.Bool.{or_parts}
use Rattle.json.specs.Print.{escape_byte}
use Rattle.serde_json.specs.Data.{Data, Members, no_members, member}
use Rattle.serde_json.specs.Written.{has_float, members_have_float}
use Rattle.zarrs_form.specs.Forms.{is_nil}
use Rattle.zarrs_form.specs.declared.layout.Layout.TheVariants.{Pretty}
use Rattle.zarrs_form.specs.Layouts.{close_line, key_in, text_in, members_in, pretty_text}
use Rattle.zarrs_form.specs.StepsOfTexts.{entries_text}
use Rattle.zarrs_form.proofs.PrettyPieces.{piece_pretty}
use Rattle.zarrs_meta.specs.Node.{node_tree}
use Rattle.zarrs_block.specs.Block.{Block, documents, block_tree}

-- what stands before the nodes of a block
abbrev pub head : List ℕ
head = codes "{\n  \"kind\": \"inline\",\n  \"metadata\": {"

-- what stands behind them
abbrev pub tail : List ℕ
tail = codes "},\n  \"must_understand\": false\n}"

-- a key and its value, and then the others, stand together before the close
regroup : (k t r close : List ℕ) → k ++ (t ++ (r ++ close)) ≡ ((k ++ t) ++ r) ++ close
regroup k t r close = simp append_assoc

-- a key, a value and more stand together behind what was there
regroup_entry : (old k t r : List ℕ) → ((old ++ k) ++ t) ++ r ≡ old ++ ((k ++ t) ++ r)
regroup_entry old k t r = simp append_assoc

-- a key and its value, before the members that are left
pub entry_pushed : (old a new : List ℕ) (later : Bool) (k : List ℕ) (d : Data) (ms : Members) → a ≡ old ++ key_in later (Pretty 2) k → new ≡ a ++ text_in (Pretty 2) d
    → new ++ entries_text true ms ≡ old ++ entries_text later (member k d ms)
entry_pushed old a new later k d ms key value =
    ap (λ s. s ++ entries_text true ms) (value ∙ ap (λ s. s ++ text_in (Pretty 2) d) key) ∙ regroup_entry old (key_in later (Pretty 2) k) (text_in (Pretty 2) d) (entries_text true ms)

-- members that follow another are their texts and a close
later_entries : (ms : Members) → members_in true (Pretty 1) ms ≡ entries_text true ms ++ (close_line true (Pretty 1) ++ 125 ∷ [])
later_entries no_members = refl
later_entries (member k d ms) =
    ap (λ t. key_in true (Pretty 2) k ++ (text_in (Pretty 2) d ++ t)) (later_entries ms)
    ∙ regroup (key_in true (Pretty 2) k) (text_in (Pretty 2) d) (entries_text true ms) (close_line true (Pretty 1) ++ 125 ∷ [])

-- the nodes of a block are their texts, and a close where there are some
entries_are : (B : Block) → members_in false (Pretty 1) (documents B) ≡ entries_text false (documents B) ++ (close_line (not (is_nil B)) (Pretty 1) ++ 125 ∷ [])
entries_are [] = refl
entries_are (e ∷ B) =
    ap (λ t. key_in false (Pretty 2) e.0 ++ (text_in (Pretty 2) (node_tree e.1) ++ t)) (later_entries (documents B))
    ∙ regroup (key_in false (Pretty 2) e.0) (text_in (Pretty 2) (node_tree e.1)) (entries_text true (documents B)) (close_line true (Pretty 1) ++ 125 ∷ [])

-- the brace that closes the nodes and what follows it are the tail
regroup_close : (a c : List ℕ) → (a ++ (c ++ 125 ∷ [])) ++ codes ",\n  \"must_understand\": false\n}" ≡ a ++ (c ++ tail)
regroup_close a c = append_assoc a (c ++ 125 ∷ []) _ ∙ ap (λ t. a ++ t) (append_assoc c (125 ∷ []) _)

-- the text of a block is its head, its nodes and its tail
block_is : (B : Block) → text_in (Pretty 0) (block_tree B) ≡ head ++ (entries_text false (documents B) ++ (close_line (not (is_nil B)) (Pretty 1) ++ tail))
unfolding escape_byte
block_is B =
    ap (λ t. head ++ (t ++ codes ",\n  \"must_understand\": false\n}")) (entries_are B)
    ∙ ap (λ t. head ++ t) (regroup_close (entries_text false (documents B)) (close_line (not (is_nil B)) (Pretty 1)))

-- the documents of a block without fractions have none
pub documents_whole : (B : Block) → has_float (block_tree B) ≡ false → members_have_float (documents B) ≡ false
documents_whole B h = (or_parts (members_have_float (documents B)) _ h).0

-- four texts that were written one behind the other are the first before the others
regroup_written : (h e c t : List ℕ) → ((h ++ e) ++ c) ++ t ≡ h ++ (e ++ (c ++ t))
regroup_written h e c t = simp append_assoc

-- a text that fits memory and was written as head, nodes, close and tail is the pretty text of the block
pub block_written : (B : Block) (text : List ℕ) → length text < 2 ^ 64 → text ≡ ((head ++ entries_text false (documents B)) ++ close_line (not (is_nil B)) (Pretty 1)) ++ tail → text ≡ pretty_text (block_tree B)
block_written B text fits is =
    piece_pretty (block_tree B) text fits (is ∙ regroup_written head (entries_text false (documents B)) (close_line (not (is_nil B)) (Pretty 1)) tail ∙ sym (block_is B))
