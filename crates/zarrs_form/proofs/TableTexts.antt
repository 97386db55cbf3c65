-- The text of an object in a layout, member by member and row by row.
use Rattle.std.proofs.Common.{◌≡◌, ℕ, List, [], ◌∷◌, ◌++◌, Bool, false, true, Option, Some, None, refl, ap, sym, ◌∙◌, append_assoc}
use Rattle.std.proofs.lemmas.Bool.{or_parts}
use Rattle.serde_json.specs.Data.{Data, Items, item, Members, no_members, member, object}
use Rattle.serde_json.specs.Written.{comma_if, has_float, members_have_float}
use Rattle.zarrs_form.specs.declared.layout.Layout.{Layout}
use Rattle.zarrs_form.specs.Layouts.{IsWhole, deeper, items_in, key_in, line_in, members_in, row_in, text_in}
use Rattle.zarrs_form.proofs.TextLaws.{row_before, rows_before}

-- a key, a value and more stand together behind what was there
regroup_member : (old k t r : List ℕ) → ((old ++ k) ++ t) ++ r ≡ old ++ (k ++ (t ++ r))
regroup_member old k t r = simp append_assoc

-- a key and its value, before the members that are left
pub member_pushed : (l : Layout) (old a new : List ℕ) (later : Bool) (k : List ℕ) (d : Data) (ms : Members) → a ≡ old ++ key_in later (deeper l) k → new ≡ a ++ text_in (deeper l) d
    → new ++ members_in true l ms ≡ old ++ members_in later l (member k d ms)
member_pushed l old a new later k d ms key value =
    ap (λ s. s ++ members_in true l ms) (value ∙ ap (λ s. s ++ text_in (deeper l) d) key)
    ∙ regroup_member old (key_in later (deeper l) k) (text_in (deeper l) d) (members_in true l ms)

-- a key and its value, and then the members that are left
pub members_pushed : (l : Layout) (old a b new : List ℕ) (later : Bool) (k : List ℕ) (d : Data) (ms : Members) → a ≡ old ++ key_in later (deeper l) k → b ≡ a ++ text_in (deeper l) d
    → new ≡ b ++ members_in true l ms → new ≡ old ++ members_in later l (member k d ms)
members_pushed l old a b new later k d ms key value left = left ∙ member_pushed l old a b later k d ms key value

-- a comma, a line, an item and more stand together behind what was there
regroup_item : (old c l t r : List ℕ) → (((old ++ c) ++ l) ++ t) ++ r ≡ old ++ (c ++ (l ++ (t ++ r)))
regroup_item old c l t r = simp append_assoc

-- a comma, a line and an item, before the items that are left
pub item_pushed : (l : Layout) (old a b new : List ℕ) (later : Bool) (d : Data) (ds : Items) → a ≡ old ++ comma_if later → b ≡ a ++ line_in (deeper l) → new ≡ b ++ text_in (deeper l) d
    → new ++ items_in true l ds ≡ old ++ items_in later l (item d ds)
item_pushed l old a b new later d ds comma broken value =
    ap (λ s. s ++ items_in true l ds) (value ∙ ap (λ s. s ++ text_in (deeper l) d) (broken ∙ ap (λ s. s ++ line_in (deeper l)) comma))
    ∙ regroup_item old (comma_if later) (line_in (deeper l)) (text_in (deeper l) d) (items_in true l ds)

-- a key, a value and a comma stand together before the rest
regroup_row : (k t r : List ℕ) → k ++ (t ++ 44 ∷ r) ≡ (k ++ (t ++ 44 ∷ [])) ++ r
regroup_row k t r = simp append_assoc

module _ (l : Layout) where
  -- a row, before members that follow it
  row_is : (name : List ℕ) (o : Option Data) (ms : Members) (text : List ℕ) → members_in true l ms ≡ 44 ∷ text → members_in false l ms ≡ text
      → (members_in true l (row_before name o ms) ≡ 44 ∷ (row_in l name o ++ text)) × (members_in false l (row_before name o ms) ≡ row_in l name o ++ text)
  row_is name None ms text after first = (after, first)
  row_is name (Some d) ms text after first =
      let whole = ap (λ r. key_in false (deeper l) name ++ (text_in (deeper l) d ++ r)) after ∙ regroup_row (key_in false (deeper l) name) (text_in (deeper l) d) text in
      (ap (λ t. 44 ∷ t) whole, whole)

  -- the text of the rows, before other text
  abbrev rows_in : List (List ℕ × Option Data) → List ℕ → List ℕ
  rows_in [] text = text
  rows_in (r ∷ rows) text = row_in l r.0 r.1 ++ rows_in rows text

  -- the rows and a last member
  rows_are : (k : List ℕ) (d : Data) (rows : List (List ℕ × Option Data))
      → (members_in true l (rows_before rows (member k d no_members)) ≡ 44 ∷ rows_in rows (members_in false l (member k d no_members)))
      × (members_in false l (rows_before rows (member k d no_members)) ≡ rows_in rows (members_in false l (member k d no_members)))
  rows_are k d [] = (refl, refl)
  rows_are k d (r ∷ rows) = let rest = rows_are k d rows in row_is r.0 r.1 (rows_before rows (member k d no_members)) _ rest.0 rest.1

  -- each text is the one before and the text of its row
  abbrev pub Follow : List ℕ → List (List ℕ × Option Data) → List (List ℕ) → Type 0
  Follow old [] [] = Unit {0}
  Follow old [] (new ∷ news) = ⊥
  Follow old (r ∷ rows) [] = ⊥
  Follow old (r ∷ rows) (new ∷ news) = (new ≡ old ++ row_in l r.0 r.1) × Follow new rows news

  -- the last text
  abbrev pub last_of : List ℕ → List (List ℕ) → List ℕ
  last_of old [] = old
  last_of old (new ∷ news) = last_of new news

  -- rows that were appended one after the other, and a text behind them, are the text of the rows before it
  rows_follow : (rows : List (List ℕ × Option Data)) (news : List (List ℕ)) (old end text : List ℕ) → Follow old rows news → end ≡ last_of old news ++ text → end ≡ old ++ rows_in rows text
  rows_follow [] [] old end text f e = e
  rows_follow [] (new ∷ news) old end text f e = absurd f
  rows_follow (r ∷ rows) [] old end text f e = absurd f
  rows_follow (r ∷ rows) (new ∷ news) old end text f e =
      rows_follow rows news new end text f.1 e ∙ ap (λ s. s ++ rows_in rows text) f.0 ∙ append_assoc old (row_in l r.0 r.1) (rows_in rows text)

  -- a brace, the rows in order and the last member make the text of the object
  pub table_written : (table : List (List ℕ × Option Data)) (k : List ℕ) (d : Data) (all : Members) (old start end : List ℕ) (news : List (List ℕ))
      → start ≡ old ++ 123 ∷ [] → Follow start table news → end ≡ last_of start news ++ members_in false l (member k d no_members)
      → all ≡ rows_before table (member k d no_members) → end ≡ old ++ text_in l (object all)
  table_written table k d all old start end news begun rows last sorted =
      let tail = rows_in table (members_in false l (member k d no_members)) in
      rows_follow table news start end (members_in false l (member k d no_members)) rows last ∙ ap (λ s. s ++ tail) begun ∙ append_assoc old (123 ∷ []) tail
      ∙ ap (λ s. old ++ 123 ∷ s) (sym (rows_are k d table).1) ∙ ap (λ ms. old ++ text_in l (object ms)) (sym sorted)

-- each row is whole
abbrev pub AreWhole : List (List ℕ × Option Data) → Type 0
AreWhole [] = Unit {0}
AreWhole (r ∷ rows) = IsWhole r.1 × AreWhole rows

-- a row before members that have no fraction together has none, nor have these
row_whole : (name : List ℕ) (o : Option Data) (ms : Members) → members_have_float (row_before name o ms) ≡ false → IsWhole o × (members_have_float ms ≡ false)
row_whole name None ms e = (tt, e)
row_whole name (Some d) ms e = or_parts (has_float d) (members_have_float ms) e

-- rows that have no fraction together with what follows them are each whole
pub rows_whole : (rows : List (List ℕ × Option Data)) (ms : Members) → members_have_float (rows_before rows ms) ≡ false → AreWhole rows
rows_whole [] ms e = tt
rows_whole (r ∷ rows) ms e = let parts = row_whole r.0 r.1 (rows_before rows ms) e in (parts.0, rows_whole rows ms parts.1)
