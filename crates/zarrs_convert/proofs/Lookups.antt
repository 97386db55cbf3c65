-- Lemmas on tables.
use Rattle.std.proofs.Common.{◌≡◌, ℕ, ◌+◌, ◌<◌, List, [], ◌∷◌, Bool, true, false, Some, map, length, drop, get_or, bytes_eq, Bor, refl, sym, ap, ◌∙◌, add-one, drop-cons}
use Rattle.std.specs.List.{list_any}
use Rattle.zarrs_form.proofs.MemberLists.{list_any-map}
use Rattle.zarrs_convert.specs.Tables.{is_among, look_up}

-- a line of the table as contracts see it
abbrev pub Line : Type 0
Line = Bor (List (Bor (List ℕ))) × Bor (List ℕ)

-- the texts and the answer of a line
abbrev pub seen : Line → List (List ℕ) × List ℕ
seen line = (map (λ t. t.now) line.0.now, line.1.now)

-- a line that nothing is in
abbrev pub blank : Line
blank = (record { ref_ptr = (0, 0); now = [] }, record { ref_ptr = (0, 0); now = [] })

-- a line whose texts have the text is the one that is looked up
among : (b : Bool) (texts : List (Bor (List ℕ))) (text : List ℕ) → b ≡ list_any (λ t. bytes_eq t.now text) texts → is_among (map (λ t. t.now) texts) text ≡ b
among b texts text e = list_any-map (λ t. bytes_eq t text) (λ t. t.now) texts ∙ sym e

-- the lines from the i-th on
at_line : (lines : List Line) (i : ℕ) (text : List ℕ) → i < length lines → look_up (map seen (drop i lines)) text ≡ look_up (seen (get_or lines i blank) ∷ map seen (drop (i + 1) lines)) text
at_line lines i text h = rw add-one (ap (λ (ls : List Line). look_up (map seen ls) text) (drop-cons lines i blank h))

-- a line that has the text gives the answer
pub hit : (lines : List Line) (i : ℕ) (text : List ℕ) (b : Bool) → i < length lines → b ≡ list_any (λ t. bytes_eq t.now text) (get_or lines i blank).0.now → b ≡ true
    → look_up (map seen (drop i lines)) text ≡ Some (get_or lines i blank).1.now
hit lines i text b h e is =
    let found : is_among (map (λ t. t.now) (get_or lines i blank).0.now) text ≡ true = among b (get_or lines i blank).0.now text e ∙ is in
    at_line lines i text h ∙ rw found refl

-- a line that does not have it is passed over
pub miss : (lines : List Line) (i : ℕ) (text : List ℕ) (b : Bool) → i < length lines → b ≡ list_any (λ t. bytes_eq t.now text) (get_or lines i blank).0.now → b ≡ false
    → look_up (map seen (drop i lines)) text ≡ look_up (map seen (drop (i + 1) lines)) text
miss lines i text b h e is =
    let found : is_among (map (λ t. t.now) (get_or lines i blank).0.now) text ≡ false = among b (get_or lines i blank).0.now text e ∙ is in
    at_line lines i text h ∙ rw found refl
