-- What the bytes of a text in ASCII are.
use Rattle.std.proofs.Common.{◌≡◌, ℕ, suc, ◌/◌, ◌%◌, ◌<◌, ◌≤◌, List, [], ◌∷◌, ◌++◌, true}
use Rattle.std.proofs.Common.{nat_lt, refl, ap, ◌∙◌, arith, flat_map, inl, inr, ltb-true, IsUtf8}
use Rattle.std.proofs.lemmas.Bool.{and_parts, and_from, cases_lt, lt-ltb, le-ltb}
use Rattle.std.proofs.lemmas.Str.{encode_ascii, IsUtf8-past_char, chars_past_char}
use Rattle.std.specs.Str.{chars, IsAscii}
use Rattle.std.specs.Char.{digit_char}
use Rattle.std.specs.Char.Escape.{encode_utf16}
use Rattle.json.proofs.Printed.Utf8.{are_ascii}
use Rattle.zarrs_group.specs.AsciiTexts.{ascii_char, ascii_text, unit_escape}
use lib.Utf8.{encode}

-- the first character of a text that begins with a byte of ASCII is that byte
chars-first : (x : ℕ) (r : List ℕ) → x < 128 → chars (x ∷ r) ≡ x ∷ chars r
unfolding chars
chars-first x [] small = rw (lt-ltb x 128 small) refl
chars-first x (b ∷ bs) small = rw (lt-ltb x 128 small) refl

-- a byte of ASCII stays
pub ascii_text-first : (x : ℕ) (r : List ℕ) → x < 128 → ascii_text (x ∷ r) ≡ x ∷ ascii_text r
ascii_text-first x r small = rw (chars-first x r small, lt-ltb x 128 small) refl

-- bytes of ASCII in front stay
pub ascii_text-front : (xs r : List ℕ) → are_ascii xs ≡ true → ascii_text (xs ++ r) ≡ xs ++ ascii_text r
ascii_text-front [] r e = refl
ascii_text-front (x ∷ xs) r e =
    let p = and_parts _ _ e in
    ascii_text-first x (xs ++ r) (ltb-true _ _ p.0) ∙ ap (λ l. x ∷ l) (ascii_text-front xs r p.1)

-- a character in front is written by itself
pub ascii_text-char : (text rest : List ℕ) (c : ℕ) → IsUtf8 text → text ≡ encode c ++ rest
    → ascii_text text ≡ ascii_char c ++ ascii_text rest
ascii_text-char text rest c utf8 is = ap (flat_map ascii_char) (chars_past_char text rest c utf8 is)

-- what follows a byte of ASCII in UTF-8 is UTF-8
pub utf8_past_byte : (x : ℕ) (r : List ℕ) → x < 128 → IsUtf8 (x ∷ r) → IsUtf8 r
utf8_past_byte x r small utf8 = IsUtf8-past_char (x ∷ r) r x utf8 (rw (encode_ascii x small) refl)

-- what follows bytes of ASCII in UTF-8 is UTF-8
pub utf8_past_front : (xs r : List ℕ) → are_ascii xs ≡ true → IsUtf8 (xs ++ r) → IsUtf8 r
utf8_past_front [] r e utf8 = utf8
utf8_past_front (x ∷ xs) r e utf8 =
    let p = and_parts _ _ e in
    utf8_past_front xs r p.1 (utf8_past_byte x (xs ++ r) (ltb-true _ _ p.0) utf8)

-- two lists of ASCII are one
pub are_ascii-append : (xs ys : List ℕ) → are_ascii xs ≡ true → are_ascii ys ≡ true → are_ascii (xs ++ ys) ≡ true
are_ascii-append [] ys e f = f
are_ascii-append (x ∷ xs) ys e f =
    let p = and_parts _ _ e in
    and_from _ _ p.0 (are_ascii-append xs ys p.1 f)

-- a hexadecimal digit is one of `0` to `9` and `a` to `f`
pub digit_range : (d : ℕ) → d < 16 → (48 ≤ digit_char d) × (digit_char d < 103) × (digit_char d ≡ 92 → ⊥)
digit_range d small = elim (cases_lt d 10) [
  | inl low ↦ rw (lt-ltb d 10 low) (omega arith, omega arith, λ e. omega arith)
  | inr high ↦ rw (le-ltb d 10 high) (omega arith, omega arith, λ e. omega arith)
]

-- a remainder by 16 is below 16
pub below_16 : (n : ℕ) → n % 16 < 16
below_16 n = omega arith

-- a hexadecimal digit is ASCII
digit_small : (n : ℕ) → nat_lt (digit_char (n % 16)) 128 ≡ true
digit_small n = let range = digit_range (n % 16) (below_16 n) in lt-ltb _ 128 (omega arith)

-- the escape of a code unit is ASCII
pub unit_is_ascii : (unit : ℕ) → are_ascii (unit_escape unit) ≡ true
unit_is_ascii unit =
    and_from _ _ (digit_small (unit / 4096)) (and_from _ _ (digit_small (unit / 256))
    (and_from _ _ (digit_small (unit / 16)) (and_from _ _ (digit_small (unit / 1)) refl)))

-- the escapes of code units are ASCII
units_are_ascii : (units : List ℕ) → are_ascii (flat_map unit_escape units) ≡ true
units_are_ascii [] = refl
units_are_ascii (u ∷ us) = are_ascii-append (unit_escape u) (flat_map unit_escape us) (unit_is_ascii u) (units_are_ascii us)

-- a character in ASCII is ASCII
char_is_ascii : (c : ℕ) → are_ascii (ascii_char c) ≡ true
char_is_ascii c = elim (cases_lt c 128) [
  | inl small ↦ rw (lt-ltb c 128 small) (and_from _ _ (lt-ltb c 128 small) refl)
  | inr big ↦ rw (le-ltb c 128 big) (units_are_ascii (encode_utf16 c))
]

-- characters in ASCII are ASCII
chars_are_ascii : (cs : List ℕ) → are_ascii (flat_map ascii_char cs) ≡ true
chars_are_ascii [] = refl
chars_are_ascii (c ∷ cs) = are_ascii-append (ascii_char c) (flat_map ascii_char cs) (char_is_ascii c) (chars_are_ascii cs)

-- a text in ASCII is ASCII
pub ascii_text_is_ascii : (text : List ℕ) → are_ascii (ascii_text text) ≡ true
ascii_text_is_ascii text = chars_are_ascii (chars text)

-- a text that is ASCII stays
pub ascii_text-IsAscii : (text : List ℕ) → IsAscii text → ascii_text text ≡ text
unfolding chars
ascii_text-IsAscii [] is = refl
ascii_text-IsAscii (x ∷ xs) is =
    ascii_text-first x xs (is 0) ∙ ap (λ l. x ∷ l) (ascii_text-IsAscii xs (λ i. is (suc i)))
