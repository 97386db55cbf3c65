-- Lemmas on numbers at the end of texts.
use Rattle.std.proofs.Common.{◌≡◌, ℕ, ◌<◌, ◌^◌, Result, Ok, Err, true≢false, arith, List, [], ◌∷◌, Bool, true, false, ◌&&◌, ◌==◌, Some, None, if◌then◌else◌, length, drop, refl, sym, ap, ◌∙◌, subst}
use Rattle.std.specs.Char.{is_ascii_digit}
use Rattle.std.specs.List.{list_all}
use Rattle.std.specs.Str.{IsCharBoundary, all_ascii_digits}
use Rattle.std.specs.Str.Pattern.{FindsTextPrefix, StripsPrefix}
use Rattle.std.proofs.lemmas.Str.Pattern.{starts_text}
use Rattle.zarrs_convert.specs.Tables.{begins, fits_u64, is_decimal}
use Rattle.zarrs_convert.specs.StepsOfConversion.{digits_behind}
use Rattle.std.specs.Result.{OkIff, result_ok}
use Rattle.std.specs.Str.Parse.{ParsesUnsigned, digits_value}
use Rattle.std.proofs.lemmas.Bool.{ltb-true, lt-ltb}
use Rattle.std.proofs.lemmas.Str.Parse.{IsNumeralModel, numerals_by_value, tells_all_ascii_digits, parse_digits}

-- a text that does not begin so has no digits behind the beginning
pub behind_none : (start text : List ℕ) → FindsTextPrefix start text None → digits_behind start text ≡ None
behind_none start text h = let e : begins start text ≡ false = sym (starts_text false start text h) in rw e refl

-- a text that begins so has behind it the rest, where that is digits
pub behind_some : (rest start text : List ℕ) → StripsPrefix (FindsTextPrefix start) text rest → digits_behind start text ≡ (if is_decimal rest then Some rest else None)
behind_some rest start text h =
    let P : ℕ → Type 0 = λ n. IsCharBoundary text n in
    let e : begins start text ≡ true = sym (starts_text true start text (h.0, h.1, subst P (sym h.1.0) h.1.2)) in
    let r : rest ≡ drop (length start) text = h.2 ∙ ap (λ n. drop n text) h.1.0 in
    rw (e, r) refl

-- a test of each byte is the test of all
pub all_digits : (ds : List ℕ) → list_all is_ascii_digit ds ≡ all_ascii_digits ds
all_digits [] = refl
all_digits (d ∷ ds) = ap (λ b. is_ascii_digit d && b) (all_digits ds)

-- digits that are not empty are a number
pub all_decimal : (ds : List ℕ) (empty : Bool) → empty ≡ (length ds == 0) → empty ≡ false → list_all is_ascii_digit ds ≡ is_decimal ds
all_decimal [] empty e f = cc
all_decimal (d ∷ ds) empty e f = all_digits (d ∷ ds)

-- a text is decimal where it has a digit and no byte but digits
pub decimal_parts : (ds : List ℕ) → is_decimal ds ≡ true → (all_ascii_digits ds ≡ true) × (0 < length ds)
decimal_parts [] e = absurd (true≢false (sym e))
decimal_parts (d ∷ ds) e = (e, omega arith)

-- digits and their value
own : IsNumeralModel (λ ds. all_ascii_digits ds ≡ true) (digits_value 10)
own = numerals_by_value _ tells_all_ascii_digits

-- a number that does not fit
pub too_large : (n : ℕ) → (n < 2 ^ 64 → ⊥) → fits_u64 n ≡ false
too_large n h = elim (fits_u64 n) as (λ b. fits_u64 n ≡ b → b ≡ false) [ true ↦ λ e. absurd (h (ltb-true n (2 ^ 64) e)) | false ↦ λ e. refl ] refl

-- what is parsed is there where it fits
fits_by : {E : Type 0} (r : Result ℕ E) (n : ℕ) (some : Type 0) → OkIff r (some × (n < 2 ^ 64)) n → some → result_ok r ≡ (if fits_u64 n then Some n else None)
fits_by (Ok x) n some h s = let e : fits_u64 n ≡ true = lt-ltb n (2 ^ 64) h.0.1 in rw e (ap Some h.1)
fits_by (Err e) n some h s = let e : fits_u64 n ≡ false = too_large n (λ less. h (s, less)) in rw e refl

-- the number that digits write is parsed where it fits
pub parsed_digits : {E : Type 0} (r : Result ℕ E) (ds : List ℕ) → ParsesUnsigned 64 10 ds r → is_decimal ds ≡ true → result_ok r ≡ (if fits_u64 (digits_value 10 ds) then Some (digits_value 10 ds) else None)
parsed_digits r ds h decimal =
    let parts = decimal_parts ds decimal in
    fits_by r (digits_value 10 ds) (0 < length ds) (parse_digits own 64 ds r h parts.0) parts.1
