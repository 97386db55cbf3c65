-- Lemmas on the number of bits of raw bits.
use Rattle.std.proofs.Common.{◌≡◌, ℕ, ◌*◌, ◌<◌, ◌^◌, List, Bool, true, false, ◌&&◌, Option, Some, None, if◌then◌else◌, codes, drop, refl, ap, arith}
use Rattle.std.specs.Prelude.{SomeIff}
use Rattle.std.specs.Str.Parse.{digits_value}
use Rattle.std.proofs.lemmas.Bool.{lt-ltb}
use Rattle.zarrs_convert.specs.DataTypes.{raw_size}
use Rattle.zarrs_convert.specs.Tables.{fits_u64, is_numbered}
use Rattle.zarrs_convert.specs.StepsOfConversion.{digits_behind}
use Rattle.zarrs_convert.proofs.Numbers.{too_large}

-- eight times as many bits, where that fits
abbrev pub eightfold : ℕ → Option ℕ
eightfold n = if fits_u64 (8 * n) then Some (8 * n) else None

-- where nothing passes a test, nothing passes it together with another
none_then : {X : Type 0} (b fits : Bool) (x : X) (size : ℕ) → (if b then Some x else None) ≡ None → (if b && fits then Some size else None) ≡ None
none_then true fits x size h = cc
none_then false fits x size h = refl

-- where a text passes the test, its size is the eightfold of its number
some_then : (b : Bool) (x y : List ℕ) → (if b then Some x else None) ≡ Some y → (if b && fits_u64 (8 * digits_value 10 x) then Some (8 * digits_value 10 x) else None) ≡ eightfold (digits_value 10 y)
some_then true x y h = let e : x ≡ y = cc in ap (λ z. eightfold (digits_value 10 z)) e
some_then false x y h = cc

-- a text that is not numbered is no raw bits
pub size_none : (text : List ℕ) → digits_behind (codes "|V") text ≡ None → raw_size text ≡ None
size_none text h = none_then (is_numbered (codes "|V") text) (fits_u64 (8 * digits_value 10 (drop 2 text))) (drop 2 text) (8 * digits_value 10 (drop 2 text)) h

-- a text that is numbered has eight times as many bits
pub size_some : (text ds : List ℕ) → digits_behind (codes "|V") text ≡ Some ds → raw_size text ≡ eightfold (digits_value 10 ds)
size_some text ds h = some_then (is_numbered (codes "|V") text) (drop 2 text) ds h

-- a number that does not fit has no eightfold
pub eightfold_none : (n : ℕ) → (if fits_u64 n then Some n else None) ≡ None → eightfold n ≡ None
eightfold_none n h =
    elim (fits_u64 n) as (λ b. fits_u64 n ≡ b → (if b then Some n else None) ≡ None → eightfold n ≡ None) [
      | true ↦ λ e g. cc
      | false ↦ λ e g.
          let large : 8 * n < 2 ^ 64 → ⊥ = λ less. let small : n < 2 ^ 64 = omega arith in let f : fits_u64 n ≡ true = lt-ltb n (2 ^ 64) small in cc in
          let f : fits_u64 (8 * n) ≡ false = too_large (8 * n) large in
          rw f refl
    ] refl h

-- a number that fits is that number
pub some_fits : (n m : ℕ) → (if fits_u64 n then Some n else None) ≡ Some m → m ≡ n
some_fits n m h =
    elim (fits_u64 n) as (λ b. (if b then Some n else None) ≡ Some m → m ≡ n) [ true ↦ λ g. cc | false ↦ λ g. cc ] h

-- a product that is made where it fits is the eightfold
pub eightfold_by : (r : Option ℕ) (n : ℕ) → SomeIff r (n * 8 < 2 ^ 64) (n * 8) → r ≡ eightfold n
eightfold_by None n h =
    let large : 8 * n < 2 ^ 64 → ⊥ = λ less. h (omega arith) in
    let f : fits_u64 (8 * n) ≡ false = too_large (8 * n) large in
    rw f refl
eightfold_by (Some x) n h =
    let small : 8 * n < 2 ^ 64 = omega arith in
    let f : fits_u64 (8 * n) ≡ true = lt-ltb (8 * n) (2 ^ 64) small in
    let e : x ≡ 8 * n = omega arith in
    rw f (ap Some e)
