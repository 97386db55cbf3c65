-- What an exit status says of a run.
use Rattle.std.proofs.Common.{◌≡◌, ◌∙◌, ◌⊎◌, ap, ℕ, inl, inr, refl, arith}
use Rattle.std.specs.Prelude.{◌≢◌, Result, Ok, Err, IfErr, OnOk, IsOk}
use Rattle.zarrs_tool.specs.Refusals.{status_of}
use Rattle.zarrs_tool.specs.declared.fault.ToolFault.{ToolFault}
use Rattle.zarrs_tool.specs.declared.fault.ToolFault.TheVariants.{Usage, Read, ReadTooLong, Image, ImageKey, ImageValue, Folder, NotAGroup, Fraction, Node, Write, OutOfMemory}

-- a status of 1 is not 0
not_one : (n : ℕ) → n ≡ 1 → n ≡ 0 → ⊥
not_one n e z = omega arith

-- a status of 2 is not 0
not_two : (n : ℕ) → n ≡ 2 → n ≡ 0 → ⊥
not_two n e z = omega arith

-- a status of 1 is not 2
one_or_two : (n : ℕ) → n ≡ 1 → n ≡ 2 → ⊥
one_or_two n e z = omega arith

-- a status of 0 is not 2
zero_or_two : (n : ℕ) → n ≡ 0 → n ≡ 2 → ⊥
zero_or_two n e z = omega arith

-- the status 0 is that of success alone
pub zero_ok : (outcome : Result (Unit {0}) ToolFault) (n : ℕ) → n ≡ status_of outcome → n ≡ 0 → IsOk outcome
zero_ok (Ok done) n e z = refl
zero_ok (Err Usage) n e z = absurd (not_two n e z)
zero_ok (Err Read) n e z = absurd (not_one n e z)
zero_ok (Err ReadTooLong) n e z = absurd (not_one n e z)
zero_ok (Err Image) n e z = absurd (not_one n e z)
zero_ok (Err (ImageKey name)) n e z = absurd (not_one n e z)
zero_ok (Err (ImageValue name)) n e z = absurd (not_one n e z)
zero_ok (Err Folder) n e z = absurd (not_one n e z)
zero_ok (Err NotAGroup) n e z = absurd (not_one n e z)
zero_ok (Err (Fraction q)) n e z = absurd (not_one n e z)
zero_ok (Err (Node error)) n e z = absurd (not_one n e z)
zero_ok (Err Write) n e z = absurd (not_one n e z)
zero_ok (Err OutOfMemory) n e z = absurd (not_one n e z)

-- what holds on success holds where the status is 0
pub zero_gives : {P : Type 0} (outcome : Result (Unit {0}) ToolFault) (n : ℕ) → n ≡ status_of outcome → n ≡ 0 → OnOk outcome P → P
zero_gives (Ok done) n e z p = p
zero_gives (Err Usage) n e z p = absurd (not_two n e z)
zero_gives (Err Read) n e z p = absurd (not_one n e z)
zero_gives (Err ReadTooLong) n e z p = absurd (not_one n e z)
zero_gives (Err Image) n e z p = absurd (not_one n e z)
zero_gives (Err (ImageKey name)) n e z p = absurd (not_one n e z)
zero_gives (Err (ImageValue name)) n e z p = absurd (not_one n e z)
zero_gives (Err Folder) n e z p = absurd (not_one n e z)
zero_gives (Err NotAGroup) n e z p = absurd (not_one n e z)
zero_gives (Err (Fraction q)) n e z p = absurd (not_one n e z)
zero_gives (Err (Node error)) n e z p = absurd (not_one n e z)
zero_gives (Err Write) n e z p = absurd (not_one n e z)
zero_gives (Err OutOfMemory) n e z p = absurd (not_one n e z)

-- the status 2 is that of wrong words alone
pub two_usage : (outcome : Result (Unit {0}) ToolFault) (n : ℕ) → n ≡ status_of outcome → n ≡ 2 → outcome ≡ Err Usage
two_usage (Ok done) n e z = absurd (zero_or_two n e z)
two_usage (Err Usage) n e z = refl
two_usage (Err Read) n e z = absurd (one_or_two n e z)
two_usage (Err ReadTooLong) n e z = absurd (one_or_two n e z)
two_usage (Err Image) n e z = absurd (one_or_two n e z)
two_usage (Err (ImageKey name)) n e z = absurd (one_or_two n e z)
two_usage (Err (ImageValue name)) n e z = absurd (one_or_two n e z)
two_usage (Err Folder) n e z = absurd (one_or_two n e z)
two_usage (Err NotAGroup) n e z = absurd (one_or_two n e z)
two_usage (Err (Fraction q)) n e z = absurd (one_or_two n e z)
two_usage (Err (Node error)) n e z = absurd (one_or_two n e z)
two_usage (Err Write) n e z = absurd (one_or_two n e z)
two_usage (Err OutOfMemory) n e z = absurd (one_or_two n e z)

-- wrong words have the status 2
pub usage_two : (outcome : Result (Unit {0}) ToolFault) (n : ℕ) → n ≡ status_of outcome → outcome ≡ Err Usage → n ≡ 2
usage_two outcome n e is = e ∙ ap status_of is

-- the status is 0, 1 or 2
pub any_status : (outcome : Result (Unit {0}) ToolFault) (n : ℕ) → n ≡ status_of outcome → (n ≡ 0) ⊎ (n ≡ 1) ⊎ (n ≡ 2)
any_status (Ok done) n e = inl e
any_status (Err Usage) n e = inr (inr e)
any_status (Err Read) n e = inr (inl e)
any_status (Err ReadTooLong) n e = inr (inl e)
any_status (Err Image) n e = inr (inl e)
any_status (Err (ImageKey name)) n e = inr (inl e)
any_status (Err (ImageValue name)) n e = inr (inl e)
any_status (Err Folder) n e = inr (inl e)
any_status (Err NotAGroup) n e = inr (inl e)
any_status (Err (Fraction q)) n e = inr (inl e)
any_status (Err (Node error)) n e = inr (inl e)
any_status (Err Write) n e = inr (inl e)
any_status (Err OutOfMemory) n e = inr (inl e)

-- a status of 0 is not 1
zero_or_one : (n : ℕ) → n ≡ 0 → n ≡ 1 → ⊥
zero_or_one n e z = omega arith

-- the status 1 is that of a run that is refused, not for its words
pub one_refused : (outcome : Result (Unit {0}) ToolFault) (P Q : ToolFault → Type 0) (n : ℕ) → n ≡ status_of outcome → n ≡ 1 → IfErr outcome P → IfErr outcome Q
    → (fault : ToolFault) × (fault ≢ Usage) × P fault × Q fault
one_refused (Ok done) P Q n e one p q = absurd (zero_or_one n e one)
one_refused (Err fault) P Q n e one p q =
    (fault, (λ (usage : fault ≡ Usage). one_or_two n one (e ∙ ap (λ f. status_of (Err f)) usage)), p, q)
