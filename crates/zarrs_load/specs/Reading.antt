-- What reading an input to its end does to a reader whose bytes are known.
-- <https://doc.rust-lang.org/std/io/trait.Read.html>
use Rattle.std.specs.Prelude.{◌≡◌, ℕ, ◌*◌, ◌≤◌, List, length, ⊤, Option, IfSome}
use Rattle.std.specs.Io.KnownBytes.{Consumes, IsAtEnd}
use Rattle.zarrs_load.specs.declared.fault.LoadFault.{LoadFault}
use Rattle.zarrs_load.specs.declared.fault.LoadFault.TheVariants.{Read, ReadTooLong, OutOfMemory}

-- the bytes are all that the reader had left, and it is at its end
pub record IsReadWhole (before after : Option (List ℕ)) (bytes : List ℕ) : Type 0 where
  pub all : IfSome before (λ left. bytes ≡ left)
  pub at_end : IsAtEnd after

-- the bytes are no more than a million reads of 65,536 bytes give
abbrev pub IsWithinBound : List ℕ → Type 0
IsWithinBound bytes = length bytes ≤ 1000000 * 65536

-- n bytes or more were read
abbrev pub ReadsAtLeast : ℕ → Option (List ℕ) → Option (List ℕ) → Type 0
ReadsAtLeast n before after = (bytes : List ℕ) × Consumes before after bytes × (n ≤ length bytes)

-- reading is refused where the reader fails, when out of memory, or after a million bytes
abbrev pub RefusedReading : Option (List ℕ) → Option (List ℕ) → LoadFault → Type 0
RefusedReading before after Read = ⊤
RefusedReading before after OutOfMemory = ⊤
RefusedReading before after ReadTooLong = ReadsAtLeast 1000000 before after
RefusedReading before after _ = ⊥
