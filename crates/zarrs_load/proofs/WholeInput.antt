-- Reading to the end.
use Rattle.std.proofs.Common.{◌≡◌, ℕ, ◌<◌, List, [], length, take, refl, subst, append-nil}
use Rattle.std.specs.Prelude.{Option}
use Rattle.std.proofs.KnownBytes.{Consumes-trans, Consumes-all}
use Rattle.std.specs.Io.KnownBytes.{Consumes, IsAtEnd}
use Rattle.zarrs_load.specs.Reading.{IsReadWhole}

-- a read of nothing into a buffer with room shows the end
pub whole_at_nothing : (a b c : Option (List ℕ)) (bytes buf : List ℕ) (n : ℕ) → Consumes a b bytes
    → Consumes b c (take n buf) × (n ≡ 0 → 0 < length buf → IsAtEnd c) → n ≡ 0 → 0 < length buf → IsReadWhole a c bytes
whole_at_nothing a b c bytes buf n before gave none room =
    let nothing : Consumes b c [] = subst (λ (k : ℕ). Consumes b c (take k buf)) none gave.0 in
    let taken : Consumes a c bytes = subst (Consumes a c) (append-nil bytes) (Consumes-trans a b c bytes [] before nothing) in
    record {
      all = Consumes-all a c bytes [] bytes taken (gave.1 none room) refl;
      at_end = gave.1 none room;
    }
