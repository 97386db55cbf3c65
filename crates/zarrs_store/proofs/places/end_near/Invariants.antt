use Rattle.std.specs.Prelude.{◌^◌}
use Rattle.std.proofs.Common.{◌-◌, ◌<◌, ◌≡◌, ◌≤◌, true, false, length, All, drop, slice_range}
use Rattle.zarrs_store.specs.Entries.{is_below}
use Rattle.zarrs_store.proofs.Digits.{Galloped}
use Rattle.zarrs_store.proofs.places.end_near.Given as goal

abbrev pub invariant-loop-low : goal.invariant-loop-low
invariant-loop-low l = record {
  behind_first : l.first ≤ l.low;
  ordered : l.low ≤ l.high;
  inside : l.high ≤ length l.entries;
  within : All (λ e. is_below l.prefix e.0 ≡ true) (slice_range l.entries l.first l.low);
  behind : All (λ e. is_below l.prefix e.0 ≡ false) (drop l.high l.entries);
  word : length l.entries < 2 ^ 64;
  galloped : Galloped l.comparisons (l.low - l.first) (l.high - l.low);
}

abbrev pub decreases-loop-low : goal.decreases-loop-low
decreases-loop-low l = l.high - l.low
