use Rattle.std.specs.Prelude.{◌^◌}
use Rattle.std.proofs.Common.{◌-◌, ◌<◌, ◌≡◌, ◌≤◌, length, All, take, drop}
use Rattle.std.specs.declared.cmp.Ordering.TheVariants.{Less, Greater}
use Rattle.zarrs_store.specs.Places.{text_cmp}
use Rattle.zarrs_store.proofs.Digits.{Halved}
use Rattle.zarrs_store.proofs.places.place_of.Given as goal

abbrev pub invariant-loop-low : goal.invariant-loop-low
invariant-loop-low l = record {
  ordered : l.low ≤ l.high;
  inside : l.high ≤ length l.entries;
  smaller : All (λ e. text_cmp e.0 l.key ≡ Less) (take l.low l.entries);
  greater : All (λ e. text_cmp e.0 l.key ≡ Greater) (drop l.high l.entries);
  word : length l.entries < 2 ^ 64;
  halved : Halved (length l.entries) l.comparisons (l.high - l.low);
}

abbrev pub decreases-loop-low : goal.decreases-loop-low
decreases-loop-low l = l.high - l.low
