use Rattle.std.specs.Prelude.{◌^◌}
use Rattle.std.proofs.Common.{◌-◌, ◌<◌, ◌≡◌, ◌≤◌, true, false, length, All, take, drop}
use Rattle.std.specs.Ordering.{is_lt}
use Rattle.zarrs_store.specs.Segments.{bytes_cmp, key_text, prefix_text}
use Rattle.zarrs_store.proofs.Digits.{Halved}
use Rattle.zarrs_store.proofs.places.first_from.Given as goal

abbrev pub invariant-loop-low : goal.invariant-loop-low
invariant-loop-low l = record {
  ordered : l.low ≤ l.high;
  inside : l.high ≤ length l.entries;
  before : All (λ e. is_lt (bytes_cmp (key_text e.0) (prefix_text l.prefix)) ≡ true) (take l.low l.entries);
  from : All (λ e. is_lt (bytes_cmp (key_text e.0) (prefix_text l.prefix)) ≡ false) (drop l.high l.entries);
  word : length l.entries < 2 ^ 64;
  halved : Halved (length l.entries) l.comparisons (l.high - l.low);
}

abbrev pub decreases-loop-low : goal.decreases-loop-low
decreases-loop-low l = l.high - l.low
