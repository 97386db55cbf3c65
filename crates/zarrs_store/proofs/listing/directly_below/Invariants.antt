use Rattle.std.proofs.Common.{◌≡◌, ◌≤◌, ◌+◌, ◌-◌, ◌*◌, ◌++◌, length, drop}
use Rattle.std.specs.Prelude.{filter}
use Rattle.std.specs.Map.{keys_of}
use Rattle.zarrs_store.specs.StepsOfStores.{is_child_key, child_prefixes}
use Rattle.zarrs_store.specs.Places.{digits}
use Rattle.zarrs_store.proofs.listing.directly_below.Given as goal

abbrev pub invariant-loop-at : goal.invariant-loop-at
invariant-loop-at l = record {
  behind_first : l.first ≤ l.at;
  inside : l.at ≤ l.end;
  keys : l.keys.items ++ filter (is_child_key l.prefix) (keys_of (drop l.at l.entries)) ≡ filter (is_child_key l.prefix) (keys_of l.entries);
  prefixes : l.prefixes.items ++ child_prefixes l.prefix (keys_of (drop l.at l.entries)) ≡ child_prefixes l.prefix (keys_of l.entries);
  bounded : l.comparisons ≤ length l.keys.items + length l.prefixes.items + length l.prefixes.items * (2 * digits (l.end - l.first));
  few : l.comparisons ≤ 2 * l.at;
}

abbrev pub decreases-loop-at : goal.decreases-loop-at
decreases-loop-at l = l.end - l.at
