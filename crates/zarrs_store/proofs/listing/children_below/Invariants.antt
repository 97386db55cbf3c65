use Rattle.std.proofs.Common.{◌≡◌, ◌≤◌, ◌-◌, ◌++◌, length, drop}
use Rattle.std.specs.Map.{keys_of}
use Rattle.zarrs_store.specs.StepsOfStores.{child_prefixes}
use Rattle.zarrs_store.proofs.listing.children_below.Given as goal

abbrev pub invariant-loop-at : goal.invariant-loop-at
invariant-loop-at l = record {
  behind_first : l.first ≤ l.at;
  inside : l.at ≤ length l.entries;
  prefixes : l.prefixes.items ++ child_prefixes l.prefix (keys_of (drop l.at l.entries)) ≡ child_prefixes l.prefix (keys_of l.entries);
}

abbrev pub decreases-loop-at : goal.decreases-loop-at
decreases-loop-at l = l.end - l.at
