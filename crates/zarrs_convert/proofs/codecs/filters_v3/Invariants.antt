use Rattle.std.proofs.Common.{◌≡◌, drop}
use Rattle.zarrs_convert.specs.Codecs.{filters_v3}
use Rattle.zarrs_convert.proofs.Filters.{after}
use Rattle.zarrs_convert.proofs.codecs.filters_v3.Given as goal

abbrev pub invariant-loop-filter : goal.invariant-loop-filter
invariant-loop-filter l = after l.codecs.items (filters_v3 (drop l.filter-index l.filters)) ≡ filters_v3 l.filters
