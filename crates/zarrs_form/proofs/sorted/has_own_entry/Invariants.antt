use Rattle.std.proofs.Common.{◌≡◌, drop, map, String, Global, string_bytes}
use Rattle.std.specs.List.{list_any}
use Rattle.std.specs.Map.{keys_of}
use Rattle.zarrs_form.specs.Documents.{is_own}
use Rattle.zarrs_form.proofs.sorted.has_own_entry.Given as goal

abbrev pub invariant-loop-entry : goal.invariant-loop-entry
invariant-loop-entry g l =
    let own = λ (k : String Global). is_own (map (λ n. n.now) l.own_names) (string_bytes k) in
    list_any own (keys_of (drop l.entry-index l.entries)) ≡ list_any own (keys_of l.entries)
