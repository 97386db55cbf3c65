use Rattle.std.proofs.Common.{◌≡◌, drop, map}
use Rattle.zarrs_convert.specs.Tables.{look_up}
use Rattle.zarrs_convert.proofs.Lookups.{seen}
use Rattle.zarrs_convert.proofs.data_type.look_up.Given as goal

abbrev pub invariant-loop-texts : goal.invariant-loop-texts
invariant-loop-texts l = look_up (map seen (drop l.texts-index l.lines)) l.text ≡ look_up (map seen l.lines) l.text
