use Rattle.std.proofs.Common.{◌≡◌, ◌*◌, ◌≤◌, length}
use Rattle.std.specs.Io.KnownBytes.{Consumes}
use Rattle.zarrs_load.proofs.read.ReadBuffer.read_whole.Given as goal

abbrev pub invariant-loop-turn : goal.invariant-loop-turn
invariant-loop-turn g l = record {
  taken : Consumes (g.R.Read.remaining l.fn.reader) (g.R.Read.remaining l.reader) l.bytes.items;
  each_gave : l._turn ≤ length l.bytes.items;
  none_gave_more : length l.bytes.items ≤ l._turn * 65536;
  size : length l.self-inside.bytes.items ≡ 65536;
}
