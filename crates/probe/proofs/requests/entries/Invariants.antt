-- The entries up to the index are what was read.
use Rattle.std.proofs.Common.{take}
use Rattle.std.specs.List.{flat_map}
use Rattle.std.specs.Int.{w64, to_le_bytes}
use Rattle.probe.specs.Input.{Gives}
use Rattle.probe.proofs.requests.entries.Given as goal

abbrev pub invariant-loop-entry : goal.invariant-loop-entry
invariant-loop-entry g l = Gives g.R.Read.remaining l.initial.input l.input (flat_map (to_le_bytes w64) (take l.entry-index l.entries))
