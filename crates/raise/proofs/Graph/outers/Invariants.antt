-- `Graph::outers` meets its contract. The loop's invariant: the conversions so far have passed.
use Rattle.std.proofs.Common.{take}
use Rattle.raise.specs.Demands.{Outers}
use Rattle.raise.specs.Raising.{Steps}
use Rattle.raise.proofs.Graph.outers.Given as goal

abbrev pub invariant-loop-c : goal.invariant-loop-c
invariant-loop-c l =
    Steps (Outers l.self.conversions.now) (Outers (take l.c-index l.self.conversions.now)) l.initial.r l.r
