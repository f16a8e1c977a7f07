-- The values of earlier rows are written over what stood there.
use Rattle.std.proofs.Common.{◌≡◌}
use Rattle.rules.specs.Start.{given}
use Rattle.view.specs.Files.{routine_of}
use Rattle.starting.proofs.give.Given as goal

abbrev pub invariant-loop-i : goal.invariant-loop-i
invariant-loop-i l = l.memory ≡ given (routine_of l.file.formed.view) l.file.marking.now l.i l.initial.memory
