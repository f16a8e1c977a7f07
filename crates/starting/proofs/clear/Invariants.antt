-- Home by home; homes lie one after the other, and so do their cells.
use Rattle.view.specs.Files.{routine_of}
use Rattle.starting.proofs.Cells.{Begun}
use Rattle.starting.proofs.clear.Given as goal

abbrev pub invariant-loop-g : goal.invariant-loop-g
invariant-loop-g l = Begun (routine_of l.file.formed.view) l.file.marking.now l.g l.from l.initial.memory l.memory
