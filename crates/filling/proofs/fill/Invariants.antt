-- Row by row.
use Rattle.view.specs.Files.{routine_of}
use Rattle.filling.specs.Filling.{CommandsDone}
use Rattle.filling.proofs.Table.{ExprsDone}
use Rattle.filling.proofs.fill.Given as goal

abbrev pub invariant-loop-e : goal.invariant-loop-e
invariant-loop-e l = ExprsDone (routine_of l.file.formed.view) l.file.marking.now l.e l.table

abbrev pub invariant-loop-c : goal.invariant-loop-c
invariant-loop-c l = CommandsDone (routine_of l.file.formed.view) l.file.marking.now l.c l.table
