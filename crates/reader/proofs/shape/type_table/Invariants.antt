-- Entries below the row are types, and the others as they were.
use Rattle.reader.proofs.Shapes.{TableSoFar}
use Rattle.reader.proofs.shape.type_table.Given as goal

abbrev pub invariant-loop-e : goal.invariant-loop-e
invariant-loop-e l = TableSoFar l.view.bytes.now l.view.at l.initial.types l.e l.types
