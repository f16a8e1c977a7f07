-- At the loop's head the rest of the rows is judged as all of them are.
use Rattle.reader.proofs.Sections.{RowsSoFar}
use Rattle.reader.proofs.front.rows.Given as goal

abbrev pub invariant-loop-i : goal.invariant-loop-i
invariant-loop-i l = RowsSoFar l.file l.part l.place l.n l.i l.at
