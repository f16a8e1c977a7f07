-- `Graph::rows` meets its contract. The loop's invariant: the rows of the i types from the top have passed.
use Rattle.raise.specs.Demands.{Rows}
use Rattle.raise.specs.Moves.{Above}
use Rattle.raise.specs.Raising.{Steps}
use Rattle.raise.proofs.Graph.rows.Given as goal

abbrev pub invariant-loop-i : goal.invariant-loop-i
invariant-loop-i l =
    Steps (Rows l.self.types l.self.targets.now l.self.links.now) (Above l.self.types l.self.targets.now l.self.links.now l.i) l.initial.r l.r
