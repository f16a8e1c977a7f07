-- Homes are laid one after the other, so the next one starts where the last one ends.
use Rattle.filling.proofs.Table.{HomesTo}
use Rattle.filling.proofs.fill_homes.Given as goal

abbrev pub invariant-loop-g : goal.invariant-loop-g
invariant-loop-g l = HomesTo l.view.bytes.now l.view.at l.g l.from l.table
