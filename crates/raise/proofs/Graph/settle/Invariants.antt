-- `Graph::settle` meets its contract. The loop's invariant: what rose so far, every marking that meets the demands follows.
-- Its measure is how far kinds can still rise, which a pass that moved anything lowers; after one that moved nothing all demands are met.
use Rattle.raise.specs.Moves.{room, Raises}
use Rattle.raise.proofs.Graph.settle.Given as goal

abbrev pub invariant-loop : goal.invariant-loop
invariant-loop l = Raises l.self.types l.self.targets.now l.self.links.now l.self.conversions.now l.initial.m l.m

abbrev pub decreases-loop : goal.decreases-loop
decreases-loop l = room l.m
