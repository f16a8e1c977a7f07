-- `Raising::flow` meets its contract: t is set to k, which every marking with the edge follows. Where nothing moves the search finds that the edge holds.
use Rattle.std.proofs.Common.{refl}
use Rattle.raise.specs.Moves.{edge_set}
use Rattle.raise.proofs.Raising.flow.Goals as goal

pub returns-then-self-j : goal.returns-then-self-j
returns-then-self-j c =
    record { same = refl; moves = edge_set c.from-i.ensures c.from-j.ensures c.requires.source c.requires.target c.requires.kind c.if-k-self.true c.if-self-j.true }
