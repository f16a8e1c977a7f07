use Rattle.std.proofs.Common.{rules}
use Rattle.raise.specs.Moves.{outer_at, outers_more}
use Rattle.raise.proofs.Graph.outers.Goals as goal

pub loop-c-preserved : goal.loop-c-preserved
loop-c-preserved c = search (rules, outer_at, outers_more)
