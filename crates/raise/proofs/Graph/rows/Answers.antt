use Rattle.std.proofs.Common.{rules}
use Rattle.raise.specs.Moves.{rows_more}
use Rattle.raise.proofs.Graph.rows.Goals as goal

pub loop-i-preserved : goal.loop-i-preserved
loop-i-preserved c = search (rules, rows_more)
