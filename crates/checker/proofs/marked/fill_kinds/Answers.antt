use Rattle.std.proofs.Common.{arith, length-set, ◌∙◌}
use Rattle.checker.proofs.Judging.{kinds_more}
use Rattle.checker.proofs.marked.fill_kinds.Goals as goal

pub loop-i-preserved : goal.loop-i-preserved
loop-i-preserved c = (length-set _ _ _ ∙ c.loop-i.invariant.0, kinds_more (omega arith) c.loop-i.invariant.1 c.from.ensures)
