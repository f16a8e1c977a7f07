use Rattle.std.proofs.Common.{ap, arith}
use Rattle.view.specs.declared.Counts.{Counts}
use Rattle.reader.proofs.Shapes.{table_start, table_next, table_full}
use Rattle.reader.proofs.shape.type_table.Goals as goal

pub loop-e-init : goal.loop-e-init
loop-e-init c = table_start c.args.view.now.read

pub loop-e-preserved : goal.loop-e-preserved
loop-e-preserved c = table_next c.loop-e.invariant (let n = ap (λ (x : Counts). x.exprs) c.counts-e-end.ensures in omega (arith, c.args.view.now.read.exprs.few)) c.row_type.ensures

pub returns : goal.returns
returns c = table_full c.loop-e.invariant (let n = ap (λ (x : Counts). x.exprs) c.counts-e-end.ensures in omega arith)
