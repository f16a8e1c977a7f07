-- Homes first, since SAFE homes are literals; then expressions, then commands.
use Rattle.std.proofs.Common.{ap, arith}
use Rattle.view.specs.declared.Counts.{Counts}
use Rattle.filling.proofs.Table.{exprs_more, commands_more}
use Rattle.filling.proofs.fill.Goals as goal

pub loop-e-preserved : goal.loop-e-preserved
loop-e-preserved c =
    let n = ap (λ (x : Counts). x.exprs) c.counts-n.ensures in
    exprs_more _ (omega (arith, c.args.file.now.formed.view.read.exprs.few)) c.loop-e.invariant c.expr_word.ensures

pub loop-c-preserved : goal.loop-c-preserved
loop-c-preserved c =
    let n = ap (λ (x : Counts). x.commands) c.counts-n.ensures in
    let read = c.args.file.now.formed.view.read in
    commands_more _ read.exprs.few (omega (arith, read.commands.few)) c.loop-c.invariant c.command_word.ensures
