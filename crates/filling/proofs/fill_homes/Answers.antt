use Rattle.std.proofs.Common.{ap, arith}
use Rattle.view.specs.declared.Counts.{Counts}
use Rattle.filling.proofs.Table.{homes_more, homes_all}
use Rattle.filling.proofs.fill_homes.Goals as goal

pub loop-g-preserved : goal.loop-g-preserved
loop-g-preserved c =
    let n = ap (λ (x : Counts). x.homes) c.counts.ensures in
    homes_more c.args.view.now.read (omega arith) (omega arith) c.loop-g.invariant c.home_row.ensures c.from-size.ensures c.of_halves-in-loop-g.ensures

pub returns : goal.returns
returns c =
    let n = ap (λ (x : Counts). x.homes) c.counts.ensures in
    homes_all c.args.view.now.read (omega arith) c.loop-g.invariant
