use Rattle.std.proofs.Common.{◌≡◌, ap, ◌-◌, arith}
use Rattle.view.specs.declared.Counts.{Counts}
use Rattle.view.specs.declared.TypeRow.{TypeRow}
use Rattle.targets.proofs.Laws.{row_small, filled_more}
use Rattle.targets.proofs.fill.Goals as goal

pub overflow_cast-table : goal.overflow_cast-table
overflow_cast-table c =
    let n = ap (λ (x : Counts). x.types) c.counts-n.ensures in
    omega (arith, row_small c.args.view.now.read c.loop-t.t (omega arith) (omega arith) c.type_row.ensures)

pub loop-t-preserved : goal.loop-t-preserved
loop-t-preserved c k e =
    let n = ap (λ (x : Counts). x.types) c.counts-n.ensures in
    let now = c.loop-t.invariant (c.loop-t.t - 1) (omega arith) in
    let k_is : k ≡ c.loop-t.t = omega arith in
    rw k_is (filled_more (omega (arith, c.args.view.now.read.types.few)) (omega arith) now (ap (λ (x : TypeRow). x.target) c.type_row.ensures))

pub returns : goal.returns
returns c = c.loop-t.invariant _ (let n = ap (λ (x : Counts). x.types) c.counts-n.ensures in omega arith)
