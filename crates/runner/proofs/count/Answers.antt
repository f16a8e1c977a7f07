use Rattle.std.proofs.Common.{◌≡◌, ap, ◌+◌, ◌-◌, rules, arith}
use Rattle.view.specs.declared.Counts.{Counts}
use Rattle.runner.proofs.Calls.{counted_all, counted_next}
use Rattle.runner.proofs.count.Goals as goal

pub overflow_add-cells : goal.overflow_add-cells
overflow_add-cells c =
    let n = ap (λ (x : Counts). x.homes) c.counts-n.ensures in
    omega (arith, (c.loop-g.invariant (c.loop-g.g - 1) (omega arith)).low, c.args.view.now.read.homes.few)

pub loop-g-preserved : goal.loop-g-preserved
loop-g-preserved c k e =
    let n = ap (λ (x : Counts). x.homes) c.counts-n.ensures in
    let k_is : k ≡ c.loop-g.g - 1 + 1 = omega arith in
    let g_is : c.loop-g.g ≡ c.loop-g.g - 1 + 1 = omega arith in
    rw k_is (counted_next _ _ (c.loop-g.g - 1) c.loop-g.cells c.home_row.result (omega arith) (rw (← g_is) c.home_row.ensures) (search rules) (c.loop-g.invariant (c.loop-g.g - 1) (omega arith)))

pub returns : goal.returns
returns c =
    let n = ap (λ (x : Counts). x.homes) c.counts-n.ensures in
    counted_all _ _ _ _ (omega arith) (c.loop-g.invariant (c.loop-g.g - 1) (omega arith))
