-- `links::step` meets its contract, a law for each way out: both targets int, one of them int, both references.
use Rattle.std.proofs.Common.{◌≤◌, inl, inr, arith}
use Rattle.raise.specs.Marks.{at}
use Rattle.links.specs.Linking.{step_both, step_none, step_one}
use Rattle.links.proofs.step.Goals.{in-0+in_default-1, in_default+in-0-1}
use Rattle.links.proofs.step.Goals as goal

pub returns-in-0-eq0 : goal.returns-in-0-eq0
returns-in-0-eq0 c = step_none _ _ _ _ _ c.requires.falls c.requires.first.low c.requires.second.low (cc) (cc)

pub returns-in_default : goal.returns-in_default
returns-in_default c =
    let a : 1 ≤ at c.args.targets.now c.from.result = omega arith in
    let b : 1 ≤ at c.args.targets.now c.from-2.result = omega arith in
    rw (c.from.ensures, c.from-2.ensures)
    (step_both _ _ _ _ _ c.requires.falls c.requires.first.low c.requires.second.low (rw c.from.ensures at a) (rw c.from-2.ensures at b))

pub returns-in-0-default : goal.returns-in-0-default
returns-in-0-default c = step_one _ _ _ _ _ c.requires.falls c.requires.first.low c.requires.second.low c.at_least.ensures c.at_least-in-0-default.ensures
    (elim c.in-0-default-1.branch [
      | in-0+in_default-1 w ↦ let b : 1 ≤ at c.args.targets.now c.from-2.result = omega arith in inl (cc, rw c.from-2.ensures at b)
      | in_default+in-0-1 w ↦ let a : 1 ≤ at c.args.targets.now c.from.result = omega arith in inr (rw c.from.ensures at a, cc)
    ])
