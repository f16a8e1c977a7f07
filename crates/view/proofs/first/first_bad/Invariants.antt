-- The rows so far passed.
use Rattle.std.proofs.Common.{ℕ, ◌<◌, true}
use Rattle.view.proofs.first.first_bad.Given as goal

abbrev pub invariant-loop-i : goal.invariant-loop-i
invariant-loop-i g l = (j : ℕ) → j < l.i → goal.F-post g l.good j true
