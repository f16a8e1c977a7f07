-- Home by home.
use Rattle.std.proofs.Common.{◌≡◌, ℕ, ◌+◌}
use Rattle.runner.proofs.Calls.{Counted}
use Rattle.runner.proofs.count.Given as goal

abbrev pub invariant-loop-g : goal.invariant-loop-g
invariant-loop-g l = (k : ℕ) → k + 1 ≡ l.g → Counted l.view.bytes.now l.view.at k l.cells
