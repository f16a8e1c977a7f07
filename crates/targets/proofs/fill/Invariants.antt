-- A turn writes one more target.
use Rattle.std.proofs.Common.{◌≡◌, ℕ, ◌+◌}
use Rattle.view.specs.Files.{routine_of}
use Rattle.targets.specs.Filled.{TargetTable}
use Rattle.targets.proofs.fill.Given as goal

abbrev pub invariant-loop-t : goal.invariant-loop-t
invariant-loop-t l = (k : ℕ) → k + 1 ≡ l.t → TargetTable (routine_of l.view) k l.initial.table l.table
