-- A turn writes one more kind.
use Rattle.std.proofs.Common.{◌≡◌, length}
use Rattle.checker.specs.Tables.{KindsOf}
use Rattle.checker.proofs.marked.fill_kinds.Given as goal

abbrev pub invariant-loop-i : goal.invariant-loop-i
invariant-loop-i l = (length l.kinds ≡ 256) × KindsOf l.marking l.i l.kinds
