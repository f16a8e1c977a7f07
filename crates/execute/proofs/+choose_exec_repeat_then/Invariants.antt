-- A command row is carried out from its word as the rules say: by falling row, and a while by its turns, whose fuel falls.
use Rattle.std.proofs.Common.{◌≡◌, ◌+◌, ◌*◌, length}
use Rattle.execute.specs.Commands.{Commanded}
use Rattle.execute.proofs.Loop.{Turned}
use Rattle.execute.proofs.+choose_exec_repeat_then.Given as goal

abbrev pub decreases-choose : goal.decreases-choose
decreases-choose l = 2 * l.row

abbrev pub decreases-exec : goal.decreases-exec
decreases-exec l = 2 * l.row + 1

abbrev pub decreases-repeat : goal.decreases-repeat
decreases-repeat l = 2 * l.row

abbrev pub decreases-then : goal.decreases-then
decreases-then l = 2 * l.row

-- An answer that is right from this turn on is right from the start.
abbrev pub invariant-repeat-loop-turn : goal.invariant-repeat-loop-turn
invariant-repeat-loop-turn l = (length l.memory ≡ length l.initial.memory) × ((g : Commanded l.t l.initial.memory l.row) → Turned g l.fuel l.memory l.left)

abbrev pub decreases-repeat-loop-turn : goal.decreases-repeat-loop-turn
decreases-repeat-loop-turn l = l.left
