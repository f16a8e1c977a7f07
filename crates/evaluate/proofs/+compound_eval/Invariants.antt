-- A row is evaluated from its word as the rules say: by falling row, an operand being an earlier row.
use Rattle.std.proofs.Common.{◌+◌, ◌*◌}
use Rattle.evaluate.proofs.+compound_eval.Given as goal

abbrev pub decreases-compound : goal.decreases-compound
decreases-compound l = 2 * l.row

abbrev pub decreases-eval : goal.decreases-eval
decreases-eval l = 2 * l.row + 1
