-- At the loop's head the rest of the homes is summed as all of them are.
use Rattle.std.proofs.Common.{◌≡◌, ◌-◌, ◌+◌, ◌*◌, ◌≤◌}
use Rattle.rules.specs.Basic.{fine}
use Rattle.rules.specs.Reading.{cells}
use Rattle.reader.specs.Steps.{from_cells}
use Rattle.reader.proofs.front.cells.Given as goal

abbrev pub invariant-loop-g : goal.invariant-loop-g
invariant-loop-g l = record {
  rest : from_cells l.file l.at ≡ cells l.file (l.at.homes + 2 + 4 * (l.g - 1)) l.total (l.n + 1 - l.g) (λ _. fine l.at);
  few : l.total ≤ 4096;
}
