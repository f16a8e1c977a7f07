use Rattle.std.proofs.Common.{[], ap, arith}
use Rattle.view.specs.declared.Counts.{Counts}
use Rattle.view.specs.Files.{routine_of}
use Rattle.laws.specs.Start.{row_below}
use Rattle.starting.proofs.give.Goals as goal

pub bounds-memory-start_cell : goal.bounds-memory-start_cell
bounds-memory-start_cell c =
    let n = ap (λ (x : Counts). x.values) c.counts.ensures in
    let file = c.args.file.now in
    omega (arith, c.start_cell.ensures, row_below (routine_of file.formed.view) file.marking.now file.formed.typed.formed [] c.loop-i.i (omega arith))
