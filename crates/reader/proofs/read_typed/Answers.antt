-- A refusal from 1 to 5 comes first and leaves the table, or the table is filled, and 10 and 6 decide.
use Rattle.std.proofs.lemmas.Result.{err_from_is_err_and}
use Rattle.reader.proofs.Shapes.{not_read, now_known, read_typed_lem}
use Rattle.reader.proofs.read_typed.Goals as goal

pub returns-in_err-at : goal.returns-in_err-at
returns-in_err-at c =
    let p = err_from_is_err_and c.from_residual.result c.from_residual.ensures.1 in
    rw (p.1, p.2) (not_read c.args.file.now _ c.whole.ensures _ c.in_err-at.was)

pub invariant_of-view : goal.invariant_of-view
invariant_of-view c = record { read = now_known c.args.file.now _ c.whole.ensures c.in_ok-at.was }

pub returns : goal.returns
returns c = read_typed_lem c.args.file.now _ c.whole.ensures c.in_ok-at.was c.type_table.ensures c.judge.ensures
