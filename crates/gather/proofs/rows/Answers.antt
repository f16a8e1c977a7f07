use Rattle.std.proofs.Common.{◌≡◌, ℕ, ◌<◌, ap, arith}
use Rattle.view.specs.declared.Counts.{Counts}
use Rattle.view.specs.declared.View.{View}
use Rattle.view.specs.Files.{routine_of}
use Rattle.view.specs.Rows.{counts_of}
use Rattle.gather.specs.Gathering.{expr_fits, command_fits, noting_expr, noting_command}
use Rattle.gather.proofs.rows.Goals as goal

-- A row below the count that was asked for is a row of the routine.
module _ (v : View) {counts : Counts} (h : counts ≡ counts_of v.bytes.now v.at) {n i : ℕ} where
  in_exprs : n ≡ counts.exprs → i < n → i < (routine_of v).exprs
  in_exprs e l = omega (arith, ap (λ x. x.exprs) h)

  in_commands : n ≡ counts.commands → i < n → i < (routine_of v).commands
  in_commands e l = omega (arith, ap (λ x. x.commands) h)

pub note-requires-clause-fits : goal.note-requires-clause-fits
note-requires-clause-fits c =
    expr_fits c.loop-e.invariant c.args.file.now.typed.formed (in_exprs c.args.file.now.view c.counts-counts.ensures c.from-e-end.ensures c.loop-e-test.true) c.expr_need.ensures

pub loop-e-preserved : goal.loop-e-preserved
loop-e-preserved c =
    noting_expr c.loop-e.invariant c.args.file.now.typed.formed c.note.ensures (in_exprs c.args.file.now.view c.counts-counts.ensures c.from-e-end.ensures c.loop-e-test.true)
    c.expr_need.ensures

pub note-requires-in-loop-c-clause-fits : goal.note-requires-in-loop-c-clause-fits
note-requires-in-loop-c-clause-fits c =
    command_fits c.loop-c.invariant c.args.file.now.typed.formed (in_commands c.args.file.now.view c.counts-counts.ensures c.from-c-end.ensures c.loop-c-test.true)
    c.command_need.ensures

pub loop-c-preserved : goal.loop-c-preserved
loop-c-preserved c =
    noting_command c.loop-c.invariant c.args.file.now.typed.formed c.note-in-loop-c.ensures
    (in_commands c.args.file.now.view c.counts-counts.ensures c.from-c-end.ensures c.loop-c-test.true) c.command_need.ensures
