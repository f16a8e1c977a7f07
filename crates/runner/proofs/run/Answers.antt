-- What the checker refuses is refused; what it accepts is run.
use Rattle.std.proofs.Common.{rules}
use Rattle.std.proofs.lemmas.Result.{err_from_is_err_and}
use Rattle.runner.proofs.Calls.{run_refused, accept}
use Rattle.runner.proofs.run.Goals as goal

pub returns-in_err-at : goal.returns-in_err-at
returns-in_err-at c =
    let p = err_from_is_err_and c.from_residual.result c.from_residual.ensures.1 in
    rw (p.1, p.2) (run_refused c.args.file.now c.args.marking.now _ _ _ _ c.check_typed.ensures.answer c.in_err-at.was)

pub new-accepted-requires : goal.new-accepted-requires
new-accepted-requires c = accept c.args.file.now c.args.marking.now _ _ (λ i. search rules) c.check_typed.ensures c.in_ok-at.was
