-- A refusal of the file comes first; a well-formed file and its types are judged.
use Rattle.std.proofs.Common.{rules}
use Rattle.std.proofs.lemmas.Result.{err_from_is_err_and}
use Rattle.checker.proofs.Checking.{refused_first, typed_file, judged_then}
use Rattle.checker.proofs.check_typed.Goals as goal

pub returns-in_err-at : goal.returns-in_err-at
returns-in_err-at c =
    let p = err_from_is_err_and c.from_residual.result c.from_residual.ensures.1 in
    rw (p.1, p.2) (refused_first c.read_typed.ensures c.in_err-at.was c.args.marking.now)

pub new-formed-requires : goal.new-formed-requires
new-formed-requires c = typed_file c.read_typed.ensures c.in_ok-at.was (record { each = λ i. search rules })

pub returns : goal.returns
returns c = judged_then c.read_typed.ensures c.in_ok-at.was (record { each = λ i. search rules }) (let h = c.judge.ensures in search rules)
