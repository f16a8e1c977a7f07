-- By the row's tag; the last arm has the tags of the operators.
use Rattle.std.proofs.Common.{ltb-true, arith}
use Rattle.rules.specs.Tests.{both_less, in_range_lem}
use Rattle.view.proofs.Forms.{expr_good_tag, cast_names, operator_tag, operator_says, operator_names}
use Rattle.view.proofs.View.expr.Goals as goal

pub overflow_sub-result : goal.overflow_sub-result
overflow_sub-result c = (operator_tag c.args.self.now.read c.requires c.expr_row-row.ensures (λ l. omega arith)).0

pub returns-in-1-clause-names : goal.returns-in-1-clause-names
returns-in-1-clause-names c = in_range_lem 1 _ _ (expr_good_tag c.args.self.now.read c.requires c.expr_row-row.ensures 1 c.in-1.is)

pub returns-in-3-clause-names : goal.returns-in-3-clause-names
returns-in-3-clause-names c = cast_names _ _ _ _ (expr_good_tag c.args.self.now.read c.requires c.expr_row-row.ensures 3 c.in-3.is)

pub returns-in-4-clause-names : goal.returns-in-4-clause-names
returns-in-4-clause-names c = in_range_lem 1 _ _ (expr_good_tag c.args.self.now.read c.requires c.expr_row-row.ensures 4 c.in-4.is)

pub returns-in-5-clause-names : goal.returns-in-5-clause-names
returns-in-5-clause-names c = both_less _ _ _ _ (expr_good_tag c.args.self.now.read c.requires c.expr_row-row.ensures 5 c.in-5.is)

pub returns-in-6-clause-names : goal.returns-in-6-clause-names
returns-in-6-clause-names c = ltb-true _ _ (expr_good_tag c.args.self.now.read c.requires c.expr_row-row.ensures 6 c.in-6.is)

pub returns-in_default-clause-says : goal.returns-in_default-clause-says
returns-in_default-clause-says c =
    operator_says c.args.self.now.read c.requires c.expr_row-row.ensures (operator_tag c.args.self.now.read c.requires c.expr_row-row.ensures (λ l. omega arith))

pub returns-in_default-clause-names : goal.returns-in_default-clause-names
returns-in_default-clause-names c =
    operator_names c.args.self.now.read c.requires c.expr_row-row.ensures (operator_tag c.args.self.now.read c.requires c.expr_row-row.ensures (λ l. omega arith))
