-- The cases of RULES 7 as one table, under one theorem: `cases_hold`. It guards every edit of a rule.
pub mod Scope
pub mod Reading
pub mod Kinds
pub mod Values
pub mod Running
use Rattle.std.specs.Prelude.{List, [], ◌∷◌, ◌++◌, map}
use Rattle.rules.proofs.Cases.Scope.{scope}
use Rattle.rules.proofs.Cases.Reading.{start_rows, counts, sizes, expr_rows, command_rows, shapes}
use Rattle.rules.proofs.Cases.Kinds.{lengths, conversions, targets, others, firsts, lending, least}
use Rattle.rules.proofs.Cases.Values.{operators, converted, accesses, stuck_forms}
use Rattle.rules.proofs.Cases.Running.{stores, fresh, flow, stuck_runs, in_order, answers}
use Rattle.rules.specs.Cases.{Each, none, more}
use Rattle.rules.specs.Cases.Rows.{Case, Holds, Row}

abbrev pub table : List Row
table =
    scope
    ++ start_rows ++ counts ++ sizes ++ expr_rows ++ command_rows ++ shapes
    ++ lengths ++ conversions ++ targets ++ others ++ firsts ++ lending ++ least
    ++ operators ++ converted ++ accesses ++ stuck_forms
    ++ stores ++ fresh ++ flow ++ stuck_runs ++ in_order ++ answers

abbrev pub cases : List Case
cases = map (λ (x : Row). x.case) table

each_row : (l : List Row) → Each Holds (map (λ (x : Row). x.case) l)
each_row [] = none
each_row (x ∷ l) = more x.holds (each_row l)

pub cases_hold : Each Holds cases
cases_hold = each_row table
