-- The forms of expression and command rows: the rules' row for each, and that what a row names is in range.
use Rattle.std.specs.Prelude.{ℕ, ◌≤◌, ◌<◌}
use Rattle.rules.specs.Table as table
use Rattle.rules.specs.Table.{operator_of}
use Rattle.view.specs.declared.Expr.{Expr}
use Rattle.view.specs.declared.Expr.TheVariants.{Literal, Home, Cast, Null, Sum, Read, Op}
use Rattle.view.specs.declared.Command.{Command}
use Rattle.view.specs.declared.Command.TheVariants.{Skip, Then, Store, If, While}

abbrev pub expr_says : Expr → table.Expr
expr_says (Literal n) = table.literal n
expr_says (Home g) = table.home g
expr_says (Cast a t) = table.cast a t
expr_says (Null t) = table.null t
expr_says (Sum a b) = table.sum a b
expr_says (Read a) = table.read a
expr_says (Op k a b) = table.op (operator_of k) a b

abbrev pub command_says : Command → table.Command
command_says Skip = table.skip
command_says (Then a b) = table.then a b
command_says (Store a b) = table.store a b
command_says (If a b c) = table.if_else a b c
command_says (While a b) = table.while a b

-- Expression row i of a file with T types and H homes names earlier rows, homes and types that there are, and one of the nine operators.
abbrev pub ExprNames : ℕ → ℕ → ℕ → Expr → Type 0
ExprNames T H i (Literal n) = Unit {0}
ExprNames T H i (Home g) = (1 ≤ g) × (g ≤ H)
ExprNames T H i (Cast a t) = (a < i) × (t ≤ T)
ExprNames T H i (Null t) = (1 ≤ t) × (t ≤ T)
ExprNames T H i (Sum a b) = (a < i) × (b < i)
ExprNames T H i (Read a) = a < i
ExprNames T H i (Op k a b) = (k < 9) × (a < i) × (b < i)

-- Command row i of a file with E expressions names earlier commands, and expressions that there are.
abbrev pub CommandNames : ℕ → ℕ → Command → Type 0
CommandNames E i Skip = Unit {0}
CommandNames E i (Then a b) = (a < i) × (b < i)
CommandNames E i (Store a b) = (a < E) × (b < E)
CommandNames E i (If a b c) = (a < E) × (b < i) × (c < i)
CommandNames E i (While a b) = (a < E) × (b < i)
