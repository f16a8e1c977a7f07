-- The type of each expression row, and refusal 6 (RULES 3).
use Rattle.std.specs.Prelude.{ℕ, zero, suc, Bool, true, false, ◌&&◌, List, get_or, ltb, eqb}
use Rattle.rules.specs.Basic.{Verdict, first_bad}
use Rattle.rules.specs.Table.{Expr, Command, StartRow, Home, Routine, literal, home, cast, null, sum, read, op, skip, then, store, if_else, while}

-- A number that no home has, has no cells.
abbrev pub no_home : Home
no_home = record { type = 0; start = 0; size = 0 }

abbrev pub home_at : List Home → ℕ → Home
home_at hs g = get_or hs g no_home

-- RULES 3.1: the type of a row, where `ty` tells those of earlier rows. Type 0 is int.
abbrev pub row_type : Routine → (ℕ → ℕ) → Expr → ℕ
row_type r ty (literal n) = 0
row_type r ty (home g) = (home_at r.homes g).type
row_type r ty (cast a t) = t
row_type r ty (null t) = t
row_type r ty (sum a b) = ty a
row_type r ty (read a) = r.target (ty a)
row_type r ty (op o a b) = 0
row_type r ty Expr.none = 0

-- Counted down: right for rows below d.
abbrev pub type_below : Routine → ℕ → ℕ → ℕ
type_below r zero e = 0
type_below r (suc d) e = row_type r (λ a. type_below r d a) (r.expr e)

unfoldable pub type_of : Routine → ℕ → ℕ
type_of r e = type_below r (suc e) e

abbrev pub is_int : ℕ → Bool
is_int t = eqb t 0

abbrev pub is_ref : ℕ → Bool
is_ref t = ltb 0 t

-- RULES 3.2: operands are int or references, as the row needs. Casts have any shape.
abbrev pub expr_shaped : Routine → Expr → Bool
expr_shaped r (literal n) = true
expr_shaped r (home g) = true
expr_shaped r (cast a t) = true
expr_shaped r (null t) = true
expr_shaped r (sum a b) = is_ref (type_of r a) && is_int (type_of r b)
expr_shaped r (read a) = is_ref (type_of r a)
expr_shaped r (op o a b) = is_int (type_of r a) && is_int (type_of r b)
expr_shaped r Expr.none = false

-- A store's value has any shape.
abbrev pub command_shaped : Routine → Command → Bool
command_shaped r skip = true
command_shaped r (then a b) = true
command_shaped r (store a b) = is_ref (type_of r a)
command_shaped r (if_else a b c) = is_int (type_of r a)
command_shaped r (while a b) = is_int (type_of r a)
command_shaped r Command.none = false

-- RULES 3.3: a start value stands in a cell of int type.
abbrev pub value_shaped : Routine → StartRow → Bool
value_shaped r x = is_int (r.target (home_at r.homes x.home).type)

-- Refusal 6, over expressions, then commands, then start values.
unfoldable pub shape : {X : Type 0} → Routine → (Unit {0} → Verdict X) → Verdict X
shape r go =
    first_bad 6 (λ e. expr_shaped r (r.expr e)) r.expr_place 0 r.exprs λ _.
    first_bad 6 (λ c. command_shaped r (r.command c)) r.command_place 0 r.commands λ _.
    first_bad 6 (λ i. value_shaped r (r.value i)) r.value_place 0 r.values go
