-- The rows of a file's sections as the view answers them.
use Rattle.std.specs.Prelude.{ℕ, ◌+◌, List}
use Rattle.rules.specs.declared.Starts.{Starts}
use Rattle.rules.specs.Basic.{byte, half, word}
use Rattle.rules.specs.Table.{type_place, home_place, expr_place, command_place, value_place}
use Rattle.view.specs.declared.TypeRow.{TypeRow}
use Rattle.view.specs.declared.HomeRow.{HomeRow}
use Rattle.view.specs.declared.ExprRow.{ExprRow}
use Rattle.view.specs.declared.CommandRow.{CommandRow}
use Rattle.view.specs.declared.StartRow.{StartRow}
use Rattle.view.specs.declared.Counts.{Counts}

-- A row's fields at its place.
abbrev pub type_row_at : List ℕ → ℕ → TypeRow
type_row_at s q = record { target = half s q }

abbrev pub home_row_at : List ℕ → ℕ → HomeRow
home_row_at s q = record { ty = half s q; size = half s (q + 2) }

abbrev pub expr_row_at : List ℕ → ℕ → ExprRow
expr_row_at s q = record { tag = byte s q; a = half s (q + 1); b = half s (q + 3) }

abbrev pub command_row_at : List ℕ → ℕ → CommandRow
command_row_at s q = record { tag = byte s q; a = half s (q + 1); b = half s (q + 3); c = half s (q + 5) }

abbrev pub start_row_at : List ℕ → ℕ → StartRow
start_row_at s q = record { home = half s q; cell = half s (q + 2); value = word s (q + 4) }

-- A row by its number.
abbrev pub type_row : List ℕ → Starts → ℕ → TypeRow
type_row s at t = type_row_at s (type_place at t)

abbrev pub home_row : List ℕ → Starts → ℕ → HomeRow
home_row s at g = home_row_at s (home_place at g)

abbrev pub expr_row : List ℕ → Starts → ℕ → ExprRow
expr_row s at e = expr_row_at s (expr_place at e)

abbrev pub command_row : List ℕ → Starts → ℕ → CommandRow
command_row s at c = command_row_at s (command_place at c)

abbrev pub start_row : List ℕ → Starts → ℕ → StartRow
start_row s at i = start_row_at s (value_place at i)

abbrev pub counts_of : List ℕ → Starts → Counts
counts_of s at =
    record {
      types = half s at.types;
      homes = half s at.homes;
      exprs = half s at.exprs;
      commands = half s at.commands;
      values = half s at.values;
    }
