-- The rows of a routine, and the routine that a file's bytes stand for (RULES 1).
use Rattle.std.specs.Prelude.{ℕ, zero, suc, ◌+◌, ◌*◌, ◌-◌, List, [], ◌∷◌, get_or, ltb}
use Rattle.rules.specs.declared.Starts.{Starts}
use Rattle.rules.specs.Basic.{byte, half, word, choose}

-- RULES 1.6: + - * / % == < & >>
pub data Operator : Type 0 where
  plus minus times over rest equal less both right : Operator

-- RULES 1.5. `none` is a row that no tag gives.
pub data Expr : Type 0 where
  literal : ℕ → Expr
  home : ℕ → Expr
  cast : ℕ → ℕ → Expr
  null : ℕ → Expr
  sum : ℕ → ℕ → Expr
  read : ℕ → Expr
  op : Operator → ℕ → ℕ → Expr
  none : Expr

-- RULES 1.7. `then a b` is a then b.
pub data Command : Type 0 where
  skip : Command
  then : ℕ → ℕ → Command
  store : ℕ → ℕ → Command
  if_else : ℕ → ℕ → ℕ → Command
  while : ℕ → ℕ → Command
  none : Command

-- The operators by tag, from 16 on.
abbrev pub operator_of : ℕ → Operator
operator_of k = get_or (plus ∷ minus ∷ times ∷ over ∷ rest ∷ equal ∷ less ∷ both ∷ []) k right

-- Tags 0 to 6 but 2, then 16 to 24.
abbrev pub expr_of : ℕ → ℕ → ℕ → Expr
expr_of tag a b =
    choose (ltb tag 16)
    (λ _. get_or (literal (a + 65536 * b) ∷ home a ∷ Expr.none ∷ cast a b ∷ null a ∷ sum a b ∷ read a ∷ []) tag Expr.none)
    (λ _. choose (ltb tag 25) (λ _. op (operator_of (tag - 16)) a b) (λ _. Expr.none))

-- Tags 0 to 4.
abbrev pub command_of : ℕ → ℕ → ℕ → ℕ → Command
command_of tag a b c = get_or (skip ∷ then a b ∷ store a b ∷ if_else a b c ∷ while a b ∷ []) tag Command.none

-- The row at place q.
abbrev pub expr_at : List ℕ → ℕ → Expr
expr_at s q = expr_of (byte s q) (half s (q + 1)) (half s (q + 3))

abbrev pub command_at : List ℕ → ℕ → Command
command_at s q = command_of (byte s q) (half s (q + 1)) (half s (q + 3)) (half s (q + 5))

-- RULES 1.10: a cell of a home, from 0, and the number that it starts as.
pub record StartRow : Type 0 where
  pub home : ℕ
  pub cell : ℕ
  pub value : ℕ

abbrev pub start_row_at : List ℕ → ℕ → StartRow
start_row_at s q = record { home = half s q; cell = half s (q + 2); value = word s (q + 4) }

-- RULES 1.4, 5.2
pub record Home : Type 0 where
  pub type : ℕ
  pub start : ℕ
  pub size : ℕ

-- What the later stages ask of a file. `target t` is the type of the cell that a pointer of type t, from 1 up, reaches.
pub record Routine : Type 0 where
  pub types : ℕ
  pub target : ℕ → ℕ
  pub type_place : ℕ → ℕ
  pub homes : List Home
  pub exprs : ℕ
  pub expr : ℕ → Expr
  pub expr_place : ℕ → ℕ
  pub commands : ℕ
  pub command : ℕ → Command
  pub command_place : ℕ → ℕ
  pub values : ℕ
  pub value : ℕ → StartRow
  pub value_place : ℕ → ℕ

-- n homes whose rows begin at place q, one after the other from address `from` on.
abbrev pub layout : List ℕ → ℕ → ℕ → ℕ → List Home
layout s q from zero = []
layout s q from (suc n) =
    record { type = half s q; start = from; size = half s (q + 2) } ∷ layout s (q + 4) (from + half s (q + 2)) n

-- The cells of these homes.
abbrev pub total : List Home → ℕ
total [] = 0
total (h ∷ hs) = h.size + total hs

-- Home 0 is null: start 0, size 1.
abbrev pub null_home : Home
null_home = record { type = 0; start = 0; size = 1 }

-- Where row i stands among rows of n bytes that begin at q.
abbrev pub row_place : ℕ → ℕ → ℕ → ℕ
row_place q n i = q + n * i

-- The places of a file's rows by number (RULES 1.2). Types and homes are numbered from 1; as a type row has the bytes of a count, type 0 has the
-- count's place.
abbrev pub type_place : Starts → ℕ → ℕ
type_place at t = row_place at.types 2 t

abbrev pub home_place : Starts → ℕ → ℕ
home_place at g = row_place (at.homes + 2) 4 (g - 1)

abbrev pub expr_place : Starts → ℕ → ℕ
expr_place at e = row_place (at.exprs + 2) 5 e

abbrev pub command_place : Starts → ℕ → ℕ
command_place at c = row_place (at.commands + 2) 7 c

abbrev pub value_place : Starts → ℕ → ℕ
value_place at i = row_place (at.values + 2) 8 i

-- The routine of a file's bytes whose sections start at `at`. Past its end a file has bytes 0, so one that stops after the commands has no start
-- rows.
abbrev pub routine : List ℕ → Starts → Routine
routine s at =
    record {
      types = half s at.types;
      target = λ t. half s (type_place at t);
      type_place = λ t. type_place at t;
      homes = null_home ∷ layout s (at.homes + 2) 1 (half s at.homes);
      exprs = half s at.exprs;
      expr = λ e. expr_at s (expr_place at e);
      expr_place = λ e. expr_place at e;
      commands = half s at.commands;
      command = λ c. command_at s (command_place at c);
      command_place = λ c. command_place at c;
      values = half s at.values;
      value = λ i. start_row_at s (value_place at i);
      value_place = λ i. value_place at i;
    }
