-- What the filling of the table goes by, and what it leaves.
use Rattle.std.specs.Prelude.{◌≡◌, ℕ, ◌+◌, ◌≤◌, ◌<◌, List, get_or, length}
use Rattle.rules.specs.declared.Starts.{Starts}
use Rattle.rules.specs.Basic.{half, fine, Bytes}
use Rattle.rules.specs.Table.{Routine, routine}
use Rattle.rules.specs.Shape.{type_of}
use Rattle.rules.specs.declared.Kind.{Kind}
use Rattle.rules.specs.declared.Kind.TheVariants.{int, SAFE, SEQ, DYNAMIC}
use Rattle.rules.specs.Calls.{judged}
use Rattle.words.specs.Words.{start_in, Homes, ExprWord, CommandWord}
use Rattle.laws.specs.Props.{verdict_prop}
use denote.Struct.Props as logic

-- A SAFE home is its address in the table.
abbrev pub home_field_in : List ℕ → Kind → ℕ → ℕ
home_field_in t int g = g
home_field_in t SAFE g = start_in t g
home_field_in t SEQ g = g
home_field_in t DYNAMIC g = g

-- ---- a file and a marking that earn no refusal, and a table of the types of its expression rows

pub record Accepted (s : List ℕ) (at : Starts) (m ty : List ℕ) : Type 0 where
  pub bytes : Bytes s
  pub verdict : judged s m ≡ fine at
  pub types : (e : ℕ) → e < half s at.exprs → get_or ty e 0 ≡ type_of (routine s at) e

pub Accepted_prop : (s : List ℕ) (at : Starts) (m ty : List ℕ) → IsProp (Accepted s at m ty)
Accepted_prop s at m ty = Prim.hlevel (logic.props, verdict_prop)

-- ---- the table, filled step by step; a row that there is not has word 0

pub record HomesDone (r : Routine) (t : List ℕ) : Type 0 where
  pub size : length t ≡ 2304
  pub homes : Homes r.homes t
  pub no_rows : (k : ℕ) → k < 2048 → get_or t k 0 ≡ 0

-- The words of the homes, of the expression rows, and of the first n command rows.
pub record CommandsDone (r : Routine) (m : List ℕ) (n : ℕ) (t : List ℕ) : Type 0 where
  pub size : length t ≡ 2304
  pub homes : Homes r.homes t
  pub exprs : (e : ℕ) → e < r.exprs → ExprWord r m (r.expr e) (get_or t e 0)
  pub no_exprs : (e : ℕ) → r.exprs ≤ e → e < 1024 → get_or t e 0 ≡ 0
  pub commands : (c : ℕ) → c < n → CommandWord r m (r.command c) (get_or t (1024 + c) 0)
  pub no_commands : (c : ℕ) → n ≤ c → c < 1024 → get_or t (1024 + c) 0 ≡ 0
