-- What the table of types holds, and refusals 10 and 6.
use Rattle.std.specs.Prelude.{◌≡◌, ℕ, ◌≤◌, ◌<◌, List, length, get_or, Result}
use Rattle.rules.specs.declared.Starts.{Starts}
use Rattle.rules.specs.declared.Refusal.{Refusal}
use Rattle.rules.specs.Basic.{Verdict, fine, refused}
use Rattle.rules.specs.Table.{Routine, routine}
use Rattle.rules.specs.Reading.{reading, rising}
use Rattle.rules.specs.Shape.{type_of, shape}
use Rattle.rules.specs.Calls.{says, formed}
use Rattle.laws.specs.WellRead.{WellRead}
use Rattle.laws.specs.Props.{WellRead_prop}
use denote.Struct.Props as logic

-- Refusals 10 and 6, which come after 1 to 5.
unfoldable pub formed_behind : List ℕ → Starts → Verdict Starts
formed_behind s at = rising (routine s at) λ _. shape (routine s at) λ _. fine at

-- ---- the table

-- A file that was read, and a table that has the types of its first n rows.
pub record TypedTo (s : List ℕ) (at : Starts) (n : ℕ) (ty : List ℕ) : Type 0 where
  pub file : WellRead s at
  pub types : (e : ℕ) → e < n → get_or ty e 0 ≡ type_of (routine s at) e

pub TypedTo_prop : (s : List ℕ) (at : Starts) (n : ℕ) (ty : List ℕ) → IsProp (TypedTo s at n ty)
TypedTo_prop s at n ty = Prim.hlevel (logic.props, WellRead_prop)

-- A table after its filling: the types of all expression rows, and then what it had before.
pub record TypeTable (r : Routine) (before after : List ℕ) : Type 0 where
  pub long : length after ≡ length before
  pub types : (e : ℕ) → e < r.exprs → get_or after e 0 ≡ type_of r e
  pub stays : (e : ℕ) → r.exprs ≤ e → get_or after e 0 ≡ get_or before e 0

-- What reading with a table answers and leaves: it is filled exactly where no refusal from 1 to 5 comes first.
pub record ReadTyped (s before after : List ℕ) (r : Result Starts Refusal) : Type 0 where
  pub answer : says r ≡ formed s
  pub filled : (at : Starts) → reading s ≡ fine at → TypeTable (routine s at) before after
  pub left : (n p : ℕ) → reading s ≡ refused n p → after ≡ before
