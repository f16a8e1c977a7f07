-- The tables of a routine's types under a marking, which comparing types goes by.
use Rattle.std.specs.Prelude.{◌≡◌, ℕ, suc, ◌≤◌, ◌<◌, List, get_or}
use Rattle.rules.specs.declared.Kind.{Kind}
use Rattle.rules.specs.declared.Kind.TheVariants.{int}
use Rattle.rules.specs.Table.{Routine}
use Rattle.rules.specs.Kinds.{kind}
use Rattle.laws.specs.Props.{Kind_set}
use denote.Struct.Props as logic

-- Entries 0 to n of a table of kinds.
pub record KindsOf (m : List ℕ) (n : ℕ) (kinds : List Kind) : Type 0 where
  pub kind_at : (t : ℕ) → t ≤ n → get_or kinds t int ≡ kind m t

-- Entry t of `targets` is the target of type t, from 1 up; entry t of `kinds` is its kind.
pub record TypeTables (r : Routine) (m targets : List ℕ) (kinds : List Kind) : Type 0 where
  pub few : r.types ≤ 255
  pub falls : (t : ℕ) → t < r.types → r.target (suc t) ≤ t
  pub target : (t : ℕ) → 1 ≤ t → t ≤ r.types → get_or targets t 0 ≡ r.target t
  pub kind_at : (t : ℕ) → t ≤ r.types → get_or kinds t int ≡ kind m t

pub TypeTables_prop : (r : Routine) (m targets : List ℕ) (kinds : List Kind) → IsProp (TypeTables r m targets kinds)
TypeTables_prop r m targets kinds = Prim.hlevel (logic.props, Kind_set)
