-- What later stages go by once a file is read.
use Rattle.std.specs.Prelude.{◌≡◌, ℕ, ◌<◌, List, get_or}
use Rattle.rules.specs.declared.Starts.{Starts}
use Rattle.rules.specs.Basic.{half}
use Rattle.rules.specs.Table.{routine}
use Rattle.rules.specs.Shape.{type_of}
use Rattle.laws.specs.Formed.{Formed}
use Rattle.laws.specs.WellRead.{WellRead}
use Rattle.laws.specs.Props.{WellRead_prop, Formed_prop}
use denote.Struct.Props as logic

-- A well-formed file, and the table of its expressions' types.
pub record Typed (s : List ℕ) (at : Starts) (ty : List ℕ) : Type 0 where
  pub file : WellRead s at
  pub formed : Formed (routine s at)
  pub types : (e : ℕ) → e < half s at.exprs → get_or ty e 0 ≡ type_of (routine s at) e

pub Typed_prop : (s : List ℕ) (at : Starts) (ty : List ℕ) → IsProp (Typed s at ty)
Typed_prop s at ty = Prim.hlevel (logic.props, WellRead_prop, Formed_prop)
