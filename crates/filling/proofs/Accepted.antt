-- What an accepted file gives.
use Rattle.std.proofs.Common.{◌≡◌, ℕ, zero, suc, ◌+◌, ◌*◌, ◌≤◌, List, length, arith}
use Rattle.rules.specs.declared.Starts.{Starts}
use Rattle.rules.specs.Basic.{half}
use Rattle.rules.specs.Table.{routine}
use Rattle.rules.specs.Kinds.{Acceptable}
use Rattle.laws.specs.Formed.{Formed}
use Rattle.laws.specs.Read.{judged_fine}
use Rattle.laws.proofs.WellRead.{formed_known, formed_fine}
use Rattle.needs.specs.Typed.{Typed}
use Rattle.filling.specs.Filling.{Accepted}

pub typed : {s m ty : List ℕ} {at : Starts} → Accepted s at m ty → Typed s at ty
typed {s} {m} {at = at} y =
    let formed = (judged_fine s m y.verdict).0 in record { file = formed_known s at formed; formed = formed_fine y.bytes formed; types = y.types }

pub fit : {s m ty : List ℕ} {at : Starts} → Accepted s at m ty → Acceptable (routine s at) m
fit {s} {m} y = (judged_fine s m y.verdict).1

-- A type of the file has a byte in the marking.
pub in_marking : {s m ty : List ℕ} {at : Starts} {t : ℕ} → Accepted s at m ty → t ≤ half s at.types → t ≤ length m
in_marking y l = omega (arith, (fit y).size)

-- A target is a type of the file. In the place of type row 0 stands the number of types.
pub target_in : (s : List ℕ) (at : Starts) (t : ℕ) → Formed (routine s at) → t ≤ half s at.types → (routine s at).target t ≤ half s at.types
target_in s at zero formed l = let e : at.types + 2 * 0 ≡ at.types = omega arith in rw e (omega arith)
target_in s at (suc t) formed l = omega (arith, formed.falls.by t l)
