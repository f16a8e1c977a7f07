-- What a rule for values says. It knows neither fuel nor place.
use Rattle.std.specs.Prelude.{ℕ, Bool, true, false}
use Rattle.rules.specs.declared.Check.{Check}
use Rattle.rules.specs.declared.Check.TheVariants.{Null, Bounds, NoHome, ByZero}

-- RULES 6.4
abbrev pub check_number : Check → ℕ
check_number Null = 1
check_number Bounds = 2
check_number NoHome = 3
check_number ByZero = 4

-- A rule gives something, or a check of it fails, or no rule covers the form: stuck (RULES 5.9).
pub data Ruled (X : Type 0) : Type 0 where
  gives : X → Ruled X
  fails : Check → Ruled X
  stuck : Ruled X

abbrev pub onward : {X Y : Type 0} → Ruled X → (X → Ruled Y) → Ruled Y
onward (gives x) k = k x
onward (fails c) k = fails c
onward stuck k = stuck

-- What must hold, or that check fails.
abbrev pub must : {X : Type 0} → Check → Bool → Ruled X → Ruled X
must c true x = x
must c false x = fails c
