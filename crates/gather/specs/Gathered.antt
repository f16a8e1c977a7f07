-- What a routine's rows are to leave: the targets of types in a table, the conversions between references in a list, and the seeds in a marking.
-- C has the conversions; m₀ is the marking with SEQ at the seeds.
use Rattle.std.specs.Prelude.{◌≡◌, true, ℕ, zero, suc, ◌≤◌, ◌<◌, List, length}
use Rattle.std.specs.List.{All, Contains}
use Rattle.rules.specs.declared.Need.{Need}
use Rattle.rules.specs.declared.Need.TheVariants.{Nothing, Moving, Converting}
use Rattle.rules.specs.Table.{Routine}
use Rattle.rules.specs.Kinds.{converts, expr_need, command_need, Acceptable}
use Rattle.rules.specs.Graph.{byte_of}
use Rattle.raise.specs.declared.Conversion.{Conversion}
use Rattle.raise.specs.Marks.{at, Below}
use Rattle.raise.specs.Demands.{Ref, Between}

-- The conversion of s to t is in the list, or among the seeds.
abbrev pub Listed : List Conversion → List ℕ → ℕ → ℕ → Type 0
Listed C m₀ s zero = Unit {0}
Listed C m₀ zero (suc t) = 1 ≤ byte_of m₀ (suc t)
Listed C m₀ (suc s) (suc t) = Contains C (record { from = suc s; to = suc t })

-- What a row asks is in the list, or among the seeds.
abbrev pub NeedListed : List Conversion → List ℕ → Need → Type 0
NeedListed C m₀ Nothing = Unit {0}
NeedListed C m₀ (Moving t) = 1 ≤ byte_of m₀ t
NeedListed C m₀ (Converting s t) = Listed C m₀ s t

-- The table has the targets of the routine's types.
pub record Targets (r : Routine) (T : List ℕ) : Type 0 where
  pub each : (t : ℕ) → Ref r.types t → at T t ≡ r.target t

-- What every acceptable marking follows: the seeds and the conversions noted.
pub record Follows (r : Routine) (C : List Conversion) (m₀ w : List ℕ) : Type 0 where
  pub seeds : Below m₀ w
  pub convs : All (λ c. converts r w c.from c.to ≡ true) C

pub record Gathered (r : Routine) (T : List ℕ) (C : List Conversion) (m₀ : List ℕ) : Type 0 where
  pub size : length m₀ ≡ r.types
  pub table : Targets r T
  pub listed : All (Between r.types) C
  pub exprs : (e : ℕ) → e < r.exprs → NeedListed C m₀ (expr_need r (r.expr e))
  pub commands : (c : ℕ) → c < r.commands → NeedListed C m₀ (command_need r (r.command c))
  pub follows : (w : List ℕ) → Acceptable r w → Follows r C m₀ w
