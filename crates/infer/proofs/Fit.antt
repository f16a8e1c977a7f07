-- The tables that a well-formed file's rows give are fit for the inference.
use Rattle.std.specs.Prelude.{ℕ, ◌≤◌, ◌<◌, List, length}
use Rattle.std.specs.List.{All}
use Rattle.std.proofs.Common.{arith}
use Rattle.rules.specs.declared.Starts.{Starts}
use Rattle.rules.specs.Table.{routine}
use Rattle.raise.specs.declared.Conversion.{Conversion}
use Rattle.raise.specs.Demands.{Falls, Between}
use Rattle.raise.proofs.Steps.{lists_size}
use Rattle.needs.specs.Typed.{Typed}
use Rattle.gather.specs.Gathering.{Noting}
use Rattle.gather.specs.Tables.{Filled}

module _ {s : List ℕ} {at : Starts} {ty : List ℕ} (y : Typed s at ty) {C : List Conversion} {m : List ℕ}
    (g : Noting (routine s at) (routine s at).exprs (routine s at).commands C m) where
  pub few : length C ≤ 2048
  few = omega (arith, g.count, y.file.exprs.few, y.file.commands.few)

  pub tables_fit : {T : List ℕ} → Filled (routine s at) T → (length m ≤ 255) × (length m < length T) × Falls T × All (Between (length m)) C
  tables_fit f =
      (omega (arith, g.size, y.file.types.few), omega (arith, g.size, y.file.types.few, f.size), f.falls, lists_size C g.size g.listed)
