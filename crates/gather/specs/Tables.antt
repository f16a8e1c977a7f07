-- The table of the targets of types.
use Rattle.std.specs.Prelude.{◌≡◌, ℕ, zero, suc, ◌≤◌, ◌<◌, List, length}
use Rattle.std.proofs.Common.{inr, arith}
use Rattle.std.proofs.Math.Decide.{dec_le}
use Rattle.rules.specs.Table.{Routine}
use Rattle.laws.specs.Values.{Falls as TypesFall}
use Rattle.raise.specs.Marks.{at}
use Rattle.raise.specs.Demands.{Falls}
use Rattle.targets.specs.Filled.{TargetTable}
use Rattle.gather.specs.Gathered.{Targets}

-- A table of the targets, each below its type.
pub record Filled (r : Routine) (T : List ℕ) : Type 0 where
  pub size : length T ≡ 256
  pub targets : Targets r T
  pub falls : Falls T

-- A table that was filled from zeros.
pub filled_from : {r : Routine} {T₀ T : List ℕ} → TypesFall r → TargetTable r r.types T₀ T → ((x : ℕ) → at T₀ x ≡ 0) → Filled r T
filled_from {r} {T₀} {T} fall f z =
    record { size = f.size; targets = record { each = λ t l. f.each t l.low l.high }; falls = record { by = λ x l. low x l (dec_le x r.types) } }
  where
    low : (x : ℕ) → 1 ≤ x → Dec (x ≤ r.types) → at T x < x
    low zero l d = absurd (omega arith)
    low (suc x) l (yes k) = omega (arith, f.each (suc x) l k, fall.by x (omega arith))
    low (suc x) l (no k) = omega (arith, f.stays (suc x) (inr (omega arith)), z (suc x))
