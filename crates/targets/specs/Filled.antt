-- A table of targets, before and after its filling.
use Rattle.std.specs.Prelude.{◌≡◌, ◌⊎◌, ℕ, ◌≤◌, ◌<◌, List, length, get_or}
use Rattle.rules.specs.Table.{Routine}

-- Entries 1 to n are the targets of these types, and the others are as before.
pub record TargetTable (r : Routine) (n : ℕ) (before after : List ℕ) : Type 0 where
  pub size : length after ≡ 256
  pub each : (t : ℕ) → 1 ≤ t → t ≤ n → get_or after t 0 ≡ r.target t
  pub stays : (t : ℕ) → (t ≡ 0) ⊎ (n < t) → get_or after t 0 ≡ get_or before t 0
