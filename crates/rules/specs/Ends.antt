-- How a run ends that is not stuck, and the fuel that it leaves.
use Rattle.std.specs.Prelude.{ℕ}
use Rattle.rules.specs.Memory.{State}
use Rattle.rules.specs.declared.Check.{Check}
use Rattle.rules.specs.Run.{Stop, no_fuel, failed, no_rule, Ran, done, halted}

-- No fuel, or a check 1 to 4: not stuck.
pub data Proper : Stop → Type 0 where
  fuel : {p : ℕ} → Proper (no_fuel p)
  check : {c : Check} {p f : ℕ} → Proper (failed c p f)

-- A run is done, out of fuel or stopped by a check.
pub data Ends : Ran → Type 0 where
  at_done : {w : State} {f : ℕ} → Ends (done w f)
  at_stop : {w : State} {s : Stop} → Proper s → Ends (halted w s)

-- The fuel that is left.
abbrev pub left_at : Stop → ℕ
left_at (no_fuel p) = 0
left_at (failed c p f) = f
left_at (no_rule p f) = f

abbrev pub left_after : Ran → ℕ
left_after (done w f) = f
left_after (halted w s) = left_at s
