-- What the parts of a whole run are held to.
use Rattle.std.specs.Prelude.{ℕ, ◌-◌, ◌≤◌, ◌<◌, ltb, Result, Ok, Err}
use Rattle.rules.specs.declared.Starts.{Starts}
use Rattle.rules.specs.declared.Outcome.TheVariants as outcome
use Rattle.rules.specs.declared.Report.{Report}
use Rattle.rules.specs.Basic.{choose}
use Rattle.rules.specs.Table.{expr_place, command_place}
use Rattle.evaluate.specs.declared.Stop.{Stop}
use Rattle.evaluate.specs.declared.Cause.{Cause}
use Rattle.evaluate.specs.declared.Cause.TheVariants as cause

-- The place of a row by its number in the table.
abbrev pub place_at : Starts → ℕ → ℕ
place_at at i = choose (ltb i 1024) (λ _. expr_place at i) (λ _. command_place at (i - 1024))

-- The report of a stop at place p.
abbrev pub stop_report : ℕ → Cause → ℕ → Report
stop_report p cause.Fuel fuel = record { outcome = outcome.Fuel p; units = fuel }
stop_report p (cause.Check c left) fuel = record { outcome = outcome.Check c p; units = fuel - left }

abbrev pub report_of : Starts → Result ℕ Stop → ℕ → Report
report_of at (Ok left) fuel = record { outcome = outcome.Done; units = fuel - left }
report_of at (Err s) fuel = stop_report (place_at at s.row) s.cause fuel

-- No more fuel is left than was given.
abbrev pub LeftOf : Cause → ℕ → Type 0
LeftOf cause.Fuel fuel = Unit {0}
LeftOf (cause.Check c left) fuel = left ≤ fuel

-- Places are 32-bit numbers, and no more fuel is left than was given.
abbrev pub Reportable : Starts → Result ℕ Stop → ℕ → Type 0
Reportable at (Ok left) fuel = left ≤ fuel
Reportable at (Err s) fuel = (place_at at s.row < 4294967296) × LeftOf s.cause fuel
