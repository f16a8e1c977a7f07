-- A file that was read is well read, and a well-formed one stands for a well-formed routine.
use Rattle.std.specs.Prelude.{◌≡◌, refl, ℕ, ◌+◌, ◌≤◌, List}
use Rattle.std.proofs.Common.{arith}
use Rattle.rules.specs.declared.Starts.{Starts}
use Rattle.rules.specs.declared.Section.TheVariants.{Types}
use Rattle.rules.specs.Basic.{half, fine, Bytes}
use Rattle.rules.specs.Table.{layout, total, routine}
use Rattle.rules.specs.Reading.{sections, reading}
use Rattle.rules.specs.Calls.{formed}
use Rattle.rules.specs.Tests.{fine_same}
use Rattle.laws.specs.WellRead.{Placed, Fifth, WellRead}
use Rattle.laws.specs.Known.{section_known, behind_known, unrefused, formed_parts, formed_shaped}
use Rattle.laws.specs.Formed.{Formed}
use Rattle.laws.specs.Read.{target_falls, homed, layout_consecutive, expr_row_fits, command_row_fits, value_row_fits}

-- The four sections that every file has: what is known behind them, and of the whole file once the rest is.
pub sections_known : (s : List ℕ) (at : Starts) → sections s ≡ fine at
    → Placed s at × (Fifth s at.homes at.values → total (layout s (at.homes + 2) 1 (half s at.homes)) ≤ 4096 → WellRead s at)
unfolding sections
sections_known s at h =
    let (types, h₁) = section_known s Types 0 _ at h in
    let (homes, h₂) = section_known s _ _ _ at h₁ in
    let (exprs, h₃) = section_known s _ _ _ at h₂ in
    let (commands, h₄) = section_known s _ _ _ at h₃ in
    rw (← fine_same h₄) (
      record { homes = homes; near = omega (arith, types.few); far = omega (arith, types.few, homes.few, exprs.few, commands.few) },
      λ five few.
          record {
            types_at = refl;
            types = types;
            homes_at = refl;
            homes = homes;
            exprs_at = refl;
            exprs = exprs;
            commands_at = refl;
            commands = commands;
            values_at = refl;
            values = five;
            cells = few;
          },
    )

-- Refusals 1 to 5.
pub reading_known : (s : List ℕ) (at : Starts) → reading s ≡ fine at → WellRead s at
unfolding reading
reading_known s at h =
    let (at', (a, b)) = unrefused (sections s) _ at h in
    let (five, few, e) = behind_known s at' at b in
    rw (← e) ((sections_known s at' a).1 five few)

pub formed_known : (s : List ℕ) (at : Starts) → formed s ≡ fine at → WellRead s at
formed_known s at h = reading_known s at (formed_parts s at h).0

-- A well-formed file stands for a well-formed routine.
pub formed_fine : {s : List ℕ} {at : Starts} → Bytes s → formed s ≡ fine at → Formed (routine s at)
formed_fine {s} {at} bytes h =
    let rows = formed_known s at h in
    let shaped = formed_shaped s at h in
    record {
      falls = record { by = λ t l. target_falls rows t l };
      homed = λ {g = g} y. homed rows g y;
      nowhere = refl;
      single = refl;
      consecutive = layout_consecutive s (at.homes + 2) 1 (half s at.homes);
      few = rows.cells;
      some = rows.commands.least;
      exprs = λ e l. (expr_row_fits rows bytes e l, shaped.exprs e l);
      commands = λ c l. (command_row_fits rows c l, shaped.commands c l);
      values = λ i l. (value_row_fits rows bytes i l, shaped.values i l);
    }
