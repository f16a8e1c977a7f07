-- What refusals 1 to 5 leave of a file that earns none of them: where its sections start, and that every row is whole and in range.
use Rattle.std.specs.Prelude.{◌≡◌, true, ℕ, ◌+◌, ◌*◌, ◌≤◌, ◌<◌, List, length}
use Rattle.rules.specs.declared.Starts.{Starts}
use Rattle.rules.specs.declared.Section.{Section}
use Rattle.rules.specs.declared.Section.TheVariants.{Types, Homes, Exprs, Commands, Values}
use Rattle.rules.specs.Basic.{half}
use Rattle.rules.specs.Table.{layout, total}
use Rattle.rules.specs.Reading.{row_bytes, fewest, most, row_good}

-- A section whose count stands at q is whole, has few enough rows, and each is in range.
pub record Whole (s : List ℕ) (c : Section) (q : ℕ) : Type 0 where
  pub least : fewest c ≤ half s q
  pub few : half s q ≤ most c
  pub fits : q + 2 + row_bytes c * half s q ≤ length s
  pub good : (i : ℕ) → i < half s q → row_good s c i (q + 2 + row_bytes c * i) ≡ true

-- What the four sections leave for what follows them: the homes are in the file, and by the limits their count and the end of the commands stand early.
pub record Placed (s : List ℕ) (at : Starts) : Type 0 where
  pub homes : Whole s (Homes (half s at.types)) at.homes
  pub near : at.homes ≤ 512
  pub far : at.values ≤ 13062

-- Behind the commands, at q, the file ends, or its start values are whole and end it. The homes' count stands at h.
pub data Fifth (s : List ℕ) (h q : ℕ) : Type 0 where
  absent : q ≡ length s → Fifth s h q
  present : Whole s (Values h) q → q + 2 + 8 * half s q ≡ length s → Fifth s h q

-- The sections, each behind the last, up to the file's end; and the cells of the homes.
pub record WellRead (s : List ℕ) (at : Starts) : Type 0 where
  pub types_at : at.types ≡ 0
  pub types : Whole s Types at.types
  pub homes_at : at.homes ≡ at.types + 2 + 2 * half s at.types
  pub homes : Whole s (Homes (half s at.types)) at.homes
  pub exprs_at : at.exprs ≡ at.homes + 2 + 4 * half s at.homes
  pub exprs : Whole s (Exprs (half s at.types) (half s at.homes)) at.exprs
  pub commands_at : at.commands ≡ at.exprs + 2 + 5 * half s at.exprs
  pub commands : Whole s (Commands (half s at.exprs)) at.commands
  pub values_at : at.values ≡ at.commands + 2 + 7 * half s at.commands
  pub values : Fifth s at.homes at.values
  pub cells : total (layout s (at.homes + 2) 1 (half s at.homes)) ≤ 4096
