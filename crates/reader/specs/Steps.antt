-- What the steps of the reading mean, over the definition's continuations.
use Rattle.std.specs.Prelude.{◌≡◌, Bool, ◌&&◌, ℕ, ◌+◌, ◌*◌, ◌≤◌, List, length, eqb, Result, Ok, Err, IfOk}
use Rattle.rules.specs.declared.Starts.{Starts}
use Rattle.rules.specs.declared.Section.{Section}
use Rattle.rules.specs.declared.Section.TheVariants.{Types, Homes, Exprs, Commands, Values}
use Rattle.rules.specs.Basic.{half, Verdict, fine, guard}
use Rattle.rules.specs.Table.{expr_of, command_of}
use Rattle.rules.specs.Reading.{expr_spare, expr_good, command_spare, command_good, row_bytes, rows, section, cells, fifth}
use Rattle.rules.specs.Calls.{refusal}
use Rattle.rules.specs.declared.Refusal.{Refusal}
use Rattle.reader.specs.declared.front.Passed.{Passed}

-- ---- a row by its fields

abbrev pub expr_fields : ℕ → ℕ → ℕ → ℕ → ℕ → ℕ → Bool
expr_fields tag a b types homes i = expr_spare tag a b && expr_good types homes i (expr_of tag a b)

abbrev pub command_fields : ℕ → ℕ → ℕ → ℕ → ℕ → ℕ → Bool
command_fields tag a b c exprs i = command_spare tag a b c && command_good exprs i (command_of tag a b c)

-- ---- what a section's rows are judged by

-- It is in the file: for the start values, the homes, whose count stands at h.
abbrev pub Sighted : List ℕ → Section → Type 0
Sighted s Types = Unit {0}
Sighted s (Homes t) = Unit {0}
Sighted s (Exprs t h) = Unit {0}
Sighted s (Commands e) = Unit {0}
Sighted s (Values h) = h + 2 + 4 * half s h ≤ length s

-- ---- a section that is passed, or a refusal

-- What comes after it: `go` of the place behind the section and its count of rows, or the refusal.
abbrev pub follow : Result Passed Refusal → (ℕ → ℕ → Verdict Starts) → Verdict Starts
follow (Ok x) go = go x.end x.rows
follow (Err r) go = refusal r

pub record RowsRead (s : List ℕ) (c : Section) (q n : ℕ) (r : Result Passed Refusal) : Type 0 where
  pub means : (go : ℕ → ℕ → Verdict Starts) → rows s c q 0 n (λ _. go (q + row_bytes c * n) n) ≡ follow r go
  pub passed : IfOk r (λ x. (x.end ≡ q + row_bytes c * n) × (x.rows ≡ n) × (x.end ≤ length s))

pub record SectionRead (s : List ℕ) (c : Section) (q : ℕ) (r : Result Passed Refusal) : Type 0 where
  pub means : (go : ℕ → ℕ → Verdict Starts) → section s c q go ≡ follow r go
  pub passed : IfOk r (λ x. (x.end ≡ q + 2 + row_bytes c * x.rows) × (x.end ≤ length s) × (x.end ≤ q + 7170) × (x.rows ≤ 1024))

-- ---- `reading`, from a step behind the four sections on

abbrev pub from_cells : List ℕ → Starts → Verdict Starts
from_cells s at = cells s (at.homes + 2) 0 (half s at.homes) λ _. fine at

abbrev pub from_end : List ℕ → Starts → ℕ → Verdict Starts
from_end s at end = guard 4 end (eqb end (length s)) λ _. from_cells s at

abbrev pub from_values : List ℕ → Starts → Verdict Starts
from_values s at = fifth s at λ end. from_end s at end
