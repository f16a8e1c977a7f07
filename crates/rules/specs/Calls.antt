-- What each call answers, and each lent entry afterwards (RULES 2). The contracts of the calls cite these definitions.
use Rattle.std.specs.Prelude.{◌≡◌, ℕ, List, ◌++◌, length, drop, leb, Result, Ok, Err}
use Rattle.rules.specs.declared.Starts.{Starts}
use Rattle.rules.specs.declared.Refusal.{Refusal}
use Rattle.rules.specs.declared.Fault.{Fault}
use Rattle.rules.specs.declared.Fault.TheVariants.{Short, Count, Row, Spare, Cells, Shape, Marking, Kinds, Lent, Order}
use Rattle.rules.specs.declared.Outcome.{Outcome}
use Rattle.rules.specs.declared.Outcome.TheVariants.{Done, Fuel, Check}
use Rattle.rules.specs.declared.Report.{Report}
use Rattle.rules.specs.Basic.{Verdict, fine, refused, unless_refused, guard}
use Rattle.rules.specs.Table.{Routine, routine, total}
use Rattle.rules.specs.Reading.{reading, rising}
use Rattle.rules.specs.Shape.{shape}
use Rattle.rules.specs.Kinds.{kinds}
use Rattle.rules.specs.Least.{Least}
use Rattle.rules.specs.Steps.{Told, units}
use Rattle.rules.specs.Memory.{State}
use Rattle.rules.specs.Ruled.{check_number}
use Rattle.rules.specs.Run.{Stop, no_fuel, failed, no_rule, Ran, done, halted, run}

-- ---- judging, in the order of RULES 2.2

-- Refusals 1 to 5, 10 and 6. A file that earns none is well-formed.
unfoldable pub formed : List ℕ → Verdict Starts
formed s = unless_refused (reading s) λ at. rising (routine s at) λ _. shape (routine s at) λ _. fine at

-- Then 7 and 8.
unfoldable pub judged : List ℕ → List ℕ → Verdict Starts
judged s m = unless_refused (formed s) λ at. kinds (routine s at) m λ _. fine at

-- Then 9: fewer entries are lent than are needed.
abbrev pub lent_enough : ℕ → List ℕ → Starts → Verdict Starts
lent_enough needed lent at = guard 9 needed (leb needed (length lent)) λ _. fine at

-- The cells of a routine's homes.
abbrev pub cell_count : Routine → ℕ
cell_count r = total (drop 1 r.homes)

-- ---- how a run ends (RULES 6.4)

pub data Ending : Type 0 where
  finished : Ending
  out_of_fuel : ℕ → Ending
  failed_check : ℕ → ℕ → Ending
  stuck_at : ℕ → Ending

abbrev pub stop_ending : Stop → Ending
stop_ending (no_fuel p) = out_of_fuel p
stop_ending (failed c p f) = failed_check (check_number c) p
stop_ending (no_rule p f) = stuck_at p

abbrev pub ending_of : Ran → Ending
ending_of (done w f) = finished
ending_of (halted w s) = stop_ending s

-- The state that a run leaves.
abbrev pub state_of : Ran → State
state_of (done w f) = w
state_of (halted w s) = w

-- ---- the calls

-- A run's ending, and the units that it spent.
pub record Ended : Type 0 where
  pub ending : Ending
  pub units : ℕ

-- An answer, beside the entries of what was lent. A refused call writes nothing.
pub record Left (X : Type 0) : Type 0 where
  pub answer : Verdict X
  pub lent : List ℕ

abbrev pub or_leave : {X Y : Type 0} → Verdict X → List ℕ → (X → Left Y) → Left Y
or_leave (fine x) lent go = go x
or_leave (refused n p) lent go = record { answer = refused n p; lent = lent }

-- A file is read: `formed`. A marking is checked:
unfoldable pub checking : List ℕ → List ℕ → Verdict (Unit {0})
checking s m = unless_refused (judged s m) λ at. fine tt

-- A file's marking is inferred into a lent one. Its first entries, one for each type, are then the least marking; surplus entries stay.
unfoldable pub inferable : List ℕ → List ℕ → Verdict Starts
inferable s lent = unless_refused (formed s) λ at. lent_enough (routine s at).types lent at

pub data Inferred (s lent : List ℕ) : Left (Unit {0}) → Type 0 where
  left : {n p : ℕ} → inferable s lent ≡ refused n p → Inferred s lent (record { answer = refused n p; lent = lent })
  marked : {at : Starts} {m : List ℕ} → inferable s lent ≡ fine at → Least (routine s at) m
      → Inferred s lent (record { answer = fine tt; lent = m ++ drop (length m) lent })

-- A file is run under a marking, with this fuel, in lent memory.
unfoldable pub runnable : List ℕ → List ℕ → List ℕ → Verdict Starts
runnable s m lent = unless_refused (judged s m) λ at. lent_enough (cell_count (routine s at)) lent at

abbrev pub reported : Told Ran → Left Ended
reported x =
    record {
      answer = fine (record { ending = ending_of x.answer; units = units x.steps });
      lent = (state_of x.answer).memory;
    }

unfoldable pub running : List ℕ → List ℕ → ℕ → List ℕ → Left Ended
running s m fuel lent = or_leave (runnable s m lent) lent λ at. reported (run (routine s at) m lent fuel)

-- ---- what the code's answers say

-- The number of a refusal (RULES 2.1).
abbrev pub fault_number : Fault → ℕ
fault_number Short = 1
fault_number Count = 2
fault_number Row = 3
fault_number Spare = 4
fault_number Cells = 5
fault_number Shape = 6
fault_number Marking = 7
fault_number Kinds = 8
fault_number Lent = 9
fault_number Order = 10

abbrev pub refusal : {X : Type 0} → Refusal → Verdict X
refusal n = refused (fault_number n.fault) n.place

-- Of reading, with where the sections start, and of checking and inference, with nothing:
abbrev pub says : {X : Type 0} → Result X Refusal → Verdict X
says (Ok x) = fine x
says (Err n) = refusal n

abbrev pub outcome_says : Outcome → Ending
outcome_says Done = finished
outcome_says (Fuel p) = out_of_fuel p
outcome_says (Check c p) = failed_check (check_number c) p

abbrev pub run_says : Result Report Refusal → Verdict Ended
run_says (Ok x) = fine (record { ending = outcome_says x.outcome; units = x.units })
run_says (Err n) = refusal n
