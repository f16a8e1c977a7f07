-- What the structs that a C host sees say of a verdict.
use Rattle.std.specs.Prelude.{◌≡◌, ℕ, List}
use Rattle.rules.specs.Basic.{Verdict, fine, refused}
use Rattle.rules.specs.Calls.{Ending, finished, out_of_fuel, failed_check, stuck_at, Ended, Left, Inferred}
use Rattle.sledkindle.specs.declared.Answer.{Answer}
use Rattle.sledkindle.specs.declared.Ran.{Ran}

-- Number and place of a refusal, or 0 and 0.
abbrev pub plain : {X : Type 0} → Verdict X → Answer
plain (fine x) = record { number = 0; place = 0 }
plain (refused n p) = record { number = n; place = p }

-- An ending's number: 0 done, 1 to 4 the checks, 5 fuel (RULES 6.4). No accepted run is stuck.
abbrev pub ending_number : Ending → ℕ
ending_number finished = 0
ending_number (out_of_fuel p) = 5
ending_number (failed_check n p) = n
ending_number (stuck_at p) = 6

-- Its place, 0 where the run is done.
abbrev pub ending_place : Ending → ℕ
ending_place finished = 0
ending_place (out_of_fuel p) = p
ending_place (failed_check n p) = p
ending_place (stuck_at p) = p

abbrev pub plain_ran : Verdict Ended → Ran
plain_ran (fine e) = record { number = 0; place = ending_place e.ending; outcome = ending_number e.ending; units = e.units }
plain_ran (refused n p) = record { number = n; place = p; outcome = 0; units = 0 }

-- Inference into a lent marking: its verdict, as the struct says it, and the marking afterwards.
pub record InferredAs (s lent after : List ℕ) (r : Answer) : Type 0 where
  pub verdict : Verdict (Unit {0})
  pub inferred : Inferred s lent (record { answer = verdict; lent = after })
  pub says : r ≡ plain verdict

-- A run, as the struct says it, and the memory afterwards.
pub record RanAs (x : Left Ended) (after : List ℕ) (r : Ran) : Type 0 where
  pub says : r ≡ plain_ran x.answer
  pub memory : after ≡ x.lent
