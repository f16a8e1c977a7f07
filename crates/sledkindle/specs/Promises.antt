-- What is promised of the structs that a C host sees. Statements only: the proofs are in `Proofs`.
use Rattle.std.specs.Prelude.{◌≡◌, ℕ, ◌≤◌, ◌<◌, List}
use Rattle.rules.specs.Basic.{Bytes, Verdict, fine, refused}
use Rattle.rules.specs.Calls.{finished, out_of_fuel, failed_check, Ended, formed, checking, running}
use Rattle.sledkindle.specs.declared.Answer.{Answer}
use Rattle.sledkindle.specs.declared.Ran.{Ran}
use Rattle.sledkindle.specs.Exports.{plain, InferredAs, RanAs}

-- The number is 0 exactly if nothing was refused; else it is the refusal's.
pub record Tells {X : Type 0} (v : Verdict X) (r : Answer) : Type 0 where
  pub passed : r.number ≡ 0 → (x : X) × (v ≡ fine x)
  pub refusal : 0 < r.number → v ≡ refused r.number r.place

-- A run's too. If nothing was refused, outcome 0 is done, 1 to 4 the check that failed, 5 out of fuel, and there is no other.
pub record TellsRun (v : Verdict Ended) (r : Ran) : Type 0 where
  pub refusal : 0 < r.number → v ≡ refused r.number r.place
  pub done : r.number ≡ 0 → r.outcome ≡ 0 → v ≡ fine (record { ending = finished; units = r.units })
  pub check : r.number ≡ 0 → 1 ≤ r.outcome → r.outcome ≤ 4 → v ≡ fine (record { ending = failed_check r.outcome r.place; units = r.units })
  pub fuel : r.number ≡ 0 → r.outcome ≡ 5 → v ≡ fine (record { ending = out_of_fuel r.place; units = r.units })
  pub most : r.outcome ≤ 5

-- Every struct that the contracts of the four calls allow tells its answer.
pub record Structs : Type 0 where
  pub read : (s : List ℕ) (r : Answer) → r ≡ plain (formed s) → Tells (formed s) r
  pub check : (s m : List ℕ) (r : Answer) → r ≡ plain (checking s m) → Tells (checking s m) r
  pub infer : (s lent after : List ℕ) (r : Answer) (x : InferredAs s lent after r) → Tells x.verdict r
  pub run : (s m lent after : List ℕ) (fuel : ℕ) (r : Ran) → Bytes s → RanAs (running s m fuel lent) after r → TellsRun (running s m fuel lent).answer r

-- Inference leaves no choice: two outcomes that its contract allows have the same struct, and the same content of what was lent.
abbrev pub OneInferred : Type 0
OneInferred = (s lent after after' : List ℕ) (r r' : Answer) → InferredAs s lent after r → InferredAs s lent after' r' → (r ≡ r') × (after ≡ after')
