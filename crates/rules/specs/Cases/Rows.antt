-- A case, what it says, and the rows of the table of cases.
use Rattle.std.specs.Prelude.{◌≡◌, Bool, true, ℕ, List, [], ◌∷◌, ◌++◌, map, length, drop, Result}
use Rattle.rules.specs.declared.Starts.{Starts}
use Rattle.rules.specs.declared.Value.{Value}
use Rattle.rules.specs.declared.Refusal.{Refusal}
use Rattle.rules.specs.declared.Report.{Report}
use Rattle.rules.specs.Basic.{Verdict, fine, refused}
use Rattle.rules.specs.Table.{routine}
use Rattle.rules.specs.declared.Check.{Check}
use Rattle.rules.specs.Steps.{Step}
use Rattle.rules.specs.Start.{start}
use Rattle.rules.specs.Run.{Answer, got, stopped, failed, no_rule, eval, run}
use Rattle.rules.specs.Calls.{formed, judged, checking, inferable, Inferred, left, running, Ending, Ended, Left, finished, out_of_fuel, failed_check, stuck_at, ending_of, says, run_says}
use Rattle.rules.specs.Cases.Least.{least_in, leaves_least}

-- ---- a case, and what it says

abbrev pub plenty : ℕ
plenty = 1000000

-- What a call answers; the steps of a run; how the defined run ends, and what an expression row gives in the starting memory with this fuel, under
-- any marking; what an answer of the code says.
pub data Case : Type 0 where
  reads : (file : List ℕ) → Verdict Starts → Case
  checks : (file marking : List ℕ) → Verdict (Unit {0}) → Case
  infers : (file lent : List ℕ) → Left (Unit {0}) → Case
  runs : (file marking : List ℕ) (fuel : ℕ) (lent : List ℕ) → Left Ended → Case
  takes : (file marking : List ℕ) → List Step → Case
  goes : (file marking : List ℕ) → Ending → Case
  evaluates : (file marking : List ℕ) (row fuel : ℕ) → Answer → Case
  read_saying : Result Starts Refusal → Verdict Starts → Case
  check_saying : Result (Unit {0}) Refusal → Verdict (Unit {0}) → Case
  infer_saying : Result (Unit {0}) Refusal → Verdict (Unit {0}) → Case
  run_saying : Result Report Refusal → Verdict Ended → Case

abbrev pub steps : Verdict Starts → List ℕ → List ℕ → List Step
steps (fine at) s m = (run (routine s at) m [] plenty).steps
steps (refused n p) s m = []

abbrev pub ending : Verdict Starts → List ℕ → List ℕ → Ending
ending (fine at) s m = ending_of (run (routine s at) m [] plenty).answer
ending (refused n p) s m = finished

abbrev pub evaluated : Verdict Starts → List ℕ → List ℕ → ℕ → ℕ → Answer
evaluated (fine at) s m e f = let r = routine s at in (eval r m (start r m []) e f).answer
evaluated (refused n p) s m e f = stopped (no_rule n p)

abbrev pub Holds : Case → Type 0
Holds (reads s v) = formed s ≡ v
Holds (checks s m v) = checking s m ≡ v
Holds (infers s l x) = Inferred s l x
Holds (runs s m f l x) = running s m f l ≡ x
Holds (takes s m l) = steps (judged s m) s m ≡ l
Holds (goes s m x) = ending (formed s) s m ≡ x
Holds (evaluates s m e f x) = evaluated (formed s) s m e f ≡ x
Holds (read_saying x v) = says x ≡ v
Holds (check_saying x v) = says x ≡ v
Holds (infer_saying x v) = says x ≡ v
Holds (run_saying x v) = run_says x ≡ v

-- A case with its proof. The proof is `refl`: both sides are computed, and a row that does not hold is refused where it stands.
pub record Row : Type 0 where
  pub case : Case
  pub holds : Holds case

-- ---- answers, and entries of lent memory as plain numbers

abbrev pub lent : List ℕ
lent = 9 ∷ 9 ∷ 9 ∷ 9 ∷ 9 ∷ []

-- Three cells, with the surplus.
abbrev pub three : ℕ → ℕ → ℕ → List ℕ
three x y z = x ∷ y ∷ z ∷ 9 ∷ 9 ∷ []

abbrev pub zeros : List ℕ
zeros = three 0 0 0

-- The entry of (0, 0), and three of them.
abbrev pub nil : ℕ
nil = 4294967296

abbrev pub nils : List ℕ
nils = three nil nil nil

-- A run is done, out of fuel, or stopped by a check; and its units.
abbrev pub ends : ℕ → Verdict Ended
ends units = fine (record { ending = finished; units = units })

abbrev pub starves : ℕ → ℕ → Verdict Ended
starves place units = fine (record { ending = out_of_fuel place; units = units })

abbrev pub fails : ℕ → ℕ → ℕ → Verdict Ended
fails check place units = fine (record { ending = failed_check check place; units = units })

-- ---- rows

-- The places of the counts of homes, expressions, commands and start values; or the refusal.
abbrev pub formed_at : (s : List ℕ) (h e c v : ℕ) → formed s ≡ fine (record { types = 0; homes = h; exprs = e; commands = c; values = v }) → Row
formed_at s h e c v p = record { case = reads s _; holds = p }

abbrev pub malformed : (s : List ℕ) (number place : ℕ) → formed s ≡ refused number place → Row
malformed s number place p = record { case = reads s _; holds = p }

abbrev pub accepted : (s m : List ℕ) → checking s m ≡ fine tt → Row
accepted s m p = record { case = checks s m _; holds = p }

abbrev pub rejected : (s m : List ℕ) (number place : ℕ) → checking s m ≡ refused number place → Row
rejected s m number place p = record { case = checks s m _; holds = p }

-- The entries l are lent; m is the least marking, and z is what is left. Then with an entry more than is needed.
abbrev pub inferred_in : (l s m z : List ℕ) → ◌≡◌ {A = Bool × List ℕ} (least_in (inferable s l) s m, m ++ drop (length m) l) (true, z) → Row
inferred_in l s m z p = record { case = infers s l (record { answer = fine tt; lent = z }); holds = leaves_least s l m z p }

abbrev pub nines : List ℕ → List ℕ
nines m = map (λ _. 9) m ++ 9 ∷ []

abbrev pub inferred : (s m : List ℕ) → ◌≡◌ {A = Bool × List ℕ} (least_in (inferable s (nines m)) s m, m ++ drop (length m) (nines m)) (true, m ++ 9 ∷ []) → Row
inferred s m p = inferred_in (nines m) s m (m ++ 9 ∷ []) p

abbrev pub not_inferred : (s l : List ℕ) (number place : ℕ) → inferable s l ≡ refused number place → Row
not_inferred s l number place p = record { case = infers s l _; holds = left p }

-- A run in lent memory, and what it leaves there: with any fuel and entries; in the five entries 9; with plenty of fuel too.
abbrev pub ran_in : (fuel : ℕ) (l s m : List ℕ) (answer : Verdict Ended) (z : List ℕ) → running s m fuel l ≡ record { answer = answer; lent = z } → Row
ran_in fuel l s m answer z p = record { case = runs s m fuel l _; holds = p }

abbrev pub ran_on : (fuel : ℕ) (s m : List ℕ) (answer : Verdict Ended) (z : List ℕ) → running s m fuel lent ≡ record { answer = answer; lent = z } → Row
ran_on fuel s m answer z p = ran_in fuel lent s m answer z p

abbrev pub ran : (s m : List ℕ) (answer : Verdict Ended) (z : List ℕ) → running s m plenty lent ≡ record { answer = answer; lent = z } → Row
ran s m answer z p = ran_in plenty lent s m answer z p

-- The steps of a run with plenty of fuel.
abbrev pub told : (s m : List ℕ) (l : List Step) → steps (judged s m) s m ≡ l → Row
told s m l p = record { case = takes s m l; holds = p }

-- A run that no rule lets go on, at the row at this place.
abbrev pub stuck_in : (s m : List ℕ) (place : ℕ) → ending (formed s) s m ≡ stuck_at place → Row
stuck_in s m place p = record { case = goes s m _; holds = p }

-- Row e, for exactly so many units: its value; the check that fails, with its place; no rule for the row at a place.
abbrev pub valued : (s m : List ℕ) (e units : ℕ) (v : Value) → evaluated (formed s) s m e units ≡ got v 0 → Row
valued s m e units v p = record { case = evaluates s m e units _; holds = p }

abbrev pub failing : (s m : List ℕ) (e units : ℕ) (check : Check) (place : ℕ) → evaluated (formed s) s m e units ≡ stopped (failed check place 0) → Row
failing s m e units check place p = record { case = evaluates s m e units _; holds = p }

abbrev pub stuck_on : (s m : List ℕ) (e units place : ℕ) → evaluated (formed s) s m e units ≡ stopped (no_rule place 0) → Row
stuck_on s m e units place p = record { case = evaluates s m e units _; holds = p }

-- What the code's answers say.
abbrev pub read_said : (x : Result Starts Refusal) (v : Verdict Starts) → says x ≡ v → Row
read_said x v p = record { case = read_saying x v; holds = p }

abbrev pub check_said : (x : Result (Unit {0}) Refusal) (v : Verdict (Unit {0})) → says x ≡ v → Row
check_said x v p = record { case = check_saying x v; holds = p }

abbrev pub infer_said : (x : Result (Unit {0}) Refusal) (v : Verdict (Unit {0})) → says x ≡ v → Row
infer_said x v p = record { case = infer_saying x v; holds = p }

abbrev pub run_said : (x : Result Report Refusal) (v : Verdict Ended) → run_says x ≡ v → Row
run_said x v p = record { case = run_saying x v; holds = p }
