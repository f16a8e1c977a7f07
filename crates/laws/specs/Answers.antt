-- The code's answers lose nothing of what they say: each can be made again from it.
use Rattle.std.specs.Prelude.{◌≡◌, refl, ℕ, zero, suc, Result, Ok, Err}
use Rattle.std.proofs.Common.{sym, ap, ◌∙◌}
use Rattle.rules.specs.declared.Fault.{Fault}
use Rattle.rules.specs.declared.Fault.TheVariants.{Short, Count, Row, Spare, Cells, Shape, Marking, Kinds, Lent, Order}
use Rattle.rules.specs.declared.Refusal.{Refusal}
use Rattle.rules.specs.declared.Check.TheVariants.{Null, Bounds, NoHome, ByZero}
use Rattle.rules.specs.declared.Check as checks
use Rattle.rules.specs.declared.Outcome.{Outcome}
use Rattle.rules.specs.declared.Outcome.TheVariants.{Done, Fuel, Check}
use Rattle.rules.specs.declared.Report.{Report}
use Rattle.rules.specs.Basic.{Verdict, fine, refused}
use Rattle.rules.specs.Ruled.{check_number}
use Rattle.rules.specs.Calls.{Ending, finished, out_of_fuel, failed_check, stuck_at, Ended, fault_number, says, outcome_says, run_says}

-- What can be made again from what it says loses nothing.
injective : {X Y : Type 0} {says : X → Y} (back : Y → X) → ((x : X) → back (says x) ≡ x) → (x y : X) → says x ≡ says y → x ≡ y
injective back h x y e = sym (h x) ∙ ap back e ∙ h y

-- By its number; past the last, the last.
abbrev fault_of : ℕ → Fault
fault_of zero = Short
fault_of (suc zero) = Short
fault_of (suc (suc zero)) = Count
fault_of (suc (suc (suc zero))) = Row
fault_of (suc (suc (suc (suc zero)))) = Spare
fault_of (suc (suc (suc (suc (suc zero))))) = Cells
fault_of (suc (suc (suc (suc (suc (suc zero)))))) = Shape
fault_of (suc (suc (suc (suc (suc (suc (suc zero))))))) = Marking
fault_of (suc (suc (suc (suc (suc (suc (suc (suc zero)))))))) = Kinds
fault_of (suc (suc (suc (suc (suc (suc (suc (suc (suc zero))))))))) = Lent
fault_of (suc (suc (suc (suc (suc (suc (suc (suc (suc (suc n)))))))))) = Order

fault_again : (x : Fault) → fault_of (fault_number x) ≡ x
fault_again Short = refl
fault_again Count = refl
fault_again Row = refl
fault_again Spare = refl
fault_again Cells = refl
fault_again Shape = refl
fault_again Marking = refl
fault_again Kinds = refl
fault_again Lent = refl
fault_again Order = refl

abbrev check_of : ℕ → checks.Check
check_of zero = Null
check_of (suc zero) = Null
check_of (suc (suc zero)) = Bounds
check_of (suc (suc (suc zero))) = NoHome
check_of (suc (suc (suc (suc n)))) = ByZero

check_again : (x : checks.Check) → check_of (check_number x) ≡ x
check_again Null = refl
check_again Bounds = refl
check_again NoHome = refl
check_again ByZero = refl

abbrev result_of : {X : Type 0} → Verdict X → Result X Refusal
result_of (fine x) = Ok x
result_of (refused n p) = Err (record { fault = fault_of n; place = p })

result_again : {X : Type 0} → (x : Result X Refusal) → result_of (says x) ≡ x
result_again (Ok x) = refl
result_again (Err n) = ap (λ f. Err (record { fault = f; place = n.place })) (fault_again n.fault)

-- No outcome says that a run is stuck.
abbrev outcome_of : Ending → Outcome
outcome_of finished = Done
outcome_of (out_of_fuel p) = Fuel p
outcome_of (failed_check n p) = Check (check_of n) p
outcome_of (stuck_at p) = Done

outcome_again : (x : Outcome) → outcome_of (outcome_says x) ≡ x
outcome_again Done = refl
outcome_again (Fuel p) = refl
outcome_again (Check c p) = ap (λ k. Check k p) (check_again c)

abbrev run_of : Verdict Ended → Result Report Refusal
run_of (fine x) = Ok (record { outcome = outcome_of x.ending; units = x.units })
run_of (refused n p) = Err (record { fault = fault_of n; place = p })

run_again : (x : Result Report Refusal) → run_of (run_says x) ≡ x
run_again (Ok x) = ap (λ o. Ok (record { outcome = o; units = x.units })) (outcome_again x.outcome)
run_again (Err n) = ap (λ f. Err (record { fault = f; place = n.place })) (fault_again n.fault)

-- Two answers that say the same are the same; so of runs.
pub says_same : {X : Type 0} → (x y : Result X Refusal) → says x ≡ says y → x ≡ y
says_same = injective result_of result_again

pub run_says_same : (x y : Result Report Refusal) → run_says x ≡ run_says y → x ≡ y
run_says_same = injective run_of run_again
