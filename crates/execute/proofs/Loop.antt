-- The turns of a while: an answer that is right from a turn on is right from the start.
use mathlib.Core.Path.{◌≡◌, refl, sym, ap, ◌∙◌}
use Prim.Native.Nat.{ℕ, zero, suc, ◌+◌, ◌-◌, ◌<◌, ◌≤◌}
use native.Mathlib.Numerals.{sub-one}
use native.Mathlib.Omega.{arith}
use mathlib.Core.List.{List}
use Rattle.std.specs.Prelude.{Result, Ok, Err}
use Rattle.rules.specs.declared.Value.{Value}
use Rattle.rules.specs.Basic.{choose}
use Rattle.rules.specs.Table.{Command, Home, Routine}
use Rattle.rules.specs.Memory.{State}
use Rattle.rules.specs.Values.{truth}
use Rattle.rules.specs.Run.{got, Ran as Runs, done, halted, turns, eval, exec}
use Rattle.rules.specs.Valid.{ValidState}
use Rattle.rules.specs.Ends.{left_after}
use Rattle.laws.specs.Forget.{value, rule, entry, ended, turn_answer}
use Rattle.laws.specs.Units.{left_of, eval_spends, exec_spends}
use Rattle.words.specs.Ops.{op_while}
use Rattle.words.specs.Words.{a_in, b_in, first_for, second_for, state}
use Rattle.values.specs.Values.{number_of}
use Rattle.evaluate.proofs.Rules.{Fine}
use Rattle.evaluate.proofs.Rows.{command_place_lem}
use Rattle.evaluate.specs.declared.Got.{Got}
use Rattle.evaluate.specs.declared.Stop.{Stop}
use Rattle.evaluate.specs.declared.Cause.TheVariants.{Fuel}
use Rattle.evaluate.specs.Rows.{told, Asked}
use Rattle.execute.proofs.Rows.{while_row, while_early, stop_told_lem, ran_told_lem, rule_fine, truth_false, truth_true, valid_after, command, expression, Valued, Carried, sound, is_op, is_first, is_second}
use Rattle.execute.specs.Commands.{ran_told, Commanded, entered_run, Entered}

module _ {t start : List ℕ} {row : ℕ} (g : Commanded t start row) where
  abbrev R : Routine
  R = g.rows.routine

  abbrev M : List ℕ
  M = g.rows.marking

  abbrev H : List Home
  H = g.homes.list

  abbrev X : Command
  X = R.command row

  abbrev P : ℕ
  P = R.command_place row

  abbrev at : List ℕ → State
  at l = state g.homes l

  -- The turns from memory l on, with fuel f; n bounds their number.
  abbrev pub from : ℕ → List ℕ → ℕ → Runs
  from n l f = (turns n P (λ w f₁. eval R M w (first_for X) f₁) (λ w f₁. exec R M w (second_for X) f₁) (at l) f).answer

  -- The row is entered again.
  abbrev Again : ℕ → State → ℕ → Runs
  Again n w f = entry (halted w) P f λ f₁. (turns n P (λ w f₁. eval R M w (first_for X) f₁) (λ w f₁. exec R M w (second_for X) f₁) w f₁).answer

  -- Memory l and this fuel are where the while comes to.
  pub record Turned (fuel : ℕ) (l : List ℕ) (left : ℕ) : Type 0 where
    pub bound : ℕ
    pub more : left < bound
    pub same : from (suc fuel) start fuel ≡ from bound l left
    pub valid : ValidState g.rows.routine g.rows.marking (state g.homes l)

  pub turned_start : (fuel : ℕ) → Turned fuel start fuel
  turned_start fuel = record { bound = suc fuel; more = omega arith; same = refl; valid = g.valid }

  module _ {w : ℕ} (y : Entered t start row w op_while) (fuel : ℕ) where
    whole : entered_run g fuel ≡ from (suc fuel) start fuel
    whole = while_row R M (λ w a f₁. exec R M w a f₁) P (at start) fuel X (is_op g y)

    pub names : (first_for X < R.exprs) × (second_for X < row)
    names = while_early R M row X (g.rows.formed.commands row g.inside).0 (is_op g y)

    module _ (l : List ℕ) (left : ℕ) (turned : Turned fuel l left) (a : ℕ) (i : a ≡ a_in w) where
      abbrev pub test_asked : Asked t l a
      test_asked = expression g l turned.valid a (rw (← is_first g y a i) names.0)

      abbrev Next : ℕ → Value → ℕ → Runs
      Next n v f₁ =
          rule (halted (at l)) P f₁ (truth v) λ t.
          choose t (λ _. ended (exec R M (at l) (second_for X) f₁).answer λ w₂ f₂. Again n w₂ f₂) (λ _. done (at l) f₁)

      bounded : (n : ℕ) → left < n → suc (n - 1) ≡ n
      bounded n h = omega arith

      at_test : entered_run g fuel ≡ value (halted (at l)) (eval R M (at l) a left).answer (λ v f₁. Next (turned.bound - 1) v f₁)
      at_test =
          whole ∙ turned.same
          ∙ ap (λ n. from n l left) (sym (bounded turned.bound turned.more))
          ∙ turn_answer (turned.bound - 1) P (λ w f₁. eval R M w (first_for X) f₁) (λ w f₁. exec R M w (second_for X) f₁) (at l) left
          ∙ ap (λ k. value (halted (at l)) (eval R M (at l) k left).answer (λ v f₁. Next (turned.bound - 1) v f₁)) (is_first g y a i)

      module _ (x : Result Got Stop) (right : Valued t l a left x) where
        pub loop_stops : (s : Stop) (r : Result ℕ Stop) → x ≡ Err s → r ≡ Err s → ran_told g.rows.routine g.homes.list r l ≡ entered_run g fuel
        loop_stops s r h q =
            ap (λ s. ran_told R H s l) q ∙ stop_told_lem R H l x s (λ v f₁. Next (turned.bound - 1) v f₁) h ∙ rw (right test_asked, at_test)

        module _ (v : Got) (d : x ≡ Ok v) (n : ℕ) (j : n ≡ number_of v.value) where
          test_gave : (eval R M (at l) a left).answer ≡ got v.value v.left
          test_gave = sym (right test_asked) ∙ ap (told R) d

          past_test : entered_run g fuel ≡ Next (turned.bound - 1) v.value v.left
          past_test = at_test ∙ rw test_gave

          test_fine : Fine (truth v.value)
          test_fine = rule_fine (at l) P v.left (truth v.value) _ (rw past_test at (sound g fuel))

          pub loop_ends : n ≡ 0 → ran_told g.rows.routine g.homes.list (Ok v.left) l ≡ entered_run g fuel
          loop_ends z = rw (past_test, truth_false v.value test_fine (sym j ∙ z))

          module _ (z : n ≡ 0 → ⊥) (b : ℕ) (k : b ≡ b_in w) where
            pub body_before : b < row
            body_before = rw (← is_second g y b k) names.1

            abbrev pub body_asked : Commanded t l b
            body_asked = command g l turned.valid b body_before

            at_body : entered_run g fuel ≡ ended (exec R M (at l) b v.left).answer λ w₂ f₂. Again (turned.bound - 1) w₂ f₂
            at_body = past_test ∙ rw (truth_true v.value test_fine (λ q. z (j ∙ q)), is_second g y b k)

            module _ (u : Result ℕ Stop) (l₂ : List ℕ) (right₂ : Carried t l b v.left u l₂) where
              pub loop_breaks : (s : Stop) (r : Result ℕ Stop) → u ≡ Err s → r ≡ Err s → ran_told g.rows.routine g.homes.list r l₂ ≡ entered_run g fuel
              loop_breaks s r h q = ap (λ s. ran_told R H s l₂) q ∙ ran_told_lem R H l₂ u s (λ w₂ f₂. Again (turned.bound - 1) w₂ f₂) h ∙ rw (right₂ body_asked, at_body)

              module _ (f₂ : ℕ) (d₂ : u ≡ Ok f₂) where
                body_gave : (exec R M (at l) b v.left).answer ≡ done (at l₂) f₂
                body_gave = sym (right₂ body_asked) ∙ ap (λ s. ran_told R H s l₂) d₂

                past_body : entered_run g fuel ≡ entry (halted (at l₂)) P f₂ λ f₃. from (turned.bound - 1) l₂ f₃
                past_body = at_body ∙ rw body_gave

                pub loop_dry : f₂ ≡ 0 → ran_told g.rows.routine g.homes.list (Err (record { row = 1024 + row; cause = Fuel })) l₂ ≡ entered_run g fuel
                loop_dry q = rw (past_body, q, command_place_lem g.rows.routine row)

                -- Fuel falls.
                falls : f₂ ≤ left
                falls =
                    let p : left_of (eval R M (at l) a left).answer ≤ left = omega (arith, (eval_spends R M (at l) (suc a) a left).by) in
                    let q : left_after (exec R M (at l) b v.left).answer ≤ v.left = omega (arith, (exec_spends R M (suc b) (at l) b v.left).by) in
                    let s : v.left ≤ left = rw test_gave at p in
                    let r : f₂ ≤ v.left = rw body_gave at q in
                    omega arith

                pub loop_less : (f₂ ≡ 0 → ⊥) → f₂ - 1 < left
                loop_less q = omega (arith, falls, q)

                pub loop_again : (f₂ ≡ 0 → ⊥) → Turned fuel l₂ (f₂ - 1)
                loop_again q =
                    record {
                      bound = turned.bound - 1;
                      more = omega (arith, falls, q, turned.more);
                      same = sym whole ∙ past_body ∙ entered f₂ q;
                      valid = valid_after body_asked v.left l₂ f₂ body_gave;
                    }
                  where
                    entered : (f : ℕ) → (f ≡ 0 → ⊥) → (entry (halted (at l₂)) P f λ f₃. from (turned.bound - 1) l₂ f₃) ≡ from (turned.bound - 1) l₂ (f - 1)
                    entered zero q = absurd (q refl)
                    entered (suc f) q = rw (sub-one (suc f))
