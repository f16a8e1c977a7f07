-- A stop's place is the place of a row.
use Prim.Native.Nat.{ℕ, zero, suc, ◌<◌}
use native.Mathlib.Nat.{not-suc-le-zero, le_refl}
use native.Mathlib.Omega.{arith}
use mathlib.Core.List.{List}
use Rattle.rules.specs.declared.Value.{Value}
use Rattle.rules.specs.Steps.{Told}
use Rattle.rules.specs.Table.{Expr, Command, Routine, literal, home, cast, null, sum, read, op, skip, then, store, if_else, while}
use Rattle.rules.specs.Memory.{State, cell}
use Rattle.rules.specs.Ruled.{Ruled, gives, fails, stuck}
use Rattle.rules.specs.Shape.{type_of}
use Rattle.rules.specs.Kinds.{kind}
use Rattle.rules.specs.Values.{convert, moved, fetched, operated}
use Rattle.rules.specs.Run.{Stop, no_fuel, failed, no_rule, Answer, got, stopped, Ran, done, halted, on_value, and_then, ruled, enter, on_done, afterwards, answered, turns, expr_row, eval_below, eval, command_row, exec_below, exec}
use Rattle.rules.specs.Tests.{by_test}
use Rattle.laws.specs.Formed.{Fits, CommandFits, Formed}

abbrev pub place_in : Stop → ℕ
place_in (no_fuel p) = p
place_in (failed c p f) = p
place_in (no_rule p f) = p

module _ (P : ℕ → Type 0) where
  abbrev ValueAt : Answer → Type 0
  ValueAt (got v f) = Unit {0}
  ValueAt (stopped s) = P (place_in s)

  abbrev pub RanAt : Ran → Type 0
  RanAt (done w f) = Unit {0}
  RanAt (halted w s) = P (place_in s)

  -- Stops are passed upward by `stop`.
  module _ {X : Type 0} (Q : X → Type 0) (stop : Stop → X) (stops : (s : Stop) → P (place_in s) → Q (stop s)) where
    then_at : (x : Told Answer) (k : Value → ℕ → Told X) → ValueAt x.answer → ((v : Value) (f : ℕ) → Q (k v f).answer) → Q (and_then stop x k).answer
    unfolding and_then
    then_at x k h i = go x.answer h
      where
        go : (a : Answer) → ValueAt a → Q (on_value stop a k).answer
        go (got v f) y = i v f
        go (stopped s) y = stops s y

    ruled_at : {Y : Type 0} (p f : ℕ) (u : Ruled Y) (k : Y → Told X) → P p → ((y : Y) → Q (k y).answer) → Q (ruled stop p f u k).answer
    unfolding ruled
    ruled_at p f (gives y) k h i = i y
    ruled_at p f (fails c) k h i = stops (failed c p f) h
    ruled_at p f stuck k h i = stops (no_rule p f) h

    enter_at : (p f : ℕ) (k : ℕ → Told X) → P p → ((f₁ : ℕ) → Q (k f₁).answer) → Q (enter stop p f k).answer
    unfolding enter
    enter_at p zero k h i = stops (no_fuel p) h
    enter_at p (suc f) k h i = i f

  on_at : (x : Told Ran) (k : State → ℕ → Told Ran) → RanAt x.answer → ((w : State) (f : ℕ) → RanAt (k w f).answer) → RanAt (afterwards x k).answer
  unfolding afterwards
  on_at x k h i = go x.answer h
    where
      go : (a : Ran) → RanAt a → RanAt (on_done a k).answer
      go (done w f) y = i w f
      go (halted w s) y = y

  answered_at : (p f : ℕ) (u : Ruled Value) → P p → ValueAt (answered p f u)
  answered_at p f (gives v) h = tt
  answered_at p f (fails c) h = h
  answered_at p f stuck h = h

  module _ {r : Routine} (m : List ℕ) (formed : Formed r) (exprs : (e : ℕ) → e < r.exprs → P (r.expr_place e)) (commands : (c : ℕ) → c < r.commands → P (r.command_place c)) where
    module _ (w : State) where
      row_at : (p e : ℕ) (ev : ℕ → ℕ → Told Answer) (x : Expr) (f : ℕ) → P p → Fits r e x → ((a f : ℕ) → a < e → ValueAt (ev a f).answer) → ValueAt (expr_row r m w ev p x f).answer
      row_at p e ev (literal n) f h y i = tt
      row_at p e ev (home g) f h y i = tt
      row_at p e ev (cast a t) f h y i = then_at ValueAt stopped (λ s q. q) (ev a f) _ (i a f y.0) (λ v f₁. answered_at p f₁ (convert w (kind m t) v) h)
      row_at p e ev (null t) f h y i = tt
      row_at p e ev (sum a b) f h y i =
          then_at ValueAt stopped (λ s q. q) (ev a f) _ (i a f y.0) (λ v f₁.
          then_at ValueAt stopped (λ s q. q) (ev b f₁) _ (i b f₁ y.1) (λ n f₂. answered_at p f₂ (moved v n) h))
      row_at p e ev (read a) f h y i =
          then_at ValueAt stopped (λ s q. q) (ev a f) _ (i a f y) (λ v f₁.
          ruled_at ValueAt stopped (λ s q. q) p f₁ _ _ h (λ c. answered_at p f₁ (fetched w (kind m (type_of r a)) (kind m (r.target (type_of r a))) (cell w c)) h))
      row_at p e ev (op o a b) f h y i =
          then_at ValueAt stopped (λ s q. q) (ev a f) _ (i a f y.0) (λ v f₁.
          then_at ValueAt stopped (λ s q. q) (ev b f₁) _ (i b f₁ y.1) (λ n f₂. answered_at p f₂ (operated o v n) h))
      row_at p e ev Expr.none f h y i = h

      eval_at : (d e f : ℕ) → e < d → e < r.exprs → ValueAt (eval_below r m w d e f).answer
      eval_at zero e f h l = absurd (not-suc-le-zero h)
      eval_at (suc d) e f h l =
          enter_at ValueAt stopped (λ s q. q) (r.expr_place e) f _ (exprs e l) (λ f₁.
          row_at (r.expr_place e) e _ (r.expr e) f₁ (exprs e l) (formed.exprs e l).0 (λ a f₂ k. eval_at d a f₂ (omega arith) (omega arith)))

    turns_at : (p : ℕ) (test : State → ℕ → Told Answer) (body : State → ℕ → Told Ran) → P p → ((w : State) (f : ℕ) → ValueAt (test w f).answer)
        → ((w : State) (f : ℕ) → RanAt (body w f).answer) → (n : ℕ) (w : State) (f : ℕ) → RanAt (turns n p test body w f).answer
    turns_at p test body h t b zero w f = h
    turns_at p test body h t b (suc n) w f =
        then_at RanAt (halted w) (λ s q. q) (test w f) _ (t w f) (λ v f₁.
        ruled_at RanAt (halted w) (λ s q. q) p f₁ _ _ h (λ c.
        by_test (λ (x : Told Ran). RanAt x.answer) c _ _
        (λ _. on_at (body w f₁) _ (b w f₁) (λ w₂ f₂. enter_at RanAt (halted w₂) (λ s q. q) p f₂ _ h (λ f₃. turns_at p test body h t b n w₂ f₃)))
        (λ _. tt)))

    command_at_lem : (p c : ℕ) (ex : State → ℕ → ℕ → Told Ran) (x : Command) (w : State) (f : ℕ) → P p → CommandFits r c x
        → ((w : State) (a f : ℕ) → a < c → RanAt (ex w a f).answer) → RanAt (command_row r m ex p x w f).answer
    command_at_lem p c ex skip w f h y i = tt
    command_at_lem p c ex (then a b) w f h y i = on_at (ex w a f) _ (i w a f y.0) (λ w₁ f₁. i w₁ b f₁ y.1)
    command_at_lem p c ex (store a b) w f h y i =
        then_at RanAt (halted w) (λ s q. q) _ _ (eval_at w (suc a) a f (le_refl (suc a)) y.0) (λ v f₁.
        ruled_at RanAt (halted w) (λ s q. q) p f₁ _ _ h (λ d.
        then_at RanAt (halted w) (λ s q. q) _ _ (eval_at w (suc b) b f₁ (le_refl (suc b)) y.1) (λ u f₂.
        ruled_at RanAt (halted w) (λ s q. q) p f₂ _ _ h (λ z. tt))))
    command_at_lem p c ex (if_else a b d) w f h y i =
        then_at RanAt (halted w) (λ s q. q) _ _ (eval_at w (suc a) a f (le_refl (suc a)) y.0) (λ v f₁.
        ruled_at RanAt (halted w) (λ s q. q) p f₁ _ _ h (λ t.
        by_test (λ (x : Told Ran). RanAt x.answer) t _ _ (λ _. i w b f₁ y.1) (λ _. i w d f₁ y.2)))
    command_at_lem p c ex (while a b) w f h y i =
        turns_at p (λ w₁ f₁. eval r m w₁ a f₁) (λ w₁ f₁. ex w₁ b f₁) h (λ w₁ f₁. eval_at w₁ (suc a) a f₁ (le_refl (suc a)) y.0) (λ w₁ f₁. i w₁ b f₁ y.1) (suc f) w f
    command_at_lem p c ex Command.none w f h y i = h

    exec_below_lem : (d c : ℕ) (w : State) (f : ℕ) → c < d → c < r.commands → RanAt (exec_below r m d w c f).answer
    exec_below_lem zero c w f h l = absurd (not-suc-le-zero h)
    exec_below_lem (suc d) c w f h l =
        enter_at RanAt (halted w) (λ s q. q) (r.command_place c) f _ (commands c l) (λ f₁.
        command_at_lem (r.command_place c) c _ (r.command c) w f₁ (commands c l) (formed.commands c l).0 (λ w₁ a f₂ k. exec_below_lem d a w₁ f₂ (omega arith) (omega arith)))

    pub exec_at : (c : ℕ) (w : State) (f : ℕ) → c < r.commands → RanAt (exec r m w c f).answer
    exec_at c w f l = exec_below_lem (suc c) c w f (le_refl (suc c)) l
