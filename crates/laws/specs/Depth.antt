-- The equations of expressions and commands with no bound in them: what code is held to. The rows that a row names come before it.
use Rattle.std.specs.Prelude.{◌≡◌, refl, ℕ, zero, suc, ◌<◌, List}
use Rattle.std.proofs.Common.{ap, not-suc-le-zero, arith}
use Rattle.std.proofs.Math.Path.{fun_ext}
use Rattle.rules.specs.declared.Value.{Value}
use Rattle.rules.specs.Steps.{Told}
use Rattle.rules.specs.Table.{Expr, Command, Routine, literal, home, cast, null, sum, read, op, skip, then, store, if_else, while}
use Rattle.rules.specs.Memory.{State}
use Rattle.rules.specs.Run.{Stop, Answer, stopped, Ran, halted, and_then, enter, afterwards, turns, expr_row, eval_below, eval, command_row, exec_below, exec}
use Rattle.laws.specs.Formed.{Fits, CommandFits, Formed}

pub then_same : {X : Type 0} (stop : Stop → X) {x y : Told Answer} {k l : Value → ℕ → Told X} → x ≡ y → ((v : Value) (f : ℕ) → k v f ≡ l v f) → and_then stop x k ≡ and_then stop y l
then_same stop {k = k} {l = l} p q = let e : k ≡ l = fun_ext (λ v. fun_ext (λ f. q v f)) in rw (p, e)

pub on_same : {x y : Told Ran} {k l : State → ℕ → Told Ran} → x ≡ y → ((w : State) (f : ℕ) → k w f ≡ l w f) → afterwards x k ≡ afterwards y l
on_same {k = k} {l = l} p q = let e : k ≡ l = fun_ext (λ w. fun_ext (λ f. q w f)) in rw (p, e)

pub enter_same : {X : Type 0} (stop : Stop → X) (p f : ℕ) {k l : ℕ → Told X} → ((f₁ : ℕ) → k f₁ ≡ l f₁) → enter stop p f k ≡ enter stop p f l
enter_same stop p f q = ap (enter stop p f) (fun_ext q)

module _ (r : Routine) (m : List ℕ) where
  row_same : (w : State) {e : ℕ} (p : ℕ) {ev ev' : ℕ → ℕ → Told Answer} → ((a f : ℕ) → a < e → ev a f ≡ ev' a f)
      → (x : Expr) (f : ℕ) → Fits r e x → expr_row r m w ev p x f ≡ expr_row r m w ev' p x f
  row_same w p h (literal n) f t = refl
  row_same w p h (home g) f t = refl
  row_same w p h (cast a b) f t = then_same stopped (h a f t.0) (λ v f₁. refl)
  row_same w p h (null b) f t = refl
  row_same w p h (sum a b) f t = then_same stopped (h a f t.0) (λ v f₁. then_same stopped (h b f₁ t.1) (λ n f₂. refl))
  row_same w p h (read a) f t = then_same stopped (h a f t) (λ v f₁. refl)
  row_same w p h (op o a b) f t = then_same stopped (h a f t.0) (λ v f₁. then_same stopped (h b f₁ t.1) (λ n f₂. refl))
  row_same w p h Expr.none f t = refl

  command_same : {c : ℕ} (p : ℕ) {ex ex' : State → ℕ → ℕ → Told Ran} → ((w : State) (a f : ℕ) → a < c → ex w a f ≡ ex' w a f)
      → (x : Command) (w : State) (f : ℕ) → CommandFits r c x → command_row r m ex p x w f ≡ command_row r m ex' p x w f
  command_same p h skip w f t = refl
  command_same p h (then a b) w f t = on_same (h w a f t.0) (λ w₁ f₁. h w₁ b f₁ t.1)
  command_same p h (store a b) w f t = refl
  command_same p {ex} {ex'} h (if_else a b c) w f t = then_same (halted w) refl (λ v f₁. rw (h w b f₁ t.1, h w c f₁ t.2))
  command_same p {ex} {ex'} h (while a b) w f t =
      ap (λ body. turns (suc f) p (λ w₁ f₁. eval r m w₁ a f₁) body w f) (fun_ext (λ w₁. fun_ext (λ f₁. h w₁ b f₁ t.1)))
  command_same p h Command.none w f t = refl

module _ {r : Routine} (formed : Formed r) (m : List ℕ) where
  pub depth : (w : State) (d d' e f : ℕ) → e < r.exprs → e < d → e < d' → eval_below r m w d e f ≡ eval_below r m w d' e f
  depth w zero d' e f l h h' = absurd (not-suc-le-zero h)
  depth w (suc d) zero e f l h h' = absurd (not-suc-le-zero h')
  depth w (suc d) (suc d') e f l h h' =
      enter_same stopped (r.expr_place e) f (λ f₁.
      row_same r m w (r.expr_place e) (λ a f₂ k. depth w d d' a f₂ (omega arith) (omega arith) (omega arith)) (r.expr e) f₁ (formed.exprs e l).0)

  pub eval_row : (w : State) (e f : ℕ) → e < r.exprs
      → eval r m w e f ≡ enter stopped (r.expr_place e) f λ f₁. expr_row r m w (λ a f₂. eval r m w a f₂) (r.expr_place e) (r.expr e) f₁
  eval_row w e f l =
      enter_same stopped (r.expr_place e) f (λ f₁.
      row_same r m w (r.expr_place e) (λ a f₂ k. depth w e (suc a) a f₂ (omega arith) k (omega arith)) (r.expr e) f₁ (formed.exprs e l).0)

  command_depth : (d d' c : ℕ) (w : State) (f : ℕ) → c < r.commands → c < d → c < d' → exec_below r m d w c f ≡ exec_below r m d' w c f
  command_depth zero d' c w f l h h' = absurd (not-suc-le-zero h)
  command_depth (suc d) zero c w f l h h' = absurd (not-suc-le-zero h')
  command_depth (suc d) (suc d') c w f l h h' =
      enter_same (halted w) (r.command_place c) f (λ f₁.
      command_same r m (r.command_place c) (λ w₁ a f₂ k. command_depth d d' a w₁ f₂ (omega arith) (omega arith) (omega arith)) (r.command c) w f₁
      (formed.commands c l).0)

  pub exec_row : (w : State) (c f : ℕ) → c < r.commands
      → exec r m w c f ≡ enter (halted w) (r.command_place c) f λ f₁. command_row r m (λ w₁ a f₂. exec r m w₁ a f₂) (r.command_place c) (r.command c) w f₁
  exec_row w c f l =
      enter_same (halted w) (r.command_place c) f (λ f₁.
      command_same r m (r.command_place c) (λ w₁ a f₂ k. command_depth c (suc a) a w₁ f₂ (omega arith) k (omega arith)) (r.command c) w f₁
      (formed.commands c l).0)
