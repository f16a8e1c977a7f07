-- The rows that a run enters are the fuel that it spends: for every routine, accepted or not.
use Rattle.rules.specs.declared.Value.{Value}
use Rattle.rules.specs.Run.{Stop, no_fuel, Answer, got, stopped, on_value, and_then, ruled, enter, answered, expr_row, eval_below, Ran, done, halted, on_done, afterwards, turns, command_row, exec_below}
use Rattle.rules.specs.Steps.{Step, entered, looked, stored, Told, quiet, after, units}
use Rattle.rules.specs.Table.{Expr, Command, Routine, literal, home, cast, null, sum, read, op, skip, then, store, if_else, while}
use Rattle.rules.specs.Shape.{type_of}
use Rattle.rules.specs.Kinds.{kind}
use Rattle.rules.specs.Memory.{State, cell}
use Rattle.rules.specs.Ruled.{Ruled, gives, fails, stuck}
use Rattle.rules.specs.Values.{convert, moved, reach, fetched, operated}
use Rattle.std.specs.Prelude.{◌≡◌, List, [], ◌∷◌, ◌++◌}
use Prim.Native.Nat.{ℕ, zero, suc, ◌+◌, ◌≤◌, ◌<◌}
use Rattle.std.proofs.Common.{not-suc-le-zero, arith}
use Rattle.rules.specs.Ends.{left_at, left_after}
use Rattle.rules.specs.Tests.{by_test}

abbrev pub left_of : Answer → ℕ
left_of (got v f₀) = f₀
left_of (stopped s) = left_at s

-- Of fuel f, what the steps do not account for is left.
pub record Spends {X : Type 0} (left : X → ℕ) (f : ℕ) (x : Told X) : Type 0 where
  pub by : units x.steps + left x.answer ≡ f

units_append : (l k : List Step) → units (l ++ k) ≡ units l + units k
units_append [] k = omega arith
units_append (entered p ∷ l) k = omega (arith, units_append l k)
units_append (looked p v a ∷ l) k = units_append l k
units_append (stored p v a x ∷ l) k = units_append l k

spends_after : {X : Type 0} {left : X → ℕ} {f f₁ : ℕ} {y : Told X} (l : List Step) → units l + f₁ ≡ f → Spends left f₁ y → Spends left f (after l y)
spends_after {y = y} l e h = record { by = rw (units_append l y.steps) (omega (arith, h.by)) }

spends_answered : (p f : ℕ) (u : Ruled Value) → Spends left_of f (quiet (answered p f u))
spends_answered p f (gives v) = record { by = omega arith }
spends_answered p f (fails c) = record { by = omega arith }
spends_answered p f stuck = record { by = omega arith }

spends_done : {w : State} {f : ℕ} → Spends left_after f (quiet (done w f))
spends_done = record { by = omega arith }

expr_stop : (s : Stop) → Spends left_of (left_at s) (quiet (stopped s))
expr_stop s = record { by = omega arith }

command_stop : {w : State} (s : Stop) → Spends left_after (left_at s) (quiet (halted w s))
command_stop s = record { by = omega arith }

-- Stops are passed upward by `stop`.
module _ {X : Type 0} {left : X → ℕ} {stop : Stop → X} (stops : (s : Stop) → Spends left (left_at s) (quiet (stop s))) where
  spends_then : {f : ℕ} {x : Told Answer} {k : Value → ℕ → Told X} → Spends left_of f x → ((v : Value) (f₁ : ℕ) → f₁ ≤ f → Spends left f₁ (k v f₁))
      → Spends left f (and_then stop x k)
  unfolding and_then
  spends_then {f} {x} {k} h i = spends_after x.steps h.by (go x.answer h.by)
    where
      go : (a : Answer) → units x.steps + left_of a ≡ f → Spends left (left_of a) (on_value stop a k)
      go (got v f₀) e = i v f₀ (omega arith)
      go (stopped s) e = stops s

  spends_ruled : {Y : Type 0} {k : Y → Told X} (p f : ℕ) (u : Ruled Y) → ((y : Y) → Spends left f (k y)) → Spends left f (ruled stop p f u k)
  unfolding ruled
  spends_ruled p f (gives y) h = h y
  spends_ruled p f (fails c) h = stops _
  spends_ruled p f stuck h = stops _

  spends_enter : {k : ℕ → Told X} (p f : ℕ) → ((f₁ : ℕ) → f₁ < f → Spends left f₁ (k f₁)) → Spends left f (enter stop p f k)
  unfolding enter
  spends_enter p zero h = stops (no_fuel p)
  spends_enter p (suc f) h = spends_after (entered p ∷ []) (omega arith) (h f (omega arith))

spends_on : {f : ℕ} {x : Told Ran} {k : State → ℕ → Told Ran} → Spends left_after f x → ((w : State) (f₁ : ℕ) → f₁ ≤ f → Spends left_after f₁ (k w f₁))
    → Spends left_after f (afterwards x k)
unfolding afterwards
spends_on {f} {x} {k} h i = spends_after x.steps h.by (go x.answer h.by)
  where
    go : (a : Ran) → units x.steps + left_after a ≡ f → Spends left_after (left_after a) (on_done a k)
    go (done w g) e = i w g (omega arith)
    go (halted w s) e = command_stop s

module _ (r : Routine) (m : List ℕ) where
  row_spends : (w : State) {ev : ℕ → ℕ → Told Answer} → ((a f : ℕ) → Spends left_of f (ev a f)) → (p : ℕ) (x : Expr) (f : ℕ) → Spends left_of f (expr_row r m w ev p x f)
  row_spends w h p (literal n) f = spends_answered p f (gives _)
  row_spends w h p (home g) f = spends_answered p f (gives _)
  row_spends w h p (cast a t) f = spends_then expr_stop (h a f) (λ v f₁ l. spends_answered p f₁ (convert w (kind m t) v))
  row_spends w h p (null t) f = spends_answered p f (gives _)
  row_spends w h p (sum a b) f =
      spends_then expr_stop (h a f) (λ v f₁ l. spends_then expr_stop (h b f₁) (λ n f₂ k. spends_answered p f₂ (moved v n)))
  row_spends w h p (read a) f =
      spends_then expr_stop (h a f) (λ v f₁ l. spends_ruled expr_stop p f₁ (reach w (kind m (type_of r a)) v) (λ c.
      spends_after (looked p v c ∷ []) (omega arith) (spends_answered p f₁ (fetched w (kind m (type_of r a)) (kind m (r.target (type_of r a))) (cell w c)))))
  row_spends w h p (op o a b) f =
      spends_then expr_stop (h a f) (λ v f₁ l. spends_then expr_stop (h b f₁) (λ n f₂ k. spends_answered p f₂ (operated o v n)))
  row_spends w h p Expr.none f = spends_answered p f stuck

  pub eval_spends : (w : State) (d e f : ℕ) → Spends left_of f (eval_below r m w d e f)
  eval_spends w zero e f = spends_answered _ f stuck
  eval_spends w (suc d) e f =
      spends_enter expr_stop (r.expr_place e) f (λ f₁ l. row_spends w (λ a f₂. eval_spends w d a f₂) (r.expr_place e) (r.expr e) f₁)

  turns_spends : (p : ℕ) {test : State → ℕ → Told Answer} {body : State → ℕ → Told Ran} → ((w : State) (f : ℕ) → Spends left_of f (test w f))
      → ((w : State) (f : ℕ) → Spends left_after f (body w f)) → (n : ℕ) (w : State) (f : ℕ) → f < n → Spends left_after f (turns n p test body w f)
  turns_spends p t b zero w f l = absurd (not-suc-le-zero l)
  turns_spends p t b (suc n) w f l =
      spends_then command_stop (t w f) (λ v f₁ l₁.
      spends_ruled command_stop p f₁ _ (λ c.
      by_test (Spends left_after f₁) c _ _
      (λ _. spends_on (b w f₁) (λ w₂ f₂ l₂. spends_enter command_stop p f₂ (λ f₃ l₃. turns_spends p t b n w₂ f₃ (omega arith))))
      (λ _. spends_done)))

  command_spends : {ex : State → ℕ → ℕ → Told Ran} → ((w : State) (a f : ℕ) → Spends left_after f (ex w a f))
      → (p : ℕ) (x : Command) (w : State) (f : ℕ) → Spends left_after f (command_row r m ex p x w f)
  command_spends h p skip w f = spends_done
  command_spends h p (then a b) w f = spends_on (h w a f) (λ w₁ f₁ l. h w₁ b f₁)
  command_spends h p (store a b) w f =
      spends_then command_stop (eval_spends w (suc a) a f) (λ v f₁ l. spends_ruled command_stop p f₁ _ (λ c.
      spends_then command_stop (eval_spends w (suc b) b f₁) (λ x f₂ k. spends_ruled command_stop p f₂ _ (λ y. record { by = omega arith }))))
  command_spends h p (if_else a b c) w f =
      spends_then command_stop (eval_spends w (suc a) a f) (λ v f₁ l. spends_ruled command_stop p f₁ _ (λ t.
      by_test (Spends left_after f₁) t _ _ (λ _. h w b f₁) (λ _. h w c f₁)))
  command_spends h p (while a b) w f = turns_spends p (λ w₁ f₁. eval_spends w₁ (suc a) a f₁) (λ w₁ f₁. h w₁ b f₁) (suc f) w f (omega arith)
  command_spends h p Command.none w f = command_stop _

  pub exec_spends : (d : ℕ) (w : State) (c f : ℕ) → Spends left_after f (exec_below r m d w c f)
  exec_spends zero w c f = command_stop _
  exec_spends (suc d) w c f =
      spends_enter command_stop (r.command_place c) f (λ f₁ l. command_spends (λ w₁ a f₂. exec_spends d w₁ a f₂) (r.command_place c) (r.command c) w f₁)
