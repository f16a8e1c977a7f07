-- A run: expressions, commands, the whole (RULES 6).
use Rattle.std.specs.Prelude.{ℕ, zero, suc, ◌-◌, List}
use Rattle.rules.specs.declared.Value.{Value}
use Rattle.rules.specs.declared.Value.TheVariants.{Number}
use Rattle.rules.specs.Basic.{choose}
use Rattle.rules.specs.Table.{Expr, Command, Routine, literal, home, cast, null, sum, read, op, skip, then, store, if_else, while}
use Rattle.rules.specs.Shape.{home_at, type_of}
use Rattle.rules.specs.Kinds.{kind}
use Rattle.rules.specs.Steps.{entered, looked, stored, Told, quiet, after, tell}
use Rattle.rules.specs.Memory.{State, cell, put}
use Rattle.rules.specs.declared.Check.{Check}
use Rattle.rules.specs.Ruled.{Ruled, gives, fails, stuck}
use Rattle.rules.specs.Start.{start}
use Rattle.rules.specs.Values.{convert, home_value, null_value, moved, operated, truth, reach, fetched, kept}

-- ---- answers

-- What stops a run before its end, and the fuel left: no fuel for the row at a place; a check of the row at a place; no rule.
pub data Stop : Type 0 where
  no_fuel : ℕ → Stop
  failed : Check → ℕ → ℕ → Stop
  no_rule : ℕ → ℕ → Stop

-- An expression's value with the fuel left, or a stop.
pub data Answer : Type 0 where
  got : Value → ℕ → Answer
  stopped : Stop → Answer

-- A command's end: the state, with the fuel left or the stop.
pub data Ran : Type 0 where
  done : State → ℕ → Ran
  halted : State → Stop → Ran

-- ---- taking answers apart. `stop` is how a stop is passed upward. These are shut: laws speak of them by name.

abbrev pub on_value : {X : Type 0} → (Stop → X) → Answer → (Value → ℕ → Told X) → Told X
on_value stop (got v f) k = k v f
on_value stop (stopped s) k = quiet (stop s)

unfoldable pub and_then : {X : Type 0} → (Stop → X) → Told Answer → (Value → ℕ → Told X) → Told X
and_then stop x k = after x.steps (on_value stop x.answer k)

-- A rule of the row at place p, with fuel f left.
unfoldable pub ruled : {X Y : Type 0} → (Stop → X) → ℕ → ℕ → Ruled Y → (Y → Told X) → Told X
ruled stop p f (gives y) k = k y
ruled stop p f (fails c) k = quiet (stop (failed c p f))
ruled stop p f stuck k = quiet (stop (no_rule p f))

-- RULES 6.1: the row at place p is entered for one unit. With no fuel left it is not.
unfoldable pub enter : {X : Type 0} → (Stop → X) → ℕ → ℕ → (ℕ → Told X) → Told X
enter stop p zero k = quiet (stop (no_fuel p))
enter stop p (suc f) k = tell (entered p) (k f)

abbrev pub on_done : Ran → (State → ℕ → Told Ran) → Told Ran
on_done (done w f) k = k w f
on_done (halted w s) k = quiet (halted w s)

unfoldable pub afterwards : Told Ran → (State → ℕ → Told Ran) → Told Ran
afterwards x k = after x.steps (on_done x.answer k)

-- An expression row's answer by its rule.
abbrev pub answered : ℕ → ℕ → Ruled Value → Answer
answered p f (gives v) = got v f
answered p f (fails c) = stopped (failed c p f)
answered p f stuck = stopped (no_rule p f)

-- ---- expressions (RULES 6.2)

module _ (r : Routine) (m : List ℕ) where
  -- A row that has been entered; `ev` evaluates earlier rows.
  abbrev pub expr_row : State → (ℕ → ℕ → Told Answer) → ℕ → Expr → ℕ → Told Answer
  expr_row w ev p (literal n) f = quiet (got (Number n) f)
  expr_row w ev p (home g) f = quiet (got (home_value w (kind m (home_at r.homes g).type) g) f)
  expr_row w ev p (cast a t) f = and_then stopped (ev a f) λ v f₁. quiet (answered p f₁ (convert w (kind m t) v))
  expr_row w ev p (null t) f = quiet (got (null_value (kind m t)) f)
  expr_row w ev p (sum a b) f =
      and_then stopped (ev a f) λ v f₁.
      and_then stopped (ev b f₁) λ n f₂.
      quiet (answered p f₂ (moved v n))
  expr_row w ev p (read a) f =
      and_then stopped (ev a f) λ v f₁.
      ruled stopped p f₁ (reach w (kind m (type_of r a)) v) λ c.
      tell (looked p v c) (quiet (answered p f₁ (fetched w (kind m (type_of r a)) (kind m (r.target (type_of r a))) (cell w c))))
  expr_row w ev p (op o a b) f =
      and_then stopped (ev a f) λ x f₁.
      and_then stopped (ev b f₁) λ y f₂.
      quiet (answered p f₂ (operated o x y))
  expr_row w ev p Expr.none f = quiet (stopped (no_rule p f))

  -- Counted down: right for rows below d.
  abbrev pub eval_below : State → ℕ → ℕ → ℕ → Told Answer
  eval_below w zero e f = quiet (stopped (no_rule (r.expr_place e) f))
  eval_below w (suc d) e f =
      enter stopped (r.expr_place e) f λ f₁. expr_row w (λ a f₂. eval_below w d a f₂) (r.expr_place e) (r.expr e) f₁

  abbrev pub eval : State → ℕ → ℕ → Told Answer
  eval w e f = eval_below w (suc e) e f

-- ---- commands (RULES 6.3)

-- The turns of a while whose row has just been entered; n bounds their number.
abbrev pub turns : ℕ → ℕ → (State → ℕ → Told Answer) → (State → ℕ → Told Ran) → State → ℕ → Told Ran
turns zero p test body w f = quiet (halted w (no_fuel p))
turns (suc n) p test body w f =
    and_then (halted w) (test w f) λ v f₁.
    ruled (halted w) p f₁ (truth v) λ t.
    choose t
    (λ _. afterwards (body w f₁) λ w₂ f₂. enter (halted w₂) p f₂ λ f₃. turns n p test body w₂ f₃)
    (λ _. quiet (done w f₁))

module _ (r : Routine) (m : List ℕ) where
  -- A row that has been entered; `ex` carries out earlier rows.
  abbrev pub command_row : (State → ℕ → ℕ → Told Ran) → ℕ → Command → State → ℕ → Told Ran
  command_row ex p skip w f = quiet (done w f)
  command_row ex p (then a b) w f = afterwards (ex w a f) λ w₁ f₁. ex w₁ b f₁
  command_row ex p (store a b) w f =
      and_then (halted w) (eval r m w a f) λ v f₁.
      ruled (halted w) p f₁ (reach w (kind m (type_of r a)) v) λ c.
      and_then (halted w) (eval r m w b f₁) λ x f₂.
      ruled (halted w) p f₂ (kept w (kind m (type_of r a)) (kind m (r.target (type_of r a))) x) λ y.
      tell (stored p v c y) (quiet (done (put w c y) f₂))
  command_row ex p (if_else a b c) w f =
      and_then (halted w) (eval r m w a f) λ v f₁.
      ruled (halted w) p f₁ (truth v) λ t.
      choose t (λ _. ex w b f₁) (λ _. ex w c f₁)
  command_row ex p (while a b) w f = turns (suc f) p (λ w₁ f₁. eval r m w₁ a f₁) (λ w₁ f₁. ex w₁ b f₁) w f
  command_row ex p Command.none w f = quiet (halted w (no_rule p f))

  -- Counted down: right for rows below d.
  abbrev pub exec_below : ℕ → State → ℕ → ℕ → Told Ran
  exec_below zero w c f = quiet (halted w (no_rule (r.command_place c) f))
  exec_below (suc d) w c f =
      enter (halted w) (r.command_place c) f λ f₁.
      command_row (λ w₁ a f₂. exec_below d w₁ a f₂) (r.command_place c) (r.command c) w f₁

  abbrev pub exec : State → ℕ → ℕ → Told Ran
  exec w c f = exec_below (suc c) w c f

-- ---- the whole run

module _ (r : Routine) (m : List ℕ) where
  -- The last command is the body.
  abbrev pub run : List ℕ → ℕ → Told Ran
  run lent fuel = exec r m (start r m lent) (r.commands - 1) fuel
