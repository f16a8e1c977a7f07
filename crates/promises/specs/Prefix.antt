-- A run with more fuel takes the same steps and goes on.
use Rattle.std.specs.Prelude.{Bool, true, false, ◌≡◌, List, [], ◌∷◌, ◌++◌}
use Rattle.rules.specs.declared.Value.{Value}
use Rattle.rules.specs.Run.{Stop, no_fuel, failed, no_rule, Answer, got, stopped, on_value, and_then, ruled, enter, answered, expr_row, eval_below, Ran, done, halted, on_done, afterwards, turns, command_row, exec_below}
use Rattle.rules.specs.Basic.{choose}
use Rattle.rules.specs.Steps.{Step, entered, looked, Told, quiet, after, units}
use Rattle.rules.specs.Table.{Expr, Command, Routine, literal, home, cast, null, sum, read, op, skip, then, store, if_else, while}
use Rattle.rules.specs.Shape.{type_of}
use Rattle.rules.specs.Kinds.{kind}
use Rattle.rules.specs.Memory.{State, cell}
use Rattle.rules.specs.Ruled.{Ruled, gives, fails, stuck}
use Rattle.rules.specs.Values.{truth, convert, reach, fetched, kept, moved, operated}
use Rattle.std.proofs.Math.Path.{refl}
use Rattle.std.proofs.Common.{sym, ap, ◌∙◌, not-suc-le-zero, zero-add, suc-add, arith, append_assoc, append-nil}
use Prim.Native.Nat.{ℕ, zero, suc, ◌+◌, ◌≤◌, ◌<◌}
use Rattle.rules.specs.Ends.{left_after}
use Rattle.promises.specs.Promises.{stop_more, ran_more, CutRan, cut_ran, Longer, alike, longer}
use Rattle.laws.specs.Units.{left_of, Spends, eval_spends, exec_spends}

abbrev answer_more : ℕ → Answer → Answer
answer_more d (got v f) = got v (f + d)
answer_more d (stopped s) = stopped (stop_more d s)

data Cut : ℕ → Answer → Type 0 where
  cut : {p : ℕ} → Cut p (stopped (no_fuel p))

module _ {X : Type 0} {more : X → X} {out : ℕ → X → Type 0} where
  longer_after : {x y : Told X} (l : List Step) → Longer more out x y → Longer more out (after l x) (after l y)
  longer_after l (alike a e) = alike a (ap (λ k. l ++ k) e)
  longer_after {x} {y} l (longer {p = p} k o e) = longer k o (ap (λ z. l ++ z) e ∙ sym (append_assoc l x.steps (entered p ∷ k)))

  longer_cut : {a : X} (p : ℕ) (l k : List Step) (z : Told X) → out p a → Longer more out (after l (quiet a)) (after (l ++ entered p ∷ k) z)
  longer_cut p l k z o = longer (k ++ z.steps) o (append_assoc l (entered p ∷ k) z.steps ∙ ap (λ q. q ++ entered p ∷ (k ++ z.steps)) (sym (append-nil l)))

  -- Stops are passed upward by `stop`.
  module _ {stop : Stop → X} (d : ℕ) (stops : (s : Stop) → Longer more out (quiet (stop s)) (quiet (stop (stop_more d s)))) (outs : (p : ℕ) → out p (stop (no_fuel p))) where
    longer_then : {f : ℕ} {x y : Told Answer} (k l : Value → ℕ → Told X) → Spends left_of f x → Longer (answer_more d) Cut x y
        → ((v : Value) (f₁ : ℕ) → f₁ ≤ f → Longer more out (k v f₁) (l v (f₁ + d))) → Longer more out (and_then stop x k) (and_then stop y l)
    unfolding and_then
    longer_then {f} {x} {y} k l h (alike a e) i = rw (a, e) (longer_after x.steps (go x.answer h.by))
      where
        go : (b : Answer) → units x.steps + left_of b ≡ f → Longer more out (on_value stop b k) (on_value stop (answer_more d b) l)
        go (got v f₀) q = i v f₀ (omega arith)
        go (stopped s) q = stops s
    longer_then {f} {x} {y} k l h (longer {p = p} z o e) i = rw e (go x.answer o)
      where
        go : {q : ℕ} (b : Answer) → Cut q b → Longer more out (after x.steps (on_value stop b k)) (after (x.steps ++ entered q ∷ z) (on_value stop y.answer l))
        go {q = q} (got v f₀) h = elim h [ ]
        go (stopped (no_fuel q)) cut = longer_cut q x.steps z _ (outs q)
        go {q = q} (stopped (failed c p₁ f₀)) h = elim h [ ]
        go {q = q} (stopped (no_rule p₁ f₀)) h = elim h [ ]

    longer_ruled : {Y : Type 0} (k l : Y → Told X) (p f : ℕ) (u : Ruled Y) → ((y : Y) → Longer more out (k y) (l y))
        → Longer more out (ruled stop p f u k) (ruled stop p (f + d) u l)
    unfolding ruled
    longer_ruled k l p f (gives y) h = h y
    longer_ruled k l p f (fails c) h = stops (failed c p f)
    longer_ruled k l p f stuck h = stops (no_rule p f)

    longer_enter : (k l : ℕ → Told X) (p f : ℕ) → ((f₁ : ℕ) → f₁ < f → Longer more out (k f₁) (l (f₁ + d))) → Longer more out (enter stop p f k) (enter stop p (f + d) l)
    unfolding enter
    longer_enter k l p zero h = rw (zero-add d) (go d)
      where
        go : (e : ℕ) → Longer more out (quiet (stop (no_fuel p))) (enter stop p e l)
        go zero = stops (no_fuel p)
        go (suc e) = longer (l e).steps (outs p) refl
    longer_enter k l p (suc f) h = rw (suc-add f d) (longer_after (entered p ∷ []) (h f (omega arith)))

module _ (d : ℕ) where
  abbrev More : Told Answer → Told Answer → Type 0
  More x y = Longer (answer_more d) Cut x y

  abbrev MoreRan : Told Ran → Told Ran → Type 0
  MoreRan x y = Longer (ran_more d) CutRan x y

  longer_answered : (p f : ℕ) (u : Ruled Value) → More (quiet (answered p f u)) (quiet (answered p (f + d) u))
  longer_answered p f (gives v) = alike refl refl
  longer_answered p f (fails c) = alike refl refl
  longer_answered p f stuck = alike refl refl

  stops : (s : Stop) → More (quiet (stopped s)) (quiet (stopped (stop_more d s)))
  stops s = alike refl refl

  halts : {w : State} (s : Stop) → MoreRan (quiet (halted w s)) (quiet (halted w (stop_more d s)))
  halts s = alike refl refl

  longer_on : {f : ℕ} {x y : Told Ran} (k l : State → ℕ → Told Ran) → Spends left_after f x → MoreRan x y
      → ((w : State) (f₁ : ℕ) → f₁ ≤ f → MoreRan (k w f₁) (l w (f₁ + d))) → MoreRan (afterwards x k) (afterwards y l)
  unfolding afterwards
  longer_on {f} {x} {y} k l h (alike a e) i = rw (a, e) (longer_after x.steps (go x.answer h.by))
    where
      go : (b : Ran) → units x.steps + left_after b ≡ f → MoreRan (on_done b k) (on_done (ran_more d b) l)
      go (done w g) q = i w g (omega arith)
      go (halted w s) q = halts s
  longer_on {f} {x} {y} k l h (longer {p = p} z o e) i = rw e (go x.answer o)
    where
      go : {q : ℕ} (b : Ran) → CutRan q b → MoreRan (after x.steps (on_done b k)) (after (x.steps ++ entered q ∷ z) (on_done y.answer l))
      go {q = q} (done w f₀) h = elim h [ ]
      go (halted w (no_fuel q)) cut_ran = longer_cut q x.steps z _ cut_ran
      go {q = q} (halted w (failed c p₁ f₀)) h = elim h [ ]
      go {q = q} (halted w (no_rule p₁ f₀)) h = elim h [ ]

  branch_longer : (c : Bool) (x y x' y' : Unit {0} → Told Ran) → MoreRan (x tt) (x' tt) → MoreRan (y tt) (y' tt) → MoreRan (choose c x y) (choose c x' y')
  branch_longer true x y x' y' h i = h
  branch_longer false x y x' y' h i = i

  module _ (r : Routine) (m : List ℕ) where
    row_longer : (w : State) {ev : ℕ → ℕ → Told Answer} → ((a f : ℕ) → Spends left_of f (ev a f)) → ((a f : ℕ) → More (ev a f) (ev a (f + d)))
        → (p : ℕ) (x : Expr) (f : ℕ) → More (expr_row r m w ev p x f) (expr_row r m w ev p x (f + d))
    row_longer w s h p (literal n) f = longer_answered p f (gives _)
    row_longer w s h p (home g) f = longer_answered p f (gives _)
    row_longer w s h p (cast a t) f = longer_then d stops (λ _. cut) _ _ (s a f) (h a f) (λ v f₁ l. longer_answered p f₁ (convert w (kind m t) v))
    row_longer w s h p (null t) f = longer_answered p f (gives _)
    row_longer w s h p (sum a b) f =
        longer_then d stops (λ _. cut) _ _ (s a f) (h a f) (λ v f₁ l. longer_then d stops (λ _. cut) _ _ (s b f₁) (h b f₁) (λ n f₂ k. longer_answered p f₂ (moved v n)))
    row_longer w s h p (read a) f =
        longer_then d stops (λ _. cut) _ _ (s a f) (h a f) (λ v f₁ l.
        longer_ruled d stops (λ _. cut) _ _ p f₁ (reach w (kind m (type_of r a)) v) (λ c.
        longer_after (looked p v c ∷ []) (longer_answered p f₁ (fetched w (kind m (type_of r a)) (kind m (r.target (type_of r a))) (cell w c)))))
    row_longer w s h p (op o a b) f =
        longer_then d stops (λ _. cut) _ _ (s a f) (h a f) (λ v f₁ l. longer_then d stops (λ _. cut) _ _ (s b f₁) (h b f₁) (λ n f₂ k. longer_answered p f₂ (operated o v n)))
    row_longer w s h p Expr.none f = longer_answered p f stuck

    eval_longer : (w : State) (n e f : ℕ) → More (eval_below r m w n e f) (eval_below r m w n e (f + d))
    eval_longer w zero e f = longer_answered (r.expr_place e) f stuck
    eval_longer w (suc n) e f =
        longer_enter d stops (λ _. cut) _ _ (r.expr_place e) f (λ f₁ l.
        row_longer w (λ a f₂. eval_spends r m w n a f₂) (λ a f₂. eval_longer w n a f₂) (r.expr_place e) (r.expr e) f₁)

    turns_longer : (p : ℕ) {test : State → ℕ → Told Answer} {body : State → ℕ → Told Ran}
        → ((w : State) (f : ℕ) → Spends left_of f (test w f)) → ((w : State) (f : ℕ) → More (test w f) (test w (f + d)))
        → ((w : State) (f : ℕ) → Spends left_after f (body w f)) → ((w : State) (f : ℕ) → MoreRan (body w f) (body w (f + d)))
        → (n n' : ℕ) (w : State) (f : ℕ) → f < n → f + d < n' → MoreRan (turns n p test body w f) (turns n' p test body w (f + d))
    turns_longer p t t' b b' zero n' w f l l' = absurd (not-suc-le-zero l)
    turns_longer p t t' b b' (suc n) zero w f l l' = absurd (not-suc-le-zero l')
    turns_longer p t t' b b' (suc n) (suc n') w f l l' =
        longer_then d halts (λ _. cut_ran) _ _ (t w f) (t' w f) (λ v f₁ l₁.
        longer_ruled d halts (λ _. cut_ran) _ _ p f₁ (truth v) (λ c.
        branch_longer c _ _ _ _
        (longer_on _ _ (b w f₁) (b' w f₁) (λ w₂ f₂ l₂.
        longer_enter d halts (λ _. cut_ran) _ _ p f₂ (λ f₃ l₃. turns_longer p t t' b b' n n' w₂ f₃ (omega arith) (omega arith))))
        (alike refl refl)))

    command_longer : {ex : State → ℕ → ℕ → Told Ran} → ((w : State) (a f : ℕ) → Spends left_after f (ex w a f)) → ((w : State) (a f : ℕ) → MoreRan (ex w a f) (ex w a (f + d)))
        → (p : ℕ) (x : Command) (w : State) (f : ℕ) → MoreRan (command_row r m ex p x w f) (command_row r m ex p x w (f + d))
    command_longer s h p skip w f = alike refl refl
    command_longer s h p (then a b) w f = longer_on _ _ (s w a f) (h w a f) (λ w₁ f₁ l. h w₁ b f₁)
    command_longer s h p (store a b) w f =
        longer_then d halts (λ _. cut_ran) _ _ (eval_spends r m w (suc a) a f) (eval_longer w (suc a) a f) (λ v f₁ l.
        longer_ruled d halts (λ _. cut_ran) _ _ p f₁ (reach w (kind m (type_of r a)) v) (λ c.
        longer_then d halts (λ _. cut_ran) _ _ (eval_spends r m w (suc b) b f₁) (eval_longer w (suc b) b f₁) (λ x f₂ k.
        longer_ruled d halts (λ _. cut_ran) _ _ p f₂ (kept w (kind m (type_of r a)) (kind m (r.target (type_of r a))) x) (λ y. alike refl refl))))
    command_longer s h p (if_else a b c) w f =
        longer_then d halts (λ _. cut_ran) _ _ (eval_spends r m w (suc a) a f) (eval_longer w (suc a) a f) (λ v f₁ l.
        longer_ruled d halts (λ _. cut_ran) _ _ p f₁ (truth v) (λ t. branch_longer t _ _ _ _ (h w b f₁) (h w c f₁)))
    command_longer s h p (while a b) w f =
        turns_longer p (λ w₁ f₁. eval_spends r m w₁ (suc a) a f₁) (λ w₁ f₁. eval_longer w₁ (suc a) a f₁) (λ w₁ f₁. s w₁ b f₁) (λ w₁ f₁. h w₁ b f₁)
        (suc f) (suc (f + d)) w f (omega arith) (omega arith)
    command_longer s h p Command.none w f = alike refl refl

    pub exec_longer : (n : ℕ) (w : State) (c f : ℕ) → MoreRan (exec_below r m n w c f) (exec_below r m n w c (f + d))
    exec_longer zero w c f = alike refl refl
    exec_longer (suc n) w c f =
        longer_enter d halts (λ _. cut_ran) _ _ (r.command_place c) f (λ f₁ l.
        command_longer (λ w₁ a f₂. exec_spends r m n w₁ a f₂) (λ w₁ a f₂. exec_longer n w₁ a f₂) (r.command_place c) (r.command c) w f₁)
