-- A run of an accepted routine in a valid state goes by steps that keep memory valid, and is never stuck.
use Rattle.std.specs.Prelude.{true, ◌≡◌, ℕ, zero, suc, ◌≤◌, ◌<◌, List}
use Rattle.rules.specs.Run.{Answer, expr_row, eval_below, eval, Ran, turns, command_row, exec_below, exec}
use Rattle.rules.specs.declared.Value.{Value}
use Rattle.rules.specs.Steps.{Told, entered}
use Rattle.rules.specs.Table.{Expr, Command, Routine, literal, home, cast, null, sum, read, op, skip, then, store, if_else, while}
use Rattle.rules.specs.Shape.{row_type, type_of, expr_shaped, command_shaped, is_int, is_ref}
use Rattle.rules.specs.declared.Kind.{Kind}
use Rattle.rules.specs.Kinds.{Acceptable, kind, kind_converts, converts, spreads, expr_kind, command_kind}
use Rattle.rules.specs.Memory.{State}
use Rattle.rules.specs.Ruled.{gives}
use Rattle.rules.specs.Values.{reach}
use Rattle.rules.specs.Valid.{Real, number, Valid, ValidState}
use Rattle.rules.specs.Made.{Has, Accesses, Made, enters_expr, enters_command, looks, stores}
use Rattle.std.proofs.Math.Path.{refl, ap}
use Rattle.std.proofs.Common.{sym, ◌∙◌, not-suc-le-zero, le_refl, arith}
use Rattle.rules.specs.Tests.{parts_true, by_test}
use Rattle.rules.specs.Ends.{fuel}
use Rattle.laws.specs.Values.{holds, ok_given, target_le, convert_ok, reach_ok, Owns, safely, sequently, wildly, Spot, fetch_ok, operated_ok, moved_ok, home_ok, null_ok, truth_ok}
use Rattle.laws.specs.Store.{put_ok, kept_ok}
use Rattle.laws.specs.Steps.{Evaluates, Executes, goes_got, goes_answered, goes_done, goes_tell, expr_stops, command_stops, goes_then, goes_ruled, goes_enter, goes_on}
use Rattle.laws.specs.Formed.{Fits, CommandFits, Formed, int_type, ref_type, ref_kind, type_row_lem, type_le}
use Rattle.laws.specs.Depth.{depth}

module _ {r : Routine} {m : List ℕ} (formed : Formed r) (accepted : Acceptable r m) where
  spread_at : (t : ℕ) → 0 < t → t ≤ r.types → spreads (kind m t) (kind m (r.target t)) ≡ true
  spread_at zero h l = absurd (not-suc-le-zero h)
  spread_at (suc t) h l = accepted.types t l

  module _ {w : State} (ok : ValidState r m w) where
    abbrev Good : ℕ → Told Answer → Type 0
    Good t x = Evaluates r m w (Valid r m w.homes t) x

    owned : {s : Kind} {t g : ℕ} → Owns r m w.homes s t g → Real w.homes g
    owned (safely y) = y.real
    owned (sequently y) = y.real
    owned (wildly y) = y.real

    accesses : {a c : ℕ} {v : Value} → Has r m w a v → Valid r m w.homes (type_of r a) v
        → Spot r m w.homes (kind m (type_of r a)) (r.target (type_of r a)) c → reach w (kind m (type_of r a)) v ≡ gives c → Accesses r m w a v c
    accesses h i y q =
        record { pointer = h; valid = i; reaches = q; inside = record { home = y.home; real = owned y.owner; inside = y.inside } }

    row_ok : {e : ℕ} {ev : ℕ → ℕ → Told Answer} (x : Expr) → r.expr e ≡ x → (f : ℕ) → e < r.exprs → Fits r e x → expr_shaped r x ≡ true → expr_kind r m x ≡ true
        → ((a f : ℕ) → a < e → ev a f ≡ eval r m w a f) → ((a f : ℕ) → a < e → Good (type_of r a) (ev a f))
        → Good (row_type r (λ a. type_of r a) x) (expr_row r m w ev (r.expr_place e) x f)
    unfolding converts
    row_ok {e} (literal n) z f l y s k d h = goes_answered (r.expr_place e) f (holds (number y))
    row_ok {e} (home g) z f l y s k d h =
        let (q, t) = ok.declared y in
        rw (← t) (goes_answered (r.expr_place e) f (holds (home_ok ok q refl (ref_kind m _ (ok.laid.typed q).0))))
    row_ok (cast a t) z f l y s k d h =
        let (k₁, k₂) = parts_true (kind_converts (kind m (type_of r a)) (kind m t)) _ k in
        goes_then expr_stops (h a f y.0) (λ v f₁ i. goes_answered _ f₁ (convert_ok ok (kind m t) k₁ k₂ i))
    row_ok {e} (null t) z f l y s k d h = goes_answered (r.expr_place e) f (holds (null_ok (kind m t)))
    row_ok (sum a b) z f l y s k d h =
        let (s₁, s₂) = parts_true (is_ref (type_of r a)) _ s in
        goes_then expr_stops (h a f y.0) (λ v f₁ i.
        goes_then expr_stops (rw (int_type (type_of r b) s₂) at (h b f₁ y.1)) (λ n f₂ j.
        goes_answered _ f₂ (moved_ok ok k i j)))
    row_ok (read a) z f l y s k d h =
        let q : 0 < type_of r a = ref_type (type_of r a) s in
        goes_then expr_stops (goes_got (h a f y)) (λ v f₁ (i, (left, g)).
        goes_ruled expr_stops _ f₁ (ok_given (reach_ok ok (ref_kind m _ q) i)) (λ c (y₂, t).
        goes_tell (looks l z (accesses (record { fuel = f; left = left; by = ap (λ (x : Told Answer). x.answer) (sym (d a f y)) ∙ g }) i y₂ t)) ok
        (goes_answered _ f₁ (fetch_ok ok formed.falls _ refl (spread_at _ q (type_le formed a (omega arith))) y₂))))
    row_ok (op o a b) z f l y s k d h =
        let (s₁, s₂) = parts_true (is_int (type_of r a)) _ s in
        goes_then expr_stops (rw (int_type (type_of r a) s₁) at (h a f y.0)) (λ u f₁ i.
        goes_then expr_stops (rw (int_type (type_of r b) s₂) at (h b f₁ y.1)) (λ v f₂ j.
        goes_answered _ f₂ (operated_ok ok o i j)))
    row_ok Expr.none z f l y s k d h = absurd y

    eval_below_lem : (d e f : ℕ) → e < d → e < r.exprs → Good (type_of r e) (eval_below r m w d e f)
    eval_below_lem zero e f h l = absurd (not-suc-le-zero h)
    eval_below_lem (suc d) e f h l =
        let (y, s) = formed.exprs e l in
        rw (type_row_lem formed e l)
        (goes_enter expr_stops f (enters_expr l) ok (λ f₁.
        row_ok (r.expr e) refl f₁ l y s (accepted.exprs e l)
        (λ a f₂ k. depth formed m w d (suc a) a f₂ (omega arith) (omega arith) (omega arith)) (λ a f₂ k. eval_below_lem d a f₂ (omega arith) (omega arith))))

    pub eval_ok : (e f : ℕ) → e < r.exprs → Good (type_of r e) (eval r m w e f)
    eval_ok e f l = eval_below_lem (suc e) e f (le_refl (suc e)) l

    test_ok : (e f : ℕ) → e < r.exprs → is_int (type_of r e) ≡ true → Good 0 (eval r m w e f)
    test_ok e f l s = rw (int_type (type_of r e) s) at (eval_ok e f l)

    -- ---- commands

    store_ok : {d : ℕ} (ex : State → ℕ → ℕ → Told Ran) (a b f : ℕ) → d < r.commands → r.command d ≡ store a b → a < r.exprs → b < r.exprs
        → is_ref (type_of r a) ≡ true → converts r m (type_of r b) (r.target (type_of r a)) ≡ true
        → Executes r m w (command_row r m ex (r.command_place d) (store a b) w f)
    unfolding converts
    store_ok ex a b f ld z la lb s k =
        let q : 0 < type_of r a = ref_type (type_of r a) s in
        let l : type_of r a ≤ r.types = type_le formed a la in
        let u = r.target (type_of r a) in
        let (k₁, k₂) = parts_true (kind_converts (kind m (type_of r b)) (kind m u)) _ k in
        goes_then command_stops (goes_got (eval_ok a f la)) (λ v f₁ (y₁, (left, g)).
        goes_ruled command_stops _ f₁ (ok_given (reach_ok ok (ref_kind m _ q) y₁)) (λ c (y₂, t).
        goes_then command_stops (goes_got (eval_ok b f₁ lb)) (λ x f₂ (y₃, (left', g')).
        goes_ruled command_stops _ f₂
        (ok_given (kept_ok ok formed.falls (kind m u) (target_le formed.falls _ q l) y₂.owner refl (spread_at _ q l) k₁ k₂ y₃)) (λ y (y₄, t').
        goes_tell
        (stores ld z (accesses (record { fuel = f; left = left; by = g }) y₁ y₂ t) (record { fuel = f₁; left = left'; by = g' }) t')
        (put_ok ok y₂.home c y (owned y₂.owner) y₂.inside y₄) goes_done))))

  turns_ok : (p : ℕ) (test : State → ℕ → Told Answer) (body : State → ℕ → Told Ran) → ((w : State) → Made r m w (entered p))
      → ((w : State) (f : ℕ) → ValidState r m w → Evaluates r m w (Valid r m w.homes 0) (test w f))
      → ((w : State) (f : ℕ) → ValidState r m w → Executes r m w (body w f))
      → (n : ℕ) (w : State) (f : ℕ) → ValidState r m w → Executes r m w (turns n p test body w f)
  turns_ok p test body i t b zero w f ok = command_stops _ fuel
  turns_ok p test body i t b (suc n) w f ok =
      goes_then command_stops (t w f ok) (λ v f₁ y.
      goes_ruled command_stops p f₁ (truth_ok ok y) (λ c _.
      by_test (Executes r m w) c _ _
      (λ _. goes_on ok (b w f₁ ok) (λ w₂ f₂ ok₂. goes_enter command_stops f₂ (i w₂) ok₂ (λ f₃. turns_ok p test body i t b n w₂ f₃ ok₂)))
      (λ _. goes_done)))

  command_ok : {c : ℕ} {ex : State → ℕ → ℕ → Told Ran} (x : Command) → r.command c ≡ x → c < r.commands → CommandFits r c x → command_shaped r x ≡ true → command_kind r m x ≡ true
      → ((w : State) (a f : ℕ) → a < c → ValidState r m w → Executes r m w (ex w a f))
      → {w : State} (f : ℕ) → ValidState r m w → Executes r m w (command_row r m ex (r.command_place c) x w f)
  command_ok skip z l y s k h f ok = goes_done
  command_ok (then a b) z l y s k h f ok = goes_on ok (h _ a f y.0 ok) (λ w₁ f₁ ok₁. h w₁ b f₁ y.1 ok₁)
  command_ok {ex = ex} (store a b) z l y s k h f ok = store_ok ok ex a b f l z y.0 y.1 s k
  command_ok (if_else a b d) z l y s k h f ok =
      goes_then command_stops (test_ok ok a f y.0 s) (λ v f₁ i.
      goes_ruled command_stops _ f₁ (truth_ok ok i) (λ t _. by_test (Executes r m _) t _ _ (λ _. h _ b f₁ y.1 ok) (λ _. h _ d f₁ y.2 ok)))
  command_ok (while a b) z l y s k h f ok =
      turns_ok _ _ _ (λ w₁. enters_command l) (λ w₁ f₁ o. test_ok o a f₁ y.0 s) (λ w₁ f₁ o. h w₁ b f₁ y.1 o) (suc f) _ f ok
  command_ok Command.none z l y s k h f ok = absurd y

  exec_below_lem : (d c : ℕ) {w : State} (f : ℕ) → c < d → c < r.commands → ValidState r m w → Executes r m w (exec_below r m d w c f)
  exec_below_lem zero c f h l ok = absurd (not-suc-le-zero h)
  exec_below_lem (suc d) c f h l ok =
      let (y, s) = formed.commands c l in
      goes_enter command_stops f (enters_command l) ok (λ f₁.
      command_ok (r.command c) refl l y s (accepted.commands c l) (λ w₁ a f₂ k o. exec_below_lem d a f₂ (omega arith) (omega arith) o) f₁ ok)

  -- A command of an accepted routine, from any valid state.
  pub exec_ok : (c : ℕ) {w : State} (f : ℕ) → c < r.commands → ValidState r m w → Executes r m w (exec r m w c f)
  exec_ok c f l ok = exec_below_lem (suc c) c f (le_refl (suc c)) l ok
