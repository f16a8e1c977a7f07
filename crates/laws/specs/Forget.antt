-- The answer of a run without its steps. Each way of taking an answer apart goes on with the answer alone,
-- so code, whose contracts speak of answers, is held to the same equations with the steps left out.
use Rattle.std.specs.Prelude.{Bool, true, false, ◌≡◌, List}
use Rattle.rules.specs.declared.Value.{Value}
use Rattle.rules.specs.Run.{Stop, no_fuel, failed, no_rule, Answer, got, stopped, Ran, done, halted, and_then, ruled, enter, afterwards, turns, answered, expr_row, eval, command_row}
use Rattle.rules.specs.Basic.{choose}
use Rattle.rules.specs.Steps.{Told}
use Rattle.rules.specs.Table.{Routine, cast, sum, read, then, store, if_else}
use Rattle.rules.specs.Shape.{type_of}
use Rattle.rules.specs.declared.Kind.{Kind}
use Rattle.rules.specs.Kinds.{kind}
use Rattle.rules.specs.Memory.{State, cell, put}
use Rattle.rules.specs.Ruled.{Ruled, gives, fails, stuck, onward}
use Rattle.rules.specs.Values.{truth, convert, moved, reach, fetched, kept}
use Rattle.std.proofs.Math.Path.{refl}
use Prim.Native.Nat.{ℕ, zero, suc}

-- ---- whole: the same taking apart, of answers alone

abbrev pub value : {X : Type 0} → (Stop → X) → Answer → (Value → ℕ → X) → X
value stop (got v f) k = k v f
value stop (stopped s) k = stop s

abbrev pub rule : {X Y : Type 0} → (Stop → X) → ℕ → ℕ → Ruled Y → (Y → X) → X
rule stop p f (gives y) k = k y
rule stop p f (fails c) k = stop (failed c p f)
rule stop p f stuck k = stop (no_rule p f)

abbrev pub entry : {X : Type 0} → (Stop → X) → ℕ → ℕ → (ℕ → X) → X
entry stop p zero k = stop (no_fuel p)
entry stop p (suc f) k = k f

abbrev pub ended : Ran → (State → ℕ → Ran) → Ran
ended (done w f) k = k w f
ended (halted w s) k = halted w s

module _ {X : Type 0} (stop : Stop → X) where
  pub value_answer : (x : Told Answer) (k : Value → ℕ → Told X) → (and_then stop x k).answer ≡ value stop x.answer (λ v f. (k v f).answer)
  unfolding and_then
  value_answer x k = elim x.answer as (λ a. (Rattle.rules.specs.Run.on_value stop a k).answer ≡ value stop a (λ v f. (k v f).answer)) [ got v f ↦ refl | stopped s ↦ refl ]

  pub rule_answer : {Y : Type 0} (p f : ℕ) (u : Ruled Y) (k : Y → Told X) → (ruled stop p f u k).answer ≡ rule stop p f u (λ y. (k y).answer)
  unfolding ruled
  rule_answer p f (gives y) k = refl
  rule_answer p f (fails c) k = refl
  rule_answer p f stuck k = refl

  pub enter_answer : (p f : ℕ) (k : ℕ → Told X) → (enter stop p f k).answer ≡ entry stop p f (λ f₁. (k f₁).answer)
  unfolding enter
  enter_answer p zero k = refl
  enter_answer p (suc f) k = refl

pub on_answer : (x : Told Ran) (k : State → ℕ → Told Ran) → (afterwards x k).answer ≡ ended x.answer (λ w f. (k w f).answer)
unfolding afterwards
on_answer x k = elim x.answer as (λ a. (Rattle.rules.specs.Run.on_done a k).answer ≡ ended a (λ w f. (k w f).answer)) [ done w f ↦ refl | halted w s ↦ refl ]

pub choose_answer : {X : Type 0} (b : Bool) (x y : Unit {0} → Told X) → (choose b x y).answer ≡ choose b (λ _. (x tt).answer) (λ _. (y tt).answer)
choose_answer true x y = refl
choose_answer false x y = refl

-- All of them, for `simp`.
pub ruleset forget = (value_answer, rule_answer, enter_answer, on_answer, choose_answer)

-- A read's access and what it gives are one rule for the answer.
abbrev pub load : State → Kind → Kind → Value → Ruled Value
load w pointer target v = onward (reach w pointer v) λ a. fetched w pointer target (cell w a)

pub rule_answered : {Y : Type 0} (p f : ℕ) (u : Ruled Y) (k : Y → Ruled Value) → rule stopped p f u (λ y. answered p f (k y)) ≡ answered p f (onward u k)
rule_answered p f (gives y) k = refl
rule_answered p f (fails c) k = refl
rule_answered p f stuck k = refl

-- ---- row by row: the equations that code goes by

module _ (r : Routine) (m : List ℕ) where
  pub cast_answer : (w : State) (ev : ℕ → ℕ → Told Answer) (p a t f : ℕ)
      → (expr_row r m w ev p (cast a t) f).answer ≡ value stopped (ev a f).answer λ v f₁. answered p f₁ (convert w (kind m t) v)
  cast_answer w ev p a t f = simp forget

  pub sum_answer : (w : State) (ev : ℕ → ℕ → Told Answer) (p a b f : ℕ)
      → (expr_row r m w ev p (sum a b) f).answer
      ≡ value stopped (ev a f).answer λ v f₁. value stopped (ev b f₁).answer λ n f₂. answered p f₂ (moved v n)
  sum_answer w ev p a b f = simp forget

  pub read_answer : (w : State) (ev : ℕ → ℕ → Told Answer) (p a f : ℕ) → (expr_row r m w ev p (read a) f).answer
      ≡ value stopped (ev a f).answer λ v f₁. answered p f₁ (load w (kind m (type_of r a)) (kind m (r.target (type_of r a))) v)
  read_answer w ev p a f = simp (forget, rule_answered)

  pub store_answer : (ex : State → ℕ → ℕ → Told Ran) (p a b : ℕ) (w : State) (f : ℕ) → (command_row r m ex p (store a b) w f).answer
      ≡ value (halted w) (eval r m w a f).answer λ v f₁.
      rule (halted w) p f₁ (reach w (kind m (type_of r a)) v) λ c.
      value (halted w) (eval r m w b f₁).answer λ x f₂.
      rule (halted w) p f₂ (kept w (kind m (type_of r a)) (kind m (r.target (type_of r a))) x) λ y.
      done (put w c y) f₂
  store_answer ex p a b w f = simp forget

  pub then_answer : (ex : State → ℕ → ℕ → Told Ran) (p a b : ℕ) (w : State) (f : ℕ)
      → (command_row r m ex p (then a b) w f).answer ≡ ended (ex w a f).answer λ w₁ f₁. (ex w₁ b f₁).answer
  then_answer ex p a b w f = simp forget

  pub if_answer : (ex : State → ℕ → ℕ → Told Ran) (p a b c : ℕ) (w : State) (f : ℕ) → (command_row r m ex p (if_else a b c) w f).answer
      ≡ value (halted w) (eval r m w a f).answer λ v f₁.
      rule (halted w) p f₁ (truth v) λ t.
      choose t (λ _. (ex w b f₁).answer) (λ _. (ex w c f₁).answer)
  if_answer ex p a b c w f = simp forget

pub turn_answer : (n p : ℕ) (test : State → ℕ → Told Answer) (body : State → ℕ → Told Ran) (w : State) (f : ℕ) → (turns (suc n) p test body w f).answer
    ≡ value (halted w) (test w f).answer λ v f₁.
    rule (halted w) p f₁ (truth v) λ t.
    choose t
    (λ _. ended (body w f₁).answer λ w₂ f₂. entry (halted w₂) p f₂ λ f₃. (turns n p test body w₂ f₃).answer)
    (λ _. done w f₁)
turn_answer n p test body w f = simp forget
