-- A row by its word: the equations that evaluation goes by, and what soundness gives the code there.
-- Soundness of the row itself says that its rule is not stuck, so no code tests for it.
use mathlib.Core.Path.{◌≡◌, refl, sym, ap, ◌∙◌}
use mathlib.Core.Logic.{◌⊎◌, inl, inr}
use mathlib.Core.Bool.{Bool, true, false}
use Prim.Native.Nat.{ℕ, zero, suc, ◌+◌, ◌-◌, ◌<◌, ◌≤◌}
use native.Mathlib.Numerals.{sub-one}
use native.Mathlib.Omega.{arith}
use mathlib.Core.List.{List}
use lib.ListN.{get_or}
use lib.Dec.{ltb, lit<}
use borrow.Author.Tests.{ltb-true, ltb-false, lt-ltb, le-ltb}
use Rattle.std.specs.Prelude.{Result, Ok, Err}
use Rattle.rules.specs.declared.Value.{Value}
use Rattle.rules.specs.declared.Value.TheVariants.{Number, Pair}
use Rattle.rules.specs.Table.{Operator, plus, minus, times, over, rest, equal, less, both, right, Expr, Home, Routine, literal, home, cast, null, sum, read, op}
use Rattle.rules.specs.Shape.{home_at, type_of, expr_shaped}
use Rattle.rules.specs.declared.Kind.{Kind}
use Rattle.rules.specs.declared.Kind.TheVariants.{int, SAFE, SEQ, DYNAMIC}
use Rattle.rules.specs.Kinds.{kind}
use Rattle.rules.specs.Steps.{Told}
use Rattle.rules.specs.Memory.{State}
use Rattle.rules.specs.declared.Check.{Check}
use Rattle.rules.specs.Ruled.{Ruled, gives, fails, stuck}
use Rattle.rules.specs.Values.{convert, home_value, null_value, moved, operated}
use Rattle.rules.specs.Run.{Answer as Answers, got, stopped, enter, answered, expr_row, eval}
use Rattle.rules.specs.Valid.{Valid, Real}
use Rattle.laws.specs.Forget.{value, enter_answer, forget, load, cast_answer, sum_answer, read_answer}
use Rattle.laws.specs.Depth.{eval_row}
use Rattle.laws.specs.Formed.{Fits, ref_type, ref_kind}
use Rattle.laws.specs.Steps.{Answers as Told-is, value as is-value, stop as is_stop}
use Rattle.laws.specs.Sound.{eval_ok}
use Rattle.words.specs.Words.{op_in, a_in, high_in, home_op, null_op, cast_op, read_op, operator_op, op_for, a_for, home_field, b_for, ExprWord, Named, state}
use Rattle.values.specs.Values.{checked}
use Rattle.evaluate.specs.declared.Got.{Got}
use Rattle.evaluate.specs.declared.Stop.{Stop}
use Rattle.evaluate.specs.declared.Cause.TheVariants.{Fuel}
use Rattle.evaluate.specs.Rows.{place_of, told, Asked, meant, entered, says, one_in, two_in, Ready}
use Rattle.evaluate.proofs.Rules.{Fine, given, failed, one_rule, two_rule, valid_named, one_is, read_inside, two_is}

-- ---- places

pub expr_place_lem : (r : Routine) (e : ℕ) → e < 1024 → place_of r e ≡ r.expr_place e
expr_place_lem r e l = rw (lt-ltb e 1024 l)

pub command_place_lem : (r : Routine) (c : ℕ) → place_of r (1024 + c) ≡ r.command_place c
command_place_lem r c =
    let a : ltb (1024 + c) 1024 ≡ false = le-ltb (1024 + c) 1024 (omega arith) in
    let b : 1024 + c - 1024 ≡ c = omega arith in
    rw (a, b)

-- ---- rows by their operation

home_low : (s : Kind) → home_op s < 2
home_low int = lit< tt
home_low SAFE = lit< tt
home_low SEQ = lit< tt
home_low DYNAMIC = lit< tt

null_low : (s : Kind) → null_op s < 2
null_low int = lit< tt
null_low SAFE = lit< tt
null_low SEQ = lit< tt
null_low DYNAMIC = lit< tt

cast_mid : (s : Kind) → (2 ≤ cast_op s) × (cast_op s < 9)
cast_mid int = (omega arith, lit< tt)
cast_mid SAFE = (omega arith, lit< tt)
cast_mid SEQ = (omega arith, lit< tt)
cast_mid DYNAMIC = (omega arith, lit< tt)

read_mid : (s t : Kind) → (2 ≤ read_op s t) × (read_op s t < 9)
read_mid int t = (omega arith, lit< tt)
read_mid SAFE t = (omega arith, lit< tt)
read_mid SEQ t = (omega arith, lit< tt)
read_mid DYNAMIC int = (omega arith, lit< tt)
read_mid DYNAMIC SAFE = (omega arith, lit< tt)
read_mid DYNAMIC SEQ = (omega arith, lit< tt)
read_mid DYNAMIC DYNAMIC = (omega arith, lit< tt)

operator_high : (o : Operator) → 9 ≤ operator_op o
operator_high plus = omega arith
operator_high minus = omega arith
operator_high times = omega arith
operator_high over = omega arith
operator_high rest = omega arith
operator_high equal = omega arith
operator_high less = omega arith
operator_high both = omega arith
operator_high right = omega arith

value_same : (a : Answers) {k l : Value → ℕ → Answers} → ((v : Value) (f : ℕ) → k v f ≡ l v f) → value stopped a k ≡ value stopped a l
value_same (got v f) h = h v f
value_same (stopped s) h = refl

-- The value of a row that has no operands, by its operation.
abbrev leaf_value : ℕ → ℕ → Value
leaf_value zero b = Number b
leaf_value (suc k) b = Pair b 0

home_leaf : (w : State) (h : Home) (g : ℕ) (s : Kind) → (home_at w.homes g).start ≡ h.start → home_value w s g ≡ leaf_value (home_op s) (home_field s h g)
home_leaf w h g int e = refl
home_leaf w h g SAFE e = ap (λ n. Number n) e
home_leaf w h g SEQ e = refl
home_leaf w h g DYNAMIC e = refl

null_leaf : (s : Kind) → null_value s ≡ leaf_value (null_op s) 0
null_leaf int = refl
null_leaf SAFE = refl
null_leaf SEQ = refl
null_leaf DYNAMIC = refl

cast_rule : (w : State) (s : Kind) (v : Value) → convert w s v ≡ one_rule w (cast_op s) v
unfolding one_rule
cast_rule w int v = refl
cast_rule w SAFE v = refl
cast_rule w SEQ v = refl
cast_rule w DYNAMIC (Number n) = refl
cast_rule w DYNAMIC (Pair g n) = refl

read_rule : (w : State) (s t : Kind) (v : Value) → (s ≡ int → ⊥) → load w s t v ≡ one_rule w (read_op s t) v
unfolding one_rule
read_rule w int t v h = absurd (h refl)
read_rule w SAFE t v h = refl
read_rule w SEQ t v h = refl
read_rule w DYNAMIC int v h = refl
read_rule w DYNAMIC SAFE v h = refl
read_rule w DYNAMIC SEQ v h = refl
read_rule w DYNAMIC DYNAMIC v h = refl

sum_rule : (v n : Value) → moved v n ≡ two_rule 9 v n
unfolding two_rule
sum_rule v n = refl

operator_rule : (o : Operator) (v n : Value) → operated o v n ≡ two_rule (operator_op o) v n
unfolding two_rule
operator_rule plus v n = refl
operator_rule minus v n = refl
operator_rule times v n = refl
operator_rule over v n = refl
operator_rule rest v n = refl
operator_rule equal v n = refl
operator_rule less v n = refl
operator_rule both v n = refl
operator_rule right v n = refl

module _ (r : Routine) (m : List ℕ) (w : State) (ev : ℕ → ℕ → Told Answers) (p e : ℕ) where
  leaf_row : ((g : ℕ) → Real r.homes g → (home_at w.homes g).start ≡ (home_at r.homes g).start) → (x : Expr) (f : ℕ) → Fits r e x → op_for r m x < 2
      → (expr_row r m w ev p x f).answer ≡ got (leaf_value (op_for r m x) (b_for r m x)) f
  leaf_row d (literal n) f y h = refl
  leaf_row d (home g) f y h = ap (λ v. got v f) (home_leaf w (home_at r.homes g) g (kind m (home_at r.homes g).type) (d g y))
  leaf_row d (cast a t) f y h = absurd (omega (arith, cast_mid (kind m t)))
  leaf_row d (null t) f y h = ap (λ v. got v f) (null_leaf (kind m t))
  leaf_row d (sum a b) f y h = absurd (omega arith)
  leaf_row d (read a) f y h = absurd (omega (arith, read_mid (kind m (type_of r a)) (kind m (r.target (type_of r a)))))
  leaf_row d (op o a b) f y h = absurd (omega (arith, operator_high o))
  leaf_row d Expr.none f y h = absurd y

  one_row : (x : Expr) (f : ℕ) → expr_shaped r x ≡ true → 2 ≤ op_for r m x → op_for r m x < 9
      → (expr_row r m w ev p x f).answer ≡ value stopped (ev (a_for x) f).answer λ v f₁. answered p f₁ (one_rule w (op_for r m x) v)
  one_row (literal n) f s h l = absurd (omega arith)
  one_row (home g) f s h l = absurd (omega (arith, home_low (kind m (home_at r.homes g).type)))
  one_row (cast a t) f s h l = cast_answer r m w ev p a t f ∙ value_same (ev a f).answer (λ v f₁. ap (answered p f₁) (cast_rule w (kind m t) v))
  one_row (null t) f s h l = absurd (omega (arith, null_low (kind m t)))
  one_row (sum a b) f s h l = absurd (omega arith)
  one_row (read a) f s h l =
      let n : kind m (type_of r a) ≡ int → ⊥ = ref_kind m (type_of r a) (ref_type (type_of r a) s) in
      read_answer r m w ev p a f ∙ value_same (ev a f).answer (λ v f₁. ap (answered p f₁) (read_rule w (kind m (type_of r a)) (kind m (r.target (type_of r a))) v n))
  one_row (op o a b) f s h l = absurd (omega (arith, operator_high o))
  one_row Expr.none f s h l = absurd (omega arith)

  two_row : (x : Expr) (f : ℕ) → 9 ≤ op_for r m x
      → (expr_row r m w ev p x f).answer
      ≡ value stopped (ev (a_for x) f).answer λ v f₁. value stopped (ev (b_for r m x) f₁).answer λ n f₂. answered p f₂ (two_rule (op_for r m x) v n)
  two_row (literal n) f h = absurd (omega arith)
  two_row (home g) f h = absurd (omega (arith, home_low (kind m (home_at r.homes g).type)))
  two_row (cast a t) f h = absurd (omega (arith, cast_mid (kind m t)))
  two_row (null t) f h = absurd (omega (arith, null_low (kind m t)))
  two_row (sum a b) f h =
      sum_answer r m w ev p a b f ∙ value_same (ev a f).answer (λ v f₁. value_same (ev b f₁).answer (λ n f₂. ap (answered p f₂) (sum_rule v n)))
  two_row (read a) f h = absurd (omega (arith, read_mid (kind m (type_of r a)) (kind m (r.target (type_of r a)))))
  two_row (op o a b) f h =
      let i : (expr_row r m w ev p (op o a b) f).answer ≡ value stopped (ev a f).answer λ v f₁. value stopped (ev b f₁).answer λ n f₂. answered p f₂ (operated o v n)
      = simp forget in
      i ∙ value_same (ev a f).answer (λ v f₁. value_same (ev b f₁).answer (λ n f₂. ap (answered p f₂) (operator_rule o v n)))
  two_row Expr.none f h = absurd (omega arith)

-- ---- operands come earlier

first_early : (r : Routine) (m : List ℕ) (e : ℕ) (x : Expr) → Fits r e x → 2 ≤ op_for r m x → a_for x < e
first_early r m e (literal n) y h = absurd (omega arith)
first_early r m e (home g) y h = absurd (omega (arith, home_low (kind m (home_at r.homes g).type)))
first_early r m e (cast a t) y h = y.0
first_early r m e (null t) y h = absurd (omega (arith, null_low (kind m t)))
first_early r m e (sum a b) y h = y.0
first_early r m e (read a) y h = y
first_early r m e (op o a b) y h = y.0
first_early r m e Expr.none y h = absurd y

second_early : (r : Routine) (m : List ℕ) (e : ℕ) (x : Expr) → Fits r e x → 9 ≤ op_for r m x → b_for r m x < e
second_early r m e (literal n) y h = absurd (omega arith)
second_early r m e (home g) y h = absurd (omega (arith, home_low (kind m (home_at r.homes g).type)))
second_early r m e (cast a t) y h = absurd (omega (arith, cast_mid (kind m t)))
second_early r m e (null t) y h = absurd (omega (arith, null_low (kind m t)))
second_early r m e (sum a b) y h = y.1
second_early r m e (read a) y h = absurd (omega (arith, read_mid (kind m (type_of r a)) (kind m (r.target (type_of r a)))))
second_early r m e (op o a b) y h = y.1
second_early r m e Expr.none y h = absurd y

-- ---- the code's answers

-- A stop is passed upward.
pub stop_passes : (r : Routine) (x : Result Got Stop) (s : Stop) (k : Value → ℕ → Answers) → x ≡ Err s → told r x ≡ value stopped (told r x) k
stop_passes r x s k h = rw h

-- A rule that is not stuck, as the code answers it.
told_says : (r : Routine) (e f : ℕ) (u : Ruled Value) → Fine u → told r (says e f (checked u)) ≡ answered (place_of r e) f u
told_says r e f (gives v) y = refl
told_says r e f (fails c) y = refl
told_says r e f stuck y = elim y [ ]

fine_of : {P : Value → Type 0} (p f : ℕ) (u : Ruled Value) → Told-is P (answered p f u) → Fine u
fine_of p f (gives v) h = given
fine_of p f (fails c) h = failed
fine_of p f stuck (is_stop y) = elim y [ ]

pub value_of : {P : Value → Type 0} {v : Value} {f : ℕ} → Told-is P (got v f) → P v
value_of (is-value y) = y

below_or : (o : ℕ) → (o < 9) ⊎ (9 ≤ o)
below_or o = go (ltb o 9) refl
  where
    go : (b : Bool) → ltb o 9 ≡ b → (o < 9) ⊎ (9 ≤ o)
    go true h = inl (ltb-true o 9 h)
    go false h = inr (ltb-false o 9 h)

-- ---- a row that is asked for, as the code meets it

-- An earlier row.
abbrev pub earlier : {t memory : List ℕ} {row : ℕ} → Asked t memory row → (a : ℕ) → a < row → Asked t memory a
earlier g a l = record { rows = g.rows; homes = g.homes; valid = g.valid; inside = omega (arith, g.inside, l) }

module _ {t memory : List ℕ} {row : ℕ} (g : Asked t memory row) where
  abbrev R : Routine
  R = g.rows.routine

  abbrev M : List ℕ
  M = g.rows.marking

  abbrev X : Expr
  X = R.expr row

  abbrev W : State
  W = state g.homes memory

  abbrev P : ℕ
  P = R.expr_place row

  pub few : row < 1024
  few = omega (arith, g.inside, g.rows.few_exprs)

  abbrev word : ExprWord R M X (get_or t row 0)
  word = g.rows.exprs row g.inside

  abbrev fits : Fits R row X
  fits = (g.rows.formed.exprs row g.inside).0

  abbrev ev : ℕ → ℕ → Answers
  ev a f = (eval R M W a f).answer

  pub no_fuel_lem : (f : ℕ) → f ≡ 0 → told g.rows.routine (Err (record { row = row; cause = Fuel })) ≡ meant g f
  unfolding enter
  no_fuel_lem f h = rw (h, expr_place_lem g.rows.routine row few)

  -- The row is entered for one unit.
  once : (f : ℕ) → meant g (suc f) ≡ entered g f
  once f = ap (λ (x : Told Answers). x.answer) (eval_row g.rows.formed M W row (suc f) g.inside) ∙ enter_answer stopped P (suc f) _

  step : (f : ℕ) → (f ≡ 0 → ⊥) → meant g f ≡ entered g (f - 1)
  step zero z = absurd (z refl)
  step (suc f) z = rw (sub-one (suc f)) (once f)

  -- So the row's soundness, which holds of any fuel, speaks of the row once it has been entered.
  sound : (f : ℕ) → Told-is (Valid R M g.homes.list (type_of R row)) (entered g f)
  sound f = rw (once f) at (eval_ok g.rows.formed g.rows.accepted g.valid row (suc f) g.inside).answer

  module _ (f w : ℕ) (z : f ≡ 0 → ⊥) (e : w ≡ get_or t row 0) where
    a_leaf : (k : ℕ) → op_in w ≡ k → k < 2 → got (leaf_value k (high_in w)) (f - 1) ≡ meant g f
    a_leaf k h l =
        let p : op_for R M X ≡ k = sym (rw e word.op) ∙ h in
        let q : high_in w ≡ b_for R M X = rw e word.second in
        let s : entered g (f - 1) ≡ got (leaf_value (op_for R M X) (b_for R M X)) (f - 1)
        = leaf_row R M W (λ a f₁. eval R M W a f₁) P row g.homes.declared X (f - 1) fits (omega (arith, p, l)) in
        sym (step f z ∙ s ∙ rw (p, q))

    pub a_number : (o n : ℕ) → o ≡ op_in w → o ≡ 0 → n ≡ high_in w → told g.rows.routine (Ok (record { left = f - 1; value = Number n })) ≡ meant g f
    a_number o n h p q = rw q (a_leaf 0 (sym h ∙ p) (lit< tt))

    pub a_pair : (o n : ℕ) → o ≡ op_in w → o ≡ 1 → n ≡ high_in w → told g.rows.routine (Ok (record { left = f - 1; value = Pair n 0 })) ≡ meant g f
    a_pair o n h p q = rw q (a_leaf 1 (sym h ∙ p) (lit< tt))

    pub a_compound : (x : Result Got Stop) → told g.rows.routine x ≡ entered g (f - 1) → told g.rows.routine x ≡ meant g f
    a_compound x h = h ∙ sym (step f z)

  -- An operand's answer, by the callee's contract.
  abbrev pub Right : (a f : ℕ) → Result Got Stop → Type 0
  Right a f x = (k : Asked t memory a) → told k.rows.routine x ≡ meant k f

  module _ (w : ℕ) (e : w ≡ get_or t row 0) (o a f : ℕ) (h : o ≡ op_in w) (i : a ≡ a_in w) where
    is_op : op_for R M X ≡ o
    is_op = sym (h ∙ rw e word.op)

    is_first : a_for X ≡ a
    is_first = sym (i ∙ rw e word.first)

    pub first_before : 2 ≤ op_in w → a < row
    first_before l = rw (← is_first) (first_early R M row X fits (omega (arith, is_op, h, l)))

    one_equation : 2 ≤ op_in w → o < 9 → entered g f ≡ value stopped (ev a f) λ v f₁. answered P f₁ (one_rule W o v)
    one_equation l u =
        one_row R M W (λ a f₁. eval R M W a f₁) P row X f (g.rows.formed.exprs row g.inside).1 (omega (arith, is_op, h, l)) (omega (arith, is_op, u))
        ∙ ap (λ k. value stopped (ev (a_for X) f) λ v f₁. answered P f₁ (one_rule W k v)) is_op
        ∙ ap (λ k. value stopped (ev k f) λ v f₁. answered P f₁ (one_rule W o v)) is_first

    module _ (b : ℕ) (j : b ≡ high_in w) where
      is_second : b_for R M X ≡ b
      is_second = sym (j ∙ rw e word.second)

      pub second_before : 9 ≤ o → b < row
      second_before l = rw (← is_second) (second_early R M row X fits (omega (arith, is_op, l)))

      two_equation : 9 ≤ o → entered g f ≡ value stopped (ev a f) λ v f₁. value stopped (ev b f₁) λ k f₂. answered P f₂ (two_rule o v k)
      two_equation l =
          two_row R M W (λ a f₁. eval R M W a f₁) P row X f (omega (arith, is_op, l))
          ∙ ap (λ k. value stopped (ev (a_for X) f) λ v f₁. value stopped (ev (b_for R M X) f₁) λ y f₂. answered P f₂ (two_rule k v y)) is_op
          ∙ ap (λ k. value stopped (ev k f) λ v f₁. value stopped (ev (b_for R M X) f₁) λ y f₂. answered P f₂ (two_rule o v y)) is_first
          ∙ ap (λ k. value stopped (ev a f) λ v f₁. value stopped (ev k f₁) λ y f₂. answered P f₂ (two_rule o v y)) is_second

    -- ---- the first operand

    module _ (l : 2 ≤ op_in w) (y : Result Got Stop) (right : Right a f y) where
      first_right : told g.rows.routine y ≡ ev a f
      first_right = right (earlier g a (first_before l))

      pub first_stops : (s : Stop) → y ≡ Err s → told g.rows.routine y ≡ entered g f
      first_stops s d = go (below_or o)
        where
          go : (o < 9) ⊎ (9 ≤ o) → told g.rows.routine y ≡ entered g f
          go (inl u) = stop_passes R y s (λ v f₁. answered P f₁ (one_rule W o v)) d ∙ rw (one_equation l u, first_right)
          go (inr u) =
              stop_passes R y s (λ v f₁. value stopped (ev (high_in w) f₁) λ k f₂. answered P f₂ (two_rule o v k)) d
              ∙ rw (two_equation _ refl u, first_right)

      module _ (z : Got) (d : y ≡ Ok z) where
        first_gave : ev a f ≡ got z.value z.left
        first_gave = sym first_right ∙ ap (told R) d

        operand_named : Named z.value
        operand_named =
            valid_named g.homes.words
            (value_of (rw first_gave at (eval_ok g.rows.formed g.rows.accepted g.valid a f (omega (arith, g.inside, first_before l))).answer))

        one_fine : o < 9 → Fine (one_rule W o z.value)
        one_fine u = fine_of P z.left _ (rw (one_equation l u, first_gave) at (sound f))

        pub one_ready : o < 9 → Ready t memory o z.value
        one_ready u =
            record {
              from = omega (arith, h, l);
              to = u;
              named = operand_named;
              inside = λ k a i j. read_inside g.homes.words g.valid o k a z.value operand_named (one_fine u) i j;
            }

        pub a_one : (x : Result Got Stop) (q : Result Value Check) → o < 9 → q ≡ checked (one_in t memory o z.value) → x ≡ says row z.left q → told g.rows.routine x ≡ entered g f
        a_one x q u p s =
            ap (told R) (s ∙ ap (says row z.left) p ∙ ap (λ k. says row z.left (checked k)) (one_is g.homes.words g.valid o z.value operand_named (one_fine u)))
            ∙ told_says R row z.left (one_rule W o z.value) (one_fine u)
            ∙ rw (one_equation l u, first_gave, expr_place_lem g.rows.routine row few)

        -- ---- the second operand

        module _ (u : 9 ≤ o) (b : ℕ) (j : b ≡ high_in w) (x : Result Got Stop) (right₂ : Right b z.left x) where
          second_right : told g.rows.routine x ≡ ev b z.left
          second_right = right₂ (earlier g b (second_before b j u))

          pub second_stops : (s : Stop) → x ≡ Err s → told g.rows.routine x ≡ entered g f
          second_stops s d₂ = stop_passes R x s (λ k f₂. answered P f₂ (two_rule o z.value k)) d₂ ∙ rw (two_equation b j u, first_gave, second_right)

          pub a_two : (y₂ : Got) (r : Result Got Stop) (q : Result Value Check) → x ≡ Ok y₂ → q ≡ checked (two_in o z.value y₂.value) → r ≡ says row y₂.left q → told g.rows.routine r ≡ entered g f
          a_two y₂ r q d₂ p s =
              let gave₂ : ev b z.left ≡ got y₂.value y₂.left = sym second_right ∙ ap (told R) d₂ in
              let fine : Fine (two_rule o z.value y₂.value) = fine_of P y₂.left _ (rw (two_equation b j u, first_gave, gave₂) at (sound f)) in
              ap (told R) (s ∙ ap (says row y₂.left) p ∙ ap (λ k. says row y₂.left (checked k)) (two_is o z.value y₂.value fine))
              ∙ told_says R row y₂.left (two_rule o z.value y₂.value) fine
              ∙ rw (two_equation b j u, first_gave, gave₂, expr_place_lem g.rows.routine row few)
