-- A command row by its word: the equations that the carrying out goes by, and what soundness gives the code there.
use mathlib.Core.Path.{◌≡◌, refl, sym, ap, ◌∙◌}
use mathlib.Core.Bool.{Bool, true, false}
use Prim.Native.Nat.{ℕ, zero, suc, ◌+◌, ◌-◌, ◌%◌, ◌<◌}
use native.Mathlib.Numerals.{sub-one}
use native.Mathlib.Omega.{arith}
use mathlib.Core.List.{List}
use lib.ListN.{get_or, set}
use Rattle.std.specs.Prelude.{nat_lt, Result, Ok, Err}
use Rattle.rules.specs.declared.Value.{Value}
use Rattle.rules.specs.declared.Value.TheVariants.{Number, Pair}
use Rattle.rules.specs.Basic.{choose, width}
use Rattle.rules.specs.Table.{Command, Home, Routine, skip, then, store, if_else, while}
use Rattle.rules.specs.Shape.{type_of}
use Rattle.rules.specs.declared.Kind.{Kind}
use Rattle.rules.specs.Kinds.{kind}
use Rattle.rules.specs.Steps.{Told}
use Rattle.rules.specs.Memory.{State, put, encode}
use Rattle.rules.specs.declared.Check.{Check}
use Rattle.rules.specs.declared.Check.TheVariants.{Bounds}
use Rattle.rules.specs.Ruled.{Ruled, gives, fails, stuck, onward, must}
use Rattle.rules.specs.Values.{truth, reach, kept}
use Rattle.rules.specs.Run.{got, Ran as Runs, done, halted, enter, turns, eval, command_row, exec}
use Rattle.rules.specs.Calls.{state_of}
use Rattle.rules.specs.Valid.{ValidState}
use Rattle.rules.specs.Ends.{Ends, at_stop}
use Rattle.laws.specs.Forget.{value, rule, ended, enter_answer, store_answer, then_answer, if_answer}
use Rattle.laws.specs.Depth.{exec_row}
use Rattle.laws.specs.Formed.{CommandFits}
use Rattle.laws.specs.Steps.{steps_valid}
use Rattle.laws.specs.Sound.{eval_ok, exec_ok}
use Rattle.words.specs.Ops.{op_then, op_store, op_if}
use Rattle.words.specs.Words.{op_in, a_in, b_in, c_in, d_in, command_op, first_for, second_for, access_of, keep_of, third_for, fourth_for, CommandWord, start_in, size_in, Named, state}
use Rattle.values.specs.Values.{number_of, to_safe_in, reach_in, kept_in, as_number, checked}
use Rattle.evaluate.proofs.Rules.{Fine, given, failed, valid_named, checked_gives, reach_is, reach_inside, kept_is}
use Rattle.evaluate.proofs.Rows.{command_place_lem, value_of}
use Rattle.evaluate.specs.declared.Got.{Got}
use Rattle.evaluate.specs.declared.Stop.{Stop}
use Rattle.evaluate.specs.declared.Cause.TheVariants as cause
use Rattle.evaluate.specs.Rows.{told, Asked, meant}
use Rattle.execute.specs.Commands.{ran_told, Commanded, meant_run, entered_run, storing_run, Entered, Storing}

-- ---- a command by its operation

is_skip : (c : ℕ) (r : Routine) (x : Command) → CommandFits r c x → command_op x ≡ 0 → x ≡ skip
is_skip c r skip y h = refl
is_skip c r (then a b) y h = absurd (omega arith)
is_skip c r (store a b) y h = absurd (omega arith)
is_skip c r (if_else a b d) y h = absurd (omega arith)
is_skip c r (while a b) y h = absurd (omega arith)
is_skip c r Command.none y h = absurd y

is_then : (x : Command) → command_op x ≡ 1 → x ≡ then (first_for x) (second_for x)
is_then skip h = absurd (omega arith)
is_then (then a b) h = refl
is_then (store a b) h = absurd (omega arith)
is_then (if_else a b d) h = absurd (omega arith)
is_then (while a b) h = absurd (omega arith)
is_then Command.none h = absurd (omega arith)

is_store : (x : Command) → command_op x ≡ 2 → x ≡ store (first_for x) (second_for x)
is_store skip h = absurd (omega arith)
is_store (then a b) h = absurd (omega arith)
is_store (store a b) h = refl
is_store (if_else a b d) h = absurd (omega arith)
is_store (while a b) h = absurd (omega arith)
is_store Command.none h = absurd (omega arith)

is_if : (r : Routine) (m : List ℕ) (x : Command) → command_op x ≡ 3 → x ≡ if_else (first_for x) (second_for x) (third_for r m x)
is_if r m skip h = absurd (omega arith)
is_if r m (then a b) h = absurd (omega arith)
is_if r m (store a b) h = absurd (omega arith)
is_if r m (if_else a b d) h = refl
is_if r m (while a b) h = absurd (omega arith)
is_if r m Command.none h = absurd (omega arith)

is_while : (x : Command) → command_op x ≡ 4 → x ≡ while (first_for x) (second_for x)
is_while skip h = absurd (omega arith)
is_while (then a b) h = absurd (omega arith)
is_while (store a b) h = absurd (omega arith)
is_while (if_else a b d) h = absurd (omega arith)
is_while (while a b) h = refl
is_while Command.none h = absurd (omega arith)

-- ---- rows by their operation

module _ (r : Routine) (m : List ℕ) (ex : State → ℕ → ℕ → Told Runs) (p : ℕ) (w : State) (f : ℕ) where
  skip_row : (c : ℕ) (x : Command) → CommandFits r c x → command_op x ≡ 0 → (command_row r m ex p x w f).answer ≡ done w f
  skip_row c x y h = rw (is_skip c r x y h)

  then_row : (x : Command) → command_op x ≡ 1 → (command_row r m ex p x w f).answer ≡ ended (ex w (first_for x) f).answer λ w₁ f₁. (ex w₁ (second_for x) f₁).answer
  then_row x h = rw (is_then x h) (then_answer r m ex p (first_for x) (second_for x) w f)

  store_row : (x : Command) → command_op x ≡ 2 → (command_row r m ex p x w f).answer
      ≡ value (halted w) (eval r m w (first_for x) f).answer λ v f₁.
      rule (halted w) p f₁ (reach w (kind m (type_of r (first_for x))) v) λ c.
      value (halted w) (eval r m w (second_for x) f₁).answer λ u f₂.
      rule (halted w) p f₂ (kept w (kind m (type_of r (first_for x))) (kind m (r.target (type_of r (first_for x)))) u) λ y.
      done (put w c y) f₂
  store_row x h = rw (is_store x h) (store_answer r m ex p (first_for x) (second_for x) w f)

  if_row_lem : (x : Command) → command_op x ≡ 3 → (command_row r m ex p x w f).answer
      ≡ value (halted w) (eval r m w (first_for x) f).answer λ v f₁.
      rule (halted w) p f₁ (truth v) λ t.
      choose t (λ _. (ex w (second_for x) f₁).answer) (λ _. (ex w (third_for r m x) f₁).answer)
  if_row_lem x h = rw (is_if r m x h) (if_answer r m ex p (first_for x) (second_for x) (third_for r m x) w f)

  pub while_row : (x : Command) → command_op x ≡ 4 → (command_row r m ex p x w f).answer
      ≡ (turns (suc f) p (λ w₁ f₁. eval r m w₁ (first_for x) f₁) (λ w₁ f₁. ex w₁ (second_for x) f₁) w f).answer
  while_row x h = rw (is_while x h)

-- ---- what a row names is in range

module _ (r : Routine) (m : List ℕ) (c : ℕ) where
  then_early : (x : Command) → CommandFits r c x → command_op x ≡ 1 → (first_for x < c) × (second_for x < c)
  then_early x y h = rw (is_then x h) at y

  store_early : (x : Command) → CommandFits r c x → command_op x ≡ 2 → (first_for x < r.exprs) × (second_for x < r.exprs)
  store_early x y h = rw (is_store x h) at y

  if_early : (x : Command) → CommandFits r c x → command_op x ≡ 3 → (first_for x < r.exprs) × (second_for x < c) × (third_for r m x < c)
  if_early x y h = rw (is_if r m x h) at y

  pub while_early : (x : Command) → CommandFits r c x → command_op x ≡ 4 → (first_for x < r.exprs) × (second_for x < c)
  while_early x y h = rw (is_while x h) at y

  store_third : (x : Command) → command_op x ≡ 2 → third_for r m x ≡ access_of (kind m (type_of r (first_for x)))
  store_third x h = rw (is_store x h)

  store_fourth : (x : Command) → command_op x ≡ 2 → fourth_for r m x ≡ keep_of (kind m (type_of r (first_for x))) (kind m (r.target (type_of r (first_for x))))
  store_fourth x h = rw (is_store x h)

-- ---- the code's answers

abbrev at : List Home → List ℕ → State
at hs memory = record { homes = hs; memory = memory }

module _ (r : Routine) (hs : List Home) (memory : List ℕ) where
  -- An expression's stop is passed upward, and a command's.
  pub stop_told_lem : (x : Result Got Stop) (s : Stop) (k : Value → ℕ → Runs) → x ≡ Err s → ran_told r hs (Err s) memory ≡ value (halted (at hs memory)) (told r x) k
  stop_told_lem x s k h = rw h

  pub ran_told_lem : (x : Result ℕ Stop) (s : Stop) (k : State → ℕ → Runs) → x ≡ Err s → ran_told r hs (Err s) memory ≡ ended (ran_told r hs x memory) k
  ran_told_lem x s k h = rw h

  -- A check that fails at the row.
  check_fails : {Y : Type 0} (row f : ℕ) (u : Ruled Y) (x : Result Y Check) (c : Check) (k : Y → Runs) → Fine u → x ≡ checked u → x ≡ Err c
      → ran_told r hs (Err (record { row = 1024 + row; cause = cause.Check c f })) memory ≡ rule (halted (at hs memory)) (r.command_place row) f u k
  check_fails row f (gives a) x c k y p q = absurd cc
  check_fails row f (fails d) x c k y p q = let e : c ≡ d = cc in rw (e, command_place_lem r row)
  check_fails row f stuck x c k y p q = elim y [ ]

  entry_fails : (row f : ℕ) (u : Ruled Value) (x : Result ℕ Check) (c : Check) (k : Value → Runs) → Fine u → x ≡ checked (onward u (λ v. gives (encode v))) → x ≡ Err c
      → ran_told r hs (Err (record { row = 1024 + row; cause = cause.Check c f })) memory ≡ rule (halted (at hs memory)) (r.command_place row) f u k
  entry_fails row f (gives a) x c k y p q = absurd cc
  entry_fails row f (fails d) x c k y p q = let e : c ≡ d = cc in rw (e, command_place_lem r row)
  entry_fails row f stuck x c k y p q = elim y [ ]

  -- An entry that is kept.
  entry_kept : (p f c : ℕ) (u : Ruled Value) (x : Result ℕ Check) (n : ℕ) → x ≡ checked (onward u (λ v. gives (encode v))) → x ≡ Ok n
      → done (at hs (set memory (c - 1) n)) f ≡ rule (halted (at hs memory)) p f u λ y. done (put (at hs memory) c y) f
  entry_kept p f c (gives v) x n i j = let e : n ≡ encode v = cc in rw e
  entry_kept p f c (fails d) x n i j = absurd cc
  entry_kept p f c stuck x n i j = absurd cc

-- What a store keeps is not stuck.
safe_fine : (t : List ℕ) (v : Value) → Fine (as_number (to_safe_in t v))
safe_fine t (Number n) = given
safe_fine t (Pair g n) = go (nat_lt n (size_in t g))
  where
    go : (b : Bool) → Fine (as_number (must Bounds b (gives ((start_in t g + n) % width))))
    go true = given
    go false = failed

kept_fine : (t : List ℕ) (h : ℕ) (v : Value) → Fine (kept_in t h v)
kept_fine t zero v = given
kept_fine t (suc zero) v = given
kept_fine t (suc (suc zero)) v = safe_fine t v
kept_fine t (suc (suc (suc h))) v = given

-- A run that has ended was not stuck at its rule.
pub rule_fine : {Y : Type 0} (w : State) (p f : ℕ) (u : Ruled Y) (k : Y → Runs) → Ends (rule (halted w) p f u k) → Fine u
rule_fine w p f (gives y) k h = given
rule_fine w p f (fails c) k h = failed
rule_fine w p f stuck k (at_stop y) = elim y [ ]

-- A condition that is not stuck is a number, true unless it is zero.
pub truth_false : (v : Value) → Fine (truth v) → number_of v ≡ 0 → truth v ≡ gives false
truth_false (Number zero) y h = refl
truth_false (Number (suc n)) y h = absurd (omega arith)
truth_false (Pair g n) y h = elim y [ ]

pub truth_true : (v : Value) → Fine (truth v) → (number_of v ≡ 0 → ⊥) → truth v ≡ gives true
truth_true (Number zero) y h = absurd (h refl)
truth_true (Number (suc n)) y h = refl
truth_true (Pair g n) y h = elim y [ ]

-- ---- what follows a row

-- A row that is asked for leaves a valid memory.
pub valid_after : {t memory : List ℕ} {row : ℕ} (g : Commanded t memory row) (f : ℕ) (l : List ℕ) (f₁ : ℕ) → meant_run g f ≡ done (state g.homes l) f₁
    → ValidState g.rows.routine g.rows.marking (state g.homes l)
valid_after g f l f₁ e =
    rw (ap state_of e) at (steps_valid g.valid (exec_ok g.rows.formed g.rows.accepted _ f g.inside g.valid).steps)

-- A row named by another, and an expression, in a memory that is valid for the same table.
abbrev pub command : {t memory : List ℕ} {row : ℕ} (g : Commanded t memory row) (l : List ℕ) → ValidState g.rows.routine g.rows.marking (state g.homes l)
    → (a : ℕ) → a < row → Commanded t l a
command g l ok a h = record { rows = g.rows; homes = g.homes; valid = ok; inside = omega (arith, g.inside, h) }

abbrev pub expression : {t memory : List ℕ} {row : ℕ} (g : Commanded t memory row) (l : List ℕ) → ValidState g.rows.routine g.rows.marking (state g.homes l)
    → (a : ℕ) → a < g.rows.routine.exprs → Asked t l a
expression g l ok a h = record { rows = g.rows; homes = g.homes; valid = ok; inside = h }

-- What the callees' contracts say of their answers.
abbrev pub Valued : List ℕ → List ℕ → ℕ → ℕ → Result Got Stop → Type 0
Valued t memory a f x = (k : Asked t memory a) → told k.rows.routine x ≡ meant k f

abbrev pub Carried : List ℕ → List ℕ → ℕ → ℕ → Result ℕ Stop → List ℕ → Type 0
Carried t memory a f x l = (k : Commanded t memory a) → ran_told k.rows.routine k.homes.list x l ≡ meant_run k f

module _ {t memory : List ℕ} {row : ℕ} (g : Commanded t memory row) where
  abbrev R : Routine
  R = g.rows.routine

  abbrev M : List ℕ
  M = g.rows.marking

  abbrev H : List Home
  H = g.homes.list

  abbrev X : Command
  X = R.command row

  abbrev W : State
  W = state g.homes memory

  abbrev P : ℕ
  P = R.command_place row

  abbrev K : Kind
  K = kind M (type_of R (first_for X))

  pub few : row < 1024
  few = omega (arith, g.inside, g.rows.few_commands)

  abbrev word : CommandWord R M X (get_or t (1024 + row) 0)
  word = g.rows.commands row g.inside

  abbrev fits : CommandFits R row X
  fits = (g.rows.formed.commands row g.inside).0

  pub no_fuel_lem : (f : ℕ) → f ≡ 0 → ran_told g.rows.routine g.homes.list (Err (record { row = 1024 + row; cause = cause.Fuel })) memory ≡ meant_run g f
  unfolding enter
  no_fuel_lem f h = rw (h, command_place_lem g.rows.routine row)

  -- The row is entered for one unit.
  once : (f : ℕ) → meant_run g (suc f) ≡ entered_run g f
  once f = ap (λ (x : Told Runs). x.answer) (exec_row g.rows.formed M W row (suc f) g.inside) ∙ enter_answer (halted W) P (suc f) _

  pub step : (f : ℕ) → (f ≡ 0 → ⊥) → meant_run g f ≡ entered_run g (f - 1)
  step zero z = absurd (z refl)
  step (suc f) z = rw (sub-one (suc f)) (once f)

  -- So the row's soundness, which holds of any fuel, speaks of the row once it has been entered.
  pub sound : (f : ℕ) → Ends (entered_run g f)
  sound f = rw (once f) at (exec_ok g.rows.formed g.rows.accepted row (suc f) g.inside g.valid).answer

  named_value : (a f : ℕ) (v : Value) (f₁ : ℕ) → a < R.exprs → (eval R M W a f).answer ≡ got v f₁ → Named v
  named_value a f v f₁ l e =
      valid_named g.homes.words (value_of (rw e at (eval_ok g.rows.formed g.rows.accepted g.valid a f l).answer))

  module _ (f w o : ℕ) (z : f ≡ 0 → ⊥) (h : o ≡ op_in w) (e : w ≡ get_or t (1024 + row) 0) where
    op_is : command_op X ≡ o
    op_is = sym (h ∙ rw e word.op)

    pub a_skip : o ≡ 0 → ran_told g.rows.routine g.homes.list (Ok (f - 1)) memory ≡ meant_run g f
    a_skip q = sym (step f z ∙ skip_row R M (λ w a f₁. exec R M w a f₁) P W (f - 1) row X fits (op_is ∙ q))

    pub a_row : (x : Runs) → x ≡ entered_run g (f - 1) → x ≡ meant_run g f
    a_row x q = q ∙ sym (step f z)

  -- ---- a row by its word

  module _ {w k : ℕ} (y : Entered t memory row w k) where
    pub is_op : command_op X ≡ k
    is_op = sym word.op ∙ rw (← y.word) y.op

    pub is_first : (a : ℕ) → a ≡ a_in w → first_for X ≡ a
    is_first a i = sym (i ∙ rw y.word word.first)

    pub is_second : (b : ℕ) → b ≡ b_in w → second_for X ≡ b
    is_second b i = sym (i ∙ rw y.word word.second)

    is_third : (c : ℕ) → c ≡ c_in w → third_for R M X ≡ c
    is_third c i = sym (i ∙ rw y.word word.third)

    is_fourth : (d : ℕ) → d ≡ d_in w → fourth_for R M X ≡ d
    is_fourth d i = sym (i ∙ rw y.word word.fourth)

  -- ---- a store

  module _ {w : ℕ} (y : Entered t memory row w op_store) (f : ℕ) where
    store_equation : entered_run g f ≡ value (halted W) (eval R M W (first_for X) f).answer λ v f₁. rule (halted W) P f₁ (reach W K v) λ c. storing_run g c f₁
    store_equation = store_row R M (λ w a f₁. exec R M w a f₁) P W f X (is_op y)

    pub store_names : (first_for X < R.exprs) × (second_for X < R.exprs)
    store_names = store_early R M row X fits (is_op y)

    module _ (a : ℕ) (i : a ≡ a_in w) where
      abbrev pub pointer_asked : Asked t memory a
      pointer_asked = expression g memory g.valid a (rw (← is_first y a i) store_names.0)

      at_pointer : entered_run g f ≡ value (halted W) (eval R M W a f).answer λ v f₁. rule (halted W) P f₁ (reach W K v) λ c. storing_run g c f₁
      at_pointer = store_equation ∙ ap (λ b. value (halted W) (eval R M W b f).answer λ v f₁. rule (halted W) P f₁ (reach W K v) λ c. storing_run g c f₁) (is_first y a i)

      module _ (x : Result Got Stop) (right : Valued t memory a f x) where
        pub pointer_stops : (s : Stop) (r : Result ℕ Stop) → x ≡ Err s → r ≡ Err s → ran_told g.rows.routine g.homes.list r memory ≡ entered_run g f
        pointer_stops s r h q =
            ap (λ s. ran_told R H s memory) q ∙ stop_told_lem R H memory x s (λ v f₁. rule (halted W) P f₁ (reach W K v) λ c. storing_run g c f₁) h
            ∙ rw (right pointer_asked, at_pointer)

        module _ (v : Got) (d : x ≡ Ok v) where
          pointer_gave : (eval R M W a f).answer ≡ got v.value v.left
          pointer_gave = sym (right pointer_asked) ∙ ap (told R) d

          pub pointer_named : Named v.value
          pointer_named = named_value a f v.value v.left pointer_asked.inside pointer_gave

          past_pointer : entered_run g f ≡ rule (halted W) P v.left (reach W K v.value) λ c. storing_run g c v.left
          past_pointer = at_pointer ∙ rw pointer_gave

          module _ (c : ℕ) (j : c ≡ c_in w) (s : Result ℕ Check) (q : s ≡ checked (reach_in t c v.value)) where
            access_fine : Fine (reach W K v.value)
            access_fine = rule_fine W P v.left (reach W K v.value) (λ c. storing_run g c v.left) (rw past_pointer at (sound f))

            access_is : reach W K v.value ≡ reach_in t c v.value
            access_is =
                reach_is g.homes.words g.valid K v.value pointer_named access_fine
                ∙ ap (λ k. reach_in t k v.value) (sym (store_third R M row X (is_op y)) ∙ is_third y c j)

            pub pointer_fails : (d : Check) → s ≡ Err d → ran_told g.rows.routine g.homes.list (Err (record { row = 1024 + row; cause = cause.Check d v.left })) memory ≡ entered_run g f
            pointer_fails d h =
                check_fails R H memory row v.left (reach_in t c v.value) s d (λ c. storing_run g c v.left) (rw access_is at access_fine) q h ∙ rw (past_pointer, access_is)

            reached : (n : ℕ) → s ≡ Ok n → reach W K v.value ≡ gives n
            reached n h = access_is ∙ checked_gives (reach_in t c v.value) s n q h

            pub put_ready : (n : ℕ) → s ≡ Ok n → Storing t memory row w n
            put_ready n h = record { entered = y; inside = reach_inside g.homes.words g.valid K v.value n (reached n h) }

            pub a_store : (n : ℕ) (r : Runs) → s ≡ Ok n → r ≡ storing_run g n v.left → r ≡ entered_run g f
            a_store n r h p = p ∙ rw (past_pointer, reached n h)

    -- The value of a store, past its pointer.
    module _ (b : ℕ) (i : b ≡ b_in w) where
      abbrev pub value_asked : Asked t memory b
      value_asked = expression g memory g.valid b (rw (← is_second y b i) store_names.1)

      abbrev Keeps : Value → Ruled Value
      Keeps u = kept W K (kind M (R.target (type_of R (first_for X)))) u

      at_value : (c : ℕ) → storing_run g c f ≡ value (halted W) (eval R M W b f).answer λ u f₁. rule (halted W) P f₁ (Keeps u) λ v. done (put W c v) f₁
      at_value c = ap (λ k. value (halted W) (eval R M W k f).answer λ u f₁. rule (halted W) P f₁ (Keeps u) λ v. done (put W c v) f₁) (is_second y b i)

      module _ (c : ℕ) (x : Result Got Stop) (right : Valued t memory b f x) where
        pub value_stops : (s : Stop) (r : Result ℕ Stop) → x ≡ Err s → r ≡ Err s → ran_told g.rows.routine g.homes.list r memory ≡ storing_run g c f
        value_stops s r h q =
            ap (λ s. ran_told R H s memory) q ∙ stop_told_lem R H memory x s (λ u f₁. rule (halted W) P f₁ (Keeps u) λ v. done (put W c v) f₁) h
            ∙ rw (right value_asked, at_value c)

        module _ (v : Got) (d : x ≡ Ok v) where
          value_gave : (eval R M W b f).answer ≡ got v.value v.left
          value_gave = sym (right value_asked) ∙ ap (told R) d

          pub value_named : Named v.value
          value_named = named_value b f v.value v.left value_asked.inside value_gave

          past_value : storing_run g c f ≡ rule (halted W) P v.left (Keeps v.value) λ u. done (put W c u) v.left
          past_value = at_value c ∙ rw value_gave

          module _ (h : ℕ) (j : h ≡ d_in w) (s : Result ℕ Check) (q : s ≡ checked (onward (kept_in t h v.value) (λ u. gives (encode u)))) where
            keep_is : Keeps v.value ≡ kept_in t h v.value
            keep_is =
                kept_is g.homes.words memory K (kind M (R.target (type_of R (first_for X)))) v.value value_named
                ∙ ap (λ k. kept_in t k v.value) (sym (store_fourth R M row X (is_op y)) ∙ is_fourth y h j)

            pub value_fails : (d : Check) → s ≡ Err d → ran_told g.rows.routine g.homes.list (Err (record { row = 1024 + row; cause = cause.Check d v.left })) memory ≡ storing_run g c f
            value_fails d p =
                entry_fails R H memory row v.left (kept_in t h v.value) s d (λ u. done (put W c u) v.left) (kept_fine t h v.value) q p ∙ rw (past_value, keep_is)

            pub a_put : (n : ℕ) → s ≡ Ok n → ran_told g.rows.routine g.homes.list (Ok v.left) (set memory (c - 1) n) ≡ storing_run g c f
            a_put n p = entry_kept R H memory P v.left c (kept_in t h v.value) s n q p ∙ rw (past_value, keep_is)

  -- ---- one command after another

  module _ {w : ℕ} (y : Entered t memory row w op_then) (f a : ℕ) (i : a ≡ a_in w) where
    then_names : (first_for X < row) × (second_for X < row)
    then_names = then_early R M row X fits (is_op y)

    pub first_before : a < row
    first_before = rw (← is_first y a i) then_names.0

    abbrev pub first_asked : Commanded t memory a
    first_asked = command g memory g.valid a first_before

    at_first : entered_run g f ≡ ended (exec R M W a f).answer λ w₁ f₁. (exec R M w₁ (second_for X) f₁).answer
    at_first =
        then_row R M (λ w a f₁. exec R M w a f₁) P W f X (is_op y)
        ∙ ap (λ k. ended (exec R M W k f).answer λ w₁ f₁. (exec R M w₁ (second_for X) f₁).answer) (is_first y a i)

    module _ (x : Result ℕ Stop) (l : List ℕ) (right : Carried t memory a f x l) where
      pub first_stops : (s : Stop) (r : Result ℕ Stop) → x ≡ Err s → r ≡ Err s → ran_told g.rows.routine g.homes.list r l ≡ entered_run g f
      first_stops s r h q =
          ap (λ s. ran_told R H s l) q ∙ ran_told_lem R H l x s (λ w₁ f₁. (exec R M w₁ (second_for X) f₁).answer) h ∙ rw (right first_asked, at_first)

      module _ (f₁ : ℕ) (d : x ≡ Ok f₁) (b : ℕ) (j : b ≡ b_in w) where
        pub first_gave : (exec R M W a f).answer ≡ done (state g.homes l) f₁
        first_gave = sym (right first_asked) ∙ ap (λ s. ran_told R H s l) d

        pub second_before : b < row
        second_before = rw (← is_second y b j) then_names.1

        abbrev pub second_asked : Commanded t l b
        second_asked = command g l (valid_after first_asked f l f₁ first_gave) b second_before

        pub a_then : (r : Result ℕ Stop) (l₂ : List ℕ) → Carried t l b f₁ r l₂ → ran_told g.rows.routine g.homes.list r l₂ ≡ entered_run g f
        a_then r l₂ p = p second_asked ∙ rw (at_first, first_gave, is_second y b j)

  -- ---- a condition

  module _ {w : ℕ} (y : Entered t memory row w op_if) (f a : ℕ) (i : a ≡ a_in w) where
    pub if_names : (first_for X < R.exprs) × (second_for X < row) × (third_for R M X < row)
    if_names = if_early R M row X fits (is_op y)

    abbrev pub test_asked : Asked t memory a
    test_asked = expression g memory g.valid a (rw (← is_first y a i) if_names.0)

    abbrev Branch : ℕ → Bool → Runs
    Branch f₁ t = choose t (λ _. (exec R M W (second_for X) f₁).answer) (λ _. (exec R M W (third_for R M X) f₁).answer)

    at_test : entered_run g f ≡ value (halted W) (eval R M W a f).answer λ v f₁. rule (halted W) P f₁ (truth v) λ t. Branch f₁ t
    at_test =
        if_row_lem R M (λ w a f₁. exec R M w a f₁) P W f X (is_op y)
        ∙ ap (λ k. value (halted W) (eval R M W k f).answer λ v f₁. rule (halted W) P f₁ (truth v) λ t. Branch f₁ t) (is_first y a i)

    module _ (x : Result Got Stop) (right : Valued t memory a f x) where
      pub test_stops : (s : Stop) (r : Result ℕ Stop) → x ≡ Err s → r ≡ Err s → ran_told g.rows.routine g.homes.list r memory ≡ entered_run g f
      test_stops s r h q =
          ap (λ s. ran_told R H s memory) q ∙ stop_told_lem R H memory x s (λ v f₁. rule (halted W) P f₁ (truth v) λ t. Branch f₁ t) h
          ∙ rw (right test_asked, at_test)

      module _ (v : Got) (d : x ≡ Ok v) (n : ℕ) (j : n ≡ number_of v.value) where
        past_test : entered_run g f ≡ rule (halted W) P v.left (truth v.value) λ t. Branch v.left t
        past_test = let e : (eval R M W a f).answer ≡ got v.value v.left = sym (right test_asked) ∙ ap (told R) d in at_test ∙ rw e

        test_fine : Fine (truth v.value)
        test_fine = rule_fine W P v.left (truth v.value) (λ t. Branch v.left t) (rw past_test at (sound f))

        module _ (b : ℕ) (k : b ≡ b_in w) where
          pub then_before : b < row
          then_before = rw (← is_second y b k) if_names.1

          pub if_yes : (r : Result ℕ Stop) (l : List ℕ) → (n ≡ 0 → ⊥) → Carried t memory b v.left r l → ran_told g.rows.routine g.homes.list r l ≡ entered_run g f
          if_yes r l z p =
              p (command g memory g.valid b then_before)
              ∙ rw (past_test, truth_true v.value test_fine (λ q. z (j ∙ q)), is_second y b k)

        module _ (c : ℕ) (k : c ≡ c_in w) where
          pub else_before : c < row
          else_before = rw (← is_third y c k) if_names.2

          pub if_no : (r : Result ℕ Stop) (l : List ℕ) → n ≡ 0 → Carried t memory c v.left r l → ran_told g.rows.routine g.homes.list r l ≡ entered_run g f
          if_no r l z p =
              p (command g memory g.valid c else_before)
              ∙ rw (past_test, truth_false v.value test_fine (sym j ∙ z), is_third y c k)
