-- What the lent memory held before does not matter: a run writes its cells first, and no read goes past them. So two runs that
-- start with the same cells take the same steps and end with the same cells.
use Rattle.std.specs.Prelude.{◌≡◌, ◌⊎◌, Bool, true, false, ◌&&◌, ◌||◌, List, [], ◌∷◌, ◌++◌, length, get_or, take, drop, set, leb, ltb}
use Rattle.std.proofs.Math.Path.{refl, ap}
use Rattle.std.proofs.Common.{sym, ◌∙◌, inl, inr, arith, get_or-take, take_at, ltb-true, le-leb}
use Prim.Native.Nat.{ℕ, zero, suc, ◌+◌, ◌-◌, ◌≤◌, ◌<◌}
use Rattle.std.proofs.Math.Decide.{dec_lt}
use Rattle.std.proofs.Math.Seq.{take-set-lt}
use Rattle.std.proofs.lemmas.List.{take-set-le}
use Rattle.rules.specs.declared.Value.{Value}
use Rattle.rules.specs.declared.Value.TheVariants.{Number, Pair}
use Rattle.rules.specs.Basic.{choose}
use Rattle.rules.specs.Table.{Expr, Command, Home, Routine, routine, total, literal, home, cast, null, sum, read, op, skip, then, store, if_else, while}
use Rattle.rules.specs.Shape.{home_at, type_of}
use Rattle.rules.specs.declared.Kind.{Kind}
use Rattle.rules.specs.declared.Kind.TheVariants.{int, SAFE, SEQ, DYNAMIC}
use Rattle.rules.specs.Kinds.{kind}
use Rattle.rules.specs.Steps.{Step, entered, looked, Told, quiet, after, tell}
use Rattle.rules.specs.Memory.{State, cell, put, encode, decode, held, size, address}
use Rattle.rules.specs.declared.Check.{Check}
use Rattle.rules.specs.declared.Check.TheVariants.{Bounds}
use Rattle.rules.specs.Ruled.{Ruled, gives, fails, stuck, onward, must}
use Rattle.rules.specs.Values.{convert, home_value, reach_safe, reach, fetched, paired, kept}
use Rattle.rules.specs.Start.{fresh_cells, given_value, cleared, given, start}
use Rattle.rules.specs.Run.{Stop, Answer, got, stopped, Ran, done, halted, on_value, and_then, ruled, enter, on_done, afterwards, answered, turns, expr_row, eval_below, command_row, exec_below, run}
use Rattle.rules.specs.Calls.{cell_count, running, runnable, reported}
use Rattle.rules.specs.Tests.{false_true, parts_true, by_test}
use Rattle.promises.specs.Promises.{Alone, SameRun}
use Rattle.promises.specs.ReadSteps.{read_of}
use Rattle.laws.proofs.WellRead.{formed_fine}
use Rattle.laws.specs.Formed.{Consecutive, last, behind, Formed}
use Rattle.laws.specs.Depth.{then_same, enter_same}
use Rattle.laws.specs.Start.{length_start}
use Rattle.laws.specs.Read.{judged_fine}

-- The homes reach no further than n cells.
record Reached (n : ℕ) (hs : List Home) : Type 0 where
  by : (a : ℕ) → held hs (suc a) ≡ true → a < n

abbrev over : List Home → List ℕ → State
over hs a = record { homes = hs; memory = a }

-- Two states with the same homes and the same n cells.
data Agree (n : ℕ) : State → State → Type 0 where
  agree : {hs : List Home} {a b : List ℕ} → Reached n hs → take n a ≡ take n b → Agree n (over hs a) (over hs b)

-- ---- rules for values go by the homes alone, but for the cell that is read

-- A pointer's kind, and where it is DYNAMIC its target's.
by_kinds : (P : Kind → Kind → Type 0) → ((t : Kind) → P int t) → ((t : Kind) → P SAFE t) → ((t : Kind) → P SEQ t) → P DYNAMIC int → P DYNAMIC SAFE → P DYNAMIC SEQ
    → P DYNAMIC DYNAMIC → (k t : Kind) → P k t
by_kinds P i s q a b c d int t = i t
by_kinds P i s q a b c d SAFE t = s t
by_kinds P i s q a b c d SEQ t = q t
by_kinds P i s q a b c d DYNAMIC int = a
by_kinds P i s q a b c d DYNAMIC SAFE = b
by_kinds P i s q a b c d DYNAMIC SEQ = c
by_kinds P i s q a b c d DYNAMIC DYNAMIC = d

-- An address among the first n cells, if any.
data Near (n : ℕ) : Ruled ℕ → Type 0 where
  near : {a : ℕ} → a - 1 < n → Near n (gives a)
  fail : {c : Check} → Near n (fails c)
  none : Near n stuck

module _ (hs : List Home) (a b : List ℕ) where
  convert_same : (k : Kind) (v : Value) → convert (over hs a) k v ≡ convert (over hs b) k v
  convert_same int (Number n) = refl
  convert_same int (Pair g n) = refl
  convert_same SAFE (Number n) = refl
  convert_same SAFE (Pair g n) = refl
  convert_same SEQ (Number n) = refl
  convert_same SEQ (Pair g n) = refl
  convert_same DYNAMIC (Number n) = refl
  convert_same DYNAMIC (Pair g n) = refl

  home_same : (k : Kind) (g : ℕ) → home_value (over hs a) k g ≡ home_value (over hs b) k g
  home_same int g = refl
  home_same SAFE g = refl
  home_same SEQ g = refl
  home_same DYNAMIC g = refl

  safe_same : (v : Value) → reach_safe (over hs a) v ≡ reach_safe (over hs b) v
  safe_same (Number zero) = refl
  safe_same (Number (suc n)) = refl
  safe_same (Pair g n) = refl

  narrow_same : (u : Ruled Value) → onward u (λ x. reach_safe (over hs a) x) ≡ onward u (λ x. reach_safe (over hs b) x)
  narrow_same (gives v) = safe_same v
  narrow_same (fails c) = refl
  narrow_same stuck = refl

  reach_same : (k : Kind) (v : Value) → reach (over hs a) k v ≡ reach (over hs b) k v
  reach_same int v = refl
  reach_same SAFE v = safe_same v
  reach_same SEQ v = ap (λ u. onward u (λ x. reach_safe (over hs a) x)) (convert_same SAFE v) ∙ narrow_same (convert (over hs b) SAFE v)
  reach_same DYNAMIC (Number n) = refl
  reach_same DYNAMIC (Pair zero n) = refl
  reach_same DYNAMIC (Pair (suc g) n) = ap (λ u. must Bounds (ltb n (size (over hs a) (suc g))) u) (safe_same (Number (address (over hs a) (suc g) n)))

  fetched_same : (k t : Kind) (v : Value) → fetched (over hs a) k t v ≡ fetched (over hs b) k t v
  fetched_same k t v = by_kinds (λ k t. fetched (over hs a) k t v ≡ fetched (over hs b) k t v) (λ t. refl) (λ t. refl) (λ t. refl) (convert_same int v) refl refl refl k t

  paired_same : (k t : Kind) (v : Value) → paired (over hs a) k t v ≡ paired (over hs b) k t v
  paired_same k t v = by_kinds (λ k t. paired (over hs a) k t v ≡ paired (over hs b) k t v) (λ t. refl) (λ t. refl) (λ t. refl) (convert_same DYNAMIC v) refl refl refl k t

  kept_same : (k t : Kind) (v : Value) → kept (over hs a) k t v ≡ kept (over hs b) k t v
  kept_same k t v = ap (λ u. onward u (λ x. paired (over hs a) k t x)) (convert_same t v) ∙ go (convert (over hs b) t v)
    where
      go : (u : Ruled Value) → onward u (λ x. paired (over hs a) k t x) ≡ onward u (λ x. paired (over hs b) k t x)
      go (gives x) = paired_same k t x
      go (fails c) = refl
      go stuck = refl

module _ {n : ℕ} {hs : List Home} (reached : Reached n hs) (a : List ℕ) where
  near_safe : (v : Value) → Near n (reach_safe (over hs a) v)
  near_safe (Number zero) = fail
  near_safe (Number (suc i)) = by_test (Near n) (held hs (suc i)) (λ _. gives (suc i)) (λ _. stuck) (λ h. near (omega (arith, reached.by i h))) (λ h. none)
  near_safe (Pair g i) = none

  near_must : (c : Check) (t : Bool) {u : Ruled ℕ} → Near n u → Near n (must c t u)
  near_must c true h = h
  near_must c false h = fail

  near_reach : (k : Kind) (v : Value) → Near n (reach (over hs a) k v)
  near_reach int v = none
  near_reach SAFE v = near_safe v
  near_reach SEQ v = go (convert (over hs a) SAFE v)
    where
      go : (u : Ruled Value) → Near n (onward u (λ x. reach_safe (over hs a) x))
      go (gives x) = near_safe x
      go (fails c) = fail
      go stuck = none
  near_reach DYNAMIC (Number i) = none
  near_reach DYNAMIC (Pair zero i) = fail
  near_reach DYNAMIC (Pair (suc g) i) = near_must Bounds (ltb i (home_at hs (suc g)).size) (near_safe (Number (address (over hs a) (suc g) i)))

module _ {n : ℕ} where
  cell_agree : {w z : State} → Agree n w z → (i : ℕ) → i - 1 < n → cell w i ≡ cell z i
  cell_agree (agree {a = a} {b = b} q e) i l =
      ap decode (sym (get_or-take n a (i - 1) 0 l) ∙ ap (λ (m : List ℕ). get_or m (i - 1) 0) e ∙ get_or-take n b (i - 1) 0 l)

  put_agree : {w z : State} → Agree n w z → (i : ℕ) (v : Value) → Agree n (put w i v) (put z i v)
  put_agree (agree {a = a} {b = b} q e) i v = agree q (go (dec_lt (i - 1) n))
    where
      x : ℕ
      x = encode v

      go : Dec (i - 1 < n) → take n (set a (i - 1) x) ≡ take n (set b (i - 1) x)
      go (yes l) = take-set-lt n a (i - 1) x l ∙ ap (λ (m : List ℕ). set m (i - 1) x) e ∙ sym (take-set-lt n b (i - 1) x l)
      go (no k) = take-set-le n a (i - 1) x (omega arith) ∙ e ∙ sym (take-set-le n b (i - 1) x (omega arith))

  convert_agree : {w z : State} → Agree n w z → (k : Kind) (v : Value) → convert w k v ≡ convert z k v
  convert_agree (agree {hs = hs} {a = a} {b = b} q e) k v = convert_same hs a b k v

  home_agree : {w z : State} → Agree n w z → (k : Kind) (g : ℕ) → home_value w k g ≡ home_value z k g
  home_agree (agree {hs = hs} {a = a} {b = b} q e) k g = home_same hs a b k g

  reach_agree : {w z : State} → Agree n w z → (k : Kind) (v : Value) → reach w k v ≡ reach z k v
  reach_agree (agree {hs = hs} {a = a} {b = b} q e) k v = reach_same hs a b k v

  kept_agree : {w z : State} → Agree n w z → (k t : Kind) (v : Value) → kept w k t v ≡ kept z k t v
  kept_agree (agree {hs = hs} {a = a} {b = b} q e) k t v = kept_same hs a b k t v

  read_agree : {w z : State} → Agree n w z → (p f : ℕ) (k t : Kind) (v : Value)
      → ruled stopped p f (reach w k v) (read_of p f w k t v) ≡ ruled stopped p f (reach z k v) (read_of p f z k t v)
  unfolding ruled
  read_agree (agree {hs = hs} {a = a} {b = b} q e) p f k t v =
      ap (λ u. ruled stopped p f u (read_of p f (over hs a) k t v)) (reach_same hs a b k v) ∙ go (reach (over hs b) k v) (near_reach q b k v)
    where
      go : (u : Ruled ℕ) → Near n u → ruled stopped p f u (read_of p f (over hs a) k t v) ≡ ruled stopped p f u (read_of p f (over hs b) k t v)
      go (gives i) (near l) =
          ap (λ c. tell (looked p v i) (quiet (answered p f c)))
          (ap (λ c. fetched (over hs a) k t c) (cell_agree (agree q e) i l) ∙ fetched_same hs a b k t (cell (over hs b) i))
      go (fails c) fail = refl
      go stuck none = refl

  -- ---- expressions

  module _ (r : Routine) (m : List ℕ) {w z : State} (same : Agree n w z) where
    row_agree : {ev ev' : ℕ → ℕ → Told Answer} → ((a f : ℕ) → ev a f ≡ ev' a f) → (p : ℕ) (x : Expr) (f : ℕ) → expr_row r m w ev p x f ≡ expr_row r m z ev' p x f
    row_agree h p (literal i) f = refl
    row_agree h p (home g) f = ap (λ v. quiet (got v f)) (home_agree same (kind m (home_at r.homes g).type) g)
    row_agree h p (cast a t) f = then_same stopped (h a f) (λ v f₁. ap (λ u. quiet (answered p f₁ u)) (convert_agree same (kind m t) v))
    row_agree h p (null t) f = refl
    row_agree h p (sum a b) f = then_same stopped (h a f) (λ v f₁. then_same stopped (h b f₁) (λ i f₂. refl))
    row_agree h p (read a) f = then_same stopped (h a f) (λ v f₁. read_agree same p f₁ (kind m (type_of r a)) (kind m (r.target (type_of r a))) v)
    row_agree h p (op o a b) f = then_same stopped (h a f) (λ v f₁. then_same stopped (h b f₁) (λ i f₂. refl))
    row_agree h p Expr.none f = refl

    eval_agree : (d e f : ℕ) → eval_below r m w d e f ≡ eval_below r m z d e f
    eval_agree zero e f = refl
    eval_agree (suc d) e f = enter_same stopped (r.expr_place e) f (λ f₁. row_agree (λ a f₂. eval_agree d a f₂) (r.expr_place e) (r.expr e) f₁)

-- ---- commands

data Alike (n : ℕ) : Ran → Ran → Type 0 where
  both_done : {w z : State} {f : ℕ} → Agree n w z → Alike n (done w f) (done z f)
  both_halted : {w z : State} {s : Stop} → Agree n w z → Alike n (halted w s) (halted z s)

-- The same steps, and the same end in states that agree.
record Twins (n : ℕ) (x y : Told Ran) : Type 0 where
  steps : x.steps ≡ y.steps
  answers : Alike n x.answer y.answer

module _ {n : ℕ} where
  twins_after : {x y : Told Ran} {l k : List Step} → l ≡ k → Twins n x y → Twins n (after l x) (after k y)
  twins_after {x} {y} {l} {k} e h = record { steps = ap (λ i. i ++ x.steps) e ∙ ap (λ i. k ++ i) h.steps; answers = h.answers }

  twins_choose : (c : Bool) (x y x' y' : Unit {0} → Told Ran) → Twins n (x tt) (x' tt) → Twins n (y tt) (y' tt) → Twins n (choose c x y) (choose c x' y')
  twins_choose true x y x' y' h i = h
  twins_choose false x y x' y' h i = i

  twins_quiet : {a b : Ran} → Alike n a b → Twins n (quiet a) (quiet b)
  twins_quiet h = record { steps = refl; answers = h }

  module _ {w z : State} (same : Agree n w z) where
    twins_then : {x y : Told Answer} {k l : Value → ℕ → Told Ran} → x ≡ y → ((v : Value) (f : ℕ) → Twins n (k v f) (l v f))
        → Twins n (and_then (halted w) x k) (and_then (halted z) y l)
    unfolding and_then
    twins_then {x} {y} {k} {l} e h = rw e (twins_after {l = y.steps} refl (go y.answer))
      where
        go : (a : Answer) → Twins n (on_value (halted w) a k) (on_value (halted z) a l)
        go (got v f) = h v f
        go (stopped s) = twins_quiet (both_halted same)

    twins_ruled : {Y : Type 0} {k l : Y → Told Ran} (p f : ℕ) {u v : Ruled Y} → u ≡ v → ((y : Y) → Twins n (k y) (l y))
        → Twins n (ruled (halted w) p f u k) (ruled (halted z) p f v l)
    unfolding ruled
    twins_ruled {Y} {k} {l} p f {u} {v} e h = rw e (go v)
      where
        go : (v : Ruled Y) → Twins n (ruled (halted w) p f v k) (ruled (halted z) p f v l)
        go (gives y) = h y
        go (fails c) = twins_quiet (both_halted same)
        go stuck = twins_quiet (both_halted same)

    twins_enter : {k l : ℕ → Told Ran} (p f : ℕ) → ((f₁ : ℕ) → Twins n (k f₁) (l f₁)) → Twins n (enter (halted w) p f k) (enter (halted z) p f l)
    unfolding enter
    twins_enter p zero h = twins_quiet (both_halted same)
    twins_enter p (suc f) h = twins_after {l = entered p ∷ []} refl (h f)

  twins_on : {x y : Told Ran} {k l : State → ℕ → Told Ran} → Twins n x y → ((w z : State) (f : ℕ) → Agree n w z → Twins n (k w f) (l z f))
      → Twins n (afterwards x k) (afterwards y l)
  unfolding afterwards
  twins_on {x} {y} {k} {l} t h = twins_after t.steps (go t.answers)
    where
      go : {a b : Ran} → Alike n a b → Twins n (on_done a k) (on_done b l)
      go (both_done {w = w} {z = z} {f = f} same) = h w z f same
      go (both_halted same) = twins_quiet (both_halted same)

  module _ (r : Routine) (m : List ℕ) where
    turns_twins : (p : ℕ) {test : State → ℕ → Told Answer} {body : State → ℕ → Told Ran} → ((w z : State) (f : ℕ) → Agree n w z → test w f ≡ test z f)
        → ((w z : State) (f : ℕ) → Agree n w z → Twins n (body w f) (body z f)) → (k : ℕ) (w z : State) (f : ℕ) → Agree n w z
        → Twins n (turns k p test body w f) (turns k p test body z f)
    turns_twins p t b zero w z f same = twins_quiet (both_halted same)
    turns_twins p t b (suc k) w z f same =
        twins_then same (t w z f same) (λ v f₁.
        twins_ruled same p f₁ refl (λ c.
        twins_choose c _ _ _ _
        (twins_on (b w z f₁ same) (λ w₂ z₂ f₂ s₂. twins_enter s₂ p f₂ (λ f₃. turns_twins p t b k w₂ z₂ f₃ s₂)))
        (twins_quiet (both_done same))))

    command_twins : {ex : State → ℕ → ℕ → Told Ran} → ((w z : State) (a f : ℕ) → Agree n w z → Twins n (ex w a f) (ex z a f))
        → (p : ℕ) (x : Command) (w z : State) (f : ℕ) → Agree n w z → Twins n (command_row r m ex p x w f) (command_row r m ex p x z f)
    command_twins h p skip w z f same = twins_quiet (both_done same)
    command_twins h p (then a b) w z f same = twins_on (h w z a f same) (λ w₁ z₁ f₁ s₁. h w₁ z₁ b f₁ s₁)
    command_twins h p (store a b) w z f same =
        twins_then same (eval_agree r m same (suc a) a f) (λ v f₁.
        twins_ruled same p f₁ (reach_agree same (kind m (type_of r a)) v) (λ c.
        twins_then same (eval_agree r m same (suc b) b f₁) (λ x f₂.
        twins_ruled same p f₂ (kept_agree same (kind m (type_of r a)) (kind m (r.target (type_of r a))) x) (λ y.
        record { steps = refl; answers = both_done (put_agree same c y) }))))
    command_twins h p (if_else a b c) w z f same =
        twins_then same (eval_agree r m same (suc a) a f) (λ v f₁.
        twins_ruled same p f₁ refl (λ t. twins_choose t _ _ _ _ (h w z b f₁ same) (h w z c f₁ same)))
    command_twins h p (while a b) w z f same =
        turns_twins p (λ w₁ z₁ f₁ s₁. eval_agree r m s₁ (suc a) a f₁) (λ w₁ z₁ f₁ s₁. h w₁ z₁ b f₁ s₁) (suc f) w z f same
    command_twins h p Command.none w z f same = twins_quiet (both_halted same)

    exec_twins : (d : ℕ) (w z : State) (c f : ℕ) → Agree n w z → Twins n (exec_below r m d w c f) (exec_below r m d z c f)
    exec_twins zero w z c f same = twins_quiet (both_halted same)
    exec_twins (suc d) w z c f same =
        twins_enter same (r.command_place c) f (λ f₁.
        command_twins (λ w₁ z₁ a f₂ s₁. exec_twins d w₁ z₁ a f₂ s₁) (r.command_place c) (r.command c) w z f₁ same)

-- ---- the start

held_cases : (h : Home) (hs : List Home) (a : ℕ) → held (h ∷ hs) a ≡ true → (a < h.start + h.size) ⊎ (held hs a ≡ true)
held_cases h hs a k = go (leb h.start a && ltb a (h.start + h.size)) refl k
  where
    go : (b : Bool) → (leb h.start a && ltb a (h.start + h.size)) ≡ b → (b || held hs a) ≡ true → (a < h.start + h.size) ⊎ (held hs a ≡ true)
    go true q k = inl (ltb-true a (h.start + h.size) (parts_true (leb h.start a) _ q).1)
    go false q k = inr k

-- No address of homes one after the other is past their cells.
held_below : {from : ℕ} {hs : List Home} (a : ℕ) → Consecutive from hs → held hs a ≡ true → a < from + total hs
held_below a last k = false_true k
held_below a (behind {from = from} {h = h} {hs = hs} e c) k = go (held_cases h hs a k) (λ i. held_below a c i)
  where
    go : (a < h.start + h.size) ⊎ (held hs a ≡ true) → (held hs a ≡ true → a < from + h.size + total hs) → a < from + (h.size + total hs)
    go (inl l) rest = omega arith
    go (inr i) rest = omega (arith, rest i)

module _ {r : Routine} (formed : Formed r) where
  reached : Reached (cell_count r) r.homes
  reached = record { by = λ a k. go r.homes formed.nowhere formed.single formed.consecutive a k }
    where
      past : (h : Home) (hs : List Home) (a : ℕ) → h.start ≡ 0 → h.size ≡ 1 → Consecutive 1 hs → (suc a < h.start + h.size) ⊎ (held hs (suc a) ≡ true) → a < total hs
      past h hs a s z c (inl l) = absurd (omega arith)
      past h hs a s z c (inr k) = omega (arith, held_below (suc a) c k)

      go : (hs : List Home) → (home_at hs 0).start ≡ 0 → (home_at hs 0).size ≡ 1 → Consecutive 1 (drop 1 hs) → (a : ℕ) → held hs (suc a) ≡ true → a < total (drop 1 hs)
      go [] s z c a k = false_true k
      go (h ∷ hs) s z c a k = past h hs a s z c (held_cases h hs (suc a) k)

  -- Start values keep states alike.
  given_agrees : (m a b : List ℕ) → Agree (cell_count r) (over r.homes a) (over r.homes b)
      → (n : ℕ) → Agree (cell_count r) (over r.homes (given r m n a)) (over r.homes (given r m n b))
  given_agrees m a b same zero = same
  given_agrees m a b same (suc n) =
      let x = r.value n in
      let h = home_at r.homes x.home in
      put_agree (given_agrees m a b same n) (h.start + x.cell) (given_value (kind m h.type) x.value)

  start_agrees : (m lent lent' : List ℕ) → Agree (cell_count r) (start r m lent) (start r m lent')
  start_agrees m lent lent' =
      let cells = fresh_cells r m (drop 1 r.homes) in
      let e = length_start r m (drop 1 r.homes) in
      given_agrees m (cleared r m lent) (cleared r m lent')
      (agree reached (take_at cells (drop (length cells) lent) (cell_count r) e ∙ sym (take_at cells (drop (length cells) lent') (cell_count r) e)))
      r.values

  run_twins : (m lent lent' : List ℕ) (fuel : ℕ) → Twins (cell_count r) (run r m lent fuel) (run r m lent' fuel)
  run_twins m lent lent' fuel = exec_twins r m (suc (r.commands - 1)) (start r m lent) (start r m lent') (r.commands - 1) fuel (start_agrees m lent lent')

-- ---- what is reported

cells_agree : {n : ℕ} {w z : State} → Agree n w z → take n w.memory ≡ take n z.memory
cells_agree (agree q e) = e

reported_same : {n : ℕ} {x y : Told Ran} → Twins n x y → SameRun n (reported x) (reported y)
reported_same {n} {x} {y} t = go t.answers
  where
    go : {a b : Ran} → Alike n a b → SameRun n (reported (record { answer = a; steps = x.steps })) (reported (record { answer = b; steps = y.steps }))
    go (both_done same) = record { answers = rw t.steps; memory = cells_agree same }
    go (both_halted same) = record { answers = rw t.steps; memory = cells_agree same }

pub alone : Alone
unfolding running runnable
alone s m lent lent' fuel at bytes j enough enough' =
    let r = routine s at in
    let (f, a) = judged_fine s m j in
    rw (ran lent enough, ran lent' enough') (reported_same (run_twins (formed_fine bytes f) m lent lent' fuel))
  where
    ran : (l : List ℕ) → cell_count (routine s at) ≤ length l → running s m fuel l ≡ reported (run (routine s at) m l fuel)
    ran l k = rw (j, le-leb (cell_count (routine s at)) (length l) k)
