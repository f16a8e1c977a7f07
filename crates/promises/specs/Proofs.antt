-- The promises, proved. `FirstBytes` and `FirstBytesDecide` are proved in `Front`, `StartingMemory` in `Given`, `StopsAfterCommands` in `Stops`,
-- `NoRowsIsNone` in `Empty`, `Longest` in `Longest`, `Alone` in `Lent`, `ReadsTold` in `ReadSteps`, `Lossless` in `Answers`, `Numbers` in `Numbers`.
use Rattle.std.specs.Prelude.{Bool, true, false, ◌≡◌, refl, ◌⊎◌, ℕ, suc, ◌+◌, ◌-◌, ◌<◌, List, [], ◌∷◌, ◌++◌, length, drop, leb, ltb}
use Rattle.rules.specs.declared.Value.{Value}
use Rattle.rules.specs.declared.Value.TheVariants.{Number, Pair}
use Rattle.rules.specs.declared.Starts.{Starts}
use Rattle.rules.specs.Basic.{Verdict, fine, refused, guard, Bytes}
use Rattle.rules.specs.Steps.{Step, entered, stored, Told, units, looked}
use Rattle.rules.specs.Table.{Home, Routine, routine, total}
use Rattle.rules.specs.Shape.{home_at}
use Rattle.rules.specs.declared.Kind.TheVariants.{int, SAFE, SEQ, DYNAMIC}
use Rattle.rules.specs.Kinds.{Acceptable}
use Rattle.rules.specs.Calls.{formed, judged, lent_enough, cell_count, out_of_fuel, failed_check, ending_of, state_of, Ended, Left, or_leave, reported, Inferred, left, marked, inferable, runnable, running}
use Rattle.rules.specs.Memory.{State, replay, encode, stepped}
use Rattle.rules.specs.declared.Check.{Check}
use Rattle.rules.specs.declared.Check.TheVariants.{Null, Bounds, NoHome, ByZero}
use Rattle.rules.specs.Ruled.{check_number, gives, fails}
use Rattle.rules.specs.Values.{convert, reach}
use Rattle.rules.specs.Start.{fresh_cells, cleared, start}
use Rattle.rules.specs.Run.{no_fuel, failed, no_rule, Ran, done, halted, run}
use Rattle.rules.specs.Valid.{InHome, Laid, ValidState}
use Rattle.rules.specs.Made.{Made, enters_expr, enters_command, looks, stores}
use Rattle.std.proofs.Common.{sym, ◌∙◌, inl, inr, le_refl, arith, append-nil, drop-set-lt, take_at, leb-false, ltb-true}
use Rattle.std.proofs.Math.Seq.{drop-append_seam}
use Rattle.rules.specs.Tests.{false_true, fine_same}
use Rattle.rules.specs.Tested.{refused_fine, passed}
use Rattle.rules.specs.Ends.{Proper, Ends, at_done, at_stop, left_after}
use Rattle.promises.specs.Promises.{Safety, Spending, Prefixes, Surplus, Afterwards, MadeOfNumber, Equal, AllDynamic, Exactly, Demanded, LeastMarking, LeastExists, OneInference, SomeInference, MarksAccepted, OnlyTooShort, Regular, is_done, is_fuel, is_check, Endings, Within, Rows}
use Rattle.laws.proofs.WellRead.{formed_known, formed_fine}
use Rattle.laws.specs.Values.{null_address, valid_same}
use Rattle.laws.specs.Steps.{Steps, still, next, steps_valid}
use Rattle.laws.specs.Formed.{Formed, type_le}
use Rattle.laws.specs.Sound.{exec_ok}
use Rattle.laws.specs.Units.{exec_spends}
use Rattle.promises.specs.Prefix.{exec_longer}
use Rattle.laws.specs.Start.{length_start, start_laid, start_ok, given_past}
use Rattle.laws.specs.Known.{unrefused, formed_rising}
use Rattle.laws.specs.Read.{null_ref, judged_fine, acceptable_judged}
use Rattle.laws.specs.Same.{reflexive, symmetric, trans, same_kind_lem, same_bound}
use Rattle.laws.specs.Dynamic.{all_acceptable}
use Rattle.promises.specs.Least.{acceptable_meets, meets_acceptable, least_exists, least_unique}

module _ {r : Routine} {m : List ℕ} where
  split : {w w' : State} {k : List Step} (l : List Step) → Steps r m w (l ++ k) w' → Steps r m w l (replay w l) × Steps r m (replay w l) k w'
  split [] x = (still, x)
  split {w = w} (s ∷ l) (next i o x) = let (y, z) = split {w = stepped w s} l x in (next i o y, z)

  ends : {w w' : State} {l : List Step} → Steps r m w l w' → w' ≡ replay w l
  ends still = refl
  ends (next i o x) = ends x

  first : {w w' : State} {s : Step} {l : List Step} → Steps r m w (s ∷ l) w' → Made r m w s
  first (next i o x) = i

  look_inside : {w : State} {p : ℕ} {v : Value} {a : ℕ} → Made r m w (looked p v a) → InHome w.homes a
  look_inside (looks l e x) = x.inside

  store_inside : {w : State} {p : ℕ} {v : Value} {a : ℕ} {u : Value} → Made r m w (stored p v a u) → InHome w.homes a
  store_inside (stores l e x h k) = x.inside

-- Nothing is left where the fuel is out.
none_left : (a : Ran) (p : ℕ) → ending_of a ≡ out_of_fuel p → left_after a ≡ 0
none_left (done w f) p e = let z : ◌≡◌ {A = ℕ} 0 1 = cc in absurd (omega arith)
none_left (halted w (no_fuel q)) p e = refl
none_left (halted w (failed c q f)) p e = let z : ◌≡◌ {A = ℕ} 0 1 = cc in absurd (omega arith)
none_left (halted w (no_rule q f)) p e = let z : ◌≡◌ {A = ℕ} 0 1 = cc in absurd (omega arith)

-- A file's bytes and its marking, taken apart.
accepted : {s m : List ℕ} {at : Starts} → Bytes s → judged s m ≡ fine at → Formed (routine s at) × Acceptable (routine s at) m
accepted {s} {m} b j = let (f, k) = judged_fine s m j in (formed_fine b f, k)

pub safety : Safety
safety s m lent fuel at b j =
    let (f, k) = accepted b j in
    let ok = start_ok (routine s at) m f lent in
    let x = exec_ok f k ((routine s at).commands - 1) fuel (omega (arith, f.some)) ok in
    let made : (before after : List Step) (t : Step) → (run (routine s at) m lent fuel).steps ≡ before ++ t ∷ after
    → Made (routine s at) m (replay (start (routine s at) m lent) before) t
    = λ before after t e. first (split before (rw e at x.steps)).1 in
    record {
      outcome = x.answer;
      looks = λ before after p v a e. look_inside (made before after _ e);
      stores = λ before after p v a u e. store_inside (made before after _ e);
      made = made;
      valid = λ before after e. steps_valid ok (split before (rw e at x.steps)).0;
      last = ends x.steps;
    }

pub spending : Spending
spending r m lent fuel = (exec_spends r m (suc (r.commands - 1)) (start r m lent) (r.commands - 1) fuel).by

pub prefixes : Prefixes
prefixes r m lent k d = exec_longer d r m (suc (r.commands - 1)) (start r m lent) (r.commands - 1) k

pub within : Within
within r m lent fuel = record { most = omega (arith, spending r m lent fuel); all = λ p e. go (run r m lent fuel) (spending r m lent fuel) p e }
  where
    go : (x : Told Ran) → units x.steps + left_after x.answer ≡ fuel → (p : ℕ) → ending_of x.answer ≡ out_of_fuel p → units x.steps ≡ fuel
    go x s p e = omega (arith, s, none_left x.answer p e)

-- ---- lent memory past the cells

past : {r : Routine} {m : List ℕ} {w w' : State} {l : List Step} (n : ℕ) → Laid r n w.homes → Steps r m w l w' → drop n w'.memory ≡ drop n w.memory
past n laid still = refl
past n laid (next (enters_expr l) o x) = past n laid x
past n laid (next (enters_command l) o x) = past n laid x
past n laid (next (looks l e y) o x) = past n laid x
past n laid (next {w = w} (stores {c = c} {x = v} l e y h k) o x) =
    let i = y.inside in
    past n laid x ∙ drop-set-lt n w.memory (c - 1) (encode v) (omega (arith, laid.low i.real, laid.high i.real, i.inside.from, i.inside.to))

pub surplus : Surplus
surplus s m lent fuel at b j =
    let r = routine s at in
    let (f, k) = accepted b j in
    let n = total (drop 1 (routine s at).homes) in
    let x = exec_ok f k (r.commands - 1) fuel (omega (arith, f.some)) (start_ok r m f lent) in
    past n (start_laid r m f lent) x.steps ∙ given_past r m f lent r.values (cleared r m lent) (le_refl r.values) ∙ from_lent n (fresh_cells r m (drop 1 r.homes)) (length_start r m (drop 1 r.homes))
  where
    from_lent : (n : ℕ) (cells : List ℕ) → length cells ≡ n → drop n (cells ++ drop (length cells) lent) ≡ drop n lent
    from_lent n cells e = rw (← e) (drop-append_seam cells (drop (length cells) lent))

-- ---- what a call leaves

replay_homes : (w : State) (l : List Step) → (replay w l).homes ≡ w.homes
replay_homes w [] = refl
replay_homes w (entered p ∷ l) = replay_homes w l
replay_homes w (looked p v a ∷ l) = replay_homes w l
replay_homes w (stored p v a u ∷ l) = replay_homes (stepped w (stored p v a u)) l

-- A run that is not refused was judged.
runnable_judged : (s m lent : List ℕ) (at : Starts) → runnable s m lent ≡ fine at → judged s m ≡ fine at
unfolding runnable
runnable_judged s m lent at e =
    let (at', (j, k)) = unrefused (judged s m) _ at e in
    let q : at' ≡ at = fine_same (passed (leb (cell_count (routine s at')) (length lent)) _ 9 _ at k).1 in
    rw (← q) j

refusal_leaves : {X : Type 0} (v : Verdict Starts) (lent : List ℕ) (go : Starts → Left X) → ((at : Starts) (n p : ℕ) → (go at).answer ≡ refused n p → ⊥)
    → (n p : ℕ) → (or_leave v lent go).answer ≡ refused n p → (or_leave v lent go).lent ≡ lent
refusal_leaves (fine at) lent go h n p e = absurd (h at n p e)
refusal_leaves (refused k q) lent go h n p e = refl

valid_left : {r : Routine} {m : List ℕ} {hs : List Home} (v w : State) → v ≡ w → w.homes ≡ hs → ValidState r m w → ValidState r m (record { homes = hs; memory = v.memory })
valid_left v w e h ok = rw (e, ← h) ok

pub afterwards : Afterwards
unfolding running
afterwards s m fuel lent b =
    record {
      refusal = refusal_leaves (runnable s m lent) lent _ (λ at n p e. never e);
      valid = λ at e. rw e (whole at (runnable_judged s m lent at e));
      outside = λ at e. rw e (surplus s m lent fuel at b (runnable_judged s m lent at e));
    }
  where
    never : {x : Ended} {n p : ℕ} → ◌≡◌ {A = Verdict Ended} (fine x) (refused n p) → ⊥
    never h = let z : ◌≡◌ {A = ℕ} 0 1 = cc in omega arith

    whole : (at : Starts) → judged s m ≡ fine at
        → ValidState (routine s at) m (record { homes = (routine s at).homes; memory = (state_of (run (routine s at) m lent fuel).answer).memory })
    whole at j =
        let w = start (routine s at) m lent in
        let x = run (routine s at) m lent fuel in
        let safe = safety s m lent fuel at b j in
        let ok : ValidState (routine s at) m (replay w x.steps) = safe.valid x.steps [] (sym (append-nil x.steps)) in
        valid_left (state_of x.answer) (replay w x.steps) safe.last (replay_homes w x.steps) ok

-- ---- how a run ends

regular : {x : Ran} → Ends x → Regular (ending_of x)
regular at_done = is_done
regular (at_stop Proper.fuel) = is_fuel
regular (at_stop (Proper.check {c = c})) = by_check c
  where
    by_check : {p : ℕ} (c : Check) → Regular (failed_check (check_number c) p)
    by_check Null = is_check {n = 1} (omega arith) (omega arith)
    by_check Bounds = is_check {n = 2} (omega arith) (omega arith)
    by_check NoHome = is_check {n = 3} (omega arith) (omega arith)
    by_check ByZero = is_check {n = 4} (omega arith) (omega arith)

pub endings : Endings
unfolding running
endings s m fuel lent e b h = go (runnable s m lent) refl h
  where
    go : (v : Verdict Starts) → runnable s m lent ≡ v → (or_leave v lent (λ at. reported (run (routine s at) m lent fuel))).answer ≡ fine e → Regular e.ending
    go (fine at) r h = rw (← fine_same h) (regular (safety s m lent fuel at b (runnable_judged s m lent at r)).outcome)
    go (refused n p) r h = refused_fine h

-- ---- numbers made into pointers

narrow : {r : Routine} {m : List ℕ} {w : State} → ValidState r m w → (n : ℕ)
    → (convert w SAFE (Pair 0 n) ≡ gives (Number 0)) ⊎ (convert w SAFE (Pair 0 n) ≡ fails Bounds)
narrow {w = w} ok n = go (ltb n (home_at w.homes 0).size) refl
  where
    go : (b : Bool) → ltb n (home_at w.homes 0).size ≡ b → (convert w SAFE (Pair 0 n) ≡ gives (Number 0)) ⊎ (convert w SAFE (Pair 0 n) ≡ fails Bounds)
    go true e = inl (rw (e, null_address ok refl (ltb-true _ _ e)))
    go false e = inr (rw e)

pub made_of_number : MadeOfNumber
made_of_number r m w ok int h n = false_true h
made_of_number r m w ok SAFE h n = false_true h
made_of_number r m w ok SEQ h n = record { made = refl; summed = λ k. refl; access = go (narrow ok n); narrowed = narrow ok n }
  where
    go : (convert w SAFE (Pair 0 n) ≡ gives (Number 0)) ⊎ (convert w SAFE (Pair 0 n) ≡ fails Bounds) → (c : Check) × (reach w SEQ (Pair 0 n) ≡ fails c)
    go (inl e) = (Null, rw e)
    go (inr e) = (Bounds, rw e)
made_of_number r m w ok DYNAMIC h n = record { made = refl; summed = λ k. refl; access = (NoHome, refl); narrowed = narrow ok n }

-- ---- markings

pub equal : Equal
equal s m at b f =
    let r = routine s at in
    record {
      reflexive = reflexive r m;
      symmetric = symmetric r m;
      transitive = trans r m;
      bound = λ d t u l h. same_bound r m (formed_fine b f).falls.by d t u l h;
      kinds = same_kind_lem r m;
      values = λ ok t u v l h y. valid_same ok (formed_fine b f).falls l h y;
    }

pub all_dynamic : AllDynamic
all_dynamic s at b f = acceptable_judged s _ f (all_acceptable (formed_fine b f))

pub exactly : Exactly
exactly s m at f = record { only = λ j. only (judged_fine s m j); every = λ a. acceptable_judged s m f a }
  where
    only : (formed s ≡ fine at) × Acceptable (routine s at) m → Acceptable (routine s at) m
    only x = x.1

pub demanded : Demanded
demanded s m at b f =
    let r = routine s at in record { only = λ a. acceptable_meets r m a; every = λ l k h. meets_acceptable r m (formed_fine b f) l k h }

pub least_marking : LeastExists
least_marking s at b f =
    let x = least_exists (formed_fine b f) in record { marking = x.marking; least = x.least; only = λ m l. least_unique l x.least }

pub one_inference : OneInference
one_inference s lent x y (left {n = n} {p = p} e) (left {n = n'} {p = p'} e') = let a : n ≡ n' = cc in let b : p ≡ p' = cc in rw (a, b)
one_inference s lent x y (left e) (marked e' l) = refused_fine (sym e ∙ e')
one_inference s lent x y (marked e l) (left e') = refused_fine (sym e' ∙ e)
one_inference s lent x y (marked {at = at} {m = m} e l) (marked {at = at'} {m = m'} e' l') =
    let a : at ≡ at' = fine_same (sym e ∙ e') in
    let b : m ≡ m' = least_unique l (rw a l') in
    rw b

-- Inference that is not refused has a well-formed file.
inferable_formed : (s lent : List ℕ) (at : Starts) → inferable s lent ≡ fine at → formed s ≡ fine at
unfolding inferable
inferable_formed s lent at e =
    let (at', (f, k)) = unrefused (formed s) _ at e in
    let q : at' ≡ at = fine_same (passed (leb (routine s at').types (length lent)) _ 9 _ at k).1 in
    rw (← q) f

pub some_inference : SomeInference
some_inference s lent b = go (inferable s lent) refl
  where
    made : {at : Starts} → inferable s lent ≡ fine at → LeastMarking (routine s at) → (x : Left (Unit {0})) × Inferred s lent x
    made e l = (_, marked e l.least)

    go : (v : Verdict Starts) → inferable s lent ≡ v → (x : Left (Unit {0})) × Inferred s lent x
    go (refused n p) e = (_, left e)
    go (fine at) e = made e (least_marking s at b (inferable_formed s lent at e))

pub marks_accepted : MarksAccepted
marks_accepted s lent x (left e) h = refused_fine h
marks_accepted s lent x (marked {at = at} {m = m} e l) h =
    let f : formed s ≡ fine at = inferable_formed s lent at e in
    let a : Acceptable (routine s at) m = l.acceptable in
    (at, f, rw (take_at m (drop (length m) lent) (routine s at).types a.size) (acceptable_judged s m f a))

-- Refusal 9 tells how many entries are needed, and fewer are lent.
too_short : (at : Starts) {n p : ℕ} (needed : ℕ) (lent : List ℕ) → lent_enough needed lent at ≡ refused n p → (n ≡ 9) × (p ≡ needed) × (length lent < p)
too_short at {n} {p} needed lent h = go (leb needed (length lent)) refl h
  where
    go : (b : Bool) → leb needed (length lent) ≡ b → guard 9 needed b (λ _. fine at) ≡ refused n p → (n ≡ 9) × (p ≡ needed) × (length lent < p)
    go true e h = refused_fine (sym h)
    go false e h = let a : n ≡ 9 = cc in let b : p ≡ needed = cc in (a, b, omega (arith, leb-false needed (length lent) e))

pub only_too_short : OnlyTooShort
unfolding inferable
only_too_short s lent x at n p f (left {n = k} {p = q} e) h =
    let a : n ≡ k = cc in
    let b : p ≡ q = cc in
    rw (a, b) (too_short at (routine s at).types lent (rw f at e))
only_too_short s lent x at n p f (marked e l) h = refused_fine (sym h)

pub rows : Rows
rows s m at b j =
    let (f, a) = accepted b j in
    record {
      types = λ i l. (omega (arith, f.falls.by i l), a.types i l);
      homes = λ g y. f.homed y;
      exprs = λ e l. ((f.exprs e l).0, (f.exprs e l).1, a.exprs e l);
      commands = λ c l. ((f.commands c l).0, (f.commands c l).1, a.commands c l);
      values = λ i l. ((f.values i l).0, (f.values i l).1, formed_rising s at (judged_fine s m j).0 i l);
      nulls = λ e t l q. null_ref (formed_known s at (judged_fine s m j).0) e t l q;
      typed = λ e l. type_le f e l;
      body = f.some;
    }
