-- Steps that keep memory valid, and how taking answers apart joins them.
use Rattle.rules.specs.declared.Value.{Value}
use Rattle.rules.specs.Run.{Stop, no_fuel, failed, Answer, got, stopped, on_value, and_then, ruled, enter, answered, Ran, done, halted, on_done, afterwards}
use Rattle.rules.specs.Steps.{Step, entered, Told, quiet, after, tell}
use Rattle.rules.specs.Table.{Routine}
use Rattle.rules.specs.Memory.{State, stepped}
use Rattle.rules.specs.Ruled.{Ruled}
use Rattle.rules.specs.Calls.{state_of}
use Rattle.rules.specs.Valid.{ValidState}
use Rattle.rules.specs.Made.{Made}
use Rattle.std.specs.Prelude.{◌≡◌, refl, List, [], ◌∷◌, ◌++◌}
use Prim.Native.Nat.{ℕ, zero, suc}
use Rattle.rules.specs.Ends.{Proper, fuel, check, Ends, at_done, at_stop}
use Rattle.laws.specs.Values.{Ok, holds, check_fails}

pub data Answers (P : Value → Type 0) : Answer → Type 0 where
  value : {v : Value} {f : ℕ} → P v → Answers P (got v f)
  stop : {s : Stop} → Proper s → Answers P (stopped s)

module _ (r : Routine) (m : List ℕ) where
  -- Each step is made by a row, and leaves a valid state.
  pub data Steps : State → List Step → State → Type 0 where
    still : {w : State} → Steps w [] w
    next : {w w' : State} {s : Step} {l : List Step} → Made r m w s → ValidState r m (stepped w s) → Steps (stepped w s) l w' → Steps w (s ∷ l) w'

  -- By such steps from w to the state where the answer leaves it; and Q holds of the answer.
  pub record Goes {X : Type 0} (end : X → State) (Q : X → Type 0) (w : State) (x : Told X) : Type 0 where
    pub steps : Steps w x.steps (end x.answer)
    pub answer : Q x.answer

  -- An expression, which leaves the state as it is, and a command.
  abbrev pub Evaluates : State → (Value → Type 0) → Told Answer → Type 0
  Evaluates w P x = Goes (λ _. w) (Answers P) w x

  abbrev pub Executes : State → Told Ran → Type 0
  Executes w x = Goes state_of Ends w x

-- What an expression gives is known.
answers_got : {P : Value → Type 0} (a : Answer) → Answers P a → Answers (λ v. P v × ((f : ℕ) × (a ≡ got v f))) a
answers_got (got v f) (value h) = value (h, (f, refl))
answers_got (stopped s) (Answers.stop h) = Answers.stop h

module _ {r : Routine} {m : List ℕ} where
  pub goes_got : {w : State} {P : Value → Type 0} {x : Told Answer} → Evaluates r m w P x → Evaluates r m w (λ v. P v × ((f : ℕ) × (x.answer ≡ got v f))) x
  goes_got {x = x} h = record { steps = h.steps; answer = answers_got x.answer h.answer }

  join : {w w' w'' : State} {l k : List Step} → Steps r m w l w' → Steps r m w' k w'' → Steps r m w (l ++ k) w''
  join still y = y
  join (next i o x) y = next i o (join x y)

  pub steps_valid : {w w' : State} {l : List Step} → ValidState r m w → Steps r m w l w' → ValidState r m w'
  steps_valid ok still = ok
  steps_valid ok (next i o x) = steps_valid o x

  pub goes_answered : {w : State} {P : Value → Type 0} {u : Ruled Value} (p f : ℕ) → Ok P u → Evaluates r m w P (quiet (answered p f u))
  goes_answered p f (holds h) = record { steps = still; answer = value h }
  goes_answered p f (check_fails {c = c}) = record { steps = still; answer = stop check }

  pub expr_stops : {w : State} {P : Value → Type 0} (s : Stop) → Proper s → Evaluates r m w P (quiet (stopped s))
  expr_stops s h = record { steps = still; answer = stop h }

  pub command_stops : {w : State} (s : Stop) → Proper s → Executes r m w (quiet (halted w s))
  command_stops s h = record { steps = still; answer = at_stop h }

  pub goes_done : {w : State} {f : ℕ} → Executes r m w (quiet (done w f))
  goes_done = record { steps = still; answer = at_done }

  -- A step that is told, and what follows it.
  pub goes_tell : {X : Type 0} {end : X → State} {Q : X → Type 0} {w : State} {s : Step} {x : Told X} → Made r m w s → ValidState r m (stepped w s)
      → Goes r m end Q (stepped w s) x → Goes r m end Q w (tell s x)
  goes_tell i ok h = record { steps = next i ok h.steps; answer = h.answer }

  -- Stops are passed upward by `stop`.
  module _ {X : Type 0} {end : X → State} {Q : X → Type 0} {w : State} {stop : Stop → X} (stops : (s : Stop) → Proper s → Goes r m end Q w (quiet (stop s))) where
    pub goes_then : {P : Value → Type 0} {x : Told Answer} {k : Value → ℕ → Told X}
        → Evaluates r m w P x → ((v : Value) (f : ℕ) → P v → Goes r m end Q w (k v f)) → Goes r m end Q w (and_then stop x k)
    unfolding and_then
    goes_then {P} {x} {k} h i = record { steps = join h.steps (go x.answer h.answer).steps; answer = (go x.answer h.answer).answer }
      where
        go : (a : Answer) → Answers P a → Goes r m end Q w (on_value stop a k)
        go (got v f₀) (value y) = i v f₀ y
        go (stopped s) (Answers.stop y) = stops s y

    pub goes_ruled : {Y : Type 0} {P : Y → Type 0} {u : Ruled Y} {k : Y → Told X} (p f : ℕ)
        → Ok P u → ((y : Y) → P y → Goes r m end Q w (k y)) → Goes r m end Q w (ruled stop p f u k)
    unfolding ruled
    goes_ruled p f (holds {x = y} h) i = i y h
    goes_ruled p f (check_fails {c = c}) i = stops (failed c p f) check

    pub goes_enter : {k : ℕ → Told X} {p : ℕ} (f : ℕ) → Made r m w (entered p) → ValidState r m w → ((f' : ℕ) → Goes r m end Q w (k f'))
        → Goes r m end Q w (enter stop p f k)
    unfolding enter
    goes_enter {p = p} zero i ok h = stops (no_fuel p) fuel
    goes_enter (suc f) i ok h = goes_tell i ok (h f)

  pub goes_on : {w : State} {x : Told Ran} {k : State → ℕ → Told Ran} → ValidState r m w → Executes r m w x
      → ((w' : State) (f : ℕ) → ValidState r m w' → Executes r m w' (k w' f)) → Executes r m w (afterwards x k)
  unfolding afterwards
  goes_on {w} {x} {k} ok h i = go x.answer h.answer h.steps
    where
      go : (a : Ran) → Ends a → Steps r m w x.steps (state_of a) → Executes r m w (after x.steps (on_done a k))
      go (done w' f) at_done s = let y = i w' f (steps_valid ok s) in record { steps = join s y.steps; answer = y.answer }
      go (halted w' t) (at_stop y) s = record { steps = join s still; answer = at_stop y }
