-- What a run tells beside its answer: the rows that it enters, the cells that it reads and its stores, in order (RULES 6.1).
use Rattle.std.specs.Prelude.{ℕ, suc, List, [], ◌∷◌, ◌++◌}
use Rattle.rules.specs.declared.Value.{Value}

-- A row is entered: its place. A read looks at a cell: the row's place, the pointer's value, the address. A store: the row's place, the pointer's value,
-- the address, the value stored there.
pub data Step : Type 0 where
  entered : ℕ → Step
  looked : ℕ → Value → ℕ → Step
  stored : ℕ → Value → ℕ → Value → Step

pub record Told (X : Type 0) : Type 0 where
  pub answer : X
  pub steps : List Step

-- An answer with no step.
abbrev pub quiet : {X : Type 0} → X → Told X
quiet x = record { answer = x; steps = [] }

-- What was told before goes before.
abbrev pub after : {X : Type 0} → List Step → Told X → Told X
after l x = record { answer = x.answer; steps = l ++ x.steps }

-- A step, and what is told after it.
abbrev pub tell : {X : Type 0} → Step → Told X → Told X
tell s x = after (s ∷ []) x

-- The units are the rows entered.
abbrev pub units : List Step → ℕ
units [] = 0
units (entered p ∷ l) = suc (units l)
units (looked p v a ∷ l) = units l
units (stored p v a x ∷ l) = units l
