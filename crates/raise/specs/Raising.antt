-- A step of raising: the marking that was lent is still the one that is raised, and the step sees to its demand.
use Rattle.std.specs.Prelude.{◌≡◌, ℕ, List}
use Rattle.raise.specs.declared.Raising.{Raising}
use Rattle.raise.specs.Moves.{Moves}

pub record Steps (S P : List ℕ → Type 0) (old new : Raising) : Type 0 where
  pub same : new.kinds.ghost_name ≡ old.kinds.ghost_name
  pub moves : Moves S P old.kinds.now new.kinds.now old.moved new.moved

-- What a step follows is what it brings about.
abbrev pub Sees : (List ℕ → Type 0) → Raising → Raising → Type 0
Sees P old new = Steps P P old new
