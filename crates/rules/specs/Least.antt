-- What inference gives (RULES 4.5): to each type the lowest kind that it has in any acceptable marking. A statement: no algorithm.
use Rattle.std.specs.Prelude.{ℕ, ◌≤◌, ◌<◌, List, get_or}
use Rattle.rules.specs.Table.{Routine}
use Rattle.rules.specs.Kinds.{Acceptable}

-- Every type's kind in m is at or below its kind in w.
abbrev pub AtOrBelow : Routine → List ℕ → List ℕ → Type 0
AtOrBelow r m w = (i : ℕ) → i < r.types → get_or m i 0 ≤ get_or w i 0

pub record Least (r : Routine) (m : List ℕ) : Type 0 where
  pub acceptable : Acceptable r m
  pub lowest : (w : List ℕ) → Acceptable r w → AtOrBelow r m w
