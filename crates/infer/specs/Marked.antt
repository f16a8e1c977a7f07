-- What inference makes of the tables that a well-formed file's rows give is the file's least marking.
use Rattle.std.specs.Prelude.{ℕ, List}
use Rattle.rules.specs.Table.{Routine}
use Rattle.rules.specs.Least.{Least}
use Rattle.laws.specs.Formed.{Formed}
use Rattle.raise.specs.declared.Conversion.{Conversion}
use Rattle.gather.specs.Gathering.{Noting, gathered}
use Rattle.gather.specs.Tables.{Filled}
use Rattle.infer.specs.Tables.{LeastAbove}
use Rattle.infer.specs.Bridge.{least}

pub marked : {r : Routine} {T : List ℕ} {C : List Conversion} {m m' : List ℕ} → Formed r → Filled r T → Noting r r.exprs r.commands C m
    → LeastAbove T C m m' → Least r m'
marked y f g low = least y (gathered f.targets g) low
