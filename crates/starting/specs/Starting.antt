-- What the writing of the starting memory is held to.
use Rattle.std.specs.Prelude.{ℕ, ◌+◌, List, ◌++◌, take, drop, replicate}
use Rattle.rules.specs.Table.{Routine}
use Rattle.rules.specs.Kinds.{kind}
use Rattle.rules.specs.Memory.{encode}
use Rattle.rules.specs.Start.{fresh_value}

-- x over n entries from place `from` on.
abbrev pub spread : List ℕ → ℕ → ℕ → ℕ → List ℕ
spread l from n x = take from l ++ replicate n x ++ drop (from + n) l

-- The starting entry of the cells of a home of type t.
abbrev pub entry_in : Routine → List ℕ → ℕ → ℕ
entry_in r m t = encode (fresh_value (kind m t) (kind m (r.target t)))
