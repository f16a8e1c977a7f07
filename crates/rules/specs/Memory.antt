-- Run-time values, homes and memory (RULES 5.1, 5.2, 5.10).
use Rattle.std.specs.Prelude.{ℕ, zero, suc, ◌+◌, ◌*◌, ◌-◌, ◌/◌, ◌%◌, Bool, false, ◌&&◌, ◌||◌, List, [], ◌∷◌, get_or, set, ltb, leb}
use Rattle.rules.specs.declared.Value.{Value}
use Rattle.rules.specs.declared.Value.TheVariants.{Number, Pair}
use Rattle.rules.specs.Basic.{width}
use Rattle.rules.specs.Table.{Home}
use Rattle.rules.specs.Shape.{home_at}
use Rattle.rules.specs.Steps.{Step, entered, looked, stored}

-- The homes that there are, home 0 first, and a 64-bit entry for each cell. Surplus entries may follow.
pub record State : Type 0 where
  pub homes : List Home
  pub memory : List ℕ

-- An entry: low half the number or offset, high half 0 for a number, 1 + g for a pair.
abbrev pub encode : Value → ℕ
encode (Number n) = n
encode (Pair g n) = n + width * suc g

abbrev pub halves : ℕ → ℕ → Value
halves zero n = Number n
halves (suc g) n = Pair g n

abbrev pub decode : ℕ → Value
decode x = halves (x / width) (x % width)

-- The cell at an address, from 1 on.
abbrev pub cell : State → ℕ → Value
cell w a = decode (get_or w.memory (a - 1) 0)

abbrev pub put : State → ℕ → Value → State
put w a v = record { homes = w.homes; memory = set w.memory (a - 1) (encode v) }

abbrev pub address : State → ℕ → ℕ → ℕ
address w g n = ((home_at w.homes g).start + n) % width

abbrev pub size : State → ℕ → ℕ
size w g = (home_at w.homes g).size

-- Is the address in some home?
abbrev pub held : List Home → ℕ → Bool
held [] a = false
held (h ∷ hs) a = (leb h.start a && ltb a (h.start + h.size)) || held hs a

-- The state after a step: only a store changes it. And after these steps.
abbrev pub stepped : State → Step → State
stepped w (entered p) = w
stepped w (looked p v a) = w
stepped w (stored p v a x) = put w a x

abbrev pub replay : State → List Step → State
replay w [] = w
replay w (s ∷ l) = replay (stepped w s) l
