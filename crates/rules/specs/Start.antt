-- The starting memory: each cell's own starting value, then the start values over them (RULES 5.11).
use Rattle.std.specs.Prelude.{ℕ, zero, suc, ◌+◌, ◌-◌, List, [], ◌∷◌, ◌++◌, length, replicate, drop, set}
use Rattle.rules.specs.declared.Value.{Value}
use Rattle.rules.specs.declared.Value.TheVariants.{Number, Pair}
use Rattle.rules.specs.declared.Kind.{Kind}
use Rattle.rules.specs.declared.Kind.TheVariants.{int, SAFE, SEQ, DYNAMIC}
use Rattle.rules.specs.Table.{StartRow, Home, Routine}
use Rattle.rules.specs.Shape.{home_at}
use Rattle.rules.specs.Kinds.{kind}
use Rattle.rules.specs.Memory.{State, encode}
use Rattle.rules.specs.Values.{null_value}

-- What a cell starts as, by its home's kind and its own.
abbrev pub fresh_value : Kind → Kind → Value
fresh_value int target = Number 0
fresh_value SAFE target = null_value target
fresh_value SEQ target = null_value target
fresh_value DYNAMIC target = Pair 0 0

-- What a start row's value is, by the home's kind: a number, or in a DYNAMIC home a pair of home 0.
abbrev pub given_value : Kind → ℕ → Value
given_value int n = Number n
given_value SAFE n = Number n
given_value SEQ n = Number n
given_value DYNAMIC n = Pair 0 n

-- The address of a start row's cell.
abbrev pub start_address : Routine → StartRow → ℕ
start_address r x = (home_at r.homes x.home).start + x.cell

module _ (r : Routine) (m : List ℕ) where
  abbrev pub fresh_cells : List Home → List ℕ
  fresh_cells [] = []
  fresh_cells (h ∷ hs) = replicate h.size (encode (fresh_value (kind m h.type) (kind m (r.target h.type)))) ++ fresh_cells hs

  -- The cells' own starting values over the lent entries; surplus entries stay.
  abbrev pub cleared : List ℕ → List ℕ
  cleared lent = let cells = fresh_cells (drop 1 r.homes) in cells ++ drop (length cells) lent

  -- What a start row's cell starts as.
  abbrev pub given_in : StartRow → Value
  given_in x = given_value (kind m (home_at r.homes x.home).type) x.value

  -- The values of the first n start rows over these entries.
  abbrev pub given : ℕ → List ℕ → List ℕ
  given zero l = l
  given (suc n) l = set (given n l) (start_address r (r.value n) - 1) (encode (given_in (r.value n)))

  -- The starting memory is written over the lent cells.
  abbrev pub start : List ℕ → State
  start lent = record { homes = r.homes; memory = given r.values (cleared lent) }
