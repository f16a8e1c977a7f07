-- The operators, on unsigned integers mod 2 ^ 32 (RULES 5.6).
use Rattle.std.specs.Prelude.{ℕ, zero, suc, ◌+◌, ◌*◌, ◌-◌, ◌/◌, ◌%◌, ◌^◌, Bool, true, false, ltb, eqb}
use Rattle.std.specs.Int.Bits.{bit_and}
use Rattle.rules.specs.Basic.{choose, width}
use Rattle.rules.specs.Table.{Operator, plus, minus, times, over, rest, equal, less, both, right}
use Rattle.rules.specs.declared.Check.TheVariants.{ByZero}
use Rattle.rules.specs.Ruled.{Ruled, gives, fails}

-- A zero divisor is check 4.
abbrev pub divided : ℕ → (ℕ → ℕ) → Ruled ℕ
divided zero q = fails ByZero
divided (suc y) q = gives (q (suc y))

abbrev pub bit : Bool → ℕ
bit true = 1
bit false = 0

abbrev pub applied : Operator → ℕ → ℕ → Ruled ℕ
applied plus x y = gives ((x + y) % width)
applied minus x y = gives ((x + width - y) % width)
applied times x y = gives ((x * y) % width)
applied over x y = divided y λ k. x / k
applied rest x y = divided y λ k. x % k
applied equal x y = gives (bit (eqb x y))
applied less x y = gives (bit (ltb x y))
applied both x y = gives (bit_and x y)
applied right x y = gives (choose (ltb y 32) (λ _. x / 2 ^ y) (λ _. 0))
