-- The rules for values: conversions and accesses (RULES 5.3 to 5.9).
use Rattle.std.specs.Prelude.{ℕ, zero, suc, ◌+◌, ◌%◌, Bool, true, false, ltb}
use Rattle.rules.specs.declared.Value.{Value}
use Rattle.rules.specs.declared.Value.TheVariants.{Number, Pair}
use Rattle.rules.specs.Basic.{choose, width}
use Rattle.rules.specs.Table.{Operator}
use Rattle.rules.specs.Shape.{home_at}
use Rattle.rules.specs.declared.Kind.{Kind}
use Rattle.rules.specs.declared.Kind.TheVariants.{int, SAFE, SEQ, DYNAMIC}
use Rattle.rules.specs.Kinds.{by_kind}
use Rattle.rules.specs.Memory.{State, address, size, held}
use Rattle.rules.specs.declared.Check.TheVariants.{Null, Bounds, NoHome}
use Rattle.rules.specs.Ruled.{Ruled, gives, fails, stuck, onward, must}
use Rattle.rules.specs.Operators.{applied}

-- RULES 5.3: conversion, by the kind of the type converted to.
abbrev pub convert : State → Kind → Value → Ruled Value
convert w int (Number n) = gives (Number n)
convert w int (Pair g n) = gives (Number (address w g n))
convert w SAFE (Number n) = gives (Number n)
convert w SAFE (Pair g n) = must Bounds (ltb n (size w g)) (gives (Number (address w g n)))
convert w SEQ (Number n) = gives (Pair 0 n)
convert w SEQ (Pair g n) = gives (Pair g n)
convert w DYNAMIC (Number n) = gives (Pair 0 n)
convert w DYNAMIC (Pair g n) = gives (Pair g n)

-- RULES 5.4: home variable g, by its type's kind, and null.
abbrev pub home_value : State → Kind → ℕ → Value
home_value w int g = Pair g 0
home_value w SAFE g = Number (home_at w.homes g).start
home_value w SEQ g = Pair g 0
home_value w DYNAMIC g = Pair g 0

abbrev pub null_value : Kind → Value
null_value int = Number 0
null_value SAFE = Number 0
null_value SEQ = Pair 0 0
null_value DYNAMIC = Pair 0 0

-- RULES 5.5: a pointer sum.
abbrev pub moved : Value → Value → Ruled Value
moved (Number a) v = stuck
moved (Pair g n) (Number k) = gives (Pair g ((n + k) % width))
moved (Pair g n) (Pair h k) = stuck

-- RULES 5.6: an operator takes two numbers.
abbrev pub operated : Operator → Value → Value → Ruled Value
operated o (Number x) (Number y) = onward (applied o x y) λ n. gives (Number n)
operated o (Number x) (Pair h k) = stuck
operated o (Pair g n) v = stuck

-- A condition: a nonzero number is true.
abbrev pub truth : Value → Ruled Bool
truth (Number zero) = gives false
truth (Number (suc n)) = gives true
truth (Pair g n) = stuck

-- ---- access (RULES 5.7)

-- Through SAFE, by an address.
abbrev pub reach_safe : State → Value → Ruled ℕ
reach_safe w (Number zero) = fails Null
reach_safe w (Number (suc a)) = choose (held w.homes (suc a)) (λ _. gives (suc a)) (λ _. stuck)
reach_safe w (Pair g n) = stuck

-- The address that a pointer of this kind reaches. SEQ is converted to SAFE first.
abbrev pub reach : State → Kind → Value → Ruled ℕ
reach w int v = stuck
reach w SAFE v = reach_safe w v
reach w SEQ v = onward (convert w SAFE v) λ u. reach_safe w u
reach w DYNAMIC (Number n) = stuck
reach w DYNAMIC (Pair zero n) = fails NoHome
reach w DYNAMIC (Pair (suc g) n) = must Bounds (ltb n (size w (suc g))) (reach_safe w (Number (address w (suc g) n)))

-- RULES 5.8: a cell as it is read through a pointer of the first kind to a target of the second.
abbrev pub fetched : State → Kind → Kind → Value → Ruled Value
fetched w int target v = gives v
fetched w SAFE target v = gives v
fetched w SEQ target v = gives v
fetched w DYNAMIC target v = by_kind (convert w int v) (gives v) (gives v) (gives v) target

-- A converted value as it is stored: through DYNAMIC an int becomes a pair of home 0.
abbrev pub paired : State → Kind → Kind → Value → Ruled Value
paired w int target v = gives v
paired w SAFE target v = gives v
paired w SEQ target v = gives v
paired w DYNAMIC target v = by_kind (convert w DYNAMIC v) (gives v) (gives v) (gives v) target

abbrev pub kept : State → Kind → Kind → Value → Ruled Value
kept w pointer target v = onward (convert w target v) λ u. paired w pointer target u
