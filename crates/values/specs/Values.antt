-- The rules for values as code makes them, over the table's homes. Nothing is stuck here: where the rules are not stuck, they say the same.
use Rattle.std.specs.Prelude.{ℕ, zero, suc, ◌+◌, ◌%◌, List, [], ◌∷◌, nat_lt, slice_index_or, Result, Ok, Err}
use Rattle.rules.specs.declared.Value.{Value}
use Rattle.rules.specs.declared.Value.TheVariants.{Number, Pair}
use Rattle.rules.specs.Basic.{width}
use Rattle.rules.specs.declared.Check.{Check}
use Rattle.rules.specs.declared.Check.TheVariants.{Null, Bounds, NoHome}
use Rattle.rules.specs.Ruled.{Ruled, gives, fails, stuck, onward, must}
use Rattle.words.specs.Words.{start_in, size_in}

-- ---- what a rule says, as the code answers it

-- No rule that the code makes is stuck, so nothing hangs on what that becomes.
abbrev pub checked : {X : Type 0} → Ruled X → Result X Check
checked (gives x) = Ok x
checked (fails c) = Err c
checked stuck = Err Null

abbrev pub as_number : Ruled ℕ → Ruled Value
as_number u = onward u λ n. gives (Number n)

-- ---- conversions

abbrev pub number_of : Value → ℕ
number_of (Number n) = n
number_of (Pair g n) = g

abbrev pub to_int_in : List ℕ → Value → ℕ
to_int_in t (Number n) = n
to_int_in t (Pair g n) = (start_in t g + n) % width

abbrev pub to_pair : Value → Value
to_pair (Number n) = Pair 0 n
to_pair (Pair g n) = Pair g n

abbrev pub to_safe_in : List ℕ → Value → Ruled ℕ
to_safe_in t (Number n) = gives n
to_safe_in t (Pair g n) = must Bounds (nat_lt n (size_in t g)) (gives ((start_in t g + n) % width))

abbrev pub plus_of : Value → ℕ → Value
plus_of (Number m) n = Number m
plus_of (Pair g m) n = Pair g ((m + n) % width)

-- ---- accesses

abbrev pub not_null : ℕ → Ruled ℕ
not_null zero = fails Null
not_null (suc a) = gives (suc a)

abbrev pub reach_seq_in : List ℕ → Value → Ruled ℕ
reach_seq_in t v = onward (to_safe_in t v) not_null

abbrev pub reach_dynamic_in : List ℕ → Value → Ruled ℕ
reach_dynamic_in t (Number n) = fails NoHome
reach_dynamic_in t (Pair zero n) = fails NoHome
reach_dynamic_in t (Pair (suc g) n) = must Bounds (nat_lt n (size_in t (suc g))) (gives ((start_in t (suc g) + n) % width))

-- By an access's number: SAFE, SEQ, else DYNAMIC.
abbrev pub reach_in : List ℕ → ℕ → Value → Ruled ℕ
reach_in t access v = slice_index_or (not_null (number_of v) ∷ reach_seq_in t v ∷ []) access (reach_dynamic_in t v)

-- ---- what a store keeps: an int, a pair, a SAFE pointer, else an int as a pair of home 0

abbrev pub kept_in : List ℕ → ℕ → Value → Ruled Value
kept_in t how v = slice_index_or (gives (Number (to_int_in t v)) ∷ gives (to_pair v) ∷ as_number (to_safe_in t v) ∷ []) how (gives (Pair 0 (to_int_in t v)))
