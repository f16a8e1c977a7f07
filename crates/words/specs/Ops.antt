-- The operations of words by name.
use Rattle.std.specs.Prelude.{ℕ}

-- ---- expressions

-- The number b, and the pair of home b and offset 0: literals, homes and nulls.
abbrev pub op_number : ℕ
op_number = 0

abbrev pub op_pair : ℕ
op_pair = 1

-- Conversions to int, to SEQ or DYNAMIC, to SAFE.
abbrev pub op_to_int : ℕ
op_to_int = 2

abbrev pub op_to_pair : ℕ
op_to_pair = 3

abbrev pub op_to_safe : ℕ
op_to_safe = 4

-- Reads through SAFE, SEQ and DYNAMIC, and of an int through DYNAMIC.
abbrev pub op_read_safe : ℕ
op_read_safe = 5

abbrev pub op_read_seq : ℕ
op_read_seq = 6

abbrev pub op_read_dynamic : ℕ
op_read_dynamic = 7

abbrev pub op_read_int : ℕ
op_read_int = 8

-- A pointer sum, and the first of the nine operators.
abbrev pub op_sum : ℕ
op_sum = 9

abbrev pub op_operators : ℕ
op_operators = 10

-- ---- commands: their tags

abbrev pub op_skip : ℕ
op_skip = 0

abbrev pub op_then : ℕ
op_then = 1

abbrev pub op_store : ℕ
op_store = 2

abbrev pub op_if : ℕ
op_if = 3

abbrev pub op_while : ℕ
op_while = 4

-- ---- a store's access, in c

abbrev pub by_safe : ℕ
by_safe = 0

abbrev pub by_seq : ℕ
by_seq = 1

abbrev pub by_dynamic : ℕ
by_dynamic = 2

-- ---- what a store keeps, in d: an int, a pair, a SAFE pointer, an int as a pair of home 0

abbrev pub keep_int : ℕ
keep_int = 0

abbrev pub keep_pair : ℕ
keep_pair = 1

abbrev pub keep_safe : ℕ
keep_safe = 2

abbrev pub keep_int_pair : ℕ
keep_int_pair = 3
