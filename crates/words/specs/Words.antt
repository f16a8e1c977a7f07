-- The words of a routine's rows under a marking, and of homes. Code that sees only the words is held to the routine by `RowWords`, and to the homes by `HomeWords`.
use Rattle.std.specs.Prelude.{◌≡◌, ℕ, ◌+◌, ◌/◌, ◌%◌, ◌<◌, ◌≤◌, List, get_or}
use Rattle.rules.specs.declared.Value.{Value}
use Rattle.rules.specs.declared.Value.TheVariants.{Number, Pair}
use Rattle.rules.specs.Table.{Operator, plus, minus, times, over, rest, equal, less, both, right, Expr, Command, Home, Routine, literal, home, cast, null, sum, read, op, skip, then, store, if_else, while}
use Rattle.rules.specs.Shape.{home_at, type_of}
use Rattle.rules.specs.declared.Kind.{Kind}
use Rattle.rules.specs.declared.Kind.TheVariants.{int, SAFE, SEQ, DYNAMIC}
use Rattle.rules.specs.Kinds.{kind, Acceptable}
use Rattle.rules.specs.Memory.{State}
use Rattle.rules.specs.Valid.{Real}
use Rattle.laws.specs.Formed.{Formed}
use Rattle.words.specs.Ops.{op_number, op_pair, op_to_int, op_to_pair, op_to_safe, op_read_safe, op_read_seq, op_read_dynamic, op_read_int, op_sum, op_operators, op_skip, op_then, op_store, op_if, op_while, by_safe, by_seq, by_dynamic, keep_int, keep_pair, keep_safe, keep_int_pair}

-- ---- parts of a word, as the picture at the head of the code draws them

-- The operation: bits 0 to 7.
abbrev pub op_in : ℕ → ℕ
op_in w = w % 256

-- The 16 bits from a power of two on.
abbrev pub field_in : ℕ → ℕ → ℕ
field_in at w = w / at % 65536

-- Bits 8 to 23.
abbrev pub a_in : ℕ → ℕ
a_in w = field_in 256 w

-- Bits 24 to 39, 40 to 55 and 56 to 63 of a command.
abbrev pub b_in : ℕ → ℕ
b_in w = field_in 16777216 w

abbrev pub c_in : ℕ → ℕ
c_in w = field_in 1099511627776 w

abbrev pub d_in : ℕ → ℕ
d_in w = w / 72057594037927936

-- The halves. The high one is an expression's b.
abbrev pub low_in : ℕ → ℕ
low_in w = w % 4294967296

abbrev pub high_in : ℕ → ℕ
high_in w = w / 4294967296

-- Bits 24 to 31 of an expression.
abbrev pub gap_in : ℕ → ℕ
gap_in w = w / 16777216 % 256

pub record Packed (w o a b : ℕ) : Type 0 where
  pub op : op_in w ≡ o
  pub first : a_in w ≡ a
  pub gap : gap_in w ≡ 0
  pub second : high_in w ≡ b

pub record PackedCommand (w o a b c d : ℕ) : Type 0 where
  pub op : op_in w ≡ o
  pub first : a_in w ≡ a
  pub second : b_in w ≡ b
  pub third : c_in w ≡ c
  pub fourth : d_in w ≡ d

-- ---- an expression's operation

abbrev pub home_op : Kind → ℕ
home_op int = op_pair
home_op SAFE = op_number
home_op SEQ = op_pair
home_op DYNAMIC = op_pair

abbrev pub null_op : Kind → ℕ
null_op int = op_number
null_op SAFE = op_number
null_op SEQ = op_pair
null_op DYNAMIC = op_pair

abbrev pub cast_op : Kind → ℕ
cast_op int = op_to_int
cast_op SAFE = op_to_safe
cast_op SEQ = op_to_pair
cast_op DYNAMIC = op_to_pair

abbrev pub read_op : Kind → Kind → ℕ
read_op int target = op_read_safe
read_op SAFE target = op_read_safe
read_op SEQ target = op_read_seq
read_op DYNAMIC int = op_read_int
read_op DYNAMIC SAFE = op_read_dynamic
read_op DYNAMIC SEQ = op_read_dynamic
read_op DYNAMIC DYNAMIC = op_read_dynamic

abbrev pub operator_op : Operator → ℕ
operator_op plus = op_operators
operator_op minus = op_operators + 1
operator_op times = op_operators + 2
operator_op over = op_operators + 3
operator_op rest = op_operators + 4
operator_op equal = op_operators + 5
operator_op less = op_operators + 6
operator_op both = op_operators + 7
operator_op right = op_operators + 8

module _ (r : Routine) (m : List ℕ) where
  abbrev pub op_for : Expr → ℕ
  op_for (literal n) = op_number
  op_for (home g) = home_op (kind m (home_at r.homes g).type)
  op_for (cast a t) = cast_op (kind m t)
  op_for (null t) = null_op (kind m t)
  op_for (sum a b) = op_sum
  op_for (read a) = read_op (kind m (type_of r a)) (kind m (r.target (type_of r a)))
  op_for (op o a b) = operator_op o
  op_for Expr.none = op_number

abbrev pub a_for : Expr → ℕ
a_for (literal n) = 0
a_for (home g) = 0
a_for (cast a t) = a
a_for (null t) = 0
a_for (sum a b) = a
a_for (read a) = a
a_for (op o a b) = a
a_for Expr.none = 0

-- A SAFE home is its address.
abbrev pub home_field : Kind → Home → ℕ → ℕ
home_field int h g = g
home_field SAFE h g = h.start
home_field SEQ h g = g
home_field DYNAMIC h g = g

module _ (r : Routine) (m : List ℕ) where
  abbrev pub b_for : Expr → ℕ
  b_for (literal n) = n
  b_for (home g) = home_field (kind m (home_at r.homes g).type) (home_at r.homes g) g
  b_for (cast a t) = 0
  b_for (null t) = 0
  b_for (sum a b) = b
  b_for (read a) = 0
  b_for (op o a b) = b
  b_for Expr.none = 0

  -- The word of the row x.
  abbrev pub ExprWord : Expr → ℕ → Type 0
  ExprWord x w = Packed w (op_for r m x) (a_for x) (b_for x)

-- ---- a command's operation

abbrev pub command_op : Command → ℕ
command_op skip = op_skip
command_op (then a b) = op_then
command_op (store a b) = op_store
command_op (if_else a b c) = op_if
command_op (while a b) = op_while
command_op Command.none = op_skip

abbrev pub first_for : Command → ℕ
first_for skip = 0
first_for (then a b) = a
first_for (store a b) = a
first_for (if_else a b c) = a
first_for (while a b) = a
first_for Command.none = 0

abbrev pub second_for : Command → ℕ
second_for skip = 0
second_for (then a b) = b
second_for (store a b) = b
second_for (if_else a b c) = b
second_for (while a b) = b
second_for Command.none = 0

-- A store's access, by its pointer's kind.
abbrev pub access_of : Kind → ℕ
access_of int = by_safe
access_of SAFE = by_safe
access_of SEQ = by_seq
access_of DYNAMIC = by_dynamic

-- What it keeps, by the kind of what it stores; and by its pointer's too.
abbrev pub convert_of : Kind → ℕ
convert_of int = keep_int
convert_of SAFE = keep_safe
convert_of SEQ = keep_pair
convert_of DYNAMIC = keep_pair

abbrev pub keep_of : Kind → Kind → ℕ
keep_of int target = convert_of target
keep_of SAFE target = convert_of target
keep_of SEQ target = convert_of target
keep_of DYNAMIC int = keep_int_pair
keep_of DYNAMIC SAFE = keep_safe
keep_of DYNAMIC SEQ = keep_pair
keep_of DYNAMIC DYNAMIC = keep_pair

module _ (r : Routine) (m : List ℕ) where
  abbrev pub third_for : Command → ℕ
  third_for skip = 0
  third_for (then a b) = 0
  third_for (store a b) = access_of (kind m (type_of r a))
  third_for (if_else a b c) = c
  third_for (while a b) = 0
  third_for Command.none = 0

  abbrev pub fourth_for : Command → ℕ
  fourth_for skip = 0
  fourth_for (then a b) = 0
  fourth_for (store a b) = keep_of (kind m (type_of r a)) (kind m (r.target (type_of r a)))
  fourth_for (if_else a b c) = 0
  fourth_for (while a b) = 0
  fourth_for Command.none = 0

  abbrev pub CommandWord : Command → ℕ → Type 0
  CommandWord x w = PackedCommand w (command_op x) (first_for x) (second_for x) (third_for x) (fourth_for x)

-- ---- homes: low half the start, high half the size

abbrev pub start_in : List ℕ → ℕ → ℕ
start_in t g = low_in (get_or t (2048 + g) 0)

abbrev pub size_in : List ℕ → ℕ → ℕ
size_in t g = high_in (get_or t (2048 + g) 0)

-- The words of these homes, home 0 first. A home that there is not has start and size 0.
pub record Homes (hs : List Home) (t : List ℕ) : Type 0 where
  pub few : (g : ℕ) → 0 < (home_at hs g).size → g < 256
  pub start : (g : ℕ) → g < 256 → start_in t g ≡ (home_at hs g).start
  pub size : (g : ℕ) → g < 256 → size_in t g ≡ (home_at hs g).size

-- A pair that names a home of which the table has a word.
abbrev pub Named : Value → Type 0
Named (Number n) = Unit {0}
Named (Pair g n) = g < 256

-- ---- the whole table: what its rows' words stand for, and what its homes' words do. No code holds either

-- A routine and a marking. These words never change while running.
pub record RowWords (t : List ℕ) : Type 0 where
  pub routine : Routine
  pub marking : List ℕ
  pub formed : Formed routine
  pub accepted : Acceptable routine marking
  pub few_exprs : routine.exprs ≤ 1024
  pub few_commands : routine.commands ≤ 1024
  pub exprs : (e : ℕ) → e < routine.exprs → ExprWord routine marking (routine.expr e) (get_or t e 0)
  pub commands : (c : ℕ) → c < routine.commands → CommandWord routine marking (routine.command c) (get_or t (1024 + c) 0)

-- The homes that there are. Those of the routine stay where they are: its rows' words tell their addresses.
pub record HomeWords (r : Routine) (t : List ℕ) : Type 0 where
  pub list : List Home
  pub words : Homes list t
  pub declared : (g : ℕ) → Real r.homes g → (home_at list g).start ≡ (home_at r.homes g).start

-- The state of these homes and a memory.
abbrev pub state : {r : Routine} {t : List ℕ} → HomeWords r t → List ℕ → State
state h memory = record { homes = h.list; memory = memory }
