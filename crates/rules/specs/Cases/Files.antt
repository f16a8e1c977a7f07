-- The rows and files of the cases (RULES 7), as bytes.
use Rattle.std.specs.Prelude.{ℕ, ◌/◌, ◌%◌, List, [], ◌∷◌, ◌++◌, ◌≡◌, refl, length}

-- ---- rows

abbrev pub half : ℕ → List ℕ
half n = n % 256 ∷ n / 256 ∷ []

abbrev pub type_row : ℕ → List ℕ
type_row target = half target

abbrev pub home_row : ℕ → ℕ → List ℕ
home_row type size = half type ++ half size

abbrev pub expr : ℕ → ℕ → ℕ → List ℕ
expr tag a b = tag ∷ half a ++ half b

abbrev pub literal : ℕ → List ℕ
literal n = expr 0 (n % 65536) (n / 65536)

abbrev pub home : ℕ → List ℕ
home g = expr 1 g 0

abbrev pub cast : ℕ → ℕ → List ℕ
cast a t = expr 3 a t

abbrev pub null : ℕ → List ℕ
null t = expr 4 t 0

abbrev pub sum : ℕ → ℕ → List ℕ
sum a b = expr 5 a b

abbrev pub read : ℕ → List ℕ
read a = expr 6 a 0

abbrev pub command : ℕ → ℕ → ℕ → ℕ → List ℕ
command tag a b c = tag ∷ half a ++ half b ++ half c

abbrev pub skip : List ℕ
skip = command 0 0 0 0

abbrev pub store : ℕ → ℕ → List ℕ
store a b = command 2 a b 0

abbrev pub start_row : ℕ → ℕ → ℕ → List ℕ
start_row g cell n = half g ++ half cell ++ half (n % 65536) ++ half (n / 65536)

-- A condition on expression a, between two commands that are the same.
abbrev pub if_row : ℕ → ℕ → List ℕ
if_row a b = command 3 a b b

-- ---- files

abbrev pub joined : List (List ℕ) → List ℕ
joined [] = []
joined (s ∷ ss) = s ++ joined ss

abbrev pub sect : List (List ℕ) → List ℕ
sect rows = half (length rows) ++ joined rows

abbrev pub file : List (List ℕ) → List (List ℕ) → List (List ℕ) → List (List ℕ) → List ℕ
file types homes exprs commands = sect types ++ sect homes ++ sect exprs ++ sect commands

-- T1 is ref int, and home 1 has type 1 and size 3.
abbrev pub one_type : List (List ℕ) → List (List ℕ) → List ℕ
one_type exprs commands = file (type_row 0 ∷ []) (home_row 1 3 ∷ []) exprs commands

-- T2 is ref int too.
abbrev pub two_types : List (List ℕ) → List (List ℕ) → List ℕ
two_types exprs commands = file (type_row 0 ∷ type_row 0 ∷ []) (home_row 1 3 ∷ []) exprs commands

abbrev pub case1 : List ℕ
case1 = one_type (home 1 ∷ literal 7 ∷ []) (store 0 1 ∷ [])

case1_bytes : case1 ≡ 1 ∷ 0 ∷ 0 ∷ 0 ∷ 1 ∷ 0 ∷ 1 ∷ 0 ∷ 3 ∷ 0 ∷ 2 ∷ 0 ∷ 1 ∷ 1 ∷ 0 ∷ 0 ∷ 0 ∷ 0 ∷ 7 ∷ 0 ∷ 0 ∷ 0 ∷ 1 ∷ 0 ∷ 2 ∷ 0 ∷ 0 ∷ 1 ∷ 0 ∷ 0 ∷ 0 ∷ []
case1_bytes = refl

-- Store 7 through home 1 + k.
abbrev pub case2 : ℕ → List ℕ
case2 k = one_type (home 1 ∷ literal k ∷ sum 0 1 ∷ literal 7 ∷ []) (store 2 3 ∷ [])

abbrev pub case4 : List ℕ
case4 = two_types (home 1 ∷ cast 0 2 ∷ literal 1 ∷ sum 1 2 ∷ []) (skip ∷ [])

abbrev pub case5 : List ℕ
case5 = two_types (home 1 ∷ literal 1 ∷ sum 0 1 ∷ cast 2 2 ∷ []) (skip ∷ [])

abbrev pub case6 : List ℕ
case6 = file (type_row 0 ∷ type_row 1 ∷ type_row 0 ∷ []) (home_row 1 3 ∷ home_row 2 1 ∷ []) (home 2 ∷ cast 0 3 ∷ []) (skip ∷ [])

abbrev pub case7 : ℕ → List ℕ
case7 n = one_type (literal n ∷ cast 0 1 ∷ read 1 ∷ []) (skip ∷ if_row 2 0 ∷ [])

abbrev pub case8 : List ℕ
case8 = one_type (null 1 ∷ read 0 ∷ []) (skip ∷ if_row 1 0 ∷ [])

abbrev pub case9 : List ℕ
case9 = two_types (home 1 ∷ cast 0 0 ∷ cast 1 2 ∷ read 2 ∷ []) (skip ∷ if_row 3 0 ∷ [])

abbrev pub case11 : List ℕ
case11 = one_type (home 1 ∷ literal 1 ∷ expr 16 0 1 ∷ []) (skip ∷ [])

abbrev pub case12 : List ℕ
case12 = one_type (literal 5 ∷ literal 0 ∷ expr 19 0 1 ∷ []) (skip ∷ if_row 2 0 ∷ [])

-- Home 1 counts up to n: while its cell is below n, one more is stored in it.
abbrev pub counting : ℕ → List ℕ
counting n = one_type (home 1 ∷ read 0 ∷ literal n ∷ expr 22 1 2 ∷ literal 1 ∷ expr 16 1 4 ∷ []) (store 0 5 ∷ command 4 3 0 0 ∷ [])

-- One more than the number in home 1's first cell is stored there; start values may follow.
abbrev pub tray : List ℕ → List ℕ
tray values = one_type (home 1 ∷ read 0 ∷ literal 1 ∷ expr 16 1 2 ∷ []) (store 0 3 ∷ []) ++ values

abbrev pub disc : List ℕ
disc = tray (sect (start_row 1 0 7 ∷ start_row 1 2 9 ∷ []))

-- Home 2's cell is a reference.
abbrev pub flagged : List (List ℕ) → List (List ℕ) → List (List ℕ) → List ℕ
flagged exprs commands values = file (type_row 0 ∷ type_row 1 ∷ []) (home_row 1 3 ∷ home_row 2 1 ∷ []) exprs commands ++ sect values

-- 4,096 cells, and the homes that follow.
abbrev pub crowded : List (List ℕ) → List (List ℕ) → List ℕ
crowded homes values =
    file (type_row 0 ∷ []) (home_row 1 1024 ∷ home_row 1 1024 ∷ home_row 1 1024 ∷ home_row 1 1024 ∷ homes) [] (skip ∷ []) ++ sect values

-- Expressions that the body does not use.
abbrev pub unused : List (List ℕ) → List ℕ
unused exprs = one_type exprs (skip ∷ [])

-- Two types, one home, and a third expression, at 24.
abbrev pub third : List ℕ → List ℕ
third x = two_types (literal 1 ∷ literal 2 ∷ x ∷ []) (skip ∷ [])

-- Two expressions, home 1 and 7, and a second command, at 31.
abbrev pub second : List ℕ → List ℕ
second x = one_type (home 1 ∷ literal 7 ∷ []) (skip ∷ x ∷ [])

-- Home 1 and 5, and a third expression, at 22.
abbrev pub operand : List (List ℕ) → List ℕ
operand exprs = unused (home 1 ∷ literal 5 ∷ exprs)

-- An operator on two literals.
abbrev pub calculation : ℕ → ℕ → ℕ → List ℕ
calculation tag x y = unused (literal x ∷ literal y ∷ expr tag 0 1 ∷ [])

-- Two types that nothing uses.
abbrev pub idle : List ℕ
idle = two_types [] (skip ∷ [])

-- 5 is cast to T1, at 17.
abbrev pub int_cast : List ℕ
int_cast = unused (literal 5 ∷ cast 0 1 ∷ [])

-- A null of T1 is cast to T2, both ref int, at 19.
abbrev pub pair_cast : List ℕ
pair_cast = two_types (null 1 ∷ cast 0 2 ∷ []) (skip ∷ [])

-- T2 is ref T1, and a null of T1 is cast to it, at 15.
abbrev pub uneven_cast : List ℕ
uneven_cast = file (type_row 0 ∷ type_row 1 ∷ []) [] (null 1 ∷ cast 0 2 ∷ []) (skip ∷ [])

-- T2 is ref T1, and T3 is ref int. A null of one of the two is cast to the other, at 17.
abbrev pub mixed_cast : ℕ → ℕ → List ℕ
mixed_cast from to = file (type_row 0 ∷ type_row 1 ∷ type_row 0 ∷ []) [] (null from ∷ cast 0 to ∷ []) (skip ∷ [])

-- T2 is ref T1, T3 is ref T2, and T4 is ref int as T1 is. A null of T3 is cast to T4, at 19.
abbrev pub unlike_cast : List ℕ
unlike_cast = file (type_row 0 ∷ type_row 1 ∷ type_row 2 ∷ type_row 0 ∷ []) [] (null 3 ∷ cast 0 4 ∷ []) (skip ∷ [])

-- T2 is ref t, T3 is ref T1 and T4 is ref T2. A null of T3 is cast to T4, at 19.
abbrev pub recast : ℕ → List ℕ
recast t = file (type_row 0 ∷ type_row t ∷ type_row 1 ∷ type_row 2 ∷ []) [] (null 3 ∷ cast 0 4 ∷ []) (skip ∷ [])

-- The same a level further up: T5 is ref T3 and T6 is ref T4. The cast stands at 23.
abbrev pub deep_cast : List ℕ
deep_cast =
    file (type_row 0 ∷ type_row 0 ∷ type_row 1 ∷ type_row 2 ∷ type_row 3 ∷ type_row 4 ∷ []) [] (null 5 ∷ cast 0 6 ∷ []) (skip ∷ [])

-- Home 1 has three ints, home 2 (from address 4 on) two. Start rows follow, from 27 on.
abbrev pub ints : List (List ℕ) → List ℕ
ints values = file (type_row 0 ∷ []) (home_row 1 3 ∷ home_row 1 2 ∷ []) [] (skip ∷ []) ++ sect values

-- The same homes, whose last three cells start as 7, 8 and 9. The expressions begin at 16.
abbrev pub stocked : List (List ℕ) → List ℕ
stocked exprs =
    file (type_row 0 ∷ []) (home_row 1 3 ∷ home_row 1 2 ∷ []) exprs (skip ∷ []) ++ sect (start_row 1 2 7 ∷ start_row 2 0 8 ∷ start_row 2 1 9 ∷ [])

-- Home 1 is stored through itself: a reference in an int cell.
abbrev pub self_store : List ℕ
self_store = one_type (home 1 ∷ []) (store 0 0 ∷ [])

-- T2 is ref T1. Home 1 has three ints, home 2 (from address 4 on) two references to int.
abbrev pub nested : List (List ℕ) → List (List ℕ) → List ℕ
nested exprs commands = file (type_row 0 ∷ type_row 1 ∷ []) (home_row 1 3 ∷ home_row 2 2 ∷ []) exprs commands

-- The same with no expressions. The body stands at 20.
abbrev pub nested_types : List ℕ
nested_types = nested [] (skip ∷ [])

-- Home 1 is stored in home 2.
abbrev pub pointed : List ℕ
pointed = nested (home 2 ∷ home 1 ∷ []) (store 0 1 ∷ [])

-- Home 1 + 2 is stored in home 2, then 6 through what home 2 holds.
abbrev pub followed : List ℕ
followed = nested (home 2 ∷ home 1 ∷ literal 2 ∷ sum 1 2 ∷ read 0 ∷ literal 6 ∷ []) (store 0 3 ∷ store 4 5 ∷ command 1 0 1 0 ∷ [])

-- T3 is ref T2. Home 1 + k is stored in home 2, whose one cell has type T2; the store stands at 42.
abbrev pub narrowed : ℕ → List ℕ
narrowed k =
    file (type_row 0 ∷ type_row 0 ∷ type_row 2 ∷ []) (home_row 1 3 ∷ home_row 3 1 ∷ []) (home 2 ∷ home 1 ∷ literal k ∷ sum 1 2 ∷ []) (store 0 3 ∷ [])

-- If n then 7 is stored, else 8.
abbrev pub branches : ℕ → List ℕ
branches n = one_type (literal n ∷ home 1 ∷ literal 7 ∷ literal 8 ∷ []) (store 1 2 ∷ store 1 3 ∷ command 3 0 0 1 ∷ [])

-- Row 1, at 23, reads through null, and row 3, at 33, divides by zero; row 4 is their sum, rows 6 and 7 `+` of the two, each way round.
abbrev pub two_stops : List ℕ
two_stops = nested (null 2 ∷ read 0 ∷ literal 0 ∷ expr 19 2 2 ∷ sum 1 3 ∷ cast 1 0 ∷ expr 16 5 3 ∷ expr 16 3 5 ∷ []) (skip ∷ [])

-- A cell of a DYNAMIC home, read through SAFE: a pair where an int is needed, in the rows at 34, 39 and 44.
abbrev pub misread : List ℕ
misread = two_types (home 1 ∷ cast 0 2 ∷ read 1 ∷ literal 1 ∷ expr 16 2 3 ∷ expr 16 3 2 ∷ sum 0 2 ∷ []) (skip ∷ [])
