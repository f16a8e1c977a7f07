-- Cases of values: operators, conversions, accesses (RULES 5).
use Rattle.std.specs.Prelude.{refl, List, [], ◌∷◌}
use Rattle.rules.specs.declared.Value.TheVariants.{Number, Pair}
use Rattle.rules.specs.Reading.{row_good, rows, section, cells, sections, fifth, reading, rising}
use Rattle.rules.specs.Shape.{type_of, shape}
use Rattle.rules.specs.Kinds.{same, converts, kinds}
use Rattle.rules.specs.declared.Check.TheVariants.{Null, Bounds, NoHome, ByZero}
use Rattle.rules.specs.Run.{and_then, ruled, enter, afterwards}
use Rattle.rules.specs.Calls.{formed, judged, runnable, running}
use Rattle.rules.specs.Cases.Files.{type_row, home_row, literal, home, cast, null, sum, read, skip, store, file, one_type, two_types, case2, unused, operand, calculation, int_cast, stocked, nested, misread}
use Rattle.rules.specs.Cases.Rows.{three, zeros, nil, nils, ends, fails, ran, valued, failing, stuck_on, Row}

-- Each operator on numbers that tell it from every other (RULES 5.6).
abbrev pub operators : List Row
unfolding formed row_good rows section cells sections fifth reading rising type_of shape and_then ruled enter afterwards
operators =
    valued (unused (literal 16909060 ∷ [])) (0 ∷ []) 0 1 (Number 16909060) refl
    ∷ valued (calculation 16 13 4) (0 ∷ []) 2 3 (Number 17) refl
    ∷ valued (calculation 16 4294967295 3) (0 ∷ []) 2 3 (Number 2) refl
    ∷ valued (calculation 17 13 4) (0 ∷ []) 2 3 (Number 9) refl
    ∷ valued (calculation 17 4 13) (0 ∷ []) 2 3 (Number 4294967287) refl
    ∷ valued (calculation 18 13 4) (0 ∷ []) 2 3 (Number 52) refl
    ∷ valued (calculation 18 65537 65537) (0 ∷ []) 2 3 (Number 131073) refl
    ∷ valued (calculation 19 13 4) (0 ∷ []) 2 3 (Number 3) refl
    ∷ valued (calculation 19 4 13) (0 ∷ []) 2 3 (Number 0) refl
    ∷ valued (calculation 19 4294967295 2) (0 ∷ []) 2 3 (Number 2147483647) refl
    ∷ valued (calculation 20 13 4) (0 ∷ []) 2 3 (Number 1) refl
    ∷ valued (calculation 20 4 13) (0 ∷ []) 2 3 (Number 4) refl
    ∷ valued (calculation 21 13 4) (0 ∷ []) 2 3 (Number 0) refl
    ∷ valued (calculation 21 7 7) (0 ∷ []) 2 3 (Number 1) refl
    ∷ valued (calculation 21 4 13) (0 ∷ []) 2 3 (Number 0) refl
    ∷ valued (calculation 22 13 4) (0 ∷ []) 2 3 (Number 0) refl
    ∷ valued (calculation 22 4 13) (0 ∷ []) 2 3 (Number 1) refl
    ∷ valued (calculation 22 7 7) (0 ∷ []) 2 3 (Number 0) refl
    ∷ valued (calculation 23 13 4) (0 ∷ []) 2 3 (Number 4) refl
    ∷ valued (calculation 23 4294901760 4278255360) (0 ∷ []) 2 3 (Number 4278190080) refl
    ∷ valued (calculation 24 13 4) (0 ∷ []) 2 3 (Number 0) refl
    ∷ valued (calculation 24 13 1) (0 ∷ []) 2 3 (Number 6) refl
    ∷ valued (calculation 24 13 0) (0 ∷ []) 2 3 (Number 13) refl
    ∷ valued (calculation 24 4294967295 31) (0 ∷ []) 2 3 (Number 1) refl
    ∷ valued (calculation 24 4294967295 32) (0 ∷ []) 2 3 (Number 0) refl
    ∷ valued (calculation 24 4294967295 33) (0 ∷ []) 2 3 (Number 0) refl
    ∷ failing (calculation 19 5 0) (0 ∷ []) 2 3 ByZero 22 refl
    ∷ failing (calculation 20 5 0) (0 ∷ []) 2 3 ByZero 22 refl
    ∷ []

-- Values: null, home variables, sums, and conversion by kind (RULES 5.3 to 5.5).
abbrev pub converted : List Row
unfolding formed row_good rows section cells sections fifth reading rising type_of shape and_then ruled enter afterwards
converted =
    valued (unused (null 1 ∷ [])) (0 ∷ []) 0 1 (Number 0) refl
    ∷ valued (unused (null 1 ∷ [])) (1 ∷ []) 0 1 (Pair 0 0) refl
    ∷ valued (unused (null 1 ∷ [])) (2 ∷ []) 0 1 (Pair 0 0) refl
    ∷ valued (unused (home 1 ∷ [])) (0 ∷ []) 0 1 (Number 1) refl
    ∷ valued (unused (home 1 ∷ [])) (1 ∷ []) 0 1 (Pair 1 0) refl
    ∷ valued (unused (home 1 ∷ [])) (2 ∷ []) 0 1 (Pair 1 0) refl
    ∷ valued (nested (home 2 ∷ []) (skip ∷ [])) (0 ∷ 0 ∷ []) 0 1 (Number 4) refl
    ∷ valued (nested (home 2 ∷ []) (skip ∷ [])) (0 ∷ 1 ∷ []) 0 1 (Pair 2 0) refl
    ∷ valued (unused (home 1 ∷ literal 4294967295 ∷ sum 0 1 ∷ [])) (1 ∷ []) 2 3 (Pair 1 4294967295) refl
    ∷ valued (unused (home 1 ∷ literal 4294967295 ∷ sum 0 1 ∷ sum 2 1 ∷ [])) (2 ∷ []) 3 5 (Pair 1 4294967294) refl
    ∷ valued (unused (literal 5 ∷ cast 0 0 ∷ [])) (0 ∷ []) 1 2 (Number 5) refl
    ∷ valued (unused (home 1 ∷ cast 0 0 ∷ [])) (0 ∷ []) 1 2 (Number 1) refl
    ∷ valued (nested (home 2 ∷ literal 7 ∷ sum 0 1 ∷ cast 2 0 ∷ []) (skip ∷ [])) (0 ∷ 1 ∷ []) 3 4 (Number 11) refl
    ∷ valued (nested (home 2 ∷ literal 7 ∷ sum 0 1 ∷ cast 2 0 ∷ []) (skip ∷ [])) (2 ∷ 2 ∷ []) 3 4 (Number 11) refl
    ∷ valued (unused (home 1 ∷ literal 4294967295 ∷ sum 0 1 ∷ cast 2 0 ∷ [])) (1 ∷ []) 3 4 (Number 0) refl
    ∷ valued (unused (literal 5 ∷ cast 0 1 ∷ cast 1 0 ∷ [])) (1 ∷ []) 2 3 (Number 5) refl
    ∷ valued (two_types (home 1 ∷ cast 0 2 ∷ []) (skip ∷ [])) (0 ∷ 0 ∷ []) 1 2 (Number 1) refl
    ∷ valued (two_types (home 1 ∷ literal 2 ∷ sum 0 1 ∷ cast 2 2 ∷ []) (skip ∷ [])) (1 ∷ 0 ∷ []) 3 4 (Number 3) refl
    ∷ failing (two_types (home 1 ∷ literal 3 ∷ sum 0 1 ∷ cast 2 2 ∷ []) (skip ∷ [])) (1 ∷ 0 ∷ []) 3 4 Bounds 29 refl
    ∷ valued (two_types (literal 0 ∷ cast 0 1 ∷ cast 1 2 ∷ []) (skip ∷ [])) (1 ∷ 0 ∷ []) 2 3 (Number 0) refl
    ∷ failing (two_types (literal 1 ∷ cast 0 1 ∷ cast 1 2 ∷ []) (skip ∷ [])) (1 ∷ 0 ∷ []) 2 3 Bounds 24 refl
    ∷ valued int_cast (1 ∷ []) 1 2 (Pair 0 5) refl
    ∷ valued (two_types (home 1 ∷ cast 0 2 ∷ []) (skip ∷ [])) (1 ∷ 1 ∷ []) 1 2 (Pair 1 0) refl
    ∷ valued int_cast (2 ∷ []) 1 2 (Pair 0 5) refl
    ∷ valued (two_types (home 1 ∷ cast 0 2 ∷ []) (skip ∷ [])) (2 ∷ 2 ∷ []) 1 2 (Pair 1 0) refl
    ∷ []

-- Reads: checks 1 to 3, and which cell (RULES 5.7, 5.8). Home 2 starts with 8 and 9, and home 1 ends with 7.
abbrev pub accesses : List Row
unfolding formed judged runnable running row_good rows section cells sections fifth reading rising type_of shape kinds same converts and_then ruled enter afterwards
accesses =
    valued (stocked (home 2 ∷ read 0 ∷ [])) (0 ∷ []) 1 2 (Number 8) refl
    ∷ valued (stocked (home 2 ∷ read 0 ∷ [])) (1 ∷ []) 1 2 (Number 8) refl
    ∷ valued (stocked (home 1 ∷ literal 2 ∷ sum 0 1 ∷ read 2 ∷ [])) (1 ∷ []) 3 4 (Number 7) refl
    ∷ failing (stocked (home 1 ∷ literal 3 ∷ sum 0 1 ∷ read 2 ∷ [])) (1 ∷ []) 3 4 Bounds 31 refl
    ∷ valued (stocked (home 2 ∷ literal 1 ∷ sum 0 1 ∷ read 2 ∷ [])) (1 ∷ []) 3 4 (Number 9) refl
    ∷ failing (stocked (home 2 ∷ literal 2 ∷ sum 0 1 ∷ read 2 ∷ [])) (1 ∷ []) 3 4 Bounds 31 refl
    ∷ failing (stocked (home 2 ∷ literal 4294967295 ∷ sum 0 1 ∷ read 2 ∷ [])) (1 ∷ []) 3 4 Bounds 31 refl
    ∷ valued (stocked (home 2 ∷ read 0 ∷ [])) (2 ∷ []) 1 2 (Number 8) refl
    ∷ valued (stocked (home 1 ∷ literal 2 ∷ sum 0 1 ∷ read 2 ∷ [])) (2 ∷ []) 3 4 (Number 7) refl
    ∷ failing (stocked (home 1 ∷ literal 3 ∷ sum 0 1 ∷ read 2 ∷ [])) (2 ∷ []) 3 4 Bounds 31 refl
    ∷ valued (stocked (home 2 ∷ literal 1 ∷ sum 0 1 ∷ read 2 ∷ [])) (2 ∷ []) 3 4 (Number 9) refl
    ∷ failing (stocked (home 2 ∷ literal 2 ∷ sum 0 1 ∷ read 2 ∷ [])) (2 ∷ []) 3 4 Bounds 31 refl
    ∷ failing (stocked (home 2 ∷ literal 4294967295 ∷ sum 0 1 ∷ read 2 ∷ [])) (2 ∷ []) 3 4 Bounds 31 refl
    ∷ failing (stocked (null 1 ∷ read 0 ∷ [])) (0 ∷ []) 1 2 Null 21 refl
    ∷ failing (stocked (null 1 ∷ read 0 ∷ [])) (1 ∷ []) 1 2 Null 21 refl
    ∷ failing (stocked (null 1 ∷ read 0 ∷ [])) (2 ∷ []) 1 2 NoHome 21 refl
    ∷ failing (stocked (literal 0 ∷ cast 0 1 ∷ read 1 ∷ [])) (1 ∷ []) 2 3 Null 26 refl
    ∷ failing (stocked (literal 1 ∷ cast 0 1 ∷ read 1 ∷ [])) (1 ∷ []) 2 3 Bounds 26 refl
    ∷ failing (stocked (literal 0 ∷ cast 0 1 ∷ read 1 ∷ [])) (2 ∷ []) 2 3 NoHome 26 refl
    ∷ failing (stocked (literal 1 ∷ cast 0 1 ∷ read 1 ∷ [])) (2 ∷ []) 2 3 NoHome 26 refl
    ∷ ran (one_type (null 1 ∷ literal 7 ∷ []) (store 0 1 ∷ [])) (0 ∷ []) (fails 1 24 2) zeros refl
    ∷ ran (one_type (null 1 ∷ literal 7 ∷ []) (store 0 1 ∷ [])) (1 ∷ []) (fails 1 24 2) zeros refl
    ∷ ran (one_type (null 1 ∷ literal 7 ∷ []) (store 0 1 ∷ [])) (2 ∷ []) (fails 3 24 2) nils refl
    ∷ ran (case2 2) (2 ∷ []) (ends 5) (three nil nil 4294967303) refl
    ∷ ran (case2 3) (2 ∷ []) (fails 2 34 4) nils refl
    ∷ []

-- Forms that no rule covers, under markings that are not acceptable (RULES 5.9).
abbrev pub stuck_forms : List Row
unfolding formed row_good rows section cells sections fifth reading rising type_of shape and_then ruled enter afterwards
stuck_forms =
    stuck_on (operand (sum 0 1 ∷ [])) (0 ∷ []) 2 3 22 refl
    ∷ valued (unused (literal 3 ∷ cast 0 1 ∷ read 1 ∷ [])) (0 ∷ []) 2 3 (Number 0) refl
    ∷ stuck_on (unused (literal 4 ∷ cast 0 1 ∷ read 1 ∷ [])) (0 ∷ []) 2 3 22 refl
    ∷ stuck_on (nested (home 2 ∷ read 0 ∷ read 1 ∷ []) (skip ∷ [])) (0 ∷ 2 ∷ []) 2 3 28 refl
    ∷ stuck_on (file (type_row 0 ∷ type_row 1 ∷ type_row 0 ∷ []) (home_row 3 1 ∷ []) (home 1 ∷ cast 0 2 ∷ read 1 ∷ read 2 ∷ []) (skip ∷ [])) (2 ∷ 0 ∷ 0 ∷ []) 3 4 31 refl
    ∷ stuck_on misread (2 ∷ 0 ∷ []) 4 5 34 refl
    ∷ stuck_on misread (2 ∷ 0 ∷ []) 5 5 39 refl
    ∷ stuck_on misread (2 ∷ 0 ∷ []) 6 5 44 refl
    ∷ []
