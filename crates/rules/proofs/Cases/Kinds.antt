-- Cases of markings: kinds, conversion, inference, and what is lent (RULES 4).
use Rattle.std.specs.Prelude.{refl, List, [], ◌∷◌}
use Rattle.rules.specs.Basic.{refused}
use Rattle.rules.specs.Reading.{row_good, rows, section, cells, sections, fifth, reading, rising}
use Rattle.rules.specs.Shape.{type_of, shape}
use Rattle.rules.specs.Kinds.{same, converts, kinds}
use Rattle.rules.specs.Run.{and_then, ruled, enter, afterwards}
use Rattle.rules.specs.Calls.{formed, judged, checking, inferable, runnable, running}
use Rattle.rules.specs.Cases.Files.{type_row, literal, home, cast, null, sum, skip, store, file, case1, case4, case11, unused, operand, idle, int_cast, pair_cast, uneven_cast, mixed_cast, unlike_cast, recast, deep_cast, nested, nested_types}
use Rattle.rules.specs.Cases.Rows.{plenty, ends, accepted, rejected, inferred_in, inferred, not_inferred, ran_in, Row}

-- The marking: its length and its bytes (7), after 6 and before 8.
abbrev pub lengths : List Row
unfolding formed judged checking row_good rows section cells sections fifth reading rising type_of shape kinds same converts
lengths =
    rejected idle [] 7 0 refl
    ∷ rejected idle (3 ∷ []) 7 1 refl
    ∷ rejected idle (3 ∷ 3 ∷ 3 ∷ []) 7 2 refl
    ∷ rejected idle (3 ∷ 3 ∷ []) 7 0 refl
    ∷ rejected idle (2 ∷ 3 ∷ []) 7 1 refl
    ∷ accepted idle (2 ∷ 2 ∷ []) refl
    ∷ rejected case4 (0 ∷ 3 ∷ []) 7 1 refl
    ∷ rejected case11 [] 6 22 refl
    ∷ accepted (file [] [] [] (skip ∷ [])) [] refl
    ∷ []

-- Conversion of each kind to each, of int too, where the targets are equal (8).
abbrev pub conversions : List Row
unfolding formed judged checking row_good rows section cells sections fifth reading rising type_of shape kinds same converts
conversions =
    accepted pair_cast (0 ∷ 0 ∷ []) refl
    ∷ rejected pair_cast (0 ∷ 1 ∷ []) 8 19 refl
    ∷ rejected pair_cast (0 ∷ 2 ∷ []) 8 19 refl
    ∷ accepted pair_cast (1 ∷ 0 ∷ []) refl
    ∷ accepted pair_cast (1 ∷ 1 ∷ []) refl
    ∷ rejected pair_cast (1 ∷ 2 ∷ []) 8 19 refl
    ∷ rejected pair_cast (2 ∷ 0 ∷ []) 8 19 refl
    ∷ rejected pair_cast (2 ∷ 1 ∷ []) 8 19 refl
    ∷ accepted pair_cast (2 ∷ 2 ∷ []) refl
    ∷ rejected int_cast (0 ∷ []) 8 17 refl
    ∷ accepted int_cast (1 ∷ []) refl
    ∷ accepted int_cast (2 ∷ []) refl
    ∷ accepted (unused (home 1 ∷ cast 0 0 ∷ cast 1 0 ∷ [])) (0 ∷ []) refl
    ∷ accepted (unused (home 1 ∷ cast 0 0 ∷ cast 1 0 ∷ [])) (1 ∷ []) refl
    ∷ accepted (unused (home 1 ∷ cast 0 0 ∷ cast 1 0 ∷ [])) (2 ∷ []) refl
    ∷ []

-- Conversion asks equal targets, down all levels; DYNAMIC ones are equal whatever they point to.
abbrev pub targets : List Row
unfolding formed judged checking row_good rows section cells sections fifth reading rising type_of shape kinds same converts
targets =
    accepted (recast 0) (0 ∷ 0 ∷ 0 ∷ 0 ∷ []) refl
    ∷ rejected (recast 0) (0 ∷ 1 ∷ 0 ∷ 0 ∷ []) 8 19 refl
    ∷ rejected (recast 0) (0 ∷ 2 ∷ 0 ∷ 0 ∷ []) 8 19 refl
    ∷ rejected (recast 0) (1 ∷ 0 ∷ 0 ∷ 0 ∷ []) 8 19 refl
    ∷ accepted (recast 0) (1 ∷ 1 ∷ 0 ∷ 0 ∷ []) refl
    ∷ rejected (recast 0) (1 ∷ 2 ∷ 0 ∷ 0 ∷ []) 8 19 refl
    ∷ rejected (recast 0) (2 ∷ 0 ∷ 0 ∷ 0 ∷ []) 8 19 refl
    ∷ rejected (recast 0) (2 ∷ 1 ∷ 0 ∷ 0 ∷ []) 8 19 refl
    ∷ accepted (recast 0) (2 ∷ 2 ∷ 0 ∷ 0 ∷ []) refl
    ∷ rejected (recast 0) (1 ∷ 0 ∷ 1 ∷ 0 ∷ []) 8 19 refl
    ∷ accepted (recast 0) (1 ∷ 1 ∷ 1 ∷ 0 ∷ []) refl
    ∷ accepted (recast 0) (0 ∷ 0 ∷ 1 ∷ 1 ∷ []) refl
    ∷ rejected (recast 0) (0 ∷ 1 ∷ 1 ∷ 1 ∷ []) 8 19 refl
    ∷ accepted (recast 0) (2 ∷ 2 ∷ 1 ∷ 0 ∷ []) refl
    ∷ accepted (recast 0) (2 ∷ 2 ∷ 2 ∷ 2 ∷ []) refl
    ∷ rejected (recast 1) (0 ∷ 0 ∷ 0 ∷ 0 ∷ []) 8 19 refl
    ∷ rejected (recast 1) (1 ∷ 1 ∷ 0 ∷ 0 ∷ []) 8 19 refl
    ∷ accepted (recast 1) (2 ∷ 2 ∷ 0 ∷ 0 ∷ []) refl
    ∷ accepted (recast 1) (2 ∷ 2 ∷ 2 ∷ 2 ∷ []) refl
    ∷ rejected (mixed_cast 2 3) (0 ∷ 0 ∷ 0 ∷ []) 8 17 refl
    ∷ rejected (mixed_cast 2 3) (1 ∷ 0 ∷ 0 ∷ []) 8 17 refl
    ∷ rejected (mixed_cast 2 3) (2 ∷ 0 ∷ 0 ∷ []) 8 17 refl
    ∷ rejected (mixed_cast 3 2) (0 ∷ 0 ∷ 0 ∷ []) 8 17 refl
    ∷ rejected (mixed_cast 3 2) (1 ∷ 0 ∷ 0 ∷ []) 8 17 refl
    ∷ rejected (mixed_cast 3 2) (2 ∷ 0 ∷ 0 ∷ []) 8 17 refl
    ∷ rejected unlike_cast (0 ∷ 0 ∷ 0 ∷ 0 ∷ []) 8 19 refl
    ∷ rejected unlike_cast (0 ∷ 1 ∷ 0 ∷ 0 ∷ []) 8 19 refl
    ∷ accepted deep_cast (0 ∷ 0 ∷ 0 ∷ 0 ∷ 0 ∷ 0 ∷ []) refl
    ∷ accepted deep_cast (1 ∷ 1 ∷ 0 ∷ 0 ∷ 1 ∷ 0 ∷ []) refl
    ∷ accepted deep_cast (2 ∷ 2 ∷ 2 ∷ 2 ∷ 0 ∷ 0 ∷ []) refl
    ∷ rejected deep_cast (0 ∷ 1 ∷ 0 ∷ 0 ∷ 0 ∷ 0 ∷ []) 8 23 refl
    ∷ rejected deep_cast (0 ∷ 0 ∷ 1 ∷ 0 ∷ 0 ∷ 0 ∷ []) 8 23 refl
    ∷ accepted uneven_cast (2 ∷ 2 ∷ []) refl
    ∷ []

-- The other kind rules: a DYNAMIC target, the a of a sum, a stored value.
abbrev pub others : List Row
unfolding formed judged checking row_good rows section cells sections fifth reading rising type_of shape kinds same converts
others =
    rejected nested_types (0 ∷ 2 ∷ []) 8 4 refl
    ∷ rejected nested_types (1 ∷ 2 ∷ []) 8 4 refl
    ∷ accepted nested_types (2 ∷ 0 ∷ []) refl
    ∷ accepted nested_types (2 ∷ 1 ∷ []) refl
    ∷ accepted nested_types (2 ∷ 2 ∷ []) refl
    ∷ rejected (operand (sum 0 1 ∷ [])) (0 ∷ []) 8 22 refl
    ∷ accepted (operand (sum 0 1 ∷ [])) (1 ∷ []) refl
    ∷ accepted (operand (sum 0 1 ∷ [])) (2 ∷ []) refl
    ∷ rejected (nested (home 2 ∷ literal 5 ∷ []) (skip ∷ store 0 1 ∷ [])) (0 ∷ 1 ∷ []) 8 37 refl
    ∷ accepted (nested (home 2 ∷ literal 5 ∷ []) (skip ∷ store 0 1 ∷ [])) (1 ∷ 0 ∷ []) refl
    ∷ accepted (nested (home 2 ∷ home 1 ∷ []) (skip ∷ store 0 1 ∷ [])) (0 ∷ 1 ∷ []) refl
    ∷ rejected (nested (home 2 ∷ home 2 ∷ []) (skip ∷ store 0 1 ∷ [])) (0 ∷ 0 ∷ []) 8 37 refl
    ∷ []

-- The first row that breaks a kind rule: over types, then expressions, then commands.
abbrev pub firsts : List Row
unfolding formed judged checking row_good rows section cells sections fifth reading rising type_of shape kinds same converts
firsts =
    rejected (nested (literal 5 ∷ cast 0 1 ∷ []) (skip ∷ [])) (0 ∷ 2 ∷ []) 8 4 refl
    ∷ rejected (file (type_row 0 ∷ type_row 1 ∷ type_row 1 ∷ []) [] [] (skip ∷ [])) (0 ∷ 2 ∷ 2 ∷ []) 8 4 refl
    ∷ rejected (nested (literal 5 ∷ cast 0 1 ∷ cast 0 1 ∷ []) (skip ∷ [])) (0 ∷ 0 ∷ []) 8 23 refl
    ∷ rejected (nested (literal 5 ∷ home 2 ∷ cast 0 1 ∷ []) (store 1 0 ∷ [])) (0 ∷ 0 ∷ []) 8 28 refl
    ∷ rejected (nested (literal 5 ∷ home 2 ∷ []) (store 1 0 ∷ store 1 0 ∷ [])) (0 ∷ 0 ∷ []) 8 30 refl
    ∷ []

-- What is lent is too short (9), after 8; exactly enough; a refused call writes nothing.
abbrev pub lending : List Row
unfolding formed judged inferable runnable running row_good rows section cells sections fifth reading rising type_of shape kinds same converts and_then ruled enter afterwards
lending =
    ran_in plenty (9 ∷ 9 ∷ []) case1 (0 ∷ []) (refused 9 3) (9 ∷ 9 ∷ []) refl
    ∷ ran_in plenty (9 ∷ 9 ∷ 9 ∷ []) case1 (0 ∷ []) (ends 3) (7 ∷ 0 ∷ 0 ∷ []) refl
    ∷ ran_in plenty [] nested_types (0 ∷ 0 ∷ []) (refused 9 5) [] refl
    ∷ ran_in plenty (9 ∷ []) case4 (0 ∷ 1 ∷ []) (refused 8 19) (9 ∷ []) refl
    ∷ ran_in plenty (9 ∷ []) case4 (0 ∷ []) (refused 7 1) (9 ∷ []) refl
    ∷ not_inferred case4 (9 ∷ []) 9 2 refl
    ∷ inferred_in (9 ∷ 9 ∷ []) case4 (1 ∷ 1 ∷ []) (1 ∷ 1 ∷ []) refl
    ∷ not_inferred case11 [] 6 22 refl
    ∷ []

-- Least markings: an int in a reference cell; targets made equal; targets that cannot be; no types.
abbrev pub least : List Row
unfolding formed inferable row_good rows section cells sections fifth reading rising type_of shape kinds same converts
least =
    inferred (nested (home 2 ∷ literal 5 ∷ []) (store 0 1 ∷ [])) (1 ∷ 0 ∷ []) refl
    ∷ inferred (file (type_row 0 ∷ type_row 0 ∷ type_row 1 ∷ type_row 2 ∷ []) [] (null 1 ∷ literal 1 ∷ sum 0 1 ∷ null 3 ∷ cast 3 4 ∷ []) (skip ∷ [])) (1 ∷ 1 ∷ 0 ∷ 0 ∷ []) refl
    ∷ inferred uneven_cast (2 ∷ 2 ∷ []) refl
    ∷ inferred (file [] [] [] (skip ∷ [])) [] refl
    ∷ []
