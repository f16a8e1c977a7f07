-- The twelve cases of the scope and a while (RULES 7).
use Rattle.std.specs.Prelude.{refl, List, [], ◌∷◌}
use Rattle.rules.specs.declared.Value.TheVariants.{Pair}
use Rattle.rules.specs.Basic.{refused}
use Rattle.rules.specs.Reading.{row_good, rows, section, cells, sections, fifth, reading, rising}
use Rattle.rules.specs.Shape.{type_of, shape}
use Rattle.rules.specs.Kinds.{same, converts, kinds}
use Rattle.rules.specs.Run.{and_then, ruled, enter, afterwards}
use Rattle.rules.specs.Calls.{formed, judged, inferable, runnable, running}
use Rattle.rules.specs.Cases.Files.{case1, case2, case4, case5, case6, case7, case8, case9, case11, case12, counting}
use Rattle.rules.specs.Cases.Rows.{lent, three, zeros, nil, ends, starves, fails, inferred, ran_on, ran, valued, Row}

-- The twelve cases of the scope, with their inferred markings, and a while.
abbrev pub scope : List Row
unfolding formed judged inferable runnable running row_good rows section cells sections fifth reading rising type_of shape kinds same converts and_then ruled enter afterwards
scope =
    inferred case1 (0 ∷ []) refl
    ∷ ran case1 (0 ∷ []) (ends 3) (three 7 0 0) refl
    ∷ ran_on 2 case1 (0 ∷ []) (starves 17 2) zeros refl
    ∷ inferred (case2 2) (1 ∷ []) refl
    ∷ ran (case2 2) (1 ∷ []) (ends 5) (three 0 0 7) refl
    ∷ inferred (case2 3) (1 ∷ []) refl
    ∷ ran (case2 3) (1 ∷ []) (fails 2 34 4) zeros refl
    ∷ inferred case4 (1 ∷ 1 ∷ []) refl
    ∷ ran case4 (1 ∷ 1 ∷ []) (ends 1) zeros refl
    ∷ ran case4 (0 ∷ 1 ∷ []) (refused 8 19) lent refl
    ∷ inferred case5 (1 ∷ 0 ∷ []) refl
    ∷ ran case5 (1 ∷ 0 ∷ []) (ends 1) zeros refl
    ∷ inferred case6 (2 ∷ 2 ∷ 2 ∷ []) refl
    ∷ ran case6 (2 ∷ 2 ∷ 2 ∷ []) (ends 1) (nil ∷ nil ∷ nil ∷ nil ∷ 9 ∷ []) refl
    ∷ ran case6 (0 ∷ 2 ∷ 2 ∷ []) (refused 8 4) lent refl
    ∷ inferred (case7 5) (1 ∷ []) refl
    ∷ ran (case7 5) (1 ∷ []) (fails 2 22 4) zeros refl
    ∷ ran (case7 0) (1 ∷ []) (fails 1 22 4) zeros refl
    ∷ inferred case8 (0 ∷ []) refl
    ∷ ran case8 (0 ∷ []) (fails 1 17 3) zeros refl
    ∷ inferred case9 (0 ∷ 1 ∷ []) refl
    ∷ ran case9 (0 ∷ 1 ∷ []) (fails 2 29 5) zeros refl
    ∷ valued case9 (0 ∷ 1 ∷ []) 2 3 (Pair 0 1) refl
    ∷ ran case1 (2 ∷ []) (ends 3) (three 4294967303 nil nil) refl
    ∷ ran case11 (0 ∷ []) (refused 6 22) lent refl
    ∷ inferred case12 (0 ∷ []) refl
    ∷ ran case12 (0 ∷ []) (fails 4 22 4) zeros refl
    ∷ inferred (counting 4) (0 ∷ []) refl
    ∷ ran (counting 4) (0 ∷ []) (ends 49) (three 4 0 0) refl
    ∷ []
