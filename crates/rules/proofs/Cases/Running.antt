-- Cases of commands: stores, the starting memory, order and units (RULES 6).
use Rattle.std.specs.Prelude.{refl, List, [], ◌∷◌, Ok, Err}
use Rattle.rules.specs.declared.Fault.TheVariants as faults
use Rattle.rules.specs.declared.Value.TheVariants.{Number, Pair}
use Rattle.rules.specs.Basic.{fine, refused}
use Rattle.rules.specs.Reading.{row_good, rows, section, cells, sections, fifth, reading, rising}
use Rattle.rules.specs.Shape.{type_of, shape}
use Rattle.rules.specs.Kinds.{same, converts, kinds}
use Rattle.rules.specs.declared.Check.TheVariants.{Null, Bounds, ByZero}
use Rattle.rules.specs.Steps.{entered, looked, stored}
use Rattle.rules.specs.Run.{and_then, ruled, enter, afterwards}
use Rattle.rules.specs.Calls.{formed, judged, inferable, runnable, running}
use Rattle.rules.specs.declared.Outcome.TheVariants.{Done, Fuel, Check}
use Rattle.rules.specs.Cases.Files.{literal, home, cast, null, read, command, skip, store, if_row, one_type, two_types, case1, counting, self_store, nested, nested_types, pointed, followed, narrowed, branches, two_stops}
use Rattle.rules.specs.Cases.Rows.{three, zeros, nil, ends, starves, fails, inferred, ran_on, ran, told, stuck_in, failing, read_said, check_said, infer_said, run_said, Row}

-- Stored values: converted to the target type, and in a DYNAMIC int cell a pair of home 0 (RULES 5.8, 5.10).
abbrev pub stores : List Row
unfolding formed judged inferable runnable running row_good rows section cells sections fifth reading rising type_of shape kinds same converts and_then ruled enter afterwards
stores =
    ran self_store (0 ∷ []) (ends 3) (three 1 0 0) refl
    ∷ ran self_store (1 ∷ []) (ends 3) (three 1 0 0) refl
    ∷ ran self_store (2 ∷ []) (ends 3) (three 4294967297 nil nil) refl
    ∷ ran pointed (0 ∷ 0 ∷ []) (ends 3) (0 ∷ 0 ∷ 0 ∷ 1 ∷ 0 ∷ []) refl
    ∷ ran pointed (0 ∷ 1 ∷ []) (ends 3) (0 ∷ 0 ∷ 0 ∷ 1 ∷ 0 ∷ []) refl
    ∷ ran pointed (1 ∷ 0 ∷ []) (ends 3) (0 ∷ 0 ∷ 0 ∷ 8589934592 ∷ nil ∷ []) refl
    ∷ ran pointed (1 ∷ 1 ∷ []) (ends 3) (0 ∷ 0 ∷ 0 ∷ 8589934592 ∷ nil ∷ []) refl
    ∷ ran pointed (2 ∷ 0 ∷ []) (ends 3) (nil ∷ nil ∷ nil ∷ 8589934592 ∷ nil ∷ []) refl
    ∷ ran pointed (2 ∷ 1 ∷ []) (ends 3) (nil ∷ nil ∷ nil ∷ 8589934592 ∷ nil ∷ []) refl
    ∷ ran pointed (2 ∷ 2 ∷ []) (ends 3) (nil ∷ nil ∷ nil ∷ 8589934592 ∷ nil ∷ []) refl
    ∷ ran (nested (home 2 ∷ home 1 ∷ read 0 ∷ literal 6 ∷ []) (store 0 1 ∷ store 2 3 ∷ command 1 0 1 0 ∷ [])) (0 ∷ 0 ∷ []) (ends 8) (6 ∷ 0 ∷ 0 ∷ 1 ∷ 0 ∷ []) refl
    ∷ inferred followed (1 ∷ 0 ∷ []) refl
    ∷ ran followed (1 ∷ 0 ∷ []) (ends 10) (0 ∷ 0 ∷ 6 ∷ 8589934594 ∷ nil ∷ []) refl
    ∷ ran followed (2 ∷ 2 ∷ []) (ends 10) (nil ∷ nil ∷ 4294967302 ∷ 8589934594 ∷ nil ∷ []) refl
    ∷ inferred (narrowed 3) (1 ∷ 0 ∷ 0 ∷ []) refl
    ∷ ran (narrowed 2) (1 ∷ 0 ∷ 0 ∷ []) (ends 5) (0 ∷ 0 ∷ 0 ∷ 3 ∷ 9 ∷ []) refl
    ∷ ran (narrowed 3) (1 ∷ 0 ∷ 0 ∷ []) (fails 2 42 5) (0 ∷ 0 ∷ 0 ∷ 0 ∷ 9 ∷ []) refl
    ∷ []

-- The starting memory by the kinds of home and cell (RULES 5.11), also with no fuel.
abbrev pub fresh : List Row
unfolding formed judged runnable running row_good rows section cells sections fifth reading rising type_of shape kinds same converts and_then ruled enter afterwards
fresh =
    ran_on 0 nested_types (0 ∷ 0 ∷ []) (starves 20 0) (0 ∷ 0 ∷ 0 ∷ 0 ∷ 0 ∷ []) refl
    ∷ ran_on 0 nested_types (0 ∷ 1 ∷ []) (starves 20 0) (0 ∷ 0 ∷ 0 ∷ 0 ∷ 0 ∷ []) refl
    ∷ ran_on 0 nested_types (1 ∷ 0 ∷ []) (starves 20 0) (0 ∷ 0 ∷ 0 ∷ nil ∷ nil ∷ []) refl
    ∷ ran_on 0 nested_types (1 ∷ 1 ∷ []) (starves 20 0) (0 ∷ 0 ∷ 0 ∷ nil ∷ nil ∷ []) refl
    ∷ ran_on 0 nested_types (2 ∷ 0 ∷ []) (starves 20 0) (nil ∷ nil ∷ nil ∷ nil ∷ nil ∷ []) refl
    ∷ ran_on 0 nested_types (2 ∷ 1 ∷ []) (starves 20 0) (nil ∷ nil ∷ nil ∷ nil ∷ nil ∷ []) refl
    ∷ ran_on 0 nested_types (2 ∷ 2 ∷ []) (starves 20 0) (nil ∷ nil ∷ nil ∷ nil ∷ nil ∷ []) refl
    ∷ []

-- Commands and their order (RULES 6): which check, how many units, and what the memory keeps.
abbrev pub flow : List Row
unfolding formed judged runnable running row_good rows section cells sections fifth reading rising type_of shape kinds same converts and_then ruled enter afterwards
flow =
    ran (branches 1) (0 ∷ []) (ends 5) (three 7 0 0) refl
    ∷ ran (branches 65536) (0 ∷ []) (ends 5) (three 7 0 0) refl
    ∷ ran (branches 0) (0 ∷ []) (ends 5) (three 8 0 0) refl
    ∷ ran (one_type (home 1 ∷ literal 7 ∷ literal 8 ∷ []) (store 0 1 ∷ store 0 2 ∷ command 1 0 1 0 ∷ [])) (0 ∷ []) (ends 7) (three 8 0 0) refl
    ∷ ran (one_type (home 1 ∷ literal 7 ∷ null 1 ∷ []) (store 0 1 ∷ store 2 1 ∷ command 1 0 1 0 ∷ [])) (0 ∷ []) (fails 1 36 6) (three 7 0 0) refl
    ∷ ran (one_type (home 1 ∷ literal 7 ∷ null 1 ∷ []) (store 0 1 ∷ store 2 1 ∷ command 1 1 0 0 ∷ [])) (0 ∷ []) (fails 1 36 3) zeros refl
    ∷ ran (one_type (home 1 ∷ literal 7 ∷ []) (store 0 1 ∷ skip ∷ [])) (0 ∷ []) (ends 1) zeros refl
    ∷ ran_on 0 case1 (0 ∷ []) (starves 24 0) zeros refl
    ∷ ran_on 1 case1 (0 ∷ []) (starves 12 1) zeros refl
    ∷ ran_on 3 case1 (0 ∷ []) (ends 3) (three 7 0 0) refl
    ∷ ran (counting 0) (0 ∷ []) (ends 5) zeros refl
    ∷ ran_on 1 (counting 4) (0 ∷ []) (starves 27 1) zeros refl
    ∷ ran_on 11 (counting 4) (0 ∷ []) (starves 51 11) (three 1 0 0) refl
    ∷ ran_on 12 (counting 4) (0 ∷ []) (starves 27 12) (three 1 0 0) refl
    ∷ failing two_stops (1 ∷ 0 ∷ []) 4 3 Null 23 refl
    ∷ failing two_stops (1 ∷ 0 ∷ []) 6 4 Null 23 refl
    ∷ failing two_stops (1 ∷ 0 ∷ []) 7 4 ByZero 33 refl
    ∷ ran (one_type (null 1 ∷ read 0 ∷ literal 7 ∷ []) (store 0 1 ∷ [])) (0 ∷ []) (fails 1 29 2) zeros refl
    ∷ []

-- Commands that no rule covers: a pair as a condition, and a store by a pair through SAFE (RULES 5.9).
abbrev pub stuck_runs : List Row
unfolding formed row_good rows section cells sections fifth reading rising type_of shape and_then ruled enter afterwards
stuck_runs =
    stuck_in (two_types (home 1 ∷ cast 0 2 ∷ read 1 ∷ []) (skip ∷ if_row 2 0 ∷ [])) (2 ∷ 0 ∷ []) 38 refl
    ∷ stuck_in (two_types (home 1 ∷ cast 0 2 ∷ read 1 ∷ []) (skip ∷ command 4 2 0 0 ∷ [])) (2 ∷ 0 ∷ []) 38 refl
    ∷ stuck_in (nested (home 2 ∷ read 0 ∷ literal 7 ∷ []) (store 1 2 ∷ [])) (0 ∷ 2 ∷ []) 35 refl
    ∷ []

-- The steps of a run: the rows entered, by place, the cells read and the stores (RULES 6.1).
abbrev pub in_order : List Row
unfolding formed judged row_good rows section cells sections fifth reading rising type_of shape kinds same converts and_then ruled enter afterwards
in_order =
    told case1 (0 ∷ []) (entered 24 ∷ entered 12 ∷ entered 17 ∷ stored 24 (Number 1) 1 (Number 7) ∷ []) refl
    ∷ told (counting 1) (0 ∷ []) (entered 51 ∷ entered 27 ∷ entered 17 ∷ entered 12 ∷ looked 17 (Number 1) 1 ∷ entered 22 ∷ entered 44 ∷ entered 12 ∷ entered 37 ∷ entered 17 ∷ entered 12 ∷ looked 17 (Number 1) 1 ∷ entered 32 ∷ stored 44 (Number 1) 1 (Number 1) ∷ entered 51 ∷ entered 27 ∷ entered 17 ∷ entered 12 ∷ looked 17 (Number 1) 1 ∷ entered 22 ∷ []) refl
    ∷ told followed (2 ∷ 2 ∷ []) (entered 64 ∷ entered 50 ∷ entered 18 ∷ entered 33 ∷ entered 23 ∷ entered 28 ∷ stored 50 (Pair 2 0) 4 (Pair 1 2) ∷ entered 57 ∷ entered 38 ∷ entered 18 ∷ looked 38 (Pair 2 0) 4 ∷ entered 43 ∷ stored 57 (Pair 1 2) 3 (Pair 0 6) ∷ []) refl
    ∷ []

-- What the answers of the code say (RULES 2.1, 6.4).
abbrev pub answers : List Row
answers =
    read_said (Ok (record { types = 0; homes = 4; exprs = 10; commands = 22; values = 31 })) (fine (record { types = 0; homes = 4; exprs = 10; commands = 22; values = 31 })) refl
    ∷ read_said (Err (record { fault = faults.Shape; place = 22 })) (refused 6 22) refl
    ∷ check_said (Ok tt) (fine tt) refl
    ∷ check_said (Err (record { fault = faults.Kinds; place = 19 })) (refused 8 19) refl
    ∷ infer_said (Ok tt) (fine tt) refl
    ∷ infer_said (Err (record { fault = faults.Lent; place = 2 })) (refused 9 2) refl
    ∷ run_said (Ok (record { outcome = Done; units = 3 })) (ends 3) refl
    ∷ run_said (Ok (record { outcome = Fuel 17; units = 2 })) (starves 17 2) refl
    ∷ run_said (Ok (record { outcome = Check Bounds 34; units = 4 })) (fails 2 34 4) refl
    ∷ run_said (Err (record { fault = faults.Marking; place = 1 })) (refused 7 1) refl
    ∷ []
