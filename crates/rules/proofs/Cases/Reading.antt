-- Cases of the file: its counts, its rows, and the types of its expressions (RULES 1 to 3).
use Rattle.std.specs.Prelude.{refl, List, [], ◌∷◌, ◌++◌}
use Rattle.rules.specs.Reading.{row_good, rows, section, cells, sections, fifth, reading, rising}
use Rattle.rules.specs.Shape.{type_of, shape}
use Rattle.rules.specs.Kinds.{same, converts, kinds}
use Rattle.rules.specs.Run.{and_then, ruled, enter, afterwards}
use Rattle.rules.specs.Calls.{formed, judged, checking, inferable, runnable, running}
use Rattle.rules.specs.Cases.Files.{half, type_row, home_row, expr, literal, home, cast, null, sum, read, command, skip, store, start_row, if_row, sect, file, one_type, tray, disc, flagged, crowded, third, second, operand, ints, nested}
use Rattle.rules.specs.Cases.Rows.{three, nil, ends, starves, formed_at, malformed, accepted, inferred, ran_on, ran, Row}

-- Start values (RULES 1.10, 5.11).
abbrev pub start_rows : List Row
unfolding formed judged inferable runnable running row_good rows section cells sections fifth reading rising type_of shape kinds same converts and_then ruled enter afterwards
start_rows =
    inferred (tray []) (0 ∷ []) refl
    ∷ ran (tray []) (0 ∷ []) (ends 6) (three 1 0 0) refl
    ∷ ran (tray (sect [])) (0 ∷ []) (ends 6) (three 1 0 0) refl
    ∷ formed_at (tray []) 4 10 32 41 refl
    ∷ formed_at (tray (sect [])) 4 10 32 41 refl
    ∷ formed_at disc 4 10 32 41 refl
    ∷ inferred disc (0 ∷ []) refl
    ∷ ran disc (0 ∷ []) (ends 6) (three 8 0 9) refl
    ∷ ran_on 0 disc (0 ∷ []) (starves 34 0) (three 7 0 9) refl
    ∷ ran disc (1 ∷ []) (ends 6) (three 8 0 9) refl
    ∷ ran disc (2 ∷ []) (ends 6) (three 4294967304 nil 4294967305) refl
    ∷ ran_on 0 (tray (sect (start_row 1 1 16909060 ∷ []))) (0 ∷ []) (starves 34 0) (three 0 16909060 0) refl
    ∷ ran_on 0 (tray (sect (start_row 1 1 16909060 ∷ []))) (2 ∷ []) (starves 34 0) (three nil 4311876356 nil) refl
    ∷ ran (tray (sect (start_row 1 0 4294967295 ∷ []))) (0 ∷ []) (ends 6) (three 0 0 0) refl
    ∷ ran (ints (start_row 1 2 7 ∷ start_row 2 0 8 ∷ start_row 2 1 9 ∷ [])) (0 ∷ []) (ends 1) (0 ∷ 0 ∷ 7 ∷ 8 ∷ 9 ∷ []) refl
    ∷ malformed (ints (start_row 2 2 7 ∷ [])) 3 27 refl
    ∷ malformed (ints (start_row 1 0 7 ∷ start_row 1 2 7 ∷ start_row 1 1 7 ∷ [])) 10 43 refl
    ∷ malformed (ints (start_row 2 0 7 ∷ start_row 1 2 7 ∷ start_row 1 1 7 ∷ [])) 10 35 refl
    ∷ malformed (tray (sect (start_row 1 2 7 ∷ start_row 1 0 9 ∷ []))) 10 51 refl
    ∷ malformed (tray (sect (start_row 1 2 7 ∷ start_row 1 2 7 ∷ []))) 10 51 refl
    ∷ malformed (tray (sect (start_row 0 0 7 ∷ []))) 3 43 refl
    ∷ malformed (tray (sect (start_row 1 0 7 ∷ start_row 2 0 7 ∷ []))) 3 51 refl
    ∷ malformed (tray (sect (start_row 1 3 7 ∷ []))) 3 43 refl
    ∷ []

-- A count: whole (1), then its limit (2), then its rows, each whole (1) before its fields are judged (3); bytes behind them (4).
abbrev pub counts : List Row
unfolding formed row_good rows section cells sections fifth reading rising type_of shape
counts =
    malformed [] 1 0 refl
    ∷ malformed (0 ∷ []) 1 0 refl
    ∷ malformed (half 255) 1 2 refl
    ∷ malformed (half 256) 2 0 refl
    ∷ malformed (half 0 ++ 0 ∷ []) 1 2 refl
    ∷ malformed (half 0 ++ half 64) 1 4 refl
    ∷ malformed (half 0 ++ half 65) 2 2 refl
    ∷ malformed (half 0 ++ half 0 ++ 0 ∷ []) 1 4 refl
    ∷ malformed (half 0 ++ half 0 ++ half 1024) 1 6 refl
    ∷ malformed (half 0 ++ half 0 ++ half 1025) 2 4 refl
    ∷ malformed (half 0 ++ half 0 ++ half 0 ++ 0 ∷ []) 1 6 refl
    ∷ malformed (half 0 ++ half 0 ++ half 0 ++ half 1024) 1 8 refl
    ∷ malformed (half 0 ++ half 0 ++ half 0 ++ half 1025) 2 6 refl
    ∷ malformed (half 0 ++ half 0 ++ half 0 ++ half 0) 2 6 refl
    ∷ formed_at (file [] [] [] (skip ∷ [])) 2 4 6 15 refl
    ∷ malformed (tray (0 ∷ [])) 1 41 refl
    ∷ malformed (tray (half 256)) 1 43 refl
    ∷ malformed (tray (half 257)) 2 41 refl
    ∷ malformed (disc ++ 0 ∷ []) 4 59 refl
    ∷ malformed (half 2 ++ type_row 0 ++ 0 ∷ []) 1 4 refl
    ∷ malformed (half 2 ++ type_row 1 ++ 0 ∷ []) 3 2 refl
    ∷ malformed (half 1 ++ 9 ∷ []) 1 2 refl
    ∷ malformed (sect (type_row 0 ∷ []) ++ half 2 ++ home_row 1 3 ++ 1 ∷ 0 ∷ 3 ∷ []) 1 10 refl
    ∷ malformed (sect (type_row 0 ∷ []) ++ sect [] ++ half 2 ++ null 1 ++ 4 ∷ 1 ∷ 0 ∷ 0 ∷ []) 1 13 refl
    ∷ malformed (sect [] ++ sect [] ++ sect [] ++ half 2 ++ skip ++ 0 ∷ 0 ∷ 0 ∷ 0 ∷ 0 ∷ 0 ∷ []) 1 15 refl
    ∷ malformed (tray (half 2 ++ start_row 1 0 7 ++ 1 ∷ 0 ∷ 2 ∷ 0 ∷ 9 ∷ 0 ∷ 0 ∷ [])) 1 51 refl
    ∷ []

-- The fields of types and homes (3), and how many cells there are (5).
abbrev pub sizes : List Row
unfolding formed row_good rows section cells sections fifth reading rising type_of shape
sizes =
    malformed (file (type_row 1 ∷ []) [] [] (skip ∷ [])) 3 2 refl
    ∷ malformed (file (type_row 0 ∷ type_row 2 ∷ []) [] [] (skip ∷ [])) 3 4 refl
    ∷ formed_at (file (type_row 0 ∷ type_row 1 ∷ []) (home_row 2 1 ∷ []) [] (skip ∷ [])) 6 12 14 23 refl
    ∷ malformed (file (type_row 0 ∷ []) (home_row 1 1 ∷ home_row 0 1 ∷ []) [] (skip ∷ [])) 3 10 refl
    ∷ malformed (file (type_row 0 ∷ []) (home_row 1 1 ∷ home_row 2 1 ∷ []) [] (skip ∷ [])) 3 10 refl
    ∷ malformed (file (type_row 0 ∷ []) (home_row 1 1 ∷ home_row 1 0 ∷ []) [] (skip ∷ [])) 3 10 refl
    ∷ malformed (file (type_row 0 ∷ []) (home_row 1 1 ∷ home_row 1 1025 ∷ []) [] (skip ∷ [])) 3 10 refl
    ∷ formed_at (crowded [] []) 4 22 24 33 refl
    ∷ malformed (crowded (home_row 1 1 ∷ home_row 1 1 ∷ []) []) 5 22 refl
    ∷ malformed (crowded (home_row 1 1 ∷ []) (start_row 2 0 7 ∷ start_row 1 0 7 ∷ [])) 5 22 refl
    ∷ malformed (crowded (home_row 1 1 ∷ []) (start_row 0 0 7 ∷ [])) 3 39 refl
    ∷ malformed (crowded (home_row 1 1 ∷ []) [] ++ 0 ∷ []) 4 39 refl
    ∷ []

-- The fields of expressions: two types, one home, row 2.
abbrev pub expr_rows : List Row
unfolding formed judged checking row_good rows section cells sections fifth reading rising type_of shape kinds same converts
expr_rows =
    malformed (third (home 0)) 3 24 refl
    ∷ malformed (third (home 2)) 3 24 refl
    ∷ malformed (third (expr 1 1 1)) 3 24 refl
    ∷ malformed (third (expr 2 0 0)) 3 24 refl
    ∷ malformed (third (cast 2 1)) 3 24 refl
    ∷ malformed (third (cast 1 3)) 3 24 refl
    ∷ malformed (third (null 0)) 3 24 refl
    ∷ malformed (third (null 3)) 3 24 refl
    ∷ malformed (third (expr 4 1 1)) 3 24 refl
    ∷ malformed (third (sum 2 1)) 3 24 refl
    ∷ malformed (third (sum 1 2)) 3 24 refl
    ∷ malformed (third (read 2)) 3 24 refl
    ∷ malformed (third (expr 6 1 1)) 3 24 refl
    ∷ malformed (third (expr 7 0 0)) 3 24 refl
    ∷ malformed (third (expr 15 0 0)) 3 24 refl
    ∷ malformed (third (expr 16 2 1)) 3 24 refl
    ∷ malformed (third (expr 16 1 2)) 3 24 refl
    ∷ malformed (third (expr 24 2 1)) 3 24 refl
    ∷ malformed (third (expr 24 1 2)) 3 24 refl
    ∷ malformed (third (expr 25 0 0)) 3 24 refl
    ∷ malformed (third (expr 255 0 0)) 3 24 refl
    ∷ accepted (third (literal 4294967295)) (0 ∷ 0 ∷ []) refl
    ∷ accepted (third (home 1)) (0 ∷ 0 ∷ []) refl
    ∷ accepted (third (cast 1 0)) (0 ∷ 0 ∷ []) refl
    ∷ accepted (third (null 2)) (0 ∷ 0 ∷ []) refl
    ∷ accepted (third (expr 16 1 1)) (0 ∷ 0 ∷ []) refl
    ∷ accepted (third (expr 24 1 1)) (0 ∷ 0 ∷ []) refl
    ∷ accepted (third (cast 1 2)) (0 ∷ 1 ∷ []) refl
    ∷ []

-- The fields of commands: two expressions, row 1.
abbrev pub command_rows : List Row
unfolding formed judged checking row_good rows section cells sections fifth reading rising type_of shape kinds same converts
command_rows =
    malformed (second (command 0 1 0 0)) 3 31 refl
    ∷ malformed (second (command 0 0 1 0)) 3 31 refl
    ∷ malformed (second (command 0 0 0 1)) 3 31 refl
    ∷ malformed (second (command 1 1 0 0)) 3 31 refl
    ∷ malformed (second (command 1 0 1 0)) 3 31 refl
    ∷ malformed (second (command 1 0 0 1)) 3 31 refl
    ∷ malformed (second (store 2 1)) 3 31 refl
    ∷ malformed (second (store 0 2)) 3 31 refl
    ∷ malformed (second (command 2 0 1 1)) 3 31 refl
    ∷ malformed (second (command 3 2 0 0)) 3 31 refl
    ∷ malformed (second (command 3 1 1 0)) 3 31 refl
    ∷ malformed (second (command 3 1 0 1)) 3 31 refl
    ∷ malformed (second (command 4 2 0 0)) 3 31 refl
    ∷ malformed (second (command 4 1 1 0)) 3 31 refl
    ∷ malformed (second (command 4 1 0 1)) 3 31 refl
    ∷ malformed (second (command 5 0 0 0)) 3 31 refl
    ∷ malformed (second (command 255 0 0 0)) 3 31 refl
    ∷ accepted (second (command 1 0 0 0)) (0 ∷ []) refl
    ∷ accepted (second (store 0 1)) (0 ∷ []) refl
    ∷ accepted (second (command 3 1 0 0)) (0 ∷ []) refl
    ∷ accepted (second (command 4 1 0 0)) (0 ∷ []) refl
    ∷ []

-- Ints and references (6), after 10, over expressions, commands, start values.
abbrev pub shapes : List Row
unfolding formed judged checking row_good rows section cells sections fifth reading rising type_of shape kinds same converts
shapes =
    malformed (operand (sum 1 1 ∷ [])) 6 22 refl
    ∷ malformed (operand (sum 0 0 ∷ [])) 6 22 refl
    ∷ malformed (operand (read 1 ∷ [])) 6 22 refl
    ∷ malformed (operand (expr 16 0 1 ∷ [])) 6 22 refl
    ∷ malformed (operand (expr 16 1 0 ∷ [])) 6 22 refl
    ∷ malformed (operand (cast 0 0 ∷ read 2 ∷ [])) 6 27 refl
    ∷ malformed (operand (read 0 ∷ read 2 ∷ [])) 6 27 refl
    ∷ malformed (operand (expr 16 1 1 ∷ read 2 ∷ [])) 6 27 refl
    ∷ malformed (operand (read 1 ∷ read 1 ∷ [])) 6 22 refl
    ∷ malformed (one_type (literal 5 ∷ read 0 ∷ []) (store 0 0 ∷ [])) 6 17 refl
    ∷ malformed (one_type (literal 5 ∷ []) (store 0 0 ∷ store 0 0 ∷ [])) 6 19 refl
    ∷ malformed (one_type (home 1 ∷ []) (skip ∷ if_row 0 0 ∷ [])) 6 26 refl
    ∷ malformed (one_type (home 1 ∷ []) (skip ∷ command 4 0 0 0 ∷ [])) 6 26 refl
    ∷ malformed (nested (home 2 ∷ read 0 ∷ expr 16 1 1 ∷ []) (skip ∷ [])) 6 28 refl
    ∷ accepted (operand (sum 0 1 ∷ read 2 ∷ null 1 ∷ read 4 ∷ cast 1 1 ∷ read 6 ∷ cast 1 0 ∷ expr 16 3 8 ∷ [])) (2 ∷ []) refl
    ∷ accepted (nested (home 2 ∷ read 0 ∷ read 1 ∷ expr 16 2 2 ∷ []) (skip ∷ [])) (0 ∷ 0 ∷ []) refl
    ∷ malformed (flagged [] (skip ∷ []) (start_row 2 0 7 ∷ start_row 1 1 7 ∷ [])) 10 37 refl
    ∷ malformed (flagged [] (skip ∷ []) (start_row 1 1 7 ∷ start_row 2 0 7 ∷ [])) 6 37 refl
    ∷ malformed (flagged (literal 5 ∷ []) (store 0 0 ∷ []) (start_row 2 0 7 ∷ [])) 6 25 refl
    ∷ []
