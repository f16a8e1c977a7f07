-- The bytes of a request (docs/PROBE.md).
use Rattle.std.specs.Prelude.{ℕ, List, ◌++◌, ◌∷◌, length}
use Rattle.std.specs.List.{flat_map}
use Rattle.std.specs.Int.{w16, w32, w64, to_le_bytes}
use Rattle.probe.specs.declared.requests.Request.{Request}
use Rattle.probe.specs.declared.requests.Request.TheVariants.{Read, Check, Infer, Run}

-- How many there are, as a 16-bit number.
abbrev pub count_bytes : {X : Type 0} → List X → List ℕ
count_bytes xs = to_le_bytes w16 (length xs)

-- A file or a marking.
abbrev pub part_bytes : List ℕ → List ℕ
part_bytes xs = count_bytes xs ++ xs

-- Entries of the lent memory.
abbrev pub entry_bytes : List ℕ → List ℕ
entry_bytes xs = count_bytes xs ++ flat_map (to_le_bytes w64) xs

abbrev pub fuel_bytes : ℕ → List ℕ
fuel_bytes n = to_le_bytes w32 n

abbrev pub request_bytes : Request → List ℕ
request_bytes (Read f) = 82 ∷ part_bytes f.now
request_bytes (Check f m) = 67 ∷ part_bytes f.now ++ part_bytes m.now
request_bytes (Infer f m) = 73 ∷ part_bytes f.now ++ part_bytes m.now
request_bytes (Run f m n w) = 88 ∷ part_bytes f.now ++ part_bytes m.now ++ fuel_bytes n ++ entry_bytes w.now
