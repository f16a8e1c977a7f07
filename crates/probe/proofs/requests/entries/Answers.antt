-- The bytes of one entry more.
use Rattle.std.proofs.Common.{◌≡◌, ℕ, ◌+◌, ◌<◌, List, ◌++◌, rules, arith, length, take, slice_set, subst}
use Rattle.std.specs.List.{flat_map}
use Rattle.std.specs.Int.{w64, to_le_bytes}
use Rattle.std.specs.Io.KnownBytes.{Consumes}
use Rattle.std.proofs.KnownBytes.{Consumes-trans}
use Rattle.std.proofs.lemmas.Grind.{common_steps, flat_map-append}
use Rattle.std.proofs.lemmas.Nat.{le_bytes_8}
use Rattle.probe.proofs.requests.entries.Goals as goal

-- What stands before an entry that was set, and the entry.
flat_map-set : {A : Type 0} (f : ℕ → List A) (xs : List ℕ) (i n : ℕ) → i < length xs → flat_map f (take i xs) ++ f n ≡ flat_map f (take (i + 1) (slice_set xs i n))
flat_map-set f xs i n within = grind (arith, common_steps, flat_map-append)

pub loop-entry-preserved : goal.loop-entry-preserved
loop-entry-preserved g c =
    let bytes : to_le_bytes w64 c.from_le_bytes.result ≡ c.in_ok-bytes.field-0 = le_bytes_8 _ _ (search rules) (search rules) (search rules) in
    subst (Consumes _ _) (flat_map-set (to_le_bytes w64) c.loop-entry.entries c.loop-entry.entry-index c.from_le_bytes.result (search rules))
    (Consumes-trans _ _ _ _ _ c.loop-entry.invariant (rw bytes c.in_ok-bytes.ensures.bytes))
