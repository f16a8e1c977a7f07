-- A file that stops after its commands has no start rows, since past its end all bytes are 0.
use Rattle.std.specs.Prelude.{◌≡◌, ℕ, ◌+◌, List, length, eqb}
use Rattle.std.proofs.Math.Path.{refl}
use Rattle.std.proofs.Common.{eq-eqb}
use Rattle.rules.specs.declared.Starts.{Starts}
use Rattle.rules.specs.Basic.{half, Verdict, fine, refused, guard, unless_refused}
use Rattle.rules.specs.Table.{routine}
use Rattle.rules.specs.Reading.{cells, sections, fifth, reading, rising}
use Rattle.rules.specs.Shape.{shape}
use Rattle.rules.specs.Calls.{formed}
use Rattle.promises.specs.Promises.{Stops, StopsAfterCommands}
use Rattle.laws.specs.Known.{none_past, reading_sections}

module _ (s : List ℕ) (stops : Stops s) where
  no_rows : (at : Starts) → sections s ≡ fine at → (routine s at).values ≡ 0
  no_rows at e = rw (stops at e) (none_past s)

  keeps_reading : reading s ≡ unless_refused (sections s) λ at. cells s (at.homes + 2) 0 (half s at.homes) λ _. fine at
  unfolding reading fifth
  keeps_reading = by_sections (sections s) refl
    where
      by_sections : (v : Verdict Starts) → sections s ≡ v
          → unless_refused v (λ at. fifth s at λ end. guard 4 end (eqb end (length s)) λ _. cells s (at.homes + 2) 0 (half s at.homes) λ _. fine at)
          ≡ unless_refused v (λ at. cells s (at.homes + 2) 0 (half s at.homes) λ _. fine at)
      by_sections (refused n p) e = refl
      by_sections (fine at) e = rw (eq-eqb at.values (length s) (stops at e))

  keeps_shape : formed s ≡ unless_refused (reading s) λ at. shape (routine s at) λ _. fine at
  unfolding formed rising
  keeps_shape = by_reading (reading s) refl
    where
      by_reading : (v : Verdict Starts) → reading s ≡ v
          → unless_refused v (λ at. rising (routine s at) λ _. shape (routine s at) λ _. fine at) ≡ unless_refused v (λ at. shape (routine s at) λ _. fine at)
      by_reading (refused n p) e = refl
      by_reading (fine at) e = rw (no_rows at (reading_sections s at e)) refl

pub stops_after_commands : StopsAfterCommands
stops_after_commands s stops =
    record {
      read = keeps_reading s stops;
      shaped = keeps_shape s stops;
      rows = no_rows s stops;
      memory = λ at e m lent. rw (no_rows s stops at e) refl;
      runs = λ at e m lent fuel. rw (no_rows s stops at e) refl;
    }
