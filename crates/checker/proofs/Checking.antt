-- Reading, then judging, is checking.
use Rattle.std.proofs.Common.{◌≡◌, refl, sym, ap, ◌∙◌, ℕ, List, Result, Ok, Err}
use Rattle.rules.specs.declared.Starts.{Starts}
use Rattle.rules.specs.declared.Refusal.{Refusal}
use Rattle.rules.specs.Basic.{fine, Bytes}
use Rattle.rules.specs.Table.{routine}
use Rattle.rules.specs.Kinds.{kinds}
use Rattle.rules.specs.Calls.{formed, judged, says, refusal}
use Rattle.laws.proofs.WellRead.{formed_known, formed_fine}
use Rattle.laws.specs.Known.{formed_reading}
use Rattle.reader.specs.Tables.{ReadTyped}
use Rattle.needs.specs.Typed.{Typed}
use Rattle.checker.specs.Judge.{CheckedTyped}

module _ {s before after : List ℕ} {r : Result Starts Refusal} (read : ReadTyped s before after r) where
  -- A refusal of reading is one of checking.
  pub refused_first : {n : Refusal} → r ≡ Err n → (m : List ℕ) → CheckedTyped s m before after (Err n)
  unfolding judged
  refused_first {n} e m =
      let f : formed s ≡ refusal n = sym read.answer ∙ ap says e in record { answer = rw f refl; filled = read.filled; left = read.left }

  module _ {at : Starts} (e : r ≡ Ok at) (bytes : Bytes s) where
    well_formed : formed s ≡ fine at
    well_formed = sym read.answer ∙ ap says e

    pub typed_file : Typed s at after
    typed_file = record { file = formed_known s at well_formed; formed = formed_fine bytes well_formed; types = (read.filled at (formed_reading s at well_formed)).types }

    judged_same : (m : List ℕ) → kinds (routine s at) m (λ _. fine at) ≡ judged s m
    unfolding judged
    judged_same m = rw well_formed

    pub judged_then : {m : List ℕ} {q : Result Starts Refusal} → says q ≡ kinds (routine s at) m (λ _. fine at) → CheckedTyped s m before after q
    judged_then {m} h = record { answer = h ∙ judged_same m; filled = read.filled; left = read.left }
