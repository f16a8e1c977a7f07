-- What reading told: a well-formed file with the table of its types, or a refusal.
use Rattle.std.specs.Prelude.{◌≡◌, ℕ, List, Result, Ok, Err}
use Rattle.std.proofs.Common.{sym, ap, ◌∙◌}
use Rattle.rules.specs.declared.Starts.{Starts}
use Rattle.rules.specs.declared.Refusal.{Refusal}
use Rattle.rules.specs.Basic.{fine, Bytes}
use Rattle.rules.specs.Calls.{formed, says, refusal}
use Rattle.laws.proofs.WellRead.{formed_known, formed_fine}
use Rattle.laws.specs.Known.{formed_reading}
use Rattle.reader.specs.Tables.{ReadTyped}
use Rattle.needs.specs.Typed.{Typed}

module _ {s before after : List ℕ} {r : Result Starts Refusal} (t : ReadTyped s before after r) where
  pub told_fine : {at : Starts} → r ≡ Ok at → formed s ≡ fine at
  told_fine e = sym t.answer ∙ ap says e

  pub told_refused : {n : Refusal} → r ≡ Err n → formed s ≡ refusal n
  told_refused e = sym t.answer ∙ ap says e

  pub told_typed : {at : Starts} → Bytes s → r ≡ Ok at → Typed s at after
  told_typed {at} b e =
      let f : formed s ≡ fine at = told_fine e in
      record { file = formed_known s at f; formed = formed_fine b f; types = (t.filled at (formed_reading s at f)).types }
