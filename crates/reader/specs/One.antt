-- The contracts of `read` and `read_typed` leave no choice: two answers, and two tables, that one file allows are equal.
use Rattle.std.specs.Prelude.{◌≡◌, refl, ℕ, List, Result}
use Rattle.std.proofs.Common.{sym, ◌∙◌, arith, ext_get_or}
use Rattle.std.proofs.Math.Decide.{dec_le}
use Rattle.rules.specs.declared.Starts.{Starts}
use Rattle.rules.specs.declared.Refusal.{Refusal}
use Rattle.rules.specs.Basic.{Verdict, fine, refused}
use Rattle.rules.specs.Table.{Routine}
use Rattle.rules.specs.Reading.{reading}
use Rattle.rules.specs.Calls.{says}
use Rattle.laws.specs.Answers.{says_same}
use Rattle.reader.specs.Tables.{TypeTable, ReadTyped}

pub one_answer : (r r' : Result Starts Refusal) → says r ≡ says r' → r ≡ r'
one_answer = says_same

one_table : (r : Routine) (before after after' : List ℕ) → TypeTable r before after → TypeTable r before after' → after ≡ after'
one_table r before after after' h k =
    ext_get_or 0 after after' (h.long ∙ sym k.long) (λ e l. elim (dec_le r.exprs e) [
      | yes d ↦ h.stays e d ∙ sym (k.stays e d)
      | no d ↦ h.types e (omega arith) ∙ sym (k.types e (omega arith))
    ])

pub one_reading : (s before after after' : List ℕ) (r r' : Result Starts Refusal) → ReadTyped s before after r → ReadTyped s before after' r' → (r ≡ r') × (after ≡ after')
one_reading s before after after' r r' h k = (one_answer r r' (h.answer ∙ sym k.answer), by_reading (reading s) refl)
  where
    by_reading : (v : Verdict Starts) → reading s ≡ v → after ≡ after'
    by_reading (fine at) e = one_table _ before after after' (h.filled at e) (k.filled at e)
    by_reading (refused n p) e = h.left n p e ∙ sym (k.left n p e)
