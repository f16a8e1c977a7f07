-- The answers of inference: a file that is refused, a marking that is too short, and the least marking beside what was lent past it.
use Rattle.std.specs.Prelude.{◌≡◌, ℕ, ◌≤◌, ◌<◌, List, ◌++◌, drop, Result, Ok, Err}
use Rattle.std.proofs.Math.Path.{sym}
use Rattle.std.proofs.Common.{◌∙◌, arith}
use Rattle.std.proofs.Math.ListN.{length}
use borrow.Author.Tests.{le-leb, lt-leb}
use Rattle.rules.specs.declared.Starts.{Starts}
use Rattle.rules.specs.declared.Refusal.{Refusal}
use Rattle.rules.specs.Basic.{half, fine, refused}
use Rattle.rules.specs.Table.{routine}
use Rattle.rules.specs.Least.{Least}
use Rattle.rules.specs.Calls.{refusal, fault_number, inferable, Inferred, left, marked}
use Rattle.reader.specs.Tables.{ReadTyped}
use Rattle.infer.specs.Told.{told_fine, told_refused}

-- Refusals of reading.
pub file_refused : {s before after lent : List ℕ} {r : Result Starts Refusal} {n : Refusal} → ReadTyped s before after r → r ≡ Err n
    → Inferred s lent (record { answer = refusal n; lent = lent })
unfolding inferable
file_refused {n = n} t e = let f = told_refused t e in left {n = fault_number n.fault} {p = n.place} (rw f)

-- ---- what is lent

module _ {s before after : List ℕ} {r : Result Starts Refusal} (t : ReadTyped s before after r) {at : Starts} (e : r ≡ Ok at) {k : ℕ} (h : k ≡ half s at.types)
    (lent : List ℕ) where
  -- Refusal 9, with the length needed.
  pub marking_short : {p : ℕ} → p ≡ k → length lent < k → Inferred s lent (record { answer = refused 9 p; lent = lent })
  unfolding inferable
  marking_short q l =
      rw (q, h) (left {n = 9} {p = half s at.types} (rw (told_fine t e, lt-leb (half s at.types) (length lent) (omega arith))))

  pub marking_filled : {m : List ℕ} → k ≤ length lent → Least (routine s at) m → Inferred s lent (record { answer = fine tt; lent = m ++ drop k lent })
  unfolding inferable
  marking_filled {m} l low =
      let z : k ≡ length m = h ∙ sym low.acceptable.size in
      rw z (marked {at = at} (rw (told_fine t e, le-leb (half s at.types) (length lent) (omega arith))) low)
