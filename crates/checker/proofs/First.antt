-- A search row by row: what is known when some have passed.
use Rattle.std.specs.Prelude.{◌≡◌, Bool, true, false, ℕ, ◌+◌, ◌≤◌, ◌<◌}
use Rattle.std.proofs.Common.{not-suc-le-zero, arith}
use Rattle.std.proofs.Math.Decide.{ℕ_discrete}
use Rattle.laws.specs.First.{Each, First}

module _ (good : ℕ → Bool) where
  pub passed_none : Each 0 good
  passed_none j l = absurd (not-suc-le-zero l)

  pub passed_more : (i : ℕ) → Each i good → true ≡ good i → Each (i + 1) good
  passed_more i p here j l = elim (ℕ_discrete j i) [ yes e ↦ rw e here | no d ↦ p j (omega arith) ]

  pub found : (i n : ℕ) → Each i good → i < n → false ≡ good i → First n good i
  found i n p l bad = (l, bad, p)

  pub found_none : (i n : ℕ) → Each i good → n ≤ i → Each n good
  found_none i n p h j l = p j (omega arith)
