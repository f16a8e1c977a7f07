-- The first row that a test fails, as a search finds it, and the refusal that it earns.
use Rattle.std.specs.Prelude.{◌≡◌, Bool, true, false, ℕ, zero, suc, ◌+◌, ◌≤◌, ◌<◌}
use Rattle.std.proofs.Common.{arith}
use Rattle.std.proofs.Math.Decide.{ℕ_discrete}
use Rattle.rules.specs.Basic.{Verdict, refused, first_bad}
use Rattle.rules.specs.Tested.{good_scan}

-- All of n rows pass.
abbrev pub Each : ℕ → (ℕ → Bool) → Type 0
Each n good = (i : ℕ) → i < n → true ≡ good i

-- The first that does not is row k.
abbrev pub First : ℕ → (ℕ → Bool) → ℕ → Type 0
First n good k = (k < n) × (false ≡ good k) × Each k good

module _ {X : Type 0} (number : ℕ) (good : ℕ → Bool) (place : ℕ → ℕ) (go : Unit {0} → Verdict X) where
  scan_stops : (r i n : ℕ) → i ≤ r → r < i + n → ((j : ℕ) → j < r → true ≡ good j) → false ≡ good r
      → first_bad number good place i n go ≡ refused number (place r)
  scan_stops r i zero h l before bad = absurd (omega arith)
  scan_stops r i (suc n) h l before bad =
      elim (ℕ_discrete i r) [ yes e ↦ here e | no d ↦ there d (λ k. scan_stops r (suc i) n k (omega arith) before bad) ]
    where
      here : i ≡ r → first_bad number good place i (suc n) go ≡ refused number (place r)
      here e = rw (e, ← bad)

      there : (i ≡ r → ⊥) → (suc i ≤ r → first_bad number good place (suc i) n go ≡ refused number (place r))
          → first_bad number good place i (suc n) go ≡ refused number (place r)
      there d rest = rw (← before i (omega arith)) (rest (omega arith))

  pub first_stops : {n r : ℕ} → First n good r → first_bad number good place 0 n go ≡ refused number (place r)
  first_stops {n} {r} (l, bad, before) = scan_stops r 0 n (omega arith) (omega arith) before bad

  pub none_fails : {n : ℕ} → Each n good → first_bad number good place 0 n go ≡ go tt
  none_fails {n} each = good_scan number good place 0 n go (λ j _ u. let e : good j ≡ true = cc (each j (omega arith)) in e)
