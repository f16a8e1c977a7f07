-- Tables and markings, entry by entry; markings compared; one type raised.
use Rattle.std.specs.Prelude.{◌≡◌, refl, ℕ, zero, suc, ◌-◌, ◌≤◌, ◌<◌, List, [], ◌∷◌, length, get_or, set, replicate}
use Rattle.std.proofs.Common.{ap, not-suc-le-zero, le_refl, le_trans, arith}
use Rattle.rules.specs.Graph.{byte_of}

-- Entry i of a table; 0 past its end.
abbrev pub at : List ℕ → ℕ → ℕ
at l i = get_or l i 0

pub zeros : (n x : ℕ) → at (replicate n 0) x ≡ 0
zeros zero x = refl
zeros (suc n) zero = refl
zeros (suc n) (suc x) = zeros n x

-- ---- an entry that was set

pub data AtSet (l : List ℕ) (i k j : ℕ) : Type 0 where
  here : j ≡ i → i < length l → at (set l i k) j ≡ k → AtSet l i k j
  other : at (set l i k) j ≡ at l j → AtSet l i k j

pub at_set : (l : List ℕ) (i k j : ℕ) → AtSet l i k j
at_set [] i k j = other refl
at_set (x ∷ l) zero k zero = here refl (omega arith) refl
at_set (x ∷ l) zero k (suc j) = other refl
at_set (x ∷ l) (suc i) k zero = other refl
at_set (x ∷ l) (suc i) k (suc j) = go (at_set l i k j)
  where
    go : AtSet l i k j → AtSet (x ∷ l) (suc i) k (suc j)
    go (here e h q) = here (ap suc e) (omega arith) q
    go (other q) = other q

-- ---- markings compared

-- Every byte of m is at or below that of w.
pub record Below (m w : List ℕ) : Type 0 where
  pub each : (i : ℕ) → at m i ≤ at w i

pub below_same : {m : List ℕ} → Below m m
below_same = record { each = λ i. le_refl _ }

pub below_trans : {m n w : List ℕ} → Below m n → Below n w → Below m w
below_trans h i = record { each = λ j. le_trans (h.each j) (i.each j) }

-- What is k at least stays so in a marking above.
pub kept : {m w : List ℕ} {k : ℕ} → Below m w → (t : ℕ) → k ≤ byte_of m t → k ≤ byte_of w t
kept h zero l = l
kept h (suc t) l = le_trans l (h.each t)

pub set_below : {m w : List ℕ} (i k : ℕ) → Below m w → k ≤ at w i → Below (set m i k) w
set_below {m} {w} i k h l = record { each = λ j. go j (at_set m i k j) }
  where
    go : (j : ℕ) → AtSet m i k j → at (set m i k) j ≤ at w j
    go j (here e b q) = rw (q, e) l
    go j (other q) = rw q (h.each j)

pub below_set : {m : List ℕ} (i k : ℕ) → at m i ≤ k → Below m (set m i k)
below_set {m} i k l = record { each = λ j. go j (at_set m i k j) }
  where
    go : (j : ℕ) → AtSet m i k j → at m j ≤ at (set m i k) j
    go j (here e b q) = rw (q, e) l
    go j (other q) = rw q (le_refl _)

-- ---- one type raised

-- The byte of a reference stands one before its number.
pub byte_at : (m : List ℕ) (t : ℕ) → 1 ≤ t → byte_of m t ≡ at m (t - 1)
byte_at m zero h = absurd (not-suc-le-zero h)
byte_at m (suc t) h = let e : t ≡ suc t - 1 = omega arith in ap (λ i. at m i) e

-- Type t is k at least, and nothing rose that did not have to.
pub record Raised (m m' : List ℕ) (t k : ℕ) : Type 0 where
  pub size : length m' ≡ length m
  pub grows : Below m m'
  pub gets : k ≤ byte_of m' t
  pub below : (w : List ℕ) → Below m w → k ≤ byte_of w t → Below m' w
