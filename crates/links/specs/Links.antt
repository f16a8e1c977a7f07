-- What linking promises. Type x is linked to the lower type p[x], or to none (0).
-- "Linked" is said by every equivalence at once: one that holds along all links holds of the pair.
use Rattle.std.specs.Prelude.{◌≡◌, ◌⊎◌, Bool, true, ℕ, ◌≤◌, ◌<◌, List, length}
use Rattle.std.specs.List.{All}
use Rattle.rules.specs.Kinds.{same}
use Rattle.rules.specs.Graph.{byte_of}
use Rattle.laws.specs.Convert.{Spread}
use Rattle.raise.specs.declared.Conversion.{Conversion}
use Rattle.raise.specs.Marks.{at, Below}
use Rattle.raise.specs.Demands.{Falls, Ref}
use Rattle.links.specs.Plain.{plain, Equal, Lower}

-- Only types 1 to n are linked.
pub record Within (n : ℕ) (p : List ℕ) : Type 0 where
  pub each : (x : ℕ) → 1 ≤ at p x → Ref n x

-- The equivalence e holds along every link.
pub record Along (e : ℕ → ℕ → Bool) (p : List ℕ) : Type 0 where
  pub each : (x : ℕ) → 1 ≤ at p x → e x (at p x) ≡ true

-- Two types are DYNAMIC.
pub record BothDynamic (m : List ℕ) (s t : ℕ) : Type 0 where
  pub one : 2 ≤ byte_of m s
  pub other : 2 ≤ byte_of m t

-- The targets of s and t are linked once a and b are; where only one is int, s and t are DYNAMIC.
pub record Down (T p m : List ℕ) (a b s t : ℕ) : Type 0 where
  pub joined : (e : ℕ → ℕ → Bool) → Equal e → Along e p → e a b ≡ true → 1 ≤ at T s → 1 ≤ at T t → e (at T s) (at T t) ≡ true
  pub left : at T s ≡ 0 → 1 ≤ at T t → BothDynamic m s t
  pub right : 1 ≤ at T s → at T t ≡ 0 → BothDynamic m s t

-- w is a marking above m in which what is linked, and a and b, are equal types.
pub record Good (n : ℕ) (T p m w : List ℕ) (a b : ℕ) : Type 0 where
  pub below : Below m w
  pub along : Along (same (plain n T) w) p
  pub pair : same (plain n T) w a b ≡ true

-- What is to be linked next: two references, or one type twice.
abbrev pub Next : ℕ → ℕ → Type 0
Next a b = (1 ≤ a × 1 ≤ b) ⊎ (a ≡ b)

-- The targets of s and t, as the next pair (a, b) to link.
pub record Stepped (n : ℕ) (T m : List ℕ) (s t : ℕ) (m' : List ℕ) (a b : ℕ) : Type 0 where
  pub size : length m' ≡ length m
  pub grows : Below m m'
  pub fresh : (p : List ℕ) → Down T p m' a b s t
  pub sound : (w : List ℕ) → Spread (plain n T) w → Below m w → Lower n T w s t → Below m' w × (same (plain n T) w a b ≡ true)
  pub small_a : a < s
  pub small_b : b < t
  pub next : Next a b

-- Links p with (a, b) still to link have become links p' with (a', b').
pub record Linked (n : ℕ) (T p m : List ℕ) (a b : ℕ) (p' m' : List ℕ) (a' b' : ℕ) : Type 0 where
  pub links : length p' ≡ length p
  pub size : length m' ≡ length m
  pub falls : Falls p → Falls p'
  pub within : Within n p → Within n p'
  pub grows : Below m m'
  pub keeps : (e : ℕ → ℕ → Bool) → Equal e → Along e p' → e a' b' ≡ true → Along e p × (e a b ≡ true)
  pub closed : (x : ℕ) → 1 ≤ at p' x → (at p' x ≡ at p x) ⊎ Down T p' m' a' b' x (at p' x)
  pub sound : (w : List ℕ) → Spread (plain n T) w → Good n T p m w a b → Good n T p' m' w a' b'

-- One turn goes on with lower types.
pub record Turned (n : ℕ) (T p m : List ℕ) (a b : ℕ) (p' m' : List ℕ) (a' b' : ℕ) : Type 0 where
  pub linked : Linked n T p m a b p' m' a' b'
  pub small_a : a' < a
  pub small_b : b' < a
  pub next : Next a' b'

-- The conversions are linked.
pub record Joined (T : List ℕ) (C : List Conversion) (m₀ p m : List ℕ) : Type 0 where
  pub size : length m ≡ length m₀
  pub falls : Falls p
  pub within : Within (length m₀) p
  pub grows : Below m₀ m
  pub done : All (λ c. Down T p m 0 0 c.from c.to) C
  pub closed : (x : ℕ) → 1 ≤ at p x → Down T p m 0 0 x (at p x)
  pub sound : (w : List ℕ) → Spread (plain (length m₀) T) w → Below m₀ w → All (λ c. Lower (length m₀) T w c.from c.to) C
      → Good (length m₀) T p m w 0 0
