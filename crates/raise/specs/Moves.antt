-- Kinds raised step by step: what a step, a sequence of steps and a pass promise, and the passes until nothing moves.
use Rattle.std.specs.Prelude.{◌≡◌, ◌⊎◌, Bool, true, false, ℕ, zero, suc, ◌+◌, ◌-◌, ◌≤◌, ◌<◌, List, [], ◌∷◌, length, set, get_or, take}
use Rattle.std.proofs.Common.{sym, inr, not-suc-le-zero, arith, length-set}
use Rattle.std.proofs.Math.Decide.{ℕ_discrete}
use Rattle.std.proofs.lemmas.List.Elements.{All-more}
use Rattle.rules.specs.Tests.{false_true}
use Rattle.raise.specs.Marks.{at, Below, kept, below_set, set_below, byte_at}
use Rattle.raise.specs.declared.Conversion.{Conversion}
use Rattle.raise.specs.Demands.{Ref, Edge, Row, Outer, Outers, Whole}

-- How far the kinds can still rise.
unfoldable pub room : List ℕ → ℕ
room [] = 0
room (x ∷ xs) = (2 - x) + room xs

room_set : (m : List ℕ) (i k : ℕ) → i < length m → at m i < k → k ≤ 2 → room (set m i k) < room m
unfolding room
room_set [] i k h l q = absurd (not-suc-le-zero h)
room_set (x ∷ m) zero k h l q = omega arith
room_set (x ∷ m) (suc i) k h l q = omega (arith, room_set m i k (omega arith) l q)

-- m became m' by raises that every marking with S follows. `was` and `is` tell whether anything moved, before and by now; where nothing did, P holds.
pub record Moves (S P : List ℕ → Type 0) (m m' : List ℕ) (was is : Bool) : Type 0 where
  pub size : length m' ≡ length m
  pub grows : Below m m'
  pub below : (w : List ℕ) → S w → Below m w → Below m' w
  pub still : is ≡ false → (was ≡ false) × (m' ≡ m) × P m
  pub rest : room m' ≤ room m
  pub moved : is ≡ true → (was ≡ true) ⊎ (room m' < room m)

-- A step that sees to one demand: what it follows is what it brings about.
abbrev pub Meets : (List ℕ → Type 0) → List ℕ → List ℕ → Bool → Bool → Type 0
Meets P m m' was is = Moves P P m m' was is

-- t is set to k, as every marking above with the edge has it.
module _ {m : List ℕ} {s t k : ℕ} where
  pub edge_set : {was : Bool} {i j : ℕ} → i ≡ s → j ≡ t → Ref (length m) s → Ref (length m) t → k ≤ 2 → k ≤ at m (i - 1) → at m (j - 1) < k
      → Meets (λ w. Edge w s t k) m (set m (j - 1) k) was true
  edge_set {was} {i} {j} e f a c q h l =
      let falls : room (set m (j - 1) k) < room m = room_set m (j - 1) k (omega (arith, c.low, c.high)) l q in
      record {
        size = length-set m (j - 1) k;
        grows = below_set (j - 1) k (omega arith);
        below = λ w g x. set_below (j - 1) k x (rw f (rw (byte_at w t c.low) at (g.goes c.low (kept x s (rw (byte_at m s a.low, ← e) h)))));
        still = λ x. false_true (sym x);
        rest = omega arith;
        moved = λ x. inr falls;
      }

-- The rows of the i types from the top have passed.
pub record Above (n : ℕ) (T p : List ℕ) (i : ℕ) (w : List ℕ) : Type 0 where
  pub each : (y : ℕ) → n < y + i → y ≤ n → Row T p w y

-- One row more.
pub rows_more : (n : ℕ) (T p : List ℕ) {w : List ℕ} (i : ℕ) → i < n → Above n T p i w → Row T p w (n - i) → Above n T p (i + 1) w
rows_more n T p {w} i l a r = record { each = λ y h k. go y h k (ℕ_discrete y (n - i)) }
  where
    go : (y : ℕ) → n < y + (i + 1) → y ≤ n → Dec (y ≡ n - i) → Row T p w y
    go y h k (yes e) = rw e r
    go y h k (no d) = a.each y (omega arith) k

-- ---- one conversion more

pub outer_at : {C : List Conversion} {w : List ℕ} (i : ℕ) (c : Conversion) → i < length C → Outers C w → Outer w (get_or C i c)
outer_at i c l o = o.each i c l

pub outers_more : (C : List Conversion) {w : List ℕ} (i : ℕ) (c : Conversion) → i < length C → Outers (take i C) w → Outer w (get_or C i c) → Outers (take (i + 1) C) w
outers_more C {w} i c l o h = record { each = All-more (Outer w) C i c l o.each h }

-- ---- passes until nothing moves

-- Kinds raised from m to m', which every marking that meets all demands follows.
pub record Raises (n : ℕ) (T p : List ℕ) (C : List Conversion) (m m' : List ℕ) : Type 0 where
  pub size : length m' ≡ length m
  pub grows : Below m m'
  pub below : (w : List ℕ) → Whole n T p C w → Below m w → Below m' w

-- And they rest.
pub record Rests (n : ℕ) (T p : List ℕ) (C : List Conversion) (m m' : List ℕ) : Type 0 where
  pub raises : Raises n T p C m m'
  pub whole : Whole n T p C m'
