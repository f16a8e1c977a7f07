-- Tests that hold, and tests that branch.
use Rattle.std.specs.Prelude.{Bool, true, false, ◌&&◌, ◌≡◌, refl, ℕ, ◌≤◌, ◌<◌, leb, ltb}
use Rattle.rules.specs.Basic.{choose, in_range, Verdict, fine}
use Rattle.std.proofs.Common.{arith, leb-true, ltb-true}

pub false_true : {X : Type 0} → false ≡ true → X
false_true h = let z : ◌≡◌ {A = ℕ} 0 1 = cc in absurd (omega arith)

pub parts_true : (a b : Bool) → (a && b) ≡ true → (a ≡ true) × (b ≡ true)
parts_true true b h = (refl, h)
parts_true false b h = false_true h

pub both_true : {a b : Bool} → a ≡ true → b ≡ true → (a && b) ≡ true
both_true p q = rw (p, q)

pub by_test {ℓ κ} : {X : Type ℓ} (P : X → Type κ) (b : Bool) (x y : Unit {0} → X) → (b ≡ true → P (x tt)) → (b ≡ false → P (y tt)) → P (choose b x y)
by_test P true x y f g = f refl
by_test P false x y f g = g refl

pub in_range_lem : (lo n hi : ℕ) → in_range lo n hi ≡ true → (lo ≤ n) × (n ≤ hi)
in_range_lem lo n hi h = let (a, b) = parts_true (leb lo n) (leb n hi) h in (leb-true lo n a, leb-true n hi b)

pub both_less : (a b i j : ℕ) → (ltb a i && ltb b j) ≡ true → (a < i) × (b < j)
both_less a b i j h = let (p, q) = parts_true (ltb a i) (ltb b j) h in (ltb-true a i p, ltb-true b j q)

pub fine_same : {X : Type 0} {x y : X} → ◌≡◌ {A = Verdict X} (fine x) (fine y) → x ≡ y
fine_same h = cc
