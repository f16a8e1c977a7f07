-- Equality of types is an equivalence, and does not depend on its bound.
use Rattle.std.proofs.Math.Bool.{true, false}
use Rattle.std.specs.Prelude.{◌&&◌, ◌≡◌, refl, List}
use Rattle.rules.specs.Basic.{choose}
use Rattle.rules.specs.Table.{Routine}
use Rattle.rules.specs.declared.Kind.{Kind}
use Rattle.rules.specs.declared.Kind.TheVariants.{int, SAFE, SEQ, DYNAMIC}
use Rattle.rules.specs.Kinds.{kind, same_kind, deep, same_below, same}
use Rattle.std.proofs.Common.{sym, ap, ◌∙◌, not-suc-le-zero, arith, eq-eqb, eqb-true}
use Prim.Native.Nat.{ℕ, zero, suc, ◌≤◌, ◌<◌}
use Rattle.rules.specs.Tests.{parts_true, both_true, by_test}

pub same_kind_refl : (s : Kind) → same_kind s s ≡ true
same_kind_refl int = refl
same_kind_refl SAFE = refl
same_kind_refl SEQ = refl
same_kind_refl DYNAMIC = refl

pub same_kind_eq : (s t : Kind) → same_kind s t ≡ true → s ≡ t
same_kind_eq int int h = refl
same_kind_eq int SAFE h = cc
same_kind_eq int SEQ h = cc
same_kind_eq int DYNAMIC h = cc
same_kind_eq SAFE int h = cc
same_kind_eq SAFE SAFE h = refl
same_kind_eq SAFE SEQ h = cc
same_kind_eq SAFE DYNAMIC h = cc
same_kind_eq SEQ int h = cc
same_kind_eq SEQ SAFE h = cc
same_kind_eq SEQ SEQ h = refl
same_kind_eq SEQ DYNAMIC h = cc
same_kind_eq DYNAMIC int h = cc
same_kind_eq DYNAMIC SAFE h = cc
same_kind_eq DYNAMIC SEQ h = cc
same_kind_eq DYNAMIC DYNAMIC h = refl

module _ (r : Routine) (m : List ℕ) where
  pub same_refl : (d t : ℕ) → same_below r m d t t ≡ true
  same_refl zero t = eq-eqb t t refl
  same_refl (suc d) t =
      both_true (same_kind_refl (kind m t))
      (by_test (λ z. z ≡ true) (deep (kind m t)) _ _ (λ h. same_refl d (r.target t)) (λ h. refl))

  pub same_sym : (d t u : ℕ) → same_below r m d t u ≡ true → same_below r m d u t ≡ true
  same_sym zero t u h = eq-eqb u t (sym (eqb-true t u h))
  same_sym (suc d) t u h =
      let (k, b) = parts_true _ _ h in
      let e : kind m t ≡ kind m u = same_kind_eq _ _ k in
      let k' : same_kind (kind m u) (kind m t) ≡ true = rw e (same_kind_refl (kind m u)) in
      both_true k'
      (by_test (λ z. z ≡ true) (deep (kind m u)) _ _ (λ i. same_sym d _ _ (rw i at (rw e at b))) (λ i. refl))

  pub same_trans : (d t u v : ℕ) → same_below r m d t u ≡ true → same_below r m d u v ≡ true → same_below r m d t v ≡ true
  same_trans zero t u v h i = eq-eqb t v (eqb-true t u h ∙ eqb-true u v i)
  same_trans (suc d) t u v h i =
      let (k, b) = parts_true _ _ h in
      let (l, c) = parts_true _ _ i in
      let e : kind m t ≡ kind m u = same_kind_eq _ _ k in
      let k' : same_kind (kind m t) (kind m v) ≡ true = rw e l in
      both_true k'
      (by_test (λ z. z ≡ true) (deep (kind m t)) _ _ (λ j. same_trans d _ _ _ (rw j at b) (rw (rw e at j) at c)) (λ j. refl))

  pub trans : (t u v : ℕ) → same r m t u ≡ true → same r m u v ≡ true → same r m t v ≡ true
  unfolding same
  trans t u v h i = same_trans (suc r.types) t u v h i

  pub symmetric : (t u : ℕ) → same r m t u ≡ true → same r m u t ≡ true
  unfolding same
  symmetric t u h = same_sym (suc r.types) t u h

  pub reflexive : (t : ℕ) → same r m t t ≡ true
  unfolding same
  reflexive t = same_refl (suc r.types) t

  pub same_kind_lem : (t u : ℕ) → same r m t u ≡ true → kind m t ≡ kind m u
  unfolding same
  same_kind_lem t u h = same_kind_eq (kind m t) (kind m u) (parts_true _ _ h).0

  module _ (falls : (t : ℕ) → t < r.types → r.target (suc t) ≤ t) where
    pub same_depth : (d d' t u : ℕ) → t ≤ r.types → t < d → t < d' → same_below r m d t u ≡ same_below r m d' t u
    same_depth zero d' t u l h h' = absurd (not-suc-le-zero h)
    same_depth (suc d) zero t u l h h' = absurd (not-suc-le-zero h')
    same_depth (suc d) (suc d') zero u l h h' = refl
    same_depth (suc d) (suc d') (suc t) u l h h' =
        let k : r.target (suc t) ≤ t = falls t l in
        ap (λ x. same_kind (kind m (suc t)) (kind m u) && choose (deep (kind m (suc t))) (λ _. x) (λ _. true))
        (same_depth d d' (r.target (suc t)) (r.target u) (omega arith) (omega arith) (omega arith))

    pub same_bound : (d t u : ℕ) → t ≤ r.types → t < d → same_below r m d t u ≡ same r m t u
    unfolding same
    same_bound d t u l h = same_depth d (suc r.types) t u l h (omega arith)

    -- Below types that are equal and neither int nor DYNAMIC, the targets are equal.
    pub same_targets : (t u : ℕ) → t ≤ r.types → deep (kind m t) ≡ true → same r m t u ≡ true → same r m (r.target t) (r.target u) ≡ true
    unfolding same
    same_targets zero u l d h = let z : false ≡ true = d in cc
    same_targets (suc t) u l d h =
        let b : choose (deep (kind m (suc t))) (λ _. same_below r m r.types (r.target (suc t)) (r.target u)) (λ _. true) ≡ true
        = (parts_true (same_kind (kind m (suc t)) (kind m u)) _ h).1 in
        let k : r.target (suc t) ≤ t = falls t l in
        same_depth (suc r.types) r.types (r.target (suc t)) (r.target u) (omega arith) (omega arith) (omega arith)
        ∙ (rw d at b)
