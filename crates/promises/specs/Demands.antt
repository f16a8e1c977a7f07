-- The demands of a conversion are met exactly where it converts: a pair's demands say level by level what equality of types says.
use Rattle.std.specs.Prelude.{◌≡◌, false, List, [], ◌∷◌, ◌++◌}
use Rattle.std.proofs.Math.Path.{refl}
use Rattle.std.proofs.Common.{sym, ◌∙◌, not-suc-le-zero, arith, eqb-true}
use Rattle.std.proofs.Math.Bool.{true}
use Prim.Native.Nat.{ℕ, zero, suc, ◌≤◌, ◌<◌}
use Rattle.std.proofs.Math.Decide.{dec_lt}
use Rattle.std.proofs.Math.ListN.{get_or}
use Rattle.rules.specs.Table.{Routine}
use Rattle.rules.specs.declared.Kind.{Kind}
use Rattle.rules.specs.declared.Kind.TheVariants.{int, SAFE, SEQ, DYNAMIC}
use Rattle.rules.specs.Kinds.{kind_of, same_kind, deep, same_below, same, converts}
use Rattle.rules.specs.Tests.{false_true, parts_true, both_true, by_test}
use Rattle.laws.specs.Same.{same_kind_refl, same_kind_eq}
use Rattle.laws.specs.Values.{Falls}
use Rattle.laws.specs.Formed.{ref_kind}
use Rattle.laws.specs.Convert.{conv_of, of_conv, any_to_int, from_int, int_from, Spread, kinds_equal}
use Rattle.rules.specs.Graph.{Demand, Meets, Each, ends, pairs, conversion}

pub each_split : (P : Demand → Type 0) (xs ys : List Demand) → Each P (xs ++ ys) → Each P xs × Each P ys
each_split P [] ys h = (tt, h)
each_split P (x ∷ xs) ys h = let (a, b) = each_split P xs ys h.1 in ((h.0, a), b)

pub each_join : (P : Demand → Type 0) (xs ys : List Demand) → Each P xs → Each P ys → Each P (xs ++ ys)
each_join P [] ys a b = b
each_join P (x ∷ xs) ys a b = (a.0, each_join P xs ys a.1 b)

-- ---- bytes and kinds

-- Both int or both references.
abbrev Alike : ℕ → ℕ → Type 0
Alike zero zero = Unit {0}
Alike zero (suc b) = ⊥
Alike (suc a) zero = ⊥
Alike (suc a) (suc b) = Unit {0}

-- A number for each kind.
level : Kind → ℕ
level int = 0
level SAFE = 0
level SEQ = 1
level DYNAMIC = 2

level_of : (k i : ℕ) → i ≤ 2 → i ≤ k → i ≤ level (kind_of k)
unfolding level
level_of zero i a b = b
level_of (suc zero) i a b = b
level_of (suc (suc k)) i a b = a

of_level : (k i : ℕ) → i ≤ level (kind_of k) → i ≤ k
unfolding level
of_level zero i b = b
of_level (suc zero) i b = b
of_level (suc (suc k)) i b = omega arith

passes_on : (k l i : ℕ) → i ≤ 2 → kind_of k ≡ kind_of l → i ≤ k → i ≤ l
passes_on k l i a e h = of_level l i (rw e at (level_of k i a h))

two_shallow : (k : ℕ) → 2 ≤ k → deep (kind_of k) ≡ false
two_shallow zero h = absurd (omega arith)
two_shallow (suc zero) h = absurd (omega arith)
two_shallow (suc (suc k)) h = refl

deep_less : (k : ℕ) → k < 2 → deep (kind_of k) ≡ true
deep_less zero h = refl
deep_less (suc zero) h = refl
deep_less (suc (suc k)) h = absurd (omega arith)

module _ (r : Routine) (m : List ℕ) (p : ℕ) where
  -- ---- from demands to equality

  ends_alike : (a b t u : ℕ) → Each (Meets m) (ends p a b (suc t) u) → deep (kind_of (get_or m t 0)) ≡ true → Alike a b
  ends_alike zero zero t u h d = tt
  ends_alike zero (suc b) t u h d = false_true (sym (two_shallow _ h.0) ∙ d)
  ends_alike (suc a) zero t u h d = false_true (sym (two_shallow _ h.0) ∙ d)
  ends_alike (suc a) (suc b) t u h d = tt

  meets_same : Falls r → (d t u : ℕ) → t ≤ r.types → t < d → Alike t u → Each (Meets m) (pairs r p d t u) → same_below r m d t u ≡ true
  meets_same falls zero t u l k y h = absurd (not-suc-le-zero k)
  meets_same falls (suc d) zero zero l k y h = refl
  meets_same falls (suc d) zero (suc u) l k y h = absurd y
  meets_same falls (suc d) (suc t) zero l k y h = absurd y
  meets_same falls (suc d) (suc t) (suc u) l k y h =
      let (q, z) = each_split (Meets m) (ends p (r.target (suc t)) (r.target (suc u)) (suc t) (suc u)) _ h.1.1.1.1 in
      let e : kind_of (get_or m t 0) ≡ kind_of (get_or m u 0) = kinds_equal (get_or m t 0) (get_or m u 0) h.0 h.1.0 h.1.1.0 h.1.1.1.0 in
      let s : same_kind (kind_of (get_or m t 0)) (kind_of (get_or m u 0)) ≡ true = rw e (same_kind_refl (kind_of (get_or m u 0))) in
      let f : r.target (suc t) ≤ t = falls.by t l in
      both_true s
      (by_test (λ z. z ≡ true) (deep (kind_of (get_or m t 0))) _ _
      (λ i. meets_same falls d (r.target (suc t)) (r.target (suc u)) (omega arith) (omega arith) (ends_alike (r.target (suc t)) (r.target (suc u)) t (suc u) q i) z)
      (λ i. refl))

  -- ---- and back, where DYNAMIC goes down to the target

  Wild : ℕ → Type 0
  Wild t = (i : ℕ) → t ≡ suc i → 2 ≤ get_or m i 0

  wild_ends : (a b t u : ℕ) → 2 ≤ get_or m t 0 → 2 ≤ get_or m u 0 → Each (Meets m) (ends p a b (suc t) (suc u))
  wild_ends zero zero t u h i = tt
  wild_ends zero (suc b) t u h i = (h, (i, tt))
  wild_ends (suc a) zero t u h i = (h, (i, tt))
  wild_ends (suc a) (suc b) t u h i = tt

  alike_ends : (d a b t u : ℕ) → same_below r m d a b ≡ true → Each (Meets m) (ends p a b (suc t) (suc u))
  alike_ends d zero zero t u h = tt
  alike_ends zero zero (suc b) t u h = absurd (omega (arith, eqb-true 0 (suc b) h))
  alike_ends (suc d) zero (suc b) t u h = absurd (ref_kind m (suc b) (omega arith) (sym (same_kind_eq int _ (parts_true _ _ h).0)))
  alike_ends zero (suc a) zero t u h = absurd (omega (arith, eqb-true (suc a) 0 h))
  alike_ends (suc d) (suc a) zero t u h = absurd (ref_kind m (suc a) (omega arith) (same_kind_eq _ int (parts_true _ _ h).0))
  alike_ends d (suc a) (suc b) t u h = tt

  module _ (spread : Spread r m) where
    abbrev Under : ℕ → ℕ → ℕ → Type 0
    Under d t u = Each (Meets m) (ends p (r.target (suc t)) (r.target (suc u)) (suc t) (suc u) ++ pairs r p d (r.target (suc t)) (r.target (suc u)))

    under : (d t u : ℕ) → Each (Meets m) (ends p (r.target (suc t)) (r.target (suc u)) (suc t) (suc u))
        → Each (Meets m) (pairs r p d (r.target (suc t)) (r.target (suc u))) → Under d t u
    under d t u a b = each_join (Meets m) (ends p (r.target (suc t)) (r.target (suc u)) (suc t) (suc u)) _ a b

    wild_under : (d t u : ℕ) → 2 ≤ get_or m t 0 → 2 ≤ get_or m u 0
        → (Wild (r.target (suc t)) → Wild (r.target (suc u)) → Each (Meets m) (pairs r p d (r.target (suc t)) (r.target (suc u)))) → Under d t u
    unfolding Wild
    wild_under d t u a b rec = under d t u (wild_ends (r.target (suc t)) (r.target (suc u)) t u a b) (rec (λ j e. spread t a j e) (λ j e. spread u b j e))

    wild_pairs : (d t u : ℕ) → Wild t → Wild u → Each (Meets m) (pairs r p d t u)
    unfolding Wild
    wild_pairs zero t u h i = tt
    wild_pairs (suc d) zero u h i = tt
    wild_pairs (suc d) (suc t) zero h i = tt
    wild_pairs (suc d) (suc t) (suc u) h i =
        let a : 2 ≤ get_or m t 0 = h t refl in
        let b : 2 ≤ get_or m u 0 = i u refl in
        ((λ _. omega arith), ((λ _. omega arith), ((λ _. b), ((λ _. a), wild_under d t u a b (λ v w. wild_pairs d (r.target (suc t)) (r.target (suc u)) v w)))))

    -- The demands below a pair: DYNAMIC types ask nothing of their targets but DYNAMIC, others that they are equal.
    below : (d t u : ℕ) → (2 ≤ get_or m t 0 → 2 ≤ get_or m u 0) → (get_or m t 0 < 2 → same_below r m d (r.target (suc t)) (r.target (suc u)) ≡ true)
        → (same_below r m d (r.target (suc t)) (r.target (suc u)) ≡ true → Each (Meets m) (pairs r p d (r.target (suc t)) (r.target (suc u)))) → Under d t u
    below d t u forth same rec = go (dec_lt (get_or m t 0) 2)
      where
        go : Dec (get_or m t 0 < 2) → Under d t u
        go (yes l) = under d t u (alike_ends d (r.target (suc t)) (r.target (suc u)) t u (same l)) (rec (same l))
        go (no n) =
            let i : 2 ≤ get_or m t 0 = omega arith in
            wild_under d t u i (forth i) (λ v w. wild_pairs d (r.target (suc t)) (r.target (suc u)) v w)

    same_meets : (d t u : ℕ) → same_below r m d t u ≡ true → Each (Meets m) (pairs r p d t u)
    same_meets zero t u h = tt
    same_meets (suc d) zero u h = tt
    same_meets (suc d) (suc t) zero h = tt
    same_meets (suc d) (suc t) (suc u) h =
        let (s, c) = parts_true (same_kind (kind_of (get_or m t 0)) (kind_of (get_or m u 0))) _ h in
        let e : kind_of (get_or m t 0) ≡ kind_of (get_or m u 0) = same_kind_eq (kind_of (get_or m t 0)) (kind_of (get_or m u 0)) s in
        let k = get_or m t 0 in
        let l = get_or m u 0 in
        let on = passes_on k l 2 (omega arith) e in (
          passes_on k l 1 (omega arith) e,
          (
            passes_on l k 1 (omega arith) (sym e),
            (
              on,
              (
                passes_on l k 2 (omega arith) (sym e),
                below d t u on (λ i. rw (deep_less k i) at c) (λ q. same_meets d (r.target (suc t)) (r.target (suc u)) q),
              ),
            ),
          ),
        )

    pub conversion_met : (s t : ℕ) → converts r m s t ≡ true → Each (Meets m) (conversion r p s t)
    unfolding same converts
    conversion_met s zero h = tt
    conversion_met zero (suc t) h = (from_int (get_or m t 0) true h, tt)
    conversion_met (suc s) (suc t) h =
        let f = conv_of r m s t h in (
          f.back_one,
          (
            f.forth_two,
            (
              f.back_two,
              below (suc r.types) s t f.forth_two f.targets (λ q. same_meets (suc r.types) (r.target (suc s)) (r.target (suc t)) q),
            ),
          ),
        )

  pub met_converts : Falls r → (s t : ℕ) → s ≤ r.types → Each (Meets m) (conversion r p s t) → converts r m s t ≡ true
  unfolding same converts
  met_converts falls zero zero l h = refl
  met_converts falls (suc s) zero l h = any_to_int (get_or m s 0) _
  met_converts falls zero (suc t) l h = int_from (get_or m t 0) true h.0
  met_converts falls (suc s) (suc t) l h =
      let a = r.target (suc s) in
      let b = r.target (suc t) in
      let (q, z) = each_split (Meets m) (ends p a b (suc s) (suc t)) _ h.1.1.1 in
      let f : r.target (suc s) ≤ s = falls.by s l in
      of_conv r m s t
      (record {
        back_one = h.0;
        back_two = h.1.1.0;
        forth_two = h.1.0;
        targets = λ k. meets_same falls (suc r.types) a b (omega arith) (omega arith) (ends_alike a b s (suc t) q (deep_less (get_or m s 0) k)) z;
      })
