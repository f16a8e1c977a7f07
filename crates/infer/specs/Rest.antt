-- A marking that is linked and at rest suits the tables, and no suitable marking is lower.
-- Equality of types down to depth d only is an equivalence for each d, so that it holds along the links by induction on d; targets fall, so that
-- as many levels as there are types are all of it.
use Rattle.std.specs.Prelude.{◌≡◌, Bool, ◌&&◌, List, get_or}
use Rattle.std.specs.List.{All}
use Rattle.std.proofs.Math.Path.{refl}
use Rattle.std.proofs.Common.{◌∙◌, not-suc-le-zero, arith}
use Rattle.std.proofs.Math.Bool.{true}
use Prim.Native.Nat.{ℕ, zero, suc, ◌≤◌, ◌<◌}
use Rattle.std.proofs.Math.Decide.{dec_lt}
use Rattle.std.proofs.Math.ListN.{length}
use Rattle.rules.specs.Basic.{choose}
use Rattle.rules.specs.Kinds.{kind_of, kind, same_kind, deep, same, same_below}
use Rattle.rules.specs.Tests.{false_true, parts_true, both_true, by_test}
use Rattle.laws.specs.Convert.{kinds_equal, Conv, Spread}
use Rattle.rules.specs.Graph.{byte_of}
use Rattle.laws.specs.Same.{same_kind_refl, same_kind_eq}
use Rattle.raise.specs.Marks.{at, Below, below_trans}
use Rattle.raise.specs.declared.Conversion.{Conversion}
use Rattle.raise.specs.Demands.{Falls, Between, Edge, Level, Outers, Whole}
use Rattle.raise.specs.Moves.{Rests}
use Rattle.links.specs.Plain.{plain, Equal, same_level, conv_lower}
use Rattle.links.specs.Links.{Along, Down, Good, Joined}
use Rattle.links.specs.Linking.{dynamic_kept}
use Rattle.infer.specs.Tables.{Suits, LeastAbove, past}

-- ---- equality down to a depth

unfoldable alike : List ℕ → List ℕ → ℕ → ℕ → ℕ → Bool
alike T m zero t u = true
alike T m (suc d) t u =
    same_kind (kind m t) (kind m u) && choose (deep (kind m t)) (λ _. alike T m d (at T t) (at T u)) (λ _. true)

deep_low : (k : ℕ) → deep (kind_of k) ≡ true → k < 2
deep_low zero h = omega arith
deep_low (suc zero) h = omega arith
deep_low (suc (suc k)) h = false_true h

deep_byte : (m : List ℕ) (t : ℕ) → deep (kind m t) ≡ true → byte_of m t < 2
deep_byte m zero h = omega arith
deep_byte m (suc t) h = deep_low (get_or m t 0) h

level_kind : {m : List ℕ} (s t : ℕ) → 1 ≤ s → 1 ≤ t → Level m s t → kind m s ≡ kind m t
level_kind zero t a b l = absurd (not-suc-le-zero a)
level_kind (suc s) zero a b l = absurd (not-suc-le-zero b)
level_kind {m} (suc s) (suc t) a b l =
    kinds_equal (get_or m s 0) (get_or m t 0) (l.up.one.goes b) (l.back.one.goes a) (l.up.two.goes b) (l.back.two.goes a)

module _ (T m : List ℕ) where
  alike_refl : (d t : ℕ) → alike T m d t t ≡ true
  unfolding alike
  alike_refl zero t = refl
  alike_refl (suc d) t =
      both_true (same_kind_refl (kind m t)) (by_test (λ z. z ≡ true) (deep (kind m t)) _ _ (λ h. alike_refl d (at T t)) (λ h. refl))

  alike_sym : (d t u : ℕ) → alike T m d t u ≡ true → alike T m d u t ≡ true
  unfolding alike
  alike_sym zero t u h = refl
  alike_sym (suc d) t u h =
      let (k, b) = parts_true _ _ h in
      let e : kind m t ≡ kind m u = same_kind_eq _ _ k in
      let k' : same_kind (kind m u) (kind m t) ≡ true = rw e (same_kind_refl (kind m u)) in
      both_true k' (by_test (λ z. z ≡ true) (deep (kind m u)) _ _ (λ i. alike_sym d _ _ (rw i at (rw e at b))) (λ i. refl))

  alike_trans : (d t u v : ℕ) → alike T m d t u ≡ true → alike T m d u v ≡ true → alike T m d t v ≡ true
  unfolding alike
  alike_trans zero t u v h i = refl
  alike_trans (suc d) t u v h i =
      let (k, b) = parts_true _ _ h in
      let (l, c) = parts_true _ _ i in
      let e : kind m t ≡ kind m u = same_kind_eq _ _ k in
      let k' : same_kind (kind m t) (kind m v) ≡ true = rw e l in
      both_true k' (by_test (λ z. z ≡ true) (deep (kind m t)) _ _ (λ j. alike_trans d _ _ _ (rw j at b) (rw (rw e at j) at c)) (λ j. refl))

  alike_equal : (d : ℕ) → Equal (alike T m d)
  alike_equal d = record { itself = alike_refl d; turned = alike_sym d; chained = alike_trans d }

  -- The targets of a pair that is not DYNAMIC, once e holds along the links.
  down_equal : {p : List ℕ} {s t : ℕ} {e : ℕ → ℕ → Bool} → Equal e → Along e p → Down T p m 0 0 s t → byte_of m s < 2 → e (at T s) (at T t) ≡ true
  down_equal {p} {s} {t} {e} q o d l = go (at T s) (at T t) refl refl
    where
      go : (x y : ℕ) → at T s ≡ x → at T t ≡ y → e (at T s) (at T t) ≡ true
      go zero zero a b = rw (a, b) (q.itself 0)
      go zero (suc y) a b = absurd (omega (arith, (d.left a (omega arith)).one))
      go (suc x) zero a b = absurd (omega (arith, (d.right (omega arith) b).one))
      go (suc x) (suc y) a b = d.joined e q o (q.itself 0) (omega arith) (omega arith)

  -- Types that are linked are equal, to any depth.
  alike_along : {p : List ℕ} → ((x : ℕ) → 1 ≤ at p x → (1 ≤ x) × Level m x (at p x)) → ((x : ℕ) → 1 ≤ at p x → Down T p m 0 0 x (at p x))
      → (d : ℕ) → Along (alike T m d) p
  unfolding alike
  alike_along v c zero = record { each = λ x l. refl }
  alike_along {p} v c (suc d) = record { each = λ x l. each x l (alike_along v c d) }
    where
      each : (x : ℕ) → 1 ≤ at p x → Along (alike T m d) p → alike T m (suc d) x (at p x) ≡ true
      each x l o =
          let e : kind m x ≡ kind m (at p x) = level_kind x (at p x) (v x l).0 l (v x l).1 in
          let k : same_kind (kind m x) (kind m (at p x)) ≡ true = rw e (same_kind_refl (kind m (at p x))) in
          both_true k
          (by_test (λ z. z ≡ true) (deep (kind m x)) _ _ (λ i. down_equal (alike_equal d) o (c x l) (deep_byte m x i)) (λ i. refl))

  alike_same : (n : ℕ) → Falls T → (d t u : ℕ) → t < d → alike T m d t u ≡ true → same_below (plain n T) m d t u ≡ true
  unfolding alike
  alike_same n f zero t u l h = absurd (not-suc-le-zero l)
  alike_same n f (suc d) zero u l h = h
  alike_same n f (suc d) (suc t) u l h =
      let (k, b) = parts_true (same_kind (kind m (suc t)) (kind m u)) _ h in
      both_true k
      (by_test (λ z. z ≡ true) (deep (kind m (suc t))) _ _
      (λ i. alike_same n f d (at T (suc t)) (at T u) (omega (arith, f.by (suc t) (omega arith))) (rw i at b)) (λ i. refl))

-- ---- what is at rest

module _ {T : List ℕ} {C : List Conversion} {m₀ p m₁ m : List ℕ} (f : Falls T) (ls : All (Between (length m₀)) C) (j : Joined T C m₀ p m₁) (g : Below m₁ m)
    (e : length m ≡ length m₀) (w : Whole (length m₀) T p C m) where
  rest_down : {s t : ℕ} → Down T p m₁ 0 0 s t → Down T p m 0 0 s t
  rest_down d = record { joined = d.joined; left = λ z i. dynamic_kept g (d.left z i); right = λ i z. dynamic_kept g (d.right i z) }

  rest_spread : Spread (plain (length m₀) T) m
  rest_spread t h i z = go (dec_lt t (length m))
    where
      go : Dec (t < length m) → 2 ≤ get_or m i 0
      go (yes l) =
          let q : 2 ≤ byte_of m (at T (suc t)) = (w.rows.each (suc t) (record { low = omega arith; high = omega arith })).down.goes (omega arith) h in rw z at q
      go (no n) = absurd (omega (arith, past m t (omega arith)))

  rest_conv : All (λ c. Conv (plain (length m₀) T) m c.from c.to) C
  unfolding same
  rest_conv k d l =
      let o = w.outers.each k d l in
      let n = length m₀ in
      let b = ls k d l in
      let s = (get_or C k d).from in
      let t = (get_or C k d).to in
      record {
        back_one = o.back.one.goes b.from.low;
        back_two = o.back.two.goes b.from.low;
        forth_two = o.forth.goes b.to.low;
        targets = λ h.
            alike_same T m n f (suc n) (at T s) (at T t) (omega (arith, f.by s b.from.low, b.from.high))
            (down_equal T m (alike_equal T m (suc n))
            (alike_along T m (λ y q. let r = j.within.each y q in (r.low, (w.rows.each y r).level)) (λ y q. rest_down (j.closed y q)) (suc n))
            (rest_down (j.done k d l)) h);
      }

-- ---- what a suitable marking meets while kinds are raised

module _ {T : List ℕ} {C : List Conversion} {m₀ p m₁ w : List ℕ} (j : Joined T C m₀ p m₁) (a : Suits (length m₀) T C w) (b : Below m₀ w) where
  suits_good : Good (length m₀) T p m₁ w 0 0
  suits_good = j.sound w a.spread b (λ k d l. conv_lower (a.convs k d l))

  suits_down : (x t : ℕ) → 1 ≤ x → at T x ≡ t → Edge w x t 2
  suits_down zero t l e = absurd (not-suc-le-zero l)
  suits_down (suc x) zero l e = record { goes = λ i h. absurd (not-suc-le-zero i) }
  suits_down (suc x) (suc t) l e = record { goes = λ i h. a.spread x h t e }

  suits_level : (x t : ℕ) → at p x ≡ t → Level w x t
  suits_level x zero e =
      record {
        up = record { one = record { goes = λ i. absurd (omega arith) }; two = record { goes = λ i. absurd (omega arith) } };
        back = record { one = record { goes = λ i h. absurd (omega arith) }; two = record { goes = λ i h. absurd (omega arith) } };
      }
  suits_level x (suc t) e = rw e at (same_level (length m₀) T w x (at p x) (suits_good.along.each x (omega arith)))

  suits_outers : Outers C w
  suits_outers =
      record {
        each = λ k d l.
            let c = a.convs k d l in
            record { back = record { one = record { goes = λ i. c.back_one }; two = record { goes = λ i. c.back_two } }; forth = record { goes = λ i. c.forth_two } };
      }

  suits_whole : Whole (length m₀) T p C w
  suits_whole =
      record {
        rows = record { each = λ x r. record { level = suits_level x (at p x) refl; down = suits_down x (at T x) r.low refl } };
        outers = suits_outers;
      }

pub least_above : {n k : ℕ} {T : List ℕ} {C : List Conversion} {m₀ p m₁ m : List ℕ} → n ≡ length m₁ → k ≡ length m₀ → Falls T → All (Between k) C
    → Joined T C m₀ p m₁ → Rests n T p C m₁ m → LeastAbove T C m₀ m
least_above {T = T} {C} {m₀} {p} {m₁} {m} h i f ls j rests =
    let ls' : All (Between (length m₀)) C = rw i at ls in
    let q : Rests (length m₀) T p C m₁ m = rw (h ∙ j.size) at rests in
    let g = q.raises.grows in
    let e : length m ≡ length m₀ = q.raises.size ∙ j.size in
    record {
      size = e;
      suits = record { spread = rest_spread f ls' j g e q.whole; convs = rest_conv f ls' j g e q.whole };
      above = below_trans j.grows g;
      lowest = λ w a b. q.raises.below w (suits_whole j a b) (suits_good j a b).below;
    }
