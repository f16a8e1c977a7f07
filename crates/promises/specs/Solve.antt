-- The least marking that meets a list of demands: raise types by the demands until nothing moves. It comes to rest, since no type is
-- raised above a marking that meets them.
use Rattle.std.specs.Prelude.{◌≡◌, refl, ◌⊎◌, ℕ, zero, suc, ◌+◌, ◌≤◌, ◌<◌, max, List, [], ◌∷◌, length, get_or, set, replicate, leb}
use Rattle.std.proofs.Common.{sym, ap, ◌∙◌, inl, inr, zero-le, le_refl, le_trans, arith, length-set, get_or-set_same, get_or-set_other, ext_get_or, leb-true, le-leb}
use Rattle.std.proofs.Math.Decide.{ℕ_discrete, dec_lt}
use Rattle.std.proofs.lemmas.List.{length-replicate}
use Rattle.std.proofs.Math.ListN.{get_or-eq_default}
use Rattle.std.proofs.Math.Seq.{set_out}
use Rattle.rules.specs.Basic.{choose}
use Rattle.rules.specs.Tests.{by_test}
use Rattle.rules.specs.Graph.{byte_of, Demand, source, edge, Meets, Each}

-- ---- raising

-- Type t is raised to k at least.
abbrev lift : ℕ → ℕ → List ℕ → List ℕ
lift zero k m = m
lift (suc t) k m = set m t (max (get_or m t 0) k)

abbrev raise : Demand → List ℕ → List ℕ
raise (source rule place k t) m = lift t k m
raise (edge rule place k s t) m = choose (leb k (byte_of m s)) (λ _. lift t k m) (λ _. m)

abbrev pass : List Demand → List ℕ → List ℕ
pass [] m = m
pass (d ∷ ds) m = pass ds (raise d m)

abbrev passes : List Demand → ℕ → List ℕ → List ℕ
passes ds zero m = m
passes ds (suc k) m = pass ds (passes ds k m)

-- Every type's byte in m is at or below its byte in w.
abbrev pub Below : List ℕ → List ℕ → Type 0
Below m w = (i : ℕ) → get_or m i 0 ≤ get_or w i 0

pub byte_below : (m w : List ℕ) (t : ℕ) → Below m w → byte_of m t ≤ byte_of w t
byte_below m w zero h = zero-le
byte_below m w (suc t) h = h t

pub antisym : (m w : List ℕ) → length m ≡ length w → ((i : ℕ) → i < length m → get_or m i 0 ≤ get_or w i 0)
    → ((i : ℕ) → i < length m → get_or w i 0 ≤ get_or m i 0) → m ≡ w
antisym m w l a b = ext_get_or 0 m w l (λ i h. omega (arith, a i h, b i h))

-- An entry after a set is the old one, or the new one at its place.
data Entry (m : List ℕ) (t x : ℕ) : ℕ → Type 0 where
  old : {i : ℕ} → get_or (set m t x) i 0 ≡ get_or m i 0 → Entry m t x i
  new : t < length m → get_or (set m t x) t 0 ≡ x → Entry m t x t

entry : (m : List ℕ) (t x i : ℕ) → Entry m t x i
entry m t x i = elim (ℕ_discrete i t) [ yes e ↦ rw e here | no n ↦ old (get_or-set_other m t i x 0 n) ]
  where
    here : Entry m t x t
    here = elim (dec_lt t (length m)) [ yes l ↦ new l (get_or-set_same m t x 0 l) | no n ↦ old {i = t} (rw (set_out m t x (omega arith))) ]

lift_grows : (t k : ℕ) (m : List ℕ) → Below m (lift t k m)
lift_grows zero k m i = le_refl _
lift_grows (suc t) k m i = go (entry m t (max (get_or m t 0) k) i)
  where
    go : {j : ℕ} → Entry m t (max (get_or m t 0) k) j → get_or m j 0 ≤ get_or (set m t (max (get_or m t 0) k)) j 0
    go (old e) = omega arith
    go (new l e) = omega arith

lift_below : (t k : ℕ) (m w : List ℕ) → Below m w → k ≤ byte_of w t → Below (lift t k m) w
lift_below zero k m w h l i = h i
lift_below (suc t) k m w h l i = go (entry m t (max (get_or m t 0) k) i)
  where
    go : {j : ℕ} → Entry m t (max (get_or m t 0) k) j → get_or (set m t (max (get_or m t 0) k)) j 0 ≤ get_or w j 0
    go {j} (old e) = omega (arith, h j)
    go (new i e) = omega (arith, h t)

length_lift : (t k : ℕ) (m : List ℕ) → length (lift t k m) ≡ length m
length_lift zero k m = refl
length_lift (suc t) k m = length-set m t (max (get_or m t 0) k)

raise_grows : (d : Demand) (m : List ℕ) → Below m (raise d m)
raise_grows (source rule place k t) m = lift_grows t k m
raise_grows (edge rule place k s t) m = by_test (λ z. Below m z) (leb k (byte_of m s)) _ _ (λ h. lift_grows t k m) (λ h i. le_refl _)

raise_below : (d : Demand) (m w : List ℕ) → Below m w → Meets w d → Below (raise d m) w
raise_below (source rule place k t) m w h l = lift_below t k m w h l
raise_below (edge rule place k s t) m w h l =
    by_test (λ z. Below z w) (leb k (byte_of m s)) _ _ (λ b. lift_below t k m w h (l (le_trans (leb-true _ _ b) (byte_below m w s h)))) (λ b. h)

length_raise : (d : Demand) (m : List ℕ) → length (raise d m) ≡ length m
length_raise (source rule place k t) m = length_lift t k m
length_raise (edge rule place k s t) m = by_test (λ z. length z ≡ length m) (leb k (byte_of m s)) _ _ (λ h. length_lift t k m) (λ h. refl)

-- ---- what does not move is met, wherever some marking `top` of the same length meets the demands

lift_gets : (t k : ℕ) (m top : List ℕ) → length m ≡ length top → k ≤ byte_of top t → lift t k m ≡ m → k ≤ byte_of m t
lift_gets zero k m top l a h = a
lift_gets (suc t) k m top l a h =
    elim (dec_lt t (length m)) [
      | yes i ↦ omega (arith, sym (get_or-set_same m t (max (get_or m t 0) k) 0 i) ∙ ap (λ (z : List ℕ). get_or z t 0) h)
      | no n ↦ omega (arith, get_or-eq_default top 0 {n = t} (omega arith))
    ]

stays : (d : Demand) (m top : List ℕ) → length m ≡ length top → Below m top → Meets top d → raise d m ≡ m → Meets m d
stays (source rule place k t) m top l b a h = lift_gets t k m top l a h
stays (edge rule place k s t) m top l b a h =
    λ i. lift_gets t k m top l (a (le_trans i (byte_below m top s b))) (rw (le-leb k (byte_of m s) i) at h)

pass_grows : (ds : List Demand) (m : List ℕ) → Below m (pass ds m)
pass_grows [] m i = le_refl _
pass_grows (d ∷ ds) m i = le_trans (raise_grows d m i) (pass_grows ds (raise d m) i)

length_pass : (ds : List Demand) (m : List ℕ) → length (pass ds m) ≡ length m
length_pass [] m = refl
length_pass (d ∷ ds) m = length_pass ds (raise d m) ∙ length_raise d m

pass_below : (ds : List Demand) (m w : List ℕ) → Below m w → Each (Meets w) ds → Below (pass ds m) w
pass_below [] m w h a = h
pass_below (d ∷ ds) m w h a = pass_below ds (raise d m) w (raise_below d m w h a.0) a.1

pass_fixed : (ds : List Demand) (m top : List ℕ) → length m ≡ length top → Below m top → Each (Meets top) ds → pass ds m ≡ m → Each (Meets m) ds
pass_fixed [] m top l b a h = tt
pass_fixed (d ∷ ds) m top l b a h =
    let back : Below (raise d m) m = λ i. le_trans (pass_grows ds (raise d m) i) (rw h (le_refl _)) in
    let e : raise d m ≡ m = sym (antisym m (raise d m) (sym (length_raise d m)) (λ i _. raise_grows d m i) (λ i _. back i)) in
    (stays d m top l b a.0 e, pass_fixed ds m top l b a.1 (ap (λ (z : List ℕ). pass ds z) (sym e) ∙ h))

-- ---- the passes come to rest

total : List ℕ → ℕ
total [] = 0
total (x ∷ xs) = x + total xs

total_le : (m w : List ℕ) → length m ≡ length w → Below m w → total m ≤ total w
unfolding total
total_le [] w l h = zero-le
total_le (x ∷ xs) [] l h = absurd (omega arith)
total_le (x ∷ xs) (y ∷ ys) l h = omega (arith, h 0, total_le xs ys (omega arith) (λ i. h (suc i)))

total_eq : (m w : List ℕ) → length m ≡ length w → Below m w → total w ≤ total m → Below w m
unfolding total
total_eq [] [] l h q i = le_refl _
total_eq [] (y ∷ ys) l h q i = absurd (omega arith)
total_eq (x ∷ xs) [] l h q i = absurd (omega arith)
total_eq (x ∷ xs) (y ∷ ys) l h q zero = omega (arith, h 0, total_le xs ys (omega arith) (λ i. h (suc i)))
total_eq (x ∷ xs) (y ∷ ys) l h q (suc i) = total_eq xs ys (omega arith) (λ j. h (suc j)) (omega (arith, h 0)) i

length_passes : (ds : List Demand) (k : ℕ) (m : List ℕ) → length (passes ds k m) ≡ length m
length_passes ds zero m = refl
length_passes ds (suc k) m = length_pass ds (passes ds k m) ∙ length_passes ds k m

passes_below : (ds : List Demand) (k : ℕ) (m w : List ℕ) → Below m w → Each (Meets w) ds → Below (passes ds k m) w
passes_below ds zero m w h a = h
passes_below ds (suc k) m w h a = pass_below ds (passes ds k m) w (passes_below ds k m w h a) a

rests : (ds : List Demand) (k : ℕ) (m : List ℕ) → (k ≤ total (passes ds k m)) ⊎ (pass ds (passes ds k m) ≡ passes ds k m)
rests ds zero m = inl zero-le
rests ds (suc k) m = go (rests ds k m)
  where
    x : List ℕ
    x = passes ds k m

    still : total (pass ds x) ≤ total x → pass ds x ≡ x
    still l =
        let b = total_eq x (pass ds x) (sym (length_pass ds x)) (pass_grows ds x) l in
        sym (antisym x (pass ds x) (sym (length_pass ds x)) (λ i _. pass_grows ds x i) (λ i _. b i))

    go : (k ≤ total x) ⊎ (pass ds x ≡ x) → (suc k ≤ total (pass ds x)) ⊎ (pass ds (pass ds x) ≡ pass ds x)
    go (inr e) = inr (ap (λ (z : List ℕ). pass ds z) e)
    go (inl h) = elim (dec_lt (total x) (total (pass ds x))) [ yes l ↦ inl (omega arith) | no n ↦ inr (ap (λ (z : List ℕ). pass ds z) (still (omega arith))) ]

zeros_below : (n : ℕ) (m : List ℕ) → Below (replicate n 0) m
zeros_below zero m i = zero-le
zeros_below (suc n) m zero = zero-le
zeros_below (suc n) [] (suc i) = zeros_below n [] i
zeros_below (suc n) (x ∷ m) (suc i) = zeros_below n m i

-- ---- the least marking

pub record Solution (ds : List Demand) (n : ℕ) : Type 0 where
  pub marking : List ℕ
  pub size : length marking ≡ n
  pub meets : Each (Meets marking) ds
  pub lowest : (w : List ℕ) → Each (Meets w) ds → Below marking w

-- It is there if any marking meets the demands.
pub solved : (ds : List Demand) (top : List ℕ) → Each (Meets top) ds → Solution ds (length top)
solved ds top a =
    record {
      marking = x;
      size = e;
      meets = go (rests ds (suc (total top)) bottom);
      lowest = λ w b. passes_below ds (suc (total top)) bottom w (zeros_below (length top) w) b;
    }
  where
    bottom : List ℕ
    bottom = replicate (length top) 0

    x : List ℕ
    x = passes ds (suc (total top)) bottom

    e : length x ≡ length top
    e = length_passes ds (suc (total top)) bottom ∙ length-replicate (length top) 0

    b : Below x top
    b = passes_below ds (suc (total top)) bottom top (zeros_below (length top) top) a

    go : (suc (total top) ≤ total x) ⊎ (pass ds x ≡ x) → Each (Meets x) ds
    go (inr h) = pass_fixed ds x top e b a h
    go (inl h) = absurd (omega (arith, total_le x top e b))
