-- Laws of links: one step down, one turn, turns in sequence, conversions in sequence.
use Rattle.std.specs.Prelude.{◌≡◌, refl, ◌⊎◌, Bool, true, ℕ, ◌≤◌, ◌<◌, List, [], ◌∷◌, ◌++◌, length, set, replicate, max, min}
use Rattle.std.specs.List.{All}
use Rattle.std.proofs.Common.{sym, ap, ◌∙◌, inl, inr, not-suc-le-zero, le_trans, arith, length-set, get_or-set_same}
use Rattle.std.proofs.Math.Decide.{dec_lt}
use Rattle.std.proofs.Math.Seq.{take-append_seam}
use Rattle.std.proofs.lemmas.List.{length-replicate}
use Rattle.std.proofs.lemmas.List.Elements.{All-push, All-weaker, All-take, All-contains, Contains-push}
use Rattle.rules.specs.Kinds.{same}
use Rattle.rules.specs.Graph.{byte_of}
use Rattle.laws.specs.Convert.{Spread}
use Rattle.laws.specs.Same.{reflexive, symmetric}
use Rattle.raise.specs.Marks.{at, zeros, AtSet, here, other, at_set, Below, below_same, below_trans, kept, Raised}
use Rattle.raise.specs.declared.Conversion.{Conversion}
use Rattle.raise.specs.Demands.{Falls, Ref, Tables}
use Rattle.links.specs.Plain.{plain, Equal, same_equal, dynamic_same, int_alone, spread_at, Lower, same_lower}
use Rattle.links.specs.Links.{Within, Along, BothDynamic, Down, Good, Next, Stepped, Linked, Turned, Joined}

-- ---- one step down

pub dynamic_kept : {m m' : List ℕ} {s t : ℕ} → Below m m' → BothDynamic m s t → BothDynamic m' s t
dynamic_kept {s = s} {t = t} g h = record { one = kept g s h.one; other = kept g t h.other }

module _ (n : ℕ) (T m : List ℕ) (s t : ℕ) (f : Falls T) (ls : 1 ≤ s) (lt : 1 ≤ t) where
  -- Both targets are references.
  pub step_both : 1 ≤ at T s → 1 ≤ at T t → Stepped n T m s t m (at T s) (at T t)
  step_both a b =
      record {
        size = refl;
        grows = below_same;
        fresh = λ p. record { joined = λ e q o h i j. h; left = λ z i. absurd (omega arith); right = λ i z. absurd (omega arith) };
        sound = λ w d l o. (l, sound w d o (dec_lt (byte_of w s) 2));
        small_a = f.by s ls;
        small_b = f.by t lt;
        next = inl (a, b);
      }
    where
      sound : (w : List ℕ) → Spread (plain n T) w → Lower n T w s t → Dec (byte_of w s < 2) → same (plain n T) w (at T s) (at T t) ≡ true
      sound w d o (yes l) = o.shallow l
      sound w d o (no l) =
          dynamic_same n T w (at T s) (at T t) a b (spread_at n T w d s ls (omega arith) a) (spread_at n T w d t lt (o.dynamic (omega arith)) b)

  -- Both are int.
  pub step_none : at T s ≡ 0 → at T t ≡ 0 → Stepped n T m s t m 0 0
  step_none a b =
      record {
        size = refl;
        grows = below_same;
        fresh = λ p. record { joined = λ e q o h i j. absurd (omega arith); left = λ z i. absurd (omega arith); right = λ i z. absurd (omega arith) };
        sound = λ w d l o. (l, reflexive (plain n T) w 0);
        small_a = ls;
        small_b = lt;
        next = inr refl;
      }

  -- Only one is.
  pub step_one : {m₁ m₂ : List ℕ} → Raised m m₁ s 2 → Raised m₁ m₂ t 2 → ((at T s ≡ 0) × (1 ≤ at T t)) ⊎ ((1 ≤ at T s) × (at T t ≡ 0))
      → Stepped n T m s t m₂ 0 0
  step_one {m₁} {m₂} a b z =
      record {
        size = b.size ∙ a.size;
        grows = below_trans a.grows b.grows;
        fresh = λ p. record { joined = λ e q o h i j. absurd (clash i j z); left = λ x i. both; right = λ i x. both };
        sound = λ w d l o. let q = dynamic w o (dec_lt (byte_of w s) 2) in (b.below w (a.below w l q.one) q.other, reflexive (plain n T) w 0);
        small_a = ls;
        small_b = lt;
        next = inr refl;
      }
    where
      both : BothDynamic m₂ s t
      both = record { one = kept b.grows s a.gets; other = b.gets }

      clash : 1 ≤ at T s → 1 ≤ at T t → ((at T s ≡ 0) × (1 ≤ at T t)) ⊎ ((1 ≤ at T s) × (at T t ≡ 0)) → ⊥
      clash i j (inl x) = omega (arith, x.0)
      clash i j (inr x) = omega (arith, x.1)

      apart : (w : List ℕ) → ((at T s ≡ 0) × (1 ≤ at T t)) ⊎ ((1 ≤ at T s) × (at T t ≡ 0)) → same (plain n T) w (at T s) (at T t) ≡ true → ⊥
      apart w (inl x) h = int_alone n T w (at T s) (at T t) x.0 x.1 h
      apart w (inr x) h = int_alone n T w (at T t) (at T s) x.1 x.0 (symmetric (plain n T) w (at T s) (at T t) h)

      dynamic : (w : List ℕ) → Lower n T w s t → Dec (byte_of w s < 2) → BothDynamic w s t
      dynamic w o (yes l) = absurd (apart w z (o.shallow l))
      dynamic w o (no l) = record { one = omega arith; other = o.dynamic (omega arith) }

-- ---- links in sequence

down_kept : {T p m p' m' : List ℕ} {a b a' b' s t : ℕ}
    → ((e : ℕ → ℕ → Bool) → Equal e → Along e p' → e a' b' ≡ true → Along e p × (e a b ≡ true)) → Below m m'
    → Down T p m a b s t → Down T p' m' a' b' s t
down_kept k g d =
    record {
      joined = λ e q o h i j. let (x, y) = k e q o h in d.joined e q x y i j;
      left = λ z i. dynamic_kept g (d.left z i);
      right = λ i z. dynamic_kept g (d.right i z);
    }

pub linked_none : {n : ℕ} {T p m : List ℕ} {a b : ℕ} → Linked n T p m a b p m a b
linked_none =
    record {
      links = refl;
      size = refl;
      falls = λ f. f;
      within = λ f. f;
      grows = below_same;
      keeps = λ e q o h. (o, h);
      closed = λ x l. inl refl;
      sound = λ w d g. g;
    }

pub linked_then : {n : ℕ} {T p m p' m' p'' m'' : List ℕ} {a b a' b' a'' b'' : ℕ}
    → Linked n T p m a b p' m' a' b' → Linked n T p' m' a' b' p'' m'' a'' b'' → Linked n T p m a b p'' m'' a'' b''
linked_then {n} {T} {p} {m} {p'} {m'} {p''} {m''} {a} {b} {a'} {b'} {a''} {b''} h i =
    record {
      links = i.links ∙ h.links;
      size = i.size ∙ h.size;
      falls = λ f. i.falls (h.falls f);
      within = λ f. i.within (h.within f);
      grows = below_trans h.grows i.grows;
      keeps = λ e q o k. let (x, y) = i.keeps e q o k in h.keeps e q x y;
      closed = λ x l. first x l (i.closed x l);
      sound = λ w d g. i.sound w d (h.sound w d g);
    }
  where
    second : (x : ℕ) → at p'' x ≡ at p' x → (at p' x ≡ at p x) ⊎ Down T p' m' a' b' x (at p' x) → (at p'' x ≡ at p x) ⊎ Down T p'' m'' a'' b'' x (at p'' x)
    second x e (inl d) = inl (e ∙ d)
    second x e (inr d) = inr (rw e (down_kept i.keeps i.grows d))

    first : (x : ℕ) → 1 ≤ at p'' x → (at p'' x ≡ at p' x) ⊎ Down T p'' m'' a'' b'' x (at p'' x) → (at p'' x ≡ at p x) ⊎ Down T p'' m'' a'' b'' x (at p'' x)
    first x l (inl e) = second x e (h.closed x (rw e at l))
    first x l (inr d) = inr d

-- The links stay, and (a', b') is left to link for (a, b).
on_with : {n : ℕ} {T p m : List ℕ} {a b a' b' : ℕ}
    → ((e : ℕ → ℕ → Bool) → Equal e → Along e p → e a' b' ≡ true → e a b ≡ true)
    → ((w : List ℕ) → Good n T p m w a b → same (plain n T) w a' b' ≡ true)
    → Linked n T p m a b p m a' b'
on_with k s =
    record {
      links = refl;
      size = refl;
      falls = λ f. f;
      within = λ f. f;
      grows = below_same;
      keeps = λ e q o h. (o, k e q o h);
      closed = λ x l. inl refl;
      sound = λ w d g. record { below = g.below; along = g.along; pair = s w g };
    }

-- What is left to link is one type twice: nothing.
pub linked_end : {n : ℕ} {T p m : List ℕ} {a b : ℕ} → a ≡ b → Linked n T p m a b p m 0 0
linked_end {n} {T} {b = b} z = on_with (λ e q o h. rw z (q.itself b)) (λ w g. reflexive (plain n T) w 0)

-- The pair's two ends trade places.
linked_swap : {n : ℕ} {T p m : List ℕ} {a b : ℕ} → Linked n T p m a b p m b a
linked_swap {n} {T} {a = a} {b = b} = on_with (λ e q o h. q.turned b a h) (λ w g. symmetric (plain n T) w a b g.pair)

-- a is linked already: on with what it is linked to, and b.
turn_follow : (n : ℕ) (T p m : List ℕ) (a b : ℕ) → Falls p → 1 ≤ b → b < a → (at p a ≡ 0 → ⊥) → Turned n T p m a b p m (at p a) b
turn_follow n T p m a b f l k z =
    let q : 1 ≤ at p a = omega arith in
    record {
      linked =
          on_with (λ e s o h. s.chained a (at p a) b (o.each a q) h)
          (λ w g. let s = same_equal n T w in s.chained (at p a) a b (s.turned a (at p a) (g.along.each a q)) g.pair);
      small_a = f.by a (omega arith);
      small_b = k;
      next = inl (q, l);
    }

-- a is linked to b now: on with their targets.
turn_link : (n : ℕ) (T p m : List ℕ) (a b : ℕ) {m' : List ℕ} {a' b' : ℕ} → Falls T → 1 ≤ b → b < a → a ≤ n → a < length p → at p a ≡ 0
    → Stepped n T m a b m' a' b' → Turned n T p m a b (set p a b) m' a' b'
turn_link n T p m a b {m'} {a'} {b'} f l k ln lp z s =
    record {
      linked =
          record {
            links = length-set p a b;
            size = s.size;
            falls = λ g. record { by = λ x i. falls g x i (at_set p a b x) };
            within = λ g. record { each = λ x i. within g x i (at_set p a b x) };
            grows = s.grows;
            keeps = λ e q o h. (record { each = λ x i. before e o x i (at_set p a b x) }, linked e o);
            closed = λ x i. closed x i (at_set p a b x);
            sound = sound;
          };
      small_a = s.small_a;
      small_b = le_trans s.small_b (omega arith);
      next = s.next;
    }
  where
    now_b : at (set p a b) a ≡ b
    now_b = get_or-set_same p a b 0 lp

    falls : Falls p → (x : ℕ) → 1 ≤ x → AtSet p a b x → at (set p a b) x < x
    falls g x i (here u v w) = rw w (omega arith)
    falls g x i (other h) = rw h (g.by x i)

    within : Within n p → (x : ℕ) → 1 ≤ at (set p a b) x → AtSet p a b x → Ref n x
    within g x i (here u v w) = record { low = omega arith; high = omega arith }
    within g x i (other h) = g.each x (rw h at i)

    before : (e : ℕ → ℕ → Bool) → Along e (set p a b) → (x : ℕ) → 1 ≤ at p x → AtSet p a b x → e x (at p x) ≡ true
    before e o x i (here u v w) = absurd (omega (arith, ap (λ y. at p y) u))
    before e o x i (other h) = rw h at (o.each x (rw h i))

    linked : (e : ℕ → ℕ → Bool) → Along e (set p a b) → e a b ≡ true
    linked e o = rw now_b at (o.each a (rw now_b l))

    closed : (x : ℕ) → 1 ≤ at (set p a b) x → AtSet p a b x → (at (set p a b) x ≡ at p x) ⊎ Down T (set p a b) m' a' b' x (at (set p a b) x)
    closed x i (here u v w) = inr (rw (w, u) (s.fresh (set p a b)))
    closed x i (other h) = inl h

    along : (e : ℕ → ℕ → Bool) → Along e p → e a b ≡ true → (x : ℕ) → 1 ≤ at (set p a b) x → AtSet p a b x → e x (at (set p a b) x) ≡ true
    along e o g x i (here u v w) = rw (w, u) g
    along e o g x i (other h) = rw h (o.each x (rw h at i))

    sound : (w : List ℕ) → Spread (plain n T) w → Good n T p m w a b → Good n T (set p a b) m' w a' b'
    sound w d g =
        let (x, y) = s.sound w d g.below (same_lower n T w a b f (record { low = omega arith; high = ln }) l g.pair) in
        record { below = x; along = record { each = λ x i. along (same (plain n T) w) g.along g.pair x i (at_set p a b x) }; pair = y }

-- ---- the loop that links one pair

pub next_refs : {a b : ℕ} → Next a b → (a ≡ b → ⊥) → (1 ≤ a) × (1 ≤ b)
next_refs (inl h) n = h
next_refs (inr e) n = absurd (n e)

pub record Linking (T p₀ m₀ : List ℕ) (a₀ b₀ : ℕ) (p m : List ℕ) (a b : ℕ) : Type 0 where
  pub linked : Linked (length m₀) T p₀ m₀ a₀ b₀ p m a b
  pub high_a : a ≤ length m₀
  pub high_b : b ≤ length m₀
  pub refs : (a ≡ b → ⊥) → (1 ≤ a) × (1 ≤ b)

linking_more : {n : ℕ} {T p₀ m₀ : List ℕ} {a₀ b₀ : ℕ} {p m : List ℕ} {a b : ℕ} {p' m' : List ℕ} {a' b' : ℕ} → n ≡ length m₀
    → Linking T p₀ m₀ a₀ b₀ p m a b → Turned n T p m a b p' m' a' b' → Linking T p₀ m₀ a₀ b₀ p' m' a' b'
linking_more {T = T} {m₀ = m₀} {p = p} {m = m} {a = a} {b = b} {p' = p'} {m' = m'} {a' = a'} {b' = b'} e l t =
    let u : Turned (length m₀) T p m a b p' m' a' b' = rw e at t in
    record {
      linked = linked_then l.linked u.linked;
      high_a = omega (arith, l.high_a, u.small_a);
      high_b = omega (arith, l.high_a, u.small_b);
      refs = next_refs u.next;
    }

pub linking_swap : {T p₀ m₀ : List ℕ} {a₀ b₀ : ℕ} {p m : List ℕ} {a b : ℕ} → Linking T p₀ m₀ a₀ b₀ p m a b → Linking T p₀ m₀ a₀ b₀ p m b a
linking_swap l =
    record {
      linked = linked_then l.linked linked_swap;
      high_a = l.high_b;
      high_b = l.high_a;
      refs = λ n. let (x, y) = l.refs (λ e. n (sym e)) in (y, x);
    }

-- The higher of the two first.
linking_order : {T p₀ m₀ : List ℕ} {a₀ b₀ : ℕ} {p m : List ℕ} {a b h l : ℕ} → h ≡ max a b → l ≡ min a b → Linking T p₀ m₀ a₀ b₀ p m a b
    → Linking T p₀ m₀ a₀ b₀ p m h l
linking_order {T} {p₀} {m₀} {a₀} {b₀} {p} {m} {a} {b} {h} {l} e f k = go (dec_lt a b)
  where
    go : Dec (a < b) → Linking T p₀ m₀ a₀ b₀ p m h l
    go (yes q) = let u : h ≡ b = omega arith in let v : l ≡ a = omega arith in rw (u, v) (linking_swap k)
    go (no q) = let u : h ≡ a = omega arith in let v : l ≡ b = omega arith in rw (u, v) k

-- The tables are large enough still.
pub linking_tables : {n k : ℕ} {T p₀ m₀ : List ℕ} {a₀ b₀ : ℕ} {p m : List ℕ} {a b : ℕ} → n ≡ k → k ≡ length m₀ → Tables k T p₀
    → Linking T p₀ m₀ a₀ b₀ p m a b → Tables n T p
linking_tables e h t l =
    record {
      targets = omega (arith, t.targets);
      links = omega (arith, t.links, l.linked.links);
      low = t.low;
      linked = l.linked.falls t.linked;
    }

-- A turn: the higher of the two is linked to the lower, or goes on as what it is linked to.
module _ {T p₀ m₀ : List ℕ} {a₀ b₀ : ℕ} {p m : List ℕ} {a b h l i : ℕ} (t : Tables (length m₀) T p₀) (n : a ≡ b → ⊥) (e : h ≡ max a b) (f : l ≡ min a b) (k : i ≡ h)
    (g : Linking T p₀ m₀ a₀ b₀ p m a b) where
  low : 1 ≤ l
  low = omega (arith, (g.refs n).0, (g.refs n).1)

  less : l < h
  less = omega arith

  high : h ≤ length m
  high = omega (arith, g.high_a, g.high_b, g.linked.size)

  pub linking_link : {m' : List ℕ} {a' b' : ℕ} → at p i ≡ 0 → Stepped (length m) T m h l m' a' b' → Linking T p₀ m₀ a₀ b₀ (set p i l) m' a' b'
  linking_link z s =
      rw k
      (linking_more g.linked.size (linking_order e f g)
      (turn_link (length m) T p m h l t.low low less high (omega (arith, t.links, g.linked.links, g.linked.size, high)) (rw k at z) s))

  pub linking_follow : (at p i ≡ 0 → ⊥) → Linking T p₀ m₀ a₀ b₀ p m (at p i) l
  linking_follow z =
      rw k (linking_more g.linked.size (linking_order e f g) (turn_follow (length m) T p m h l (g.linked.falls t.linked) low less (rw k at z)))

-- ---- conversions in sequence

pub joined_none : {T m p : List ℕ} → ((x : ℕ) → at p x ≡ 0) → Joined T [] m p m
joined_none {T} {m = m} z =
    record {
      size = refl;
      falls = record { by = λ x l. rw (z x) l };
      within = record { each = λ x l. absurd (omega (arith, z x)) };
      grows = below_same;
      done = λ k d l. absurd (not-suc-le-zero l);
      closed = λ x l. absurd (omega (arith, z x));
      sound = λ w d b h. record { below = b; along = record { each = λ x l. absurd (omega (arith, z x)) }; pair = reflexive (plain (length m) T) w 0 };
    }

pub joined_more : {T : List ℕ} {C : List Conversion} {c : Conversion} {m₀ p m m₁ : List ℕ} {a b : ℕ} {p' m' : List ℕ} {k₀ k₁ : ℕ} → k₀ ≡ length m → k₁ ≡ length m₁
    → Joined T C m₀ p m → Stepped k₀ T m c.from c.to m₁ a b → Linked k₁ T p m₁ a b p' m' 0 0 → Joined T (C ++ c ∷ []) m₀ p' m'
joined_more {T} {C} {c} {m₀} {p} {m} {m₁} {a} {b} {p'} {m'} e₀ e₁ j s k =
    record {
      size = k.size ∙ (s.size ∙ j.size);
      falls = k.falls j.falls;
      within = linked.within j.within;
      grows = below_trans j.grows grown;
      done = All-push (λ x. Down T p' m' 0 0 x.from x.to) C c (All-weaker (λ x. Down T p m 0 0 x.from x.to) (λ x. Down T p' m' 0 0 x.from x.to) (λ x d. down_kept keeps grown d) C j.done) (down_kept k.keeps k.grows (s.fresh p));
      closed = λ x l. closed x l (k.closed x l);
      sound = sound;
    }
  where
    grown : Below m m'
    grown = below_trans s.grows k.grows

    -- Nothing is lost from the pairs linked before.
    keeps : (e : ℕ → ℕ → Bool) → Equal e → Along e p' → e 0 0 ≡ true → Along e p × (e 0 0 ≡ true)
    keeps e q o h = ((k.keeps e q o h).0, h)

    closed : (x : ℕ) → 1 ≤ at p' x → (at p' x ≡ at p x) ⊎ Down T p' m' 0 0 x (at p' x) → Down T p' m' 0 0 x (at p' x)
    closed x l (inl e) = rw e (down_kept keeps grown (j.closed x (rw e at l)))
    closed x l (inr d) = d

    stepped : Stepped (length m₀) T m c.from c.to m₁ a b
    stepped = rw (e₀ ∙ j.size) at s

    linked : Linked (length m₀) T p m₁ a b p' m' 0 0
    linked = rw (e₁ ∙ (s.size ∙ j.size)) at k

    sound : (w : List ℕ) → Spread (plain (length m₀) T) w → Below m₀ w → All (λ x. Lower (length m₀) T w x.from x.to) (C ++ c ∷ []) → Good (length m₀) T p' m' w 0 0
    sound w d l h =
        let f : All (λ x. Lower (length m₀) T w x.from x.to) C = rw (take-append_seam C (c ∷ [])) at (All-take (λ x. Lower (length m₀) T w x.from x.to) (length C) (C ++ c ∷ []) h) in
        let g = j.sound w d l f in
        let (u, v) = stepped.sound w d g.below (All-contains (λ x. Lower (length m₀) T w x.from x.to) (C ++ c ∷ []) c h (Contains-push C c)) in
        linked.sound w d (record { below = u; along = g.along; pair = v })

pub joined_tables : {T : List ℕ} {C : List Conversion} {m₀ p₀ p m : List ℕ} {n k : ℕ} → n ≡ length m → length p ≡ length p₀ → k ≡ length m₀ → Tables k T p₀ → Joined T C m₀ p m → Tables n T p
joined_tables e l h t j =
    record {
      targets = omega (arith, t.targets, j.size);
      links = omega (arith, t.links, j.size);
      low = t.low;
      linked = j.falls;
    }

-- ---- no links yet

pub tables_none : (n : ℕ) {k : ℕ} {T : List ℕ} → k < length T → k < n → Falls T → Tables k T (replicate n 0)
tables_none n a b f =
    record { targets = a; links = omega (arith, length-replicate {A = ℕ} n 0); low = f; linked = record { by = λ x l. omega (arith, zeros n x) } }
