-- Steps of raising in sequence: what each sees to, they see to together; and when no step is needed.
use Rattle.std.specs.Prelude.{◌≡◌, refl, ◌⊎◌, Bool, true, false, ℕ, ◌+◌, ◌-◌, ◌≤◌, ◌<◌, List, length, set, get_or, take}
use Rattle.std.specs.List.{All}
use Rattle.std.proofs.Common.{◌∙◌, inl, inr, le_refl, le_trans, arith, length-set, get_or-set_same}
use Rattle.std.proofs.lemmas.List.{take_all}
use Rattle.std.proofs.lemmas.List.Elements.{All-nil}
use Rattle.rules.specs.Tests.{false_true}
use Rattle.raise.specs.Marks.{at, below_same, below_trans, below_set, set_below, byte_at, Raised}
use Rattle.raise.specs.declared.Conversion.{Conversion}
use Rattle.raise.specs.Demands.{Ref, Between, Edge, Upward, Level, Row, Outer, Rows, Outers, Whole, Tables}
use Rattle.raise.specs.Moves.{room, Moves, Meets, Above, rows_more, outer_at, outers_more, Raises, Rests}

-- ---- one type raised

module _ (m : List ℕ) (t k : ℕ) (low : 1 ≤ t) (high : t ≤ length m) where
  pub raised_set : at m (t - 1) < k → Raised m (set m (t - 1) k) t k
  raised_set l =
      record {
        size = length-set m (t - 1) k;
        grows = below_set (t - 1) k (omega arith);
        gets = rw (byte_at (set m (t - 1) k) t low, get_or-set_same m (t - 1) k 0 (omega arith)) (le_refl _);
        below = λ w b q. set_below (t - 1) k b (rw (byte_at w t low) at q);
      }

  pub raised_none : k ≤ at m (t - 1) → Raised m m t k
  raised_none l = record { size = refl; grows = below_same; gets = rw (byte_at m t low) l; below = λ w b q. b }

-- ---- an edge that asks nothing

module _ {m : List ℕ} {s t k : ℕ} where
  pub edge_int : s ≡ 0 → 1 ≤ k → Edge m s t k
  edge_int e l = record { goes = λ h i. absurd (omega (arith, rw e at i)) }

  pub edge_none : t ≡ 0 → Edge m s t k
  edge_none e = record { goes = λ h i. absurd (omega arith) }

  pub edge_low : 1 ≤ s → at m (s - 1) < k → Edge m s t k
  edge_low l h = record { goes = λ q i. absurd (omega (arith, rw (byte_at m s l) at i)) }

  pub edge_high : 1 ≤ t → k ≤ at m (t - 1) → Edge m s t k
  edge_high l h = record { goes = λ q i. rw (byte_at m t l) h }

-- ---- steps in sequence

pub moves_none : {S P : List ℕ → Type 0} {m : List ℕ} {was : Bool} → P m → Moves S P m m was was
moves_none p =
    record { size = refl; grows = below_same; below = λ w s b. b; still = λ e. (e, refl, p); rest = le_refl _; moved = λ e. inl e }

pub weaken : {S S' P P' : List ℕ → Type 0} {m n : List ℕ} {was is : Bool} → ((w : List ℕ) → S' w → S w) → ((w : List ℕ) → P w → P' w)
    → Moves S P m n was is → Moves S' P' m n was is
weaken {m = m} f g h =
    record {
      size = h.size;
      grows = h.grows;
      below = λ w s b. h.below w (f w s) b;
      still = λ e. let (a, b, c) = h.still e in (a, b, g m c);
      rest = h.rest;
      moved = h.moved;
    }

pub then : {S P Q : List ℕ → Type 0} {m n o : List ℕ} {a b c : Bool} → Moves S P m n a b → Moves S Q n o b c → Moves S (λ w. P w × Q w) m o a c
then {S} {P} {Q} {m} {n} {o} {a} {b} {c} h i =
    record {
      size = i.size ∙ h.size;
      grows = below_trans h.grows i.grows;
      below = λ w s l. i.below w s (h.below w s l);
      still = still;
      rest = le_trans i.rest h.rest;
      moved = λ e. first (i.moved e);
    }
  where
    still : c ≡ false → (a ≡ false) × (o ≡ m) × (P m × Q m)
    still e =
        let (x, y, z) = i.still e in
        let (u, v, w) = h.still x in
        (u, y ∙ v, (w, rw v at z))

    second : (a ≡ true) ⊎ (room n < room m) → (a ≡ true) ⊎ (room o < room m)
    second (inl e) = inl e
    second (inr l) = inr (omega (arith, i.rest))

    first : (b ≡ true) ⊎ (room o < room n) → (a ≡ true) ⊎ (room o < room m)
    first (inl e) = second (h.moved e)
    first (inr l) = inr (omega (arith, h.rest))

-- One more of what S asks for.
pub part : {S P Q : List ℕ → Type 0} {m n o : List ℕ} {a b c : Bool} → ((w : List ℕ) → S w → Q w) → Moves S P m n a b → Meets Q n o b c
    → Moves S (λ w. P w × Q w) m o a c
part f h i = then h (weaken f (λ w q. q) i)

-- Two demands that make up one.
pub pair : {S P Q : List ℕ → Type 0} {m n o : List ℕ} {a b c : Bool} → ((w : List ℕ) → S w → P w × Q w) → ((w : List ℕ) → P w → Q w → S w)
    → Meets P m n a b → Meets Q n o b c → Meets S m o a c
pair f g h i = weaken (λ w s. s) (λ w x. g w x.0 x.1) (part (λ w s. (f w s).1) (weaken (λ w s. (f w s).0) (λ w p. p) h) i)

-- ---- the sequences of the code

module _ {m n o : List ℕ} {a b c : Bool} where
  pub upward_moves : (s t : ℕ) → Meets (λ w. Edge w s t 1) m n a b → Meets (λ w. Edge w s t 2) n o b c → Meets (λ w. Upward w s t) m o a c
  upward_moves s t = pair (λ w u. (u.one, u.two)) (λ w p q. record { one = p; two = q })

  pub level_moves : (s t : ℕ) → Meets (λ w. Upward w s t) m n a b → Meets (λ w. Upward w t s) n o b c → Meets (λ w. Level w s t) m o a c
  level_moves s t = pair (λ w u. (u.up, u.back)) (λ w p q. record { up = p; back = q })

  pub outer_moves : (x : Conversion) → Meets (λ w. Upward w x.to x.from) m n a b → Meets (λ w. Edge w x.from x.to 2) n o b c → Meets (λ w. Outer w x) m o a c
  outer_moves x = pair (λ w u. (u.back, u.forth)) (λ w p q. record { back = p; forth = q })

  pub row_moves : (T p : List ℕ) (x : ℕ) → Meets (λ w. Level w x (at p x)) m n a b → Meets (λ w. Edge w x (at T x) 2) n o b c
      → Meets (λ w. Row T p w x) m o a c
  row_moves T p x = pair (λ w u. (u.level, u.down)) (λ w p q. record { level = p; down = q })

  pub pass_moves : {k : ℕ} {T p : List ℕ} {C : List Conversion} → Meets (Rows k T p) m n a b → Meets (Outers C) n o b c → Meets (Whole k T p C) m o a c
  pass_moves = pair (λ w u. (u.rows, u.outers)) (λ w p q. record { rows = p; outers = q })

-- ---- every type

module _ {n : ℕ} {T p : List ℕ} where
  pub rows_none : {m : List ℕ} {a : Bool} → Moves (Rows n T p) (Above n T p 0) m m a a
  rows_none = moves_none (record { each = λ y l h. absurd (omega arith) })

  pub rows_step : {i y : ℕ} {m₀ m m₁ m₂ : List ℕ} {a b c d : Bool} → i < n → Ref n y → Moves (Rows n T p) (Above n T p i) m₀ m a b
      → Meets (λ w. Row T p w (n - i)) m m₁ b c → Meets (λ w. Row T p w y) m₁ m₂ c d → Moves (Rows n T p) (Above n T p (i + 1)) m₀ m₂ a d
  rows_step {i} {y} l r h j k =
      let top : Ref n (n - i) = record { low = omega arith; high = omega arith } in
      weaken (λ w s. s) (λ w x. rows_more n T p i l x.0.0 x.0.1) (part (λ w s. s.each y r) (part (λ w s. s.each (n - i) top) h j) k)

  pub rows_end : {i : ℕ} {m o : List ℕ} {a b : Bool} → n ≤ i → Moves (Rows n T p) (Above n T p i) m o a b → Meets (Rows n T p) m o a b
  rows_end z h = weaken (λ w s. s) (λ w f. record { each = λ x r. f.each x (omega (arith, r.low)) r.high }) h

-- ---- every conversion

pub outers_none : {C : List Conversion} {m : List ℕ} {a : Bool} → Moves (Outers C) (Outers (take 0 C)) m m a a
outers_none = moves_none (record { each = All-nil _ })

pub outers_step : (C : List Conversion) {i : ℕ} (c : Conversion) {m₀ m o : List ℕ} {a b d : Bool} → i < length C → c ≡ get_or C i c
    → Moves (Outers C) (Outers (take i C)) m₀ m a b → Meets (λ w. Outer w c) m o b d → Moves (Outers C) (Outers (take (i + 1) C)) m₀ o a d
outers_step C {i} c l e h j =
    weaken (λ w s. s) (λ w x. outers_more C i c l x.0 (rw (← e) x.1)) (part (λ w s. rw e (outer_at i c l s)) h j)

pub outers_end : {C : List Conversion} {i : ℕ} {m o : List ℕ} {a b : Bool} → length C ≤ i → Moves (Outers C) (Outers (take i C)) m o a b
    → Meets (Outers C) m o a b
outers_end {C} {i} z h = weaken (λ w s. s) (λ w f. record { each = rw (← take_all i C z) f.each }) h

-- ---- passes until nothing moves

pub raises_none : {n : ℕ} {T p : List ℕ} {C : List Conversion} {m : List ℕ} → Raises n T p C m m
raises_none = record { size = refl; grows = below_same; below = λ w s b. b }

module _ {n k : ℕ} {T p : List ℕ} {C : List Conversion} {m₀ m o : List ℕ} {b : Bool} (e : k ≡ n) (r : Raises n T p C m₀ m)
    (h : Meets (Whole k T p C) m o false b) where
  pub raises_more : Raises n T p C m₀ o
  raises_more =
      record { size = h.size ∙ r.size; grows = below_trans r.grows h.grows; below = λ w s b. h.below w (rw e s) (r.below w s b) }

  pub raises_rests : b ≡ false → Rests n T p C m₀ o
  raises_rests z =
      let (x, y, w) = h.still z in
      let v : Whole n T p C m = rw e at w in
      record { raises = raises_more; whole = rw y v }

pub room_falls : {S P : List ℕ → Type 0} {m o : List ℕ} {b : Bool} → Moves S P m o false b → b ≡ true → room o < room m
room_falls {m = m} {o = o} h e = go (h.moved e)
  where
    go : (false ≡ true) ⊎ (room o < room m) → room o < room m
    go (inl z) = false_true z
    go (inr l) = l

-- ---- tables and lists by another number of types

pub tables_size : {T p : List ℕ} {k n : ℕ} → n ≡ k → Tables k T p → Tables n T p
tables_size e t = rw e t

pub lists_size : (C : List Conversion) {k n : ℕ} → n ≡ k → All (Between k) C → All (Between n) C
lists_size C e l = rw e l
