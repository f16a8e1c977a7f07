-- In a valid state, a rule for values is never stuck and gives a valid value.
use Rattle.std.specs.Prelude.{Bool, true, false, ◌&&◌, ◌||◌, ◌≡◌, refl, ◌⊎◌, ℕ, zero, suc, ◌+◌, ◌*◌, ◌-◌, ◌/◌, ◌%◌, ◌^◌, ◌≤◌, ◌<◌, List, [], ◌∷◌, ltb, leb, eqb}
use Rattle.rules.specs.declared.Value.{Value}
use Rattle.rules.specs.declared.Value.TheVariants.{Number}
use Rattle.rules.specs.Basic.{width, choose}
use Rattle.rules.specs.Table.{Operator, plus, minus, times, over, rest, equal, less, both, right, Home, Routine}
use Rattle.rules.specs.Shape.{home_at}
use Rattle.rules.specs.declared.Kind.{Kind}
use Rattle.rules.specs.declared.Kind.TheVariants.{int, SAFE, SEQ, DYNAMIC}
use Rattle.rules.specs.Kinds.{kind, same, deep, kind_converts, targets_matter, spreads, not_safe}
use Rattle.rules.specs.Memory.{State, held, cell}
use Rattle.rules.specs.declared.Check.{Check}
use Rattle.rules.specs.declared.Check.TheVariants.{Bounds}
use Rattle.rules.specs.Ruled.{must, Ruled, gives, fails, onward}
use Rattle.rules.specs.Values.{convert, reach, reach_safe, fetched, operated, moved, home_value, null_value, truth}
use Rattle.rules.specs.Operators.{applied, bit}
use Rattle.rules.specs.Valid.{In, Real, Typed, Untyped, Points, ValidAt, number, address, pair, wild_pair, Valid, ValidState}
use Rattle.std.proofs.Common.{inl, inr, not-suc-le-zero, mod-lt, mod-eq_of_lt, div-le_self, arith, lit<, ltb-true, lt-ltb, le-leb}
use Rattle.std.proofs.Math.Nat.{mod-le}
use Rattle.std.specs.Int.Bits.{bit_and}
use Rattle.std.proofs.lemmas.Nat.{and_le_r}
use Rattle.rules.specs.Tests.{false_true, by_test}
use Rattle.laws.specs.Same.{trans, reflexive, same_kind_lem, same_targets}

-- A rule gives something of which P holds, or fails a check.
pub data Ok {X : Type 0} (P : X → Type 0) : Ruled X → Type 0 where
  holds : {x : X} → P x → Ok P (gives x)
  check_fails : {c : Check} → Ok P (fails c)

pub ok_then : {X Y : Type 0} {P : X → Type 0} {Q : Y → Type 0} {x : Ruled X} {k : X → Ruled Y}
    → Ok P x → ((v : X) → P v → Ok Q (k v)) → Ok Q (onward x k)
ok_then (holds {x = v} p) i = i v p
ok_then check_fails i = check_fails

pub ok_map : {X : Type 0} {P Q : X → Type 0} {x : Ruled X} → Ok P x → ((v : X) → P v → Q v) → Ok Q x
ok_map (holds {x = v} p) i = holds (i v p)
ok_map check_fails i = check_fails

-- And what it gives is known.
pub ok_given : {X : Type 0} {P : X → Type 0} {u : Ruled X} → Ok P u → Ok (λ x. P x × (u ≡ gives x)) u
ok_given (holds h) = holds (h, refl)
ok_given check_fails = check_fails

ok_must : {X : Type 0} {P : X → Type 0} {x : Ruled X} (c : Check) (b : Bool) → (b ≡ true → Ok P x) → Ok P (must c b x)
ok_must c true h = h refl
ok_must c false h = check_fails

-- Types fall.
pub record Falls (r : Routine) : Type 0 where
  pub by : (t : ℕ) → t < r.types → r.target (suc t) ≤ t

pub target_le : {r : Routine} → Falls r → (t : ℕ) → 1 ≤ t → t ≤ r.types → r.target t ≤ r.types
target_le falls zero h l = absurd (not-suc-le-zero h)
target_le falls (suc t) h l = omega (arith, falls.by t l)

right_true : (a b : Bool) → b ≡ true → (a || b) ≡ true
right_true true b h = refl
right_true false b h = h

held_in : (hs : List Home) (g a : ℕ) → In (home_at hs g) a → held hs a ≡ true
held_in [] g a i = absurd (omega (arith, i.to))
held_in (h ∷ hs) zero a i = rw (le-leb h.start a i.from, lt-ltb a (h.start + h.size) i.to)
held_in (h ∷ hs) (suc g) a i = right_true (leb h.start a && ltb a (h.start + h.size)) _ (held_in hs g a i)

module _ {r : Routine} {m : List ℕ} {hs : List Home} {t u : ℕ} (e : same r m t u ≡ true) where
  typed_same : {g : ℕ} → (g ≡ 0) ⊎ Typed r m hs t g → (g ≡ 0) ⊎ Typed r m hs u g
  typed_same (inl z) = inl z
  typed_same (inr y) = inr (record { real = y.real; mild = y.mild; elements = trans r m _ t u y.elements e })

  points_same : {a : ℕ} → (a ≡ 0) ⊎ Points r m hs t a → (a ≡ 0) ⊎ Points r m hs u a
  points_same (inl z) = inl z
  points_same (inr y) =
      let o = y.owned in
      inr (record { home = y.home; owned = record { real = o.real; mild = o.mild; elements = trans r m _ t u o.elements e }; inside = y.inside })

module _ (r : Routine) (m : List ℕ) (hs : List Home) where
  -- A home that a pointer of this kind, with this target, may reach.
  pub data Owns : Kind → ℕ → ℕ → Type 0 where
    safely : {t g : ℕ} → Typed r m hs t g → Owns SAFE t g
    sequently : {t g : ℕ} → Typed r m hs t g → Owns SEQ t g
    wildly : {t g : ℕ} → Untyped r m hs g → Owns DYNAMIC t g

  pub record Spot (s : Kind) (t a : ℕ) : Type 0 where
    pub home : ℕ
    pub owner : Owns s t home
    pub inside : In (home_at hs home) a

module _ {r : Routine} {m : List ℕ} {w : State} (ok : ValidState r m w) where
  -- ---- conversion

  -- An address in a home is below 4,097.
  pub small_address : {t a : ℕ} → (a ≡ 0) ⊎ Points r m w.homes t a → a < width
  small_address (inl z) = rw z (lit< tt)
  small_address (inr y) = omega (arith, ok.laid.few, ok.laid.high y.owned.real, y.inside.to)

  -- An offset inside a home is at its address, with no wrap.
  address_in : {g n : ℕ} → Real w.homes g → n < (home_at w.homes g).size → In (home_at w.homes g) (((home_at w.homes g).start + n) % width)
  address_in {g} {n} y h =
      let e : ((home_at w.homes g).start + n) % width ≡ (home_at w.homes g).start + n
      = mod-eq_of_lt (omega (arith, ok.laid.few, ok.laid.high y)) in
      rw e (record { from = omega arith; to = omega arith })

  -- Only offset 0 of home 0 is inside, and its address is 0.
  pub null_address : {g n : ℕ} → g ≡ 0 → n < (home_at w.homes g).size → ((home_at w.homes g).start + n) % width ≡ 0
  null_address {g} {n} e h =
      let a : (home_at w.homes g).start ≡ 0 = rw e ok.laid.nowhere in
      let b : (home_at w.homes g).size ≡ 1 = rw e ok.laid.single in
      let c : n ≡ 0 = omega arith in
      rw (a, c)

  -- SEQ to SAFE, past its check.
  narrowed : {t g n : ℕ} → (g ≡ 0) ⊎ Typed r m w.homes t g → n < (home_at w.homes g).size
      → (((home_at w.homes g).start + n) % width ≡ 0) ⊎ Points r m w.homes t (((home_at w.homes g).start + n) % width)
  narrowed (inl e) l = inl (null_address e l)
  narrowed {g = g} (inr y) l = inr (record { home = g; owned = y; inside = address_in y.real l })

  pub convert_ok : (s' : Kind) {s : Kind} {t u : ℕ} {v : Value} → kind_converts s s' ≡ true
      → choose (targets_matter s s') (λ _. same r m t u) (λ _. true) ≡ true
      → ValidAt r m w.homes s t v → Ok (ValidAt r m w.homes s' u) (convert w s' v)
  convert_ok int k h (number l) = holds (number l)
  convert_ok SAFE k h (number l) = false_true k
  convert_ok SEQ k h (number l) = holds (pair (inl refl) l)
  convert_ok DYNAMIC k h (number l) = holds (wild_pair (inl refl) l)
  convert_ok int k h (address y) = holds (number (small_address y))
  convert_ok SAFE k h (address y) = holds (address (points_same h y))
  convert_ok SEQ k h (address y) = false_true k
  convert_ok DYNAMIC k h (address y) = false_true k
  convert_ok int k h (pair y l) = holds (number (mod-lt _ (lit< tt)))
  convert_ok SAFE k h (pair {g = g} {n = n} y l) =
      ok_must Bounds (ltb n (home_at w.homes g).size) (λ i. holds (address (narrowed (typed_same h y) (ltb-true _ _ i))))
  convert_ok SEQ k h (pair y l) = holds (pair (typed_same h y) l)
  convert_ok DYNAMIC k h (pair y l) = false_true k
  convert_ok int k h (wild_pair y l) = holds (number (mod-lt _ (lit< tt)))
  convert_ok SAFE k h (wild_pair y l) = false_true k
  convert_ok SEQ k h (wild_pair y l) = false_true k
  convert_ok DYNAMIC k h (wild_pair y l) = holds (wild_pair y l)

  -- ---- access

  safe_ok : {s : Kind} {t a : ℕ} → ((g : ℕ) → Typed r m w.homes t g → Owns r m w.homes s t g) → (a ≡ 0) ⊎ Points r m w.homes t a
      → Ok (Spot r m w.homes s t) (reach_safe w (Number a))
  safe_ok {a = zero} o y = check_fails
  safe_ok {a = suc a} o (inl e) = absurd (omega arith)
  safe_ok {a = suc a} o (inr i) =
      rw (held_in w.homes i.home (suc a) i.inside) (holds (record { home = i.home; owner = o i.home i.owned; inside = i.inside }))

  wild_ok : {t g a : ℕ} → Untyped r m w.homes g → In (home_at w.homes g) a → Ok (Spot r m w.homes DYNAMIC t) (reach_safe w (Number a))
  wild_ok {a = zero} y i = check_fails
  wild_ok {g = g} {a = suc a} y i = rw (held_in w.homes g (suc a) i) (holds (record { home = g; owner = wildly y; inside = i }))

  through : {t : ℕ} {v : Value} → ValidAt r m w.homes SAFE t v → Ok (Spot r m w.homes SEQ t) (reach_safe w v)
  through (address y) = safe_ok (λ g o. sequently o) y

  pub reach_ok : {s : Kind} {t : ℕ} {v : Value} → (s ≡ int → ⊥) → ValidAt r m w.homes s t v → Ok (Spot r m w.homes s t) (reach w s v)
  reach_ok n (number l) = absurd (n refl)
  reach_ok n (address y) = safe_ok (λ g o. safely o) y
  reach_ok {t = t} n (pair y l) = ok_then (convert_ok SAFE refl (reflexive r m t) (pair y l)) (λ v i. through i)
  reach_ok n (wild_pair {g = zero} y l) = check_fails
  reach_ok n (wild_pair {g = suc g} (inl e) l) = absurd (omega arith)
  reach_ok n (wild_pair {g = suc g} {n = k} (inr y) l) =
      ok_must Bounds (ltb k (home_at w.homes (suc g)).size) (λ i. wild_ok y (address_in y.real (ltb-true _ _ i)))

  -- ---- reading a cell

  pub wild_any : {t u : ℕ} {v : Value} → ValidAt r m w.homes DYNAMIC t v → ValidAt r m w.homes DYNAMIC u v
  wild_any (wild_pair y l) = wild_pair y l

  retype : {s : Kind} {t u : ℕ} {v : Value} → (deep s ≡ true → same r m t u ≡ true) → ValidAt r m w.homes s t v → ValidAt r m w.homes s u v
  retype h (number l) = number l
  retype h (address y) = address (points_same (h refl) y)
  retype h (pair y l) = pair (typed_same (h refl) y) l
  retype h (wild_pair y l) = wild_pair y l

  module _ (falls : Falls r) where
    pub valid_same : {t u : ℕ} {v : Value} → t ≤ r.types → same r m t u ≡ true → Valid r m w.homes t v → Valid r m w.homes u v
    valid_same {t} {u} l h y = rw (← same_kind_lem r m t u h) (retype (λ d. same_targets r m falls.by t u l d h) y)

    typed_cell : {u g a : ℕ} → Typed r m w.homes u g → In (home_at w.homes g) a → Valid r m w.homes u (cell w a)
    typed_cell {g = g} y i =
        let (l, k) = ok.laid.typed y.real in
        valid_same (target_le falls (home_at w.homes g).type l k) y.elements ((ok.holds y.real i).plain y.mild)

    wild_cell : {t g a : ℕ} → Untyped r m w.homes g → In (home_at w.homes g) a → ValidAt r m w.homes DYNAMIC t (cell w a)
    wild_cell y i = wild_any ((ok.holds y.real i).wild y.wild)

    pub fetch_ok : {s : Kind} (s' : Kind) {u a : ℕ} → kind m u ≡ s' → spreads s s' ≡ true → Spot r m w.homes s u a
        → Ok (ValidAt r m w.homes s' (r.target u)) (fetched w s s' (cell w a))
    fetch_ok s' e h y = go s' y.owner y.inside e h
      where
        go : {s : Kind} (s' : Kind) {u a g : ℕ} → Owns r m w.homes s u g → In (home_at w.homes g) a → kind m u ≡ s' → spreads s s' ≡ true
            → Ok (ValidAt r m w.homes s' (r.target u)) (fetched w s s' (cell w a))
        go s' (safely o) i e h = holds (rw e at (typed_cell o i))
        go s' (sequently o) i e h = holds (rw e at (typed_cell o i))
        go int (wildly o) i e h = convert_ok int refl refl (wild_cell {t = 0} o i)
        go SAFE (wildly o) i e h = false_true h
        go SEQ (wildly o) i e h = false_true h
        go DYNAMIC (wildly o) i e h = holds (wild_cell o i)

  -- ---- operators, sums, homes, nulls and conditions

  bit_small : (b : Bool) → bit b < width
  bit_small true = lit< tt
  bit_small false = lit< tt

  applied_ok : (o : Operator) (x y : ℕ) → x < width → y < width → Ok (λ n. n < width) (applied o x y)
  applied_ok plus x y a b = holds (mod-lt (x + y) (lit< tt))
  applied_ok minus x y a b = holds (mod-lt (x + width - y) (lit< tt))
  applied_ok times x y a b = holds (mod-lt (x * y) (lit< tt))
  applied_ok over x zero a b = check_fails
  applied_ok over x (suc y) a b = holds {x = x / suc y} (omega (arith, div-le_self x (suc y)))
  applied_ok rest x zero a b = check_fails
  applied_ok rest x (suc y) a b = holds {x = x % suc y} (omega (arith, mod-le x (suc y)))
  applied_ok equal x y a b = holds (bit_small (eqb x y))
  applied_ok less x y a b = holds (bit_small (ltb x y))
  applied_ok both x y a b = holds {x = bit_and x y} (omega (arith, and_le_r x y))
  applied_ok right x y a b =
      holds (by_test (λ z. z < width) (ltb y 32) (λ _. x / 2 ^ y) (λ _. 0) (λ i. omega (arith, div-le_self x (2 ^ y))) (λ i. lit< tt))

  pub operated_ok : (o : Operator) {t t' t'' : ℕ} {u v : Value} → ValidAt r m w.homes int t u → ValidAt r m w.homes int t' v
      → Ok (ValidAt r m w.homes int t'') (operated o u v)
  operated_ok o (number {n = x} a) (number {n = y} b) = ok_then (applied_ok o x y a b) (λ n l. holds (number l))

  pub moved_ok : {s : Kind} {t t' : ℕ} {u v : Value} → not_safe s ≡ true → ValidAt r m w.homes s t u → ValidAt r m w.homes int t' v
      → Ok (ValidAt r m w.homes s t) (moved u v)
  moved_ok k (number l) i = false_true k
  moved_ok k (address y) i = false_true k
  moved_ok k (pair {n = n} y l) (number {n = x} b) = holds (pair y (mod-lt (n + x) (lit< tt)))
  moved_ok k (wild_pair {n = n} y l) (number {n = x} b) = holds (wild_pair y (mod-lt (n + x) (lit< tt)))

  pub home_ok : {s : Kind} {g : ℕ} → Real w.homes g → kind m (home_at w.homes g).type ≡ s → (s ≡ int → ⊥)
      → ValidAt r m w.homes s (r.target (home_at w.homes g).type) (home_value w s g)
  home_ok {s = int} y e n = absurd (n refl)
  home_ok {s = SAFE} {g = g} y e n = address {a = (home_at w.homes g).start} (inr (record { home = g; owned = owned y e; inside = record { from = omega arith; to = omega (arith, y.exists) } }))
    where
      owned : Real w.homes g → kind m (home_at w.homes g).type ≡ SAFE → Typed r m w.homes (r.target (home_at w.homes g).type) g
      owned y e = record { real = y; mild = rw e; elements = reflexive r m _ }
  home_ok {s = SEQ} y e n = pair (inr (record { real = y; mild = rw e; elements = reflexive r m _ })) (lit< tt)
  home_ok {s = DYNAMIC} y e n = wild_pair (inr (record { real = y; wild = rw e })) (lit< tt)

  pub truth_ok : {t : ℕ} {v : Value} → ValidAt r m w.homes int t v → Ok (λ (b : Bool). Unit {0}) (truth v)
  truth_ok (number {n = zero} l) = holds tt
  truth_ok (number {n = suc n} l) = holds tt

pub null_ok : {r : Routine} {m : List ℕ} {hs : List Home} (s : Kind) {t : ℕ} → ValidAt r m hs s t (null_value s)
null_ok int = number (lit< tt)
null_ok SAFE = address (inl refl)
null_ok SEQ = pair (inl refl) (lit< tt)
null_ok DYNAMIC = wild_pair (inl refl) (lit< tt)
