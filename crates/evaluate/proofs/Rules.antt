-- In a valid memory, a rule for values that is not stuck says what the code makes over the table's homes.
use mathlib.Core.Path.{◌≡◌, refl, sym, ap, ◌∙◌}
use mathlib.Core.Logic.{inl, inr}
use mathlib.Core.Bool.{Bool, true, false, ◌&&◌, ◌||◌}
use Prim.Native.Nat.{ℕ, zero, suc, ◌+◌, ◌-◌, ◌%◌, ◌<◌}
use native.Mathlib.Omega.{arith}
use mathlib.Core.List.{List, [], ◌∷◌}
use lib.ListN.{get_or}
use lib.Dec.{ltb, leb}
use borrow.Author.Tests.{ltb-true, leb-true}
use Rattle.std.specs.Prelude.{Result, Ok}
use Rattle.rules.specs.declared.Value.{Value}
use Rattle.rules.specs.declared.Value.TheVariants.{Number, Pair}
use Rattle.rules.specs.Basic.{width, choose}
use Rattle.rules.specs.Table.{Home, Routine, Operator, plus, minus, times, over, rest, equal, less, both, right, operator_of}
use Rattle.rules.specs.Shape.{home_at}
use Rattle.rules.specs.declared.Kind.{Kind}
use Rattle.rules.specs.declared.Kind.TheVariants.{int, SAFE, SEQ, DYNAMIC}
use Rattle.rules.specs.Kinds.{kind, is_dynamic}
use Rattle.rules.specs.Memory.{State, cell, held}
use Rattle.rules.specs.declared.Check.{Check}
use Rattle.rules.specs.declared.Check.TheVariants.{Bounds}
use Rattle.rules.specs.Ruled.{Ruled, gives, fails, stuck, onward, must}
use Rattle.rules.specs.Operators.{applied}
use Rattle.rules.specs.Values.{convert, moved, operated, reach_safe, reach, fetched, kept}
use Rattle.laws.specs.Forget.{load}
use Rattle.rules.specs.Valid.{In, Real, ValidAt, number, address, pair, wild_pair, Holds, ValidState}
use Rattle.rules.specs.Tests.{false_true}
use Rattle.words.specs.Words.{access_of, convert_of, keep_of, start_in, size_in, Homes, Named}
use Rattle.values.specs.Values.{number_of, plus_of, to_int_in, to_pair, to_safe_in, not_null, reach_in, kept_in, as_number, checked}
use Rattle.evaluate.specs.Rows.{cell_in, one_in, two_in, Inside, Ready}

-- A rule that is not stuck.
pub data Fine {X : Type 0} : Ruled X → Type 0 where
  given : {x : X} → Fine (gives x)
  failed : {c : Check} → Fine (fails c)

pub fine_first : {X Y : Type 0} (u : Ruled X) (k : X → Ruled Y) → Fine (onward u k) → Fine u
fine_first (gives x) k h = given
fine_first (fails c) k h = failed
fine_first stuck k h = elim h [ ]

onward_gives : {X : Type 0} (u : Ruled X) → onward u (λ x. gives x) ≡ u
onward_gives (gives x) = refl
onward_gives (fails c) = refl
onward_gives stuck = refl

onward_same : {X Y : Type 0} (u : Ruled X) (k l : X → Ruled Y) → ((x : X) → u ≡ gives x → k x ≡ l x) → onward u k ≡ onward u l
onward_same (gives x) k l h = h x refl
onward_same (fails c) k l h = refl
onward_same stuck k l h = refl

-- What the code answers tells what the rule gives.
pub checked_gives : {X : Type 0} (u : Ruled X) (r : Result X Check) (x : X) → r ≡ checked u → r ≡ Ok x → u ≡ gives x
checked_gives (gives y) r x p q = cc
checked_gives (fails c) r x p q = cc
checked_gives stuck r x p q = cc

-- An access's address lies in the memory.
pub access_inside : (t memory : List ℕ) (k o : ℕ) (v : Value) (r : Result ℕ Check) (a : ℕ) → Ready t memory o v → o ≡ 5 + k → r ≡ checked (reach_in t k v) → r ≡ Ok a → Inside memory a
access_inside t memory k o v r a y p h q = y.inside k a p (checked_gives (reach_in t k v) r a h q)

-- ---- the rules by the operation

unfoldable pub one_rule : State → ℕ → Value → Ruled Value
one_rule w o v =
    get_or (
    stuck
    ∷ stuck
    ∷ convert w int v
    ∷ convert w SEQ v
    ∷ convert w SAFE v
    ∷ load w SAFE int v
    ∷ load w SEQ int v
    ∷ load w DYNAMIC DYNAMIC v
    ∷ load w DYNAMIC int v
    ∷ []
    ) o stuck

abbrev operators : Value → Value → List (Ruled Value)
operators v n =
    operated plus v n
    ∷ operated minus v n
    ∷ operated times v n
    ∷ operated over v n
    ∷ operated rest v n
    ∷ operated equal v n
    ∷ operated less v n
    ∷ operated both v n
    ∷ operated right v n
    ∷ []

unfoldable pub two_rule : ℕ → Value → Value → Ruled Value
two_rule o v n = get_or (moved v n ∷ operators v n) (o - 9) stuck

-- ---- an address that some home holds

held_first : (x : Home) (hs : List Home) (a : ℕ) (b c : Bool) → leb x.start a ≡ b → ltb a (x.start + x.size) ≡ c → ((b && c) || held hs a) ≡ true
    → (held hs a ≡ true → (g : ℕ) × In (home_at hs g) a) → (g : ℕ) × In (home_at (x ∷ hs) g) a
held_first x hs a true true p q k h = (0, record { from = leb-true _ _ p; to = ltb-true _ _ q })
held_first x hs a true false p q k h = (suc (h k).0, (h k).1)
held_first x hs a false c p q k h = (suc (h k).0, (h k).1)

held_home : (hs : List Home) (a : ℕ) → held hs a ≡ true → (g : ℕ) × In (home_at hs g) a
held_home [] a h = false_true h
held_home (x ∷ hs) a h = held_first x hs a (leb x.start a) (ltb a (x.start + x.size)) refl refl h (λ k. held_home hs a k)

-- ---- values name the table's homes

pub valid_named : {r : Routine} {m t : List ℕ} {hs : List Home} → Homes hs t → {s : Kind} {u : ℕ} {v : Value} → ValidAt r m hs s u v → Named v
valid_named hs (number l) = tt
valid_named hs (address y) = tt
valid_named hs (pair (inl e) l) = omega (arith, e)
valid_named hs (pair (inr y) l) = hs.few _ y.real.exists
valid_named hs (wild_pair (inl e) l) = omega (arith, e)
valid_named hs (wild_pair (inr y) l) = hs.few _ y.real.exists

holds_named : {r : Routine} {m t : List ℕ} {hs : List Home} → Homes hs t → {h : Home} {v : Value} → Holds r m hs h v → Named v
holds_named {r} {m} hs {h} {v} y = go (is_dynamic (kind m h.type)) refl
  where
    go : (b : Bool) → is_dynamic (kind m h.type) ≡ b → Named v
    go true e = valid_named hs (y.wild e)
    go false e = valid_named hs (y.plain e)

abbrev at : List Home → List ℕ → State
at hs memory = record { homes = hs; memory = memory }

must_number : (b : Bool) (k : ℕ) → must Bounds b (gives (Number k)) ≡ as_number (must Bounds b (gives k))
must_number true k = refl
must_number false k = refl

convert_seq : (w : State) (v : Value) → convert w SEQ v ≡ gives (to_pair v)
convert_seq w (Number n) = refl
convert_seq w (Pair g n) = refl

convert_dynamic : (w : State) (v : Value) → convert w DYNAMIC v ≡ gives (to_pair v)
convert_dynamic w (Number n) = refl
convert_dynamic w (Pair g n) = refl

module _ {t : List ℕ} {hs : List Home} (sizes : Homes hs t) (memory : List ℕ) where
  -- ---- conversions

  convert_int : (v : Value) → Named v → convert (at hs memory) int v ≡ gives (Number (to_int_in t v))
  convert_int (Number n) l = refl
  convert_int (Pair g n) l = ap (λ b. gives (Number ((b + n) % width))) (sym (sizes.start g l))

  convert_safe : (v : Value) → Named v → convert (at hs memory) SAFE v ≡ as_number (to_safe_in t v)
  convert_safe (Number n) l = refl
  convert_safe (Pair g n) l = rw (← sizes.start g l, ← sizes.size g l) (must_number (ltb n (size_in t g)) ((start_in t g + n) % width))

  pub convert_is : (s : Kind) (v : Value) → Named v → convert (at hs memory) s v ≡ kept_in t (convert_of s) v
  convert_is int v l = convert_int v l
  convert_is SAFE v l = convert_safe v l
  convert_is SEQ v l = convert_seq (at hs memory) v
  convert_is DYNAMIC v l = convert_dynamic (at hs memory) v

  pub kept_is : (s u : Kind) (v : Value) → Named v → kept (at hs memory) s u v ≡ kept_in t (keep_of s u) v
  kept_is int u v l = onward_gives (convert (at hs memory) u v) ∙ convert_is u v l
  kept_is SAFE u v l = onward_gives (convert (at hs memory) u v) ∙ convert_is u v l
  kept_is SEQ u v l = onward_gives (convert (at hs memory) u v) ∙ convert_is u v l
  kept_is DYNAMIC int v l = rw (convert_int v l)
  kept_is DYNAMIC SAFE v l = onward_gives (convert (at hs memory) SAFE v) ∙ convert_is SAFE v l
  kept_is DYNAMIC SEQ v l = onward_gives (convert (at hs memory) SEQ v) ∙ convert_is SEQ v l
  kept_is DYNAMIC DYNAMIC v l = onward_gives (convert (at hs memory) DYNAMIC v) ∙ convert_is DYNAMIC v l

-- ---- accesses

past_null : (a : ℕ) → (a ≡ 0 → ⊥) → not_null a ≡ gives a
past_null zero h = absurd (h refl)
past_null (suc a) h = refl

module _ (hs : List Home) (memory : List ℕ) where
  safe_held : (a : ℕ) → Fine (reach_safe (at hs memory) (Number (suc a))) → held hs (suc a) ≡ true
  safe_held a y = go (held hs (suc a)) refl
    where
      at : (b : Bool) → held hs (suc a) ≡ b → Fine (choose b (λ _. gives (suc a)) (λ _. stuck))
      at b h = rw (← h) y

      go : (b : Bool) → held hs (suc a) ≡ b → held hs (suc a) ≡ true
      go true h = h
      go false h = elim (at false h) [ ]

  safe_is : (a : ℕ) → Fine (reach_safe (at hs memory) (Number a)) → reach_safe (at hs memory) (Number a) ≡ not_null a
  safe_is zero y = refl
  safe_is (suc a) y = rw (safe_held a y)

  seq_is : (u : Ruled ℕ) → Fine (onward (as_number u) (λ v. reach_safe (at hs memory) v)) → onward (as_number u) (λ v. reach_safe (at hs memory) v) ≡ onward u not_null
  seq_is (gives a) y = safe_is a y
  seq_is (fails c) y = refl
  seq_is stuck y = elim y [ ]

  dynamic_is : (b : Bool) (a : ℕ) → (b ≡ true → a ≡ 0 → ⊥) → Fine (must Bounds b (reach_safe (at hs memory) (Number a))) → must Bounds b (reach_safe (at hs memory) (Number a)) ≡ must Bounds b (gives a)
  dynamic_is true a h y = safe_is a y ∙ past_null a (h refl)
  dynamic_is false a h y = refl

module _ {r : Routine} {m t : List ℕ} {hs : List Home} {memory : List ℕ} (sizes : Homes hs t) (ok : ValidState r m (record { homes = hs; memory = memory })) where
  -- An offset inside a home other than home 0 has an address other than 0.
  not_zero : (g n : ℕ) → n < size_in t (suc g) → suc g < 256 → (start_in t (suc g) + n) % width ≡ 0 → ⊥
  not_zero g n l s z =
      let b : n < (home_at hs (suc g)).size = rw (sizes.size (suc g) s) at l in
      let real : Real hs (suc g) = record { positive = omega arith; exists = omega arith } in
      omega (arith, sizes.start (suc g) s, ok.laid.low real, ok.laid.high real, ok.laid.few)

  pub reach_is : (s : Kind) (v : Value) → Named v → Fine (reach (at hs memory) s v) → reach (at hs memory) s v ≡ reach_in t (access_of s) v
  reach_is int v l y = elim y [ ]
  reach_is SAFE (Number a) l y = safe_is hs memory a y
  reach_is SAFE (Pair g n) l y = elim y [ ]
  reach_is SEQ v l y =
      let e : reach (at hs memory) SEQ v ≡ onward (as_number (to_safe_in t v)) (λ u. reach_safe (at hs memory) u) = rw (convert_safe sizes memory v l) in
      e ∙ seq_is hs memory (to_safe_in t v) (rw e at y)
  reach_is DYNAMIC (Number n) l y = elim y [ ]
  reach_is DYNAMIC (Pair zero n) l y = refl
  reach_is DYNAMIC (Pair (suc g) n) l y =
      let e : reach (at hs memory) DYNAMIC (Pair (suc g) n) ≡ must Bounds (ltb n (size_in t (suc g))) (reach_safe (at hs memory) (Number ((start_in t (suc g) + n) % width)))
      = rw (sizes.start (suc g) l, sizes.size (suc g) l) in
      e ∙ dynamic_is hs memory (ltb n (size_in t (suc g))) _ (λ b z. not_zero g n (ltb-true _ _ b) l z) (rw e at y)

  -- ---- an address that is reached lies in the memory

  held_inside : (a : ℕ) → held hs (suc a) ≡ true → Inside memory (suc a)
  held_inside a h = go (held_home hs (suc a) h).0 (held_home hs (suc a) h).1
    where
      go : (g : ℕ) → In (home_at hs g) (suc a) → Inside memory (suc a)
      go zero i = absurd (omega (arith, i.to, ok.laid.nowhere, ok.laid.single))
      go (suc g) i =
          let real : Real hs (suc g) = record { positive = omega arith; exists = omega (arith, i.from, i.to) } in
          record {
            from = omega arith;
            to = omega (arith, i.to, ok.laid.high real, ok.room);
            named = holds_named sizes (ok.holds real i);
          }

  safe_inside : (v : Value) (a : ℕ) → reach_safe (at hs memory) v ≡ gives a → Inside memory a
  safe_inside (Number zero) a h = absurd cc
  safe_inside (Number (suc n)) a h = go (held hs (suc n)) refl
    where
      go : (b : Bool) → held hs (suc n) ≡ b → Inside memory a
      go true e = let i : suc n ≡ a = (let j : ◌≡◌ {A = Ruled ℕ} (gives (suc n)) (gives a) = rw e at h in cc) in rw (← i) (held_inside n e)
      go false e = let j : ◌≡◌ {A = Ruled ℕ} stuck (gives a) = rw e at h in absurd cc
  safe_inside (Pair g n) a h = absurd cc

  seq_inside : (u : Ruled Value) (a : ℕ) → onward u (λ v. reach_safe (at hs memory) v) ≡ gives a → Inside memory a
  seq_inside (gives v) a h = safe_inside v a h
  seq_inside (fails c) a h = absurd cc
  seq_inside stuck a h = absurd cc

  must_inside : (c : Check) (b : Bool) (v : Value) (a : ℕ) → must c b (reach_safe (at hs memory) v) ≡ gives a → Inside memory a
  must_inside c true v a h = safe_inside v a h
  must_inside c false v a h = absurd cc

  pub reach_inside : (s : Kind) (v : Value) (a : ℕ) → reach (at hs memory) s v ≡ gives a → Inside memory a
  reach_inside int v a h = absurd cc
  reach_inside SAFE v a h = safe_inside v a h
  reach_inside SEQ v a h = seq_inside (convert (at hs memory) SAFE v) a h
  reach_inside DYNAMIC (Number n) a h = absurd cc
  reach_inside DYNAMIC (Pair zero n) a h = absurd cc
  reach_inside DYNAMIC (Pair (suc g) n) a h = must_inside Bounds (ltb n (home_at hs (suc g)).size) (Number (((home_at hs (suc g)).start + n) % width)) a h

  -- ---- reads

  read_is : (s u : Kind) (k : ℕ → Ruled Value) (v : Value) → Named v → Fine (load (at hs memory) s u v) → ((a : ℕ) → reach (at hs memory) s v ≡ gives a → fetched (at hs memory) s u (cell (at hs memory) a) ≡ k a)
      → load (at hs memory) s u v ≡ onward (reach_in t (access_of s) v) k
  read_is s u k v l y h =
      onward_same (reach (at hs memory) s v) _ k h ∙ ap (λ x. onward x k) (reach_is s v l (fine_first (reach (at hs memory) s v) _ y))

  -- ---- by the operation

  pub one_is : (o : ℕ) (v : Value) → Named v → Fine (one_rule (at hs memory) o v) → one_in t memory o v ≡ one_rule (at hs memory) o v
  unfolding one_in one_rule
  one_is zero v l y = elim y [ ]
  one_is (suc zero) v l y = elim y [ ]
  one_is (suc (suc zero)) v l y = sym (convert_is sizes memory int v l)
  one_is (suc (suc (suc zero))) v l y = sym (convert_is sizes memory SEQ v l)
  one_is (suc (suc (suc (suc zero)))) v l y = sym (convert_is sizes memory SAFE v l)
  one_is (suc (suc (suc (suc (suc zero))))) v l y = sym (read_is SAFE int (λ a. gives (cell_in memory a)) v l y (λ a h. refl))
  one_is (suc (suc (suc (suc (suc (suc zero)))))) v l y = sym (read_is SEQ int (λ a. gives (cell_in memory a)) v l y (λ a h. refl))
  one_is (suc (suc (suc (suc (suc (suc (suc zero))))))) v l y = sym (read_is DYNAMIC DYNAMIC (λ a. gives (cell_in memory a)) v l y (λ a h. refl))
  one_is (suc (suc (suc (suc (suc (suc (suc (suc zero)))))))) v l y =
      sym (read_is DYNAMIC int (λ a. gives (Number (to_int_in t (cell_in memory a)))) v l y
      (λ a h. convert_is sizes memory int (cell_in memory a) (reach_inside DYNAMIC v a h).named))
  one_is (suc (suc (suc (suc (suc (suc (suc (suc (suc o))))))))) v l y = elim y [ ]

  -- What a read reaches lies in the memory.
  reached : (s u : Kind) (v : Value) (a : ℕ) → Named v → Fine (load (at hs memory) s u v) → reach_in t (access_of s) v ≡ gives a → Inside memory a
  reached s u v a l y h =
      reach_inside s v a (reach_is s v l (fine_first (reach (at hs memory) s v) (λ a. fetched (at hs memory) s u (cell (at hs memory) a)) y) ∙ h)

  pub read_inside : (o k a : ℕ) (v : Value) → Named v → Fine (one_rule (at hs memory) o v) → o ≡ 5 + k → reach_in t k v ≡ gives a → Inside memory a
  unfolding one_rule
  read_inside o zero a v l y h e = reached SAFE int v a l (rw h at y) e
  read_inside o (suc zero) a v l y h e = reached SEQ int v a l (rw h at y) e
  read_inside o (suc (suc zero)) a v l y h e = reached DYNAMIC DYNAMIC v a l (rw h at y) e
  read_inside o (suc (suc (suc zero))) a v l y h e = reached DYNAMIC int v a l (rw h at y) e
  read_inside o (suc (suc (suc (suc k)))) a v l y h e =
      let i : o ≡ suc (suc (suc (suc (suc (suc (suc (suc (suc k)))))))) = omega arith in let z : Fine stuck = rw i at y in elim z [ ]

-- ---- two operands

pub sum_is : (v n : Value) → Fine (moved v n) → moved v n ≡ gives (plus_of v (number_of n))
sum_is (Number m) n h = elim h [ ]
sum_is (Pair g m) (Number n) h = refl
sum_is (Pair g m) (Pair i n) h = elim h [ ]

pub operated_is : (o : Operator) (v n : Value) → Fine (operated o v n) → operated o v n ≡ as_number (applied o (number_of v) (number_of n))
operated_is o (Number m) (Number n) h = refl
operated_is o (Number m) (Pair i n) h = elim h [ ]
operated_is o (Pair g m) n h = elim h [ ]

two_at : (k : ℕ) (v n : Value) → Fine (get_or (moved v n ∷ operators v n) k stuck)
    → get_or (gives (plus_of v (number_of n)) ∷ []) k (as_number (applied (operator_of (k - 1)) (number_of v) (number_of n))) ≡ get_or (moved v n ∷ operators v n) k stuck
two_at zero v n y = sym (sum_is v n y)
two_at (suc zero) v n y = sym (operated_is plus v n y)
two_at (suc (suc zero)) v n y = sym (operated_is minus v n y)
two_at (suc (suc (suc zero))) v n y = sym (operated_is times v n y)
two_at (suc (suc (suc (suc zero)))) v n y = sym (operated_is over v n y)
two_at (suc (suc (suc (suc (suc zero))))) v n y = sym (operated_is rest v n y)
two_at (suc (suc (suc (suc (suc (suc zero)))))) v n y = sym (operated_is equal v n y)
two_at (suc (suc (suc (suc (suc (suc (suc zero))))))) v n y = sym (operated_is less v n y)
two_at (suc (suc (suc (suc (suc (suc (suc (suc zero)))))))) v n y = sym (operated_is both v n y)
two_at (suc (suc (suc (suc (suc (suc (suc (suc (suc zero))))))))) v n y = sym (operated_is right v n y)
two_at (suc (suc (suc (suc (suc (suc (suc (suc (suc (suc k)))))))))) v n y = elim y [ ]

pub two_is : (o : ℕ) (v n : Value) → Fine (two_rule o v n) → two_in o v n ≡ two_rule o v n
unfolding two_in two_rule
two_is o v n y = let e : o - 10 ≡ o - 9 - 1 = omega arith in rw e (two_at (o - 9) v n y)
