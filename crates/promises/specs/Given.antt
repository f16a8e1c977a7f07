-- The starting memory cell by cell. Start rows rise, so no two name one cell, and each value stays where its row puts it.
use Rattle.std.specs.Prelude.{◌≡◌, refl, Bool, true, false, ◌&&◌, ◌||◌, ℕ, zero, suc, ◌+◌, ◌≤◌, ◌<◌, List, ltb, eqb}
use Rattle.std.proofs.Common.{◌∙◌, not-suc-le-zero, le_refl, arith, ltb-true, eqb-true, lt-ltb, le-ltb, eq-eqb}
use Rattle.std.proofs.Math.Decide.{ℕ_discrete}
use Rattle.rules.specs.Table.{StartRow, Routine, routine}
use Rattle.rules.specs.Reading.{below}
use Rattle.rules.specs.Shape.{home_at}
use Rattle.rules.specs.Kinds.{kind}
use Rattle.rules.specs.Memory.{State, cell}
use Rattle.rules.specs.Start.{start_address, given_in, cleared, given, start}
use Rattle.rules.specs.Tests.{parts_true}
use Rattle.promises.specs.Promises.{Starting, StartingMemory}
use Rattle.laws.proofs.WellRead.{formed_fine}
use Rattle.laws.specs.Store.{cell_same, cell_other}
use Rattle.laws.specs.Formed.{Formed}
use Rattle.laws.specs.Known.{Rising, formed_rising}
use Rattle.laws.specs.Start.{start_laid, blank_at, given_ok, row_in, given_small}

-- ---- rows rise

-- x comes before y, by home, then cell.
pub data Before (x y : StartRow) : Type 0 where
  lower : x.home < y.home → Before x y
  earlier : x.home ≡ y.home → x.cell < y.cell → Before x y

below_before : (x y : StartRow) → below x y ≡ true → Before x y
below_before x y h = go (ltb x.home y.home) refl h
  where
    go : (b : Bool) → ltb x.home y.home ≡ b → (b || (eqb x.home y.home && ltb x.cell y.cell)) ≡ true → Before x y
    go true e h = lower (ltb-true _ _ e)
    go false e h = let (p, q) = parts_true (eqb x.home y.home) _ h in earlier (eqb-true _ _ p) (ltb-true _ _ q)

pub before_below : (x y : StartRow) → Before x y → below x y ≡ true
before_below x y (lower a) = rw (lt-ltb x.home y.home a)
before_below x y (earlier a b) =
    rw (le-ltb x.home y.home (omega arith), eq-eqb x.home y.home a, lt-ltb x.cell y.cell b)

before_trans : {x y z : StartRow} → Before x y → Before y z → Before x z
before_trans (lower a) (lower b) = lower (omega arith)
before_trans (lower a) (earlier b c) = lower (omega arith)
before_trans (earlier a b) (lower c) = lower (omega arith)
before_trans (earlier a b) (earlier c d) = earlier (a ∙ c) (omega arith)

module _ (r : Routine) (rising : Rising r) where
  -- Every row comes after all earlier ones.
  rows_rise : (i j : ℕ) → i < j → j < r.values → Before (r.value i) (r.value j)
  rows_rise i zero l k = absurd (not-suc-le-zero l)
  rows_rise i (suc j) l k =
      let step : Before (r.value j) (r.value (suc j)) = below_before (r.value j) (r.value (suc j)) (rising (suc j) k) in
      elim (ℕ_discrete i j) [ yes e ↦ rw e step | no n ↦ before_trans (rows_rise i j (omega arith) (omega arith)) step ]

  module _ (m : List ℕ) (formed : Formed r) (lent : List ℕ) where
    -- So two rows name two addresses.
    apart_rows : (i j : ℕ) → i < j → j < r.values → start_address r (r.value i) ≡ start_address r (r.value j) → ⊥
    apart_rows i j l k e =
        let x = r.value i in
        let y = r.value j in
        let (f, a) = formed.values i (omega arith) in
        let (g, b) = formed.values j k in
        let same : x.home ≡ y.home
        = (start_laid r m formed lent).apart f.home g.home (row_in r m formed lent x f) (rw (← e) at (row_in r m formed lent y g)) in
        differ (rows_rise i j l k) same (rw same at e)
      where
        differ : Before (r.value i) (r.value j) → (r.value i).home ≡ (r.value j).home
            → (home_at r.homes (r.value j).home).start + (r.value i).cell ≡ (home_at r.homes (r.value j).home).start + (r.value j).cell → ⊥
        differ (lower c) s e = omega arith
        differ (earlier c d) s e = omega arith

    -- ---- the memory after the first n start rows

    abbrev after : ℕ → State
    after n = record { homes = r.homes; memory = given r m n (cleared r m lent) }

    positive : (i : ℕ) → i < r.values → 1 ≤ start_address r (r.value i)
    positive i l = omega (arith, (start_laid r m formed lent).low (formed.values i l).0.home)

    just_given : (n : ℕ) → n < r.values → cell (after (suc n)) (start_address r (r.value n)) ≡ given_in r m (r.value n)
    just_given n l =
        let ok = given_ok r m formed lent n (omega arith) in
        let (f, a) = formed.values n l in
        cell_same ok (start_address r (r.value n)) (given_in r m (r.value n)) (positive n l)
        (omega (arith, ok.room, ok.laid.high f.home, f.cell)) (given_small (kind m (home_at r.homes (r.value n).home).type) (r.value n).value f.value)

    given_cell : (n i : ℕ) → n ≤ r.values → i < n → cell (after n) (start_address r (r.value i)) ≡ given_in r m (r.value i)
    given_cell zero i l k = absurd (not-suc-le-zero k)
    given_cell (suc n) i l k =
        elim (ℕ_discrete i n) [
          | yes e ↦ rw e (just_given n l)
          | no d ↦
              cell_other (given_ok r m formed lent n (omega arith)) (start_address r (r.value n)) (start_address r (r.value i)) (given_in r m (r.value n)) (positive n l) (positive i (omega arith))
              (λ e. apart_rows i n (omega arith) l e)
              ∙ given_cell n i (omega arith) (omega arith)
        ]

    other_cell : (n a : ℕ) → n ≤ r.values → 1 ≤ a → ((i : ℕ) → i < n → a ≡ start_address r (r.value i) → ⊥) → cell (after n) a ≡ cell (after 0) a
    other_cell zero a l k h = refl
    other_cell (suc n) a l k h =
        cell_other (given_ok r m formed lent n (omega arith)) (start_address r (r.value n)) a (given_in r m (r.value n)) (positive n l) k (h n (omega arith))
        ∙ other_cell n a (omega arith) k (λ i j. h i (omega arith))

    starting : Starting r m (start r m lent)
    starting =
        record {
          given = λ i l. given_cell r.values i (le_refl r.values) l;
          others = λ g a y i h.
              other_cell r.values a (le_refl r.values) (omega (arith, (start_laid r m formed lent).low y, i.from)) h
              ∙ blank_at r m formed lent g a y i;
        }

pub starting_memory : StartingMemory
starting_memory s m lent at b f = starting (routine s at) (formed_rising s at f) m (formed_fine b f) lent
