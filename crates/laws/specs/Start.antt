-- The starting memory of a well-formed routine is valid: its cells' own starting values are, and each start value is for its cell.
use Rattle.std.specs.Prelude.{true, false, ◌≡◌, refl, ℕ, zero, suc, ◌+◌, ◌-◌, ◌≤◌, ◌<◌, List, [], ◌∷◌, length, get_or, drop, replicate}
use Rattle.rules.specs.Basic.{width}
use Rattle.rules.specs.Table.{Home, StartRow, Routine, total}
use Rattle.rules.specs.Shape.{home_at}
use Rattle.rules.specs.declared.Kind.{Kind}
use Rattle.rules.specs.declared.Kind.TheVariants.{int, SAFE, SEQ, DYNAMIC}
use Rattle.rules.specs.Kinds.{kind, is_dynamic}
use Rattle.rules.specs.Memory.{State, cell, encode}
use Rattle.rules.specs.Values.{null_value}
use Rattle.rules.specs.Start.{fresh_value, fresh_cells, given_value, cleared, given, start}
use Rattle.rules.specs.Valid.{In, Real, Laid, ValidAt, number, wild_pair, Valid, Holds, ValidState}
use Rattle.std.proofs.Common.{sym, ap, ◌∙◌, inl, not-suc-le-zero, le_refl, arith, length-append, get_or-append-add, drop-set-lt, lit<}
use Rattle.std.proofs.lemmas.List.{length-replicate, get_or-replicate}
use Rattle.std.proofs.Math.ListN.{get_or-append}
use Rattle.rules.specs.Tests.{false_true}
use Rattle.laws.specs.Values.{null_ok}
use Rattle.laws.specs.Store.{Small, decode_encode, put_ok}
use Rattle.laws.specs.Formed.{ValueFits, Consecutive, last, behind, Formed, int_type, ref_kind}

-- ---- homes one after the other, from address `from` on

low : {from : ℕ} {hs : List Home} (g : ℕ) → Consecutive from hs → 0 < (home_at hs g).size → from ≤ (home_at hs g).start
low g last l = absurd (not-suc-le-zero l)
low zero (behind e c) l = omega arith
low (suc g) (behind e c) l = omega (arith, low g c l)

high : {from : ℕ} {hs : List Home} (g : ℕ) → Consecutive from hs → 0 < (home_at hs g).size → (home_at hs g).start + (home_at hs g).size ≤ from + total hs
high g last l = absurd (not-suc-le-zero l)
high zero (behind e c) l = omega arith
high (suc g) (behind e c) l = omega (arith, high g c l)

some : {h : Home} {a : ℕ} → In h a → 0 < h.size
some x = omega (arith, x.from, x.to)

apart : {from : ℕ} {hs : List Home} (g i : ℕ) {a : ℕ} → Consecutive from hs → In (home_at hs g) a → In (home_at hs i) a → g ≡ i
apart g i last x y = absurd (omega (arith, x.to))
apart zero zero (behind e c) x y = refl
apart zero (suc i) (behind e c) x y = absurd (omega (arith, x.to, y.from, low i c (some y)))
apart (suc g) zero (behind e c) x y = absurd (omega (arith, y.to, x.from, low g c (some x)))
apart (suc g) (suc i) (behind e c) x y = ap suc (apart g i c x y)

-- Home g + 1 is home g of those after home 0.
next : (hs : List Home) (g : ℕ) → home_at hs (suc g) ≡ home_at (drop 1 hs) g
next [] g = refl
next (h ∷ hs) g = refl

-- ---- what stands in their cells

null_small : (s : Kind) → Small (null_value s)
null_small int = lit< tt
null_small SAFE = lit< tt
null_small SEQ = lit< tt
null_small DYNAMIC = lit< tt

start_small : (s t : Kind) → Small (fresh_value s t)
start_small int t = lit< tt
start_small SAFE t = null_small t
start_small SEQ t = null_small t
start_small DYNAMIC t = lit< tt

pub given_small : (k : Kind) (n : ℕ) → n < width → Small (given_value k n)
given_small int n l = l
given_small SAFE n l = l
given_small SEQ n l = l
given_small DYNAMIC n l = l

module _ (r : Routine) (m : List ℕ) where
  abbrev entry : Home → ℕ
  entry h = encode (fresh_value (kind m h.type) (kind m (r.target h.type)))

  pub length_start : (hs : List Home) → length (fresh_cells r m hs) ≡ total hs
  length_start [] = refl
  length_start (h ∷ hs) = rw (length-append, length-replicate, length_start hs)

  filled : {from : ℕ} {hs : List Home} (g a : ℕ) → Consecutive from hs → In (home_at hs g) a → get_or (fresh_cells r m hs) (a - from) 0 ≡ entry (home_at hs g)
  filled g a last x = absurd (omega (arith, x.to))
  filled zero a (behind {from = from} {h = h} {hs = hs} e c) x =
      let k : a - from < h.size = omega (arith, x.from, x.to) in
      get_or-append (replicate h.size (entry h)) (fresh_cells r m hs) 0 (a - from) (rw length-replicate k)
      ∙ get_or-replicate h.size (a - from) (entry h) 0 k
  filled (suc g) a (behind {from = from} {h = h} {hs = hs} e c) x =
      let k : from + h.size ≤ a = omega (arith, x.from, low g c (some x)) in
      let e : a - from ≡ length (replicate h.size (entry h)) + (a - (from + h.size)) = rw length-replicate (omega arith) in
      rw e (get_or-append-add (replicate h.size (entry h)) (fresh_cells r m hs) (a - (from + h.size)) 0 ∙ filled g a c x)

  start_holds : (hs : List Home) (s : Kind) (t : ℕ) → (s ≡ int → ⊥)
      → (is_dynamic s ≡ false → Valid r m hs t (fresh_value s (kind m t))) × (is_dynamic s ≡ true → ValidAt r m hs DYNAMIC 0 (fresh_value s (kind m t)))
  start_holds hs int t n = absurd (n refl)
  start_holds hs SAFE t n = (λ _. null_ok (kind m t), λ d. false_true d)
  start_holds hs SEQ t n = (λ _. null_ok (kind m t), λ d. false_true d)
  start_holds hs DYNAMIC t n = (λ d. false_true (sym d), λ _. wild_pair (inl refl) (lit< tt))

  module _ (formed : Formed r) (lent : List ℕ) where
    abbrev hs : List Home
    hs = drop 1 r.homes

    -- The state before the start values.
    abbrev blank : List ℕ → State
    blank l = record { homes = r.homes; memory = cleared r m l }

    blank_cell : (g a : ℕ) → 0 < (home_at hs g).size → In (home_at hs g) a → cell (blank lent) a ≡ fresh_value (kind m (home_at hs g).type) (kind m (r.target (home_at hs g).type))
    blank_cell g a l i =
        let k : a - 1 < length (fresh_cells r m hs) = rw (length_start hs) (omega (arith, i.from, i.to, low g formed.consecutive l, high g formed.consecutive l)) in
        rw (get_or-append (fresh_cells r m hs) (drop (length (fresh_cells r m hs)) lent) 0 (a - 1) k, filled g a formed.consecutive i)
        (decode_encode (fresh_value (kind m (home_at hs g).type) (kind m (r.target (home_at hs g).type))) (start_small (kind m (home_at hs g).type) (kind m (r.target (home_at hs g).type))))

    -- A cell of home g, before the start values.
    pub blank_at : (g a : ℕ) → Real r.homes g → In (home_at r.homes g) a
        → cell (blank lent) a ≡ fresh_value (kind m (home_at r.homes g).type) (kind m (r.target (home_at r.homes g).type))
    blank_at zero a y i = absurd (not-suc-le-zero y.positive)
    blank_at (suc g) a y i = rw (next r.homes g) (blank_cell g a (rw (next r.homes g) at y.exists) (rw (next r.homes g) at i))

    blank_hold : (g a : ℕ) → Real r.homes g → In (home_at r.homes g) a → Holds r m r.homes (home_at r.homes g) (cell (blank lent) a)
    blank_hold g a y i =
        let t = (home_at r.homes g).type in
        let n : kind m t ≡ int → ⊥ = ref_kind m t (formed.homed y).0 in
        let (p, q) = start_holds r.homes (kind m t) (r.target t) n in
        rw (blank_at g a y i) (record { plain = p; wild = q })

    low' : (g : ℕ) → Real r.homes g → 1 ≤ (home_at r.homes g).start
    low' zero y = absurd (not-suc-le-zero y.positive)
    low' (suc g) y = rw (next r.homes g) (low g formed.consecutive (rw (next r.homes g) at y.exists))

    high' : (g : ℕ) → Real r.homes g → (home_at r.homes g).start + (home_at r.homes g).size ≤ 1 + total hs
    high' zero y = absurd (not-suc-le-zero y.positive)
    high' (suc g) y = rw (next r.homes g) (high g formed.consecutive (rw (next r.homes g) at y.exists))

    apart' : (g h : ℕ) {a : ℕ} → Real r.homes g → Real r.homes h → In (home_at r.homes g) a → In (home_at r.homes h) a → g ≡ h
    apart' zero h y z i j = absurd (not-suc-le-zero y.positive)
    apart' (suc g) zero y z i j = absurd (not-suc-le-zero z.positive)
    apart' (suc g) (suc h) y z i j = ap suc (apart g h formed.consecutive (rw (next r.homes g) at i) (rw (next r.homes h) at j))

    pub start_laid : Laid r (total hs) r.homes
    start_laid =
        record {
          nowhere = formed.nowhere;
          single = formed.single;
          low = λ {g = g} y. low' g y;
          high = λ {g = g} y. high' g y;
          apart = λ {g = g} {h = h} y z i j. apart' g h y z i j;
          typed = λ y. formed.homed y;
          few = formed.few;
        }

    blank_ok : ValidState r m (blank lent)
    blank_ok =
        record {
          cells = total hs;
          room = rw (length-append, length_start hs) (omega arith);
          laid = start_laid;
          declared = λ y. (y, refl);
          holds = λ {g = g} {a = a} y i. blank_hold g a y i;
        }

    -- ---- the start values

    -- A start row's address lies in its home.
    pub row_in : (x : StartRow) → ValueFits r x → In (home_at r.homes x.home) ((home_at r.homes x.home).start + x.cell)
    row_in x f = record { from = omega arith; to = omega (arith, f.cell) }

    -- In an int cell any number is valid; in a DYNAMIC home, a pair of home 0.
    given_holds : (k : Kind) (t n : ℕ) → t ≡ 0 → n < width
        → (is_dynamic k ≡ false → Valid r m r.homes t (given_value k n)) × (is_dynamic k ≡ true → ValidAt r m r.homes DYNAMIC 0 (given_value k n))
    given_holds int t n e l = (λ _. rw e (number l), λ d. false_true d)
    given_holds SAFE t n e l = (λ _. rw e (number l), λ d. false_true d)
    given_holds SEQ t n e l = (λ _. rw e (number l), λ d. false_true d)
    given_holds DYNAMIC t n e l = (λ d. false_true (sym d), λ _. wild_pair (inl refl) l)

    pub given_ok : (n : ℕ) → n ≤ r.values → ValidState r m (record { homes = r.homes; memory = given r m n (cleared r m lent) })
    given_ok zero l = blank_ok
    given_ok (suc n) l =
        let x = r.value n in
        let h = home_at r.homes x.home in
        let (f, shaped) = formed.values n l in
        let (p, q) = given_holds (kind m h.type) (r.target h.type) x.value (int_type (r.target h.type) shaped) f.value in
        put_ok (given_ok n (omega arith)) x.home (h.start + x.cell) (given_value (kind m h.type) x.value) f.home (row_in x f) (record { plain = p; wild = q })

    pub start_ok : ValidState r m (start r m lent)
    start_ok = given_ok r.values (le_refl r.values)

    -- A start row's cell is one of the homes' cells.
    pub row_below : (i : ℕ) → i < r.values → (home_at r.homes (r.value i).home).start + (r.value i).cell - 1 < total hs
    row_below i l =
        let f = (formed.values i l).0 in
        omega (arith, f.cell, low' (r.value i).home f.home, high' (r.value i).home f.home)

    -- Entries past the cells stay as they were.
    pub given_past : (n : ℕ) (l : List ℕ) → n ≤ r.values → drop (total hs) (given r m n l) ≡ drop (total hs) l
    given_past zero l k = refl
    given_past (suc n) l k =
        let x = r.value n in
        let h = home_at r.homes x.home in
        drop-set-lt (total hs) (given r m n l) (h.start + x.cell - 1) (encode (given_value (kind m h.type) x.value)) (row_below n k)
        ∙ given_past n l (omega arith)
