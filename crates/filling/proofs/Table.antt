-- A word that is written is the row's, and the others stay.
use Rattle.std.proofs.Common.{◌≡◌, refl, ap, ◌∙◌, ℕ, zero, suc, ◌+◌, ◌*◌, ◌<◌, ◌≤◌, List, length, get_or, not-suc-le-zero, add-one, arith}
use Rattle.std.proofs.Math.ListN.{set, length-set, get_or-eq_default}
use Rattle.std.proofs.Math.Seq.{get_or-set_same, get_or-set_other}
use Rattle.std.proofs.Math.Decide.{ℕ_discrete, dec_le}
use Rattle.rules.specs.declared.Starts.{Starts}
use Rattle.rules.specs.Basic.{half}
use Rattle.rules.specs.Table.{Home, Routine, layout, routine}
use Rattle.rules.specs.Shape.{home_at, no_home}
use Rattle.laws.specs.WellRead.{WellRead}
use Rattle.words.specs.Words.{low_in, high_in, ExprWord, CommandWord, start_in, size_in, Homes}
use Rattle.view.specs.declared.HomeRow.{HomeRow}
use Rattle.view.specs.Rows.{home_row}
use Rattle.view.specs.Means.{home_has, home_in_range}
use Rattle.filling.specs.Filling.{HomesDone, CommandsDone}

-- By whether two numbers are equal, and by which is the larger.
same_or : {X : Type 0} (i j : ℕ) → (i ≡ j → X) → ((i ≡ j → ⊥) → X) → X
same_or i j f g = elim (ℕ_discrete i j) [ yes e ↦ f e | no n ↦ g n ]

less_or : {X : Type 0} (i j : ℕ) → (i < j → X) → (j ≤ i → X) → X
less_or i j f g = elim (dec_le j i) [ yes l ↦ g l | no n ↦ f (omega arith) ]

-- ---- words of rows

homes_stay : {hs : List Home} {t : List ℕ} (i w : ℕ) → i < 2048 → Homes hs t → Homes hs (set t i w)
homes_stay {hs} {t} i w l h =
    record {
      few = h.few;
      start = λ g k. ap low_in (get_or-set_other t i (2048 + g) w 0 (λ e. omega arith)) ∙ h.start g k;
      size = λ g k. ap high_in (get_or-set_other t i (2048 + g) w 0 (λ e. omega arith)) ∙ h.size g k;
    }

below : (i e : ℕ) → e < i + 1 → (e ≡ i → ⊥) → e < i
below i e k q = omega (arith, k, q)

-- The words of the homes, and of the first n expression rows.
pub record ExprsDone (r : Routine) (m : List ℕ) (n : ℕ) (t : List ℕ) : Type 0 where
  pub size : length t ≡ 2304
  pub homes : Homes r.homes t
  pub exprs : (e : ℕ) → e < n → ExprWord r m (r.expr e) (get_or t e 0)
  pub no_rows : (k : ℕ) → n ≤ k → k < 2048 → get_or t k 0 ≡ 0

module _ {r : Routine} {m t : List ℕ} where
  pub exprs_more : (i : ℕ) {w : ℕ} → i < 1024 → ExprsDone r m i t → ExprWord r m (r.expr i) w → ExprsDone r m (i + 1) (set t i w)
  exprs_more i {w} l h x =
      record {
        size = length-set t i w ∙ h.size;
        homes = homes_stay i w (omega arith) h.homes;
        exprs = λ e k. same_or e i
            (λ q. rw (q, get_or-set_same t i w 0 (omega (arith, h.size))) x)
            (λ q. rw (get_or-set_other t i e w 0 q) (h.exprs e (below i e k q)));
        no_rows = λ k a b. get_or-set_other t i k w 0 (λ q. omega (arith, a, q)) ∙ h.no_rows k (omega arith) b;
      }

  pub commands_more : (i : ℕ) {w : ℕ} → r.exprs ≤ 1024 → i < 1024 → CommandsDone r m i t → CommandWord r m (r.command i) w → CommandsDone r m (i + 1) (set t (1024 + i) w)
  commands_more i {w} few l h x =
      record {
        size = length-set t (1024 + i) w ∙ h.size;
        homes = homes_stay (1024 + i) w (omega arith) h.homes;
        exprs = λ e k. rw (get_or-set_other t (1024 + i) e w 0 (λ q. omega arith)) (h.exprs e k);
        no_exprs = λ e a b. get_or-set_other t (1024 + i) e w 0 (λ q. omega arith) ∙ h.no_exprs e a b;
        commands = λ c k. same_or c i
            (λ q. rw (q, get_or-set_same t (1024 + i) w 0 (omega (arith, h.size))) x)
            (λ q. rw (get_or-set_other t (1024 + i) (1024 + c) w 0 (λ e. q (omega arith))) (h.commands c (below i c k q)));
        no_commands = λ c a b. get_or-set_other t (1024 + i) (1024 + c) w 0 (λ q. omega (arith, a, q)) ∙ h.no_commands c (omega arith) b;
      }

-- ---- words of homes

layout_length : (s : List ℕ) (q from n : ℕ) → length (layout s q from n) ≡ n
layout_length s q from zero = refl
layout_length s q from (suc n) = ap suc (layout_length s (q + 4) (from + half s (q + 2)) n)

pub homes_length : (s : List ℕ) (at : Starts) → length (routine s at).homes ≡ suc (half s at.homes)
homes_length s at = ap suc (layout_length s (at.homes + 2) 1 (half s at.homes))

first_start : (s : List ℕ) (q from n : ℕ) → 0 < n → from ≡ (home_at (layout s q from n) 0).start
first_start s q from zero l = absurd (not-suc-le-zero l)
first_start s q from (suc n) l = refl

-- Homes lie one after the other.
next_start : (s : List ℕ) (q from n i : ℕ) → suc i < n
    → (home_at (layout s q from n) i).start + (home_at (layout s q from n) i).size ≡ (home_at (layout s q from n) (suc i)).start
next_start s q from zero i l = absurd (not-suc-le-zero l)
next_start s q from (suc n) zero l = first_start s (q + 4) (from + half s (q + 2)) n (omega arith)
next_start s q from (suc n) (suc i) l = next_start s (q + 4) (from + half s (q + 2)) n i (omega arith)

home_next : (s : List ℕ) (at : Starts) (g : ℕ) → 1 ≤ g → g < half s at.homes
    → (home_at (routine s at).homes g).start + (home_at (routine s at).homes g).size ≡ (home_at (routine s at).homes (suc g)).start
home_next s at zero f l = absurd (not-suc-le-zero f)
home_next s at (suc g) f l = next_start s (at.homes + 2) 1 (half s at.homes) g l

-- Homes below number g have their words, and home g starts at `from`.
pub record HomesTo (s : List ℕ) (at : Starts) (g from : ℕ) (t : List ℕ) : Type 0 where
  pub size : length t ≡ 2304
  pub low : from ≤ 65536 * g
  pub next : g ≤ half s at.homes → from ≡ (home_at (routine s at).homes g).start
  pub starts : (h : ℕ) → h < g → start_in t h ≡ (home_at (routine s at).homes h).start
  pub sizes : (h : ℕ) → h < g → size_in t h ≡ (home_at (routine s at).homes h).size
  pub empty : (h : ℕ) → g ≤ h → get_or t (2048 + h) 0 ≡ 0
  pub no_rows : (k : ℕ) → k < 2048 → get_or t k 0 ≡ 0

module _ {s : List ℕ} {at : Starts} where
  module _ (known : WellRead s at) {g from : ℕ} {t : List ℕ} (first : 1 ≤ g) (last : g ≤ half s at.homes) (h : HomesTo s at g from t) where
    pub home_near : from ≤ 4194304
    home_near = omega (arith, h.low, known.homes.few)

    pub homes_more : {row : HomeRow} {size w : ℕ} → row ≡ home_row s at g → size ≡ row.size → w ≡ from + 4294967296 * size
        → HomesTo s at (g + 1) (from + size) (set t (2048 + g) w)
    homes_more {row} {size} {w} is size_is made =
        let few : g ≤ 64 = omega (arith, last, known.homes.few) in
        let c : get_or (set t (2048 + g) w) (2048 + g) 0 ≡ w = get_or-set_same t (2048 + g) w 0 (omega (arith, h.size)) in
        let z : size ≡ (home_at (routine s at).homes g).size = size_is ∙ ap (λ (x : HomeRow). x.size) is ∙ (home_has s at g first last).size in
        let small : size ≤ 1024 = rw z (rw (home_has s at g first last).size at (home_in_range s at known g first last).1.1) in
        let a : low_in w ≡ from = omega (arith, made, home_near) in
        let b : high_in w ≡ size = omega (arith, made, home_near) in
        record {
          size = length-set t (2048 + g) w ∙ h.size;
          low = omega (arith, h.low);
          next = λ l. rw (z, h.next last, add-one g) (home_next s at g first (omega arith));
          starts = λ i l. same_or i g
              (λ e. rw (e, c) (a ∙ h.next last))
              (λ e. rw (get_or-set_other t (2048 + g) (2048 + i) w 0 (λ u. e (omega arith))) (h.starts i (below g i l e)));
          sizes = λ i l. same_or i g
              (λ e. rw (e, c) (b ∙ z))
              (λ e. rw (get_or-set_other t (2048 + g) (2048 + i) w 0 (λ u. e (omega arith))) (h.sizes i (below g i l e)));
          empty = λ i l. get_or-set_other t (2048 + g) (2048 + i) w 0 (λ u. omega arith) ∙ h.empty i (omega arith);
          no_rows = λ k l. get_or-set_other t (2048 + g) k w 0 (λ u. omega arith) ∙ h.no_rows k l;
        }

  -- All homes have their words.
  pub homes_all : {g from : ℕ} {t : List ℕ} → WellRead s at → half s at.homes + 1 ≡ g → HomesTo s at g from t → HomesDone (routine s at) t
  homes_all {g} known last h =
      record {
        size = h.size;
        homes =
            record {
              few = λ i k. less_or i g (λ m. omega (arith, known.homes.few)) (λ m. absurd (omega (arith, k, ap (λ (x : Home). x.size) (past i m))));
              start = λ i k. less_or i g (λ m. h.starts i m) (λ m. rw (h.empty i m, past i m));
              size = λ i k. less_or i g (λ m. h.sizes i m) (λ m. rw (h.empty i m, past i m));
            };
        no_rows = h.no_rows;
      }
    where
      past : (i : ℕ) → g ≤ i → home_at (routine s at).homes i ≡ no_home
      past i m = get_or-eq_default (routine s at).homes no_home (omega (arith, homes_length s at))
