-- What refusals 1 to 6 and 10 leave: a file that earns none stands for a well-formed routine.
use Rattle.std.specs.Prelude.{◌≡◌, refl, true, List, [], ◌∷◌, get_or, leb, ltb}
use Rattle.std.proofs.Common.{sym, ap, ◌∙◌, not-suc-le-zero, leb-true, ltb-true}
use Prim.Native.Nat.{ℕ, zero, suc, ◌+◌, ◌*◌, ◌-◌, ◌≤◌, ◌<◌}
use native.Mathlib.Omega.{arith}
use Rattle.rules.specs.declared.Starts.{Starts}
use Rattle.rules.specs.Basic.{width, half, byte, in_range, fine, Bytes}
use Rattle.rules.specs.Table.{Expr, Command, Routine, layout, operator_of, expr_of, expr_at, command_at, routine, literal, home, cast, null, sum, read, op, skip, then, store, if_else, while}
use Rattle.rules.specs.Reading.{expr_good, command_good, expr_spare, command_spare, row_good}
use Rattle.rules.specs.Shape.{home_at}
use Rattle.rules.specs.Kinds.{Acceptable}
use Rattle.rules.specs.Valid.{Real}
use Rattle.rules.specs.Calls.{formed, judged}
use Rattle.rules.specs.Tests.{fine_same, false_true, parts_true, by_test, in_range_lem, both_less}
use Rattle.rules.specs.Tested.{kinds_acceptable, acceptable_kinds}
use Rattle.laws.specs.WellRead.{WellRead}
use Rattle.laws.specs.Known.{unrefused, values_good}
use Rattle.laws.specs.Formed.{Fits, CommandFits, ValueFits, Consecutive, last, behind}

-- ---- homes

pub layout_at : (s : List ℕ) (q from n i : ℕ) → i < n
    → ((home_at (layout s q from n) i).type ≡ half s (q + 4 * i)) × ((home_at (layout s q from n) i).size ≡ half s (q + 4 * i + 2))
layout_at s q from zero i l = absurd (not-suc-le-zero l)
layout_at s q from (suc n) zero l = let e : q + 4 * 0 ≡ q = omega arith in rw e (refl, refl)
layout_at s q from (suc n) (suc i) l =
    let e : q + 4 * suc i ≡ q + 4 + 4 * i = omega arith in rw e (layout_at s (q + 4) (from + half s (q + 2)) n i (omega arith))

layout_real : (s : List ℕ) (q from n i : ℕ) → 0 < (home_at (layout s q from n) i).size → i < n
layout_real s q from zero i h = absurd (not-suc-le-zero h)
layout_real s q from (suc n) zero h = omega arith
layout_real s q from (suc n) (suc i) h = omega (arith, layout_real s (q + 4) (from + half s (q + 2)) n i h)

pub layout_consecutive : (s : List ℕ) (q from n : ℕ) → Consecutive from (layout s q from n)
layout_consecutive s q from zero = last
layout_consecutive s q from (suc n) = behind refl (layout_consecutive s (q + 4) (from + half s (q + 2)) n)

-- ---- rows

-- A literal is below 2^32; nothing is asked of other rows.
abbrev Small : Expr → Type 0
Small (literal n) = n < width
Small (home g) = Unit {0}
Small (cast a t) = Unit {0}
Small (null t) = Unit {0}
Small (sum a b) = Unit {0}
Small (read a) = Unit {0}
Small (op o a b) = Unit {0}
Small Expr.none = Unit {0}

low_small : (tag a b : ℕ) → a < 65536 → b < 65536
    → Small (get_or (literal (a + 65536 * b) ∷ home a ∷ Expr.none ∷ cast a b ∷ null a ∷ sum a b ∷ read a ∷ []) tag Expr.none)
low_small zero a b h l = omega arith
low_small (suc zero) a b h l = tt
low_small (suc (suc zero)) a b h l = tt
low_small (suc (suc (suc zero))) a b h l = tt
low_small (suc (suc (suc (suc zero)))) a b h l = tt
low_small (suc (suc (suc (suc (suc zero))))) a b h l = tt
low_small (suc (suc (suc (suc (suc (suc zero)))))) a b h l = tt
low_small (suc (suc (suc (suc (suc (suc (suc tag))))))) a b h l = tt

expr_small : (tag a b : ℕ) → a < 65536 → b < 65536 → Small (expr_of tag a b)
expr_small tag a b h l =
    by_test Small (ltb tag 16) _ _ (λ _. low_small tag a b h l)
    (λ _. by_test Small (ltb tag 25) (λ _. op (operator_of (tag - 16)) a b) (λ _. Expr.none) (λ _. tt) (λ _. tt))

pub command_fits : (r : Routine) (c : ℕ) (x : Command) → command_good r.exprs c x ≡ true → CommandFits r c x
command_fits r c skip h = tt
command_fits r c (then a b) h = both_less a b c c h
command_fits r c (store a b) h = both_less a b r.exprs r.exprs h
command_fits r c (if_else a b d) h =
    let (p, q) = parts_true (ltb a r.exprs) _ h in let (u, v) = both_less b d c c q in (ltb-true a r.exprs p, u, v)
command_fits r c (while a b) h = both_less a b r.exprs c h
command_fits r c Command.none h = false_true h

pub half_small : {s : List ℕ} → Bytes s → (i : ℕ) → half s i < 65536
half_small bytes i = omega (arith, bytes.each i, bytes.each (i + 1))

module _ {s : List ℕ} {at : Starts} (read : WellRead s at) where
  home_row_lem : (i : ℕ) → i < half s at.homes
      → (1 ≤ half s (at.homes + 2 + 4 * i)) × (half s (at.homes + 2 + 4 * i) ≤ half s at.types) × (1 ≤ half s (at.homes + 2 + 4 * i + 2))
  unfolding row_good
  home_row_lem i l =
      let q = at.homes + 2 + 4 * i in
      let (a, b) = parts_true (in_range 1 (half s q) (half s at.types)) _ (read.homes.good i l) in
      let (c, d) = in_range_lem 1 (half s q) (half s at.types) a in
      (c, d, (in_range_lem 1 (half s (q + 2)) 1024 b).0)

  pub target_falls : (t : ℕ) → t < half s at.types → (routine s at).target (suc t) ≤ t
  unfolding row_good
  target_falls t l =
      let e : at.types + 2 * suc t ≡ at.types + 2 + 2 * t = omega arith in
      rw e (leb-true _ _ (read.types.good t l))

  home_real : (g : ℕ) → 1 ≤ g → g ≤ half s at.homes → Real (routine s at).homes g
  home_real zero h l = absurd (not-suc-le-zero h)
  home_real (suc g) h l = record { positive = h; exists = rw (layout_at s (at.homes + 2) 1 _ g l).1 (home_row_lem g l).2 }

  pub homed : (g : ℕ) → Real (routine s at).homes g
      → (1 ≤ (home_at (routine s at).homes g).type) × ((home_at (routine s at).homes g).type ≤ half s at.types)
  homed zero y = absurd (not-suc-le-zero y.positive)
  homed (suc g) y =
      let l : g < half s at.homes = layout_real s (at.homes + 2) 1 _ g y.exists in
      let (a, b, c) = home_row_lem g l in
      rw (layout_at s (at.homes + 2) 1 _ g l).0 (a, b)

  expr_fits : (e : ℕ) (x : Expr) → Small x → expr_good (half s at.types) (half s at.homes) e x ≡ true → Fits (routine s at) e x
  expr_fits e (literal n) z h = z
  expr_fits e (home g) z h = let (a, b) = in_range_lem 1 g (half s at.homes) h in home_real g a b
  expr_fits e (cast a t) z h = let (p, q) = parts_true (ltb a e) (leb t (half s at.types)) h in (ltb-true a e p, leb-true t (half s at.types) q)
  expr_fits e (null t) z h = (in_range_lem 1 t (half s at.types) h).1
  expr_fits e (sum a b) z h = both_less a b e e h
  expr_fits e (Expr.read a) z h = ltb-true a e h
  expr_fits e (op o a b) z h = both_less a b e e h
  expr_fits e Expr.none z h = false_true h

  pub expr_row_fits : Bytes s → (e : ℕ) → e < half s at.exprs → Fits (routine s at) e ((routine s at).expr e)
  unfolding row_good
  expr_row_fits bytes e l =
      let q = at.exprs + 2 + 5 * e in
      expr_fits e (expr_at s q) (expr_small (byte s q) _ _ (half_small bytes (q + 1)) (half_small bytes (q + 3)))
      (parts_true (expr_spare (byte s q) (half s (q + 1)) (half s (q + 3))) _ (read.exprs.good e l)).1

  pub null_ref : (e t : ℕ) → e < half s at.exprs → (routine s at).expr e ≡ null t → 1 ≤ t
  unfolding row_good
  null_ref e t l q =
      let p = at.exprs + 2 + 5 * e in
      let g = (parts_true (expr_spare (byte s p) (half s (p + 1)) (half s (p + 3))) _ (read.exprs.good e l)).1 in
      (in_range_lem 1 t (half s at.types) (ap (expr_good (half s at.types) (half s at.homes) e) (sym q) ∙ g)).0

  pub command_row_fits : (c : ℕ) → c < half s at.commands → CommandFits (routine s at) c ((routine s at).command c)
  unfolding row_good
  command_row_fits c l =
      let q = at.commands + 2 + 7 * c in
      command_fits (routine s at) c (command_at s q)
      (parts_true (command_spare (byte s q) (half s (q + 1)) (half s (q + 3)) (half s (q + 5))) _ (read.commands.good c l)).1

  -- The size of home g is what its row says.
  home_size : (g : ℕ) → 1 ≤ g → g ≤ half s at.homes → (home_at (routine s at).homes g).size ≡ half s (at.homes + 4 * g)
  home_size zero h l = absurd (not-suc-le-zero h)
  home_size (suc g) h l =
      let e : at.homes + 4 * suc g ≡ at.homes + 2 + 4 * g + 2 = omega arith in
      rw e (layout_at s (at.homes + 2) 1 _ g l).1

  pub value_row_fits : Bytes s → (i : ℕ) → i < half s at.values → ValueFits (routine s at) ((routine s at).value i)
  unfolding row_good
  value_row_fits bytes i l =
      let q = at.values + 2 + 8 * i in
      let (a, b) = parts_true (in_range 1 (half s q) (half s at.homes)) _ (values_good read.values i l) in
      let (c, d) = in_range_lem 1 (half s q) (half s at.homes) a in
      record {
        home = home_real (half s q) c d;
        cell = rw (home_size (half s q) c d) (ltb-true _ _ b);
        value = omega (arith, half_small bytes (q + 4), half_small bytes (q + 4 + 2));
      }

-- ---- from verdicts

-- Refusals 7 and 8 leave an acceptable marking, and refuse no other.
pub judged_fine : (s m : List ℕ) {at : Starts} → judged s m ≡ fine at → (formed s ≡ fine at) × Acceptable (routine s at) m
unfolding judged
judged_fine s m {at} h =
    let (at', (k, k₁)) = unrefused (formed s) _ at h in
    let (a, k₂) = kinds_acceptable (routine s at') m _ at k₁ in
    rw (← fine_same k₂) (k, a)

pub acceptable_judged : (s m : List ℕ) {at : Starts} → formed s ≡ fine at → Acceptable (routine s at) m → judged s m ≡ fine at
unfolding judged
acceptable_judged s m {at} f a = rw f (acceptable_kinds (routine s at) m (λ _. fine at) a)
