-- A table of targets as a routine of types alone, and what equal types share there.
use Rattle.std.specs.Prelude.{◌≡◌, refl, Bool, true, List, [], get_or}
use Prim.Native.Nat.{ℕ, zero, suc, ◌≤◌, ◌<◌}
use Rattle.std.proofs.Common.{not-suc-le-zero, arith}
use Rattle.rules.specs.Table.{Expr, Command, Routine}
use Rattle.rules.specs.declared.Kind.TheVariants.{int, DYNAMIC}
use Rattle.rules.specs.Kinds.{kind_of, deep, same}
use Rattle.rules.specs.Graph.{byte_of}
use Rattle.laws.specs.Convert.{Conv, Spread}
use Rattle.laws.specs.Same.{same_kind_lem, same_targets, reflexive, symmetric, trans}
use Rattle.raise.specs.Marks.{at}
use Rattle.raise.specs.Demands.{Falls, Ref, Upward, Level}

-- n types with their targets.
abbrev pub plain : ℕ → List ℕ → Routine
plain n T =
    record {
      types = n;
      target = λ t. at T t;
      type_place = λ t. 0;
      homes = [];
      exprs = 0;
      expr = λ e. Expr.none;
      expr_place = λ e. 0;
      commands = 0;
      command = λ c. Command.none;
      command_place = λ c. 0;
      values = 0;
      value = λ i. record { home = 0; cell = 0; value = 0 };
      value_place = λ i. 0;
    }

-- ---- equivalences

pub record Equal (e : ℕ → ℕ → Bool) : Type 0 where
  pub itself : (x : ℕ) → e x x ≡ true
  pub turned : (x y : ℕ) → e x y ≡ true → e y x ≡ true
  pub chained : (x y z : ℕ) → e x y ≡ true → e y z ≡ true → e x z ≡ true

pub same_equal : (n : ℕ) (T w : List ℕ) → Equal (same (plain n T) w)
same_equal n T w = record { itself = reflexive (plain n T) w; turned = symmetric (plain n T) w; chained = trans (plain n T) w }

-- ---- bytes of one kind

pub one_kind : (a b i : ℕ) → i ≤ 2 → kind_of a ≡ kind_of b → i ≤ a → i ≤ b
one_kind zero b i l e h = omega arith
one_kind (suc zero) zero i l e h = let z : ◌≡◌ {A = ℕ} 0 1 = cc in absurd (omega arith)
one_kind (suc zero) (suc b) i l e h = omega arith
one_kind (suc (suc a)) zero i l e h = let z : ◌≡◌ {A = ℕ} 0 1 = cc in absurd (omega arith)
one_kind (suc (suc a)) (suc zero) i l e h = let z : ◌≡◌ {A = ℕ} 0 1 = cc in absurd (omega arith)
one_kind (suc (suc a)) (suc (suc b)) i l e h = omega arith

low_deep : (k : ℕ) → k < 2 → deep (kind_of k) ≡ true
low_deep zero h = refl
low_deep (suc zero) h = refl
low_deep (suc (suc k)) h = absurd (omega arith)

dynamic_kind : (k : ℕ) → 2 ≤ k → kind_of k ≡ DYNAMIC
dynamic_kind zero h = absurd (omega arith)
dynamic_kind (suc zero) h = absurd (omega arith)
dynamic_kind (suc (suc k)) h = refl

not_int : (k : ℕ) → int ≡ kind_of k → ⊥
not_int zero h = let z : ◌≡◌ {A = ℕ} 0 1 = cc in omega arith
not_int (suc zero) h = let z : ◌≡◌ {A = ℕ} 0 1 = cc in omega arith
not_int (suc (suc k)) h = let z : ◌≡◌ {A = ℕ} 0 1 = cc in omega arith

-- ---- what equal types share

module _ (n : ℕ) (T w : List ℕ) where
  same_upward : (s t : ℕ) → same (plain n T) w s t ≡ true → Upward w s t
  same_upward zero t h = record { one = record { goes = λ a i. absurd (omega arith) }; two = record { goes = λ a i. absurd (omega arith) } }
  same_upward (suc s) zero h = record { one = record { goes = λ a i. absurd (omega arith) }; two = record { goes = λ a i. absurd (omega arith) } }
  same_upward (suc s) (suc t) h =
      let e : kind_of (get_or w s 0) ≡ kind_of (get_or w t 0) = same_kind_lem (plain n T) w (suc s) (suc t) h in
      record {
        one = record { goes = λ a. one_kind (get_or w s 0) (get_or w t 0) 1 (omega arith) e };
        two = record { goes = λ a. one_kind (get_or w s 0) (get_or w t 0) 2 (omega arith) e };
      }

  pub same_level : (s t : ℕ) → same (plain n T) w s t ≡ true → Level w s t
  same_level s t h = record { up = same_upward s t h; back = same_upward t s (symmetric (plain n T) w s t h) }

  pub dynamic_same : (s t : ℕ) → 1 ≤ s → 1 ≤ t → 2 ≤ byte_of w s → 2 ≤ byte_of w t → same (plain n T) w s t ≡ true
  unfolding same
  dynamic_same zero t a b h i = absurd (not-suc-le-zero a)
  dynamic_same (suc s) zero a b h i = absurd (not-suc-le-zero b)
  dynamic_same (suc s) (suc t) a b h i = rw (dynamic_kind (get_or w s 0) h, dynamic_kind (get_or w t 0) i)

  -- Int is equal to no reference.
  pub int_alone : (s t : ℕ) → s ≡ 0 → 1 ≤ t → same (plain n T) w s t ≡ true → ⊥
  int_alone (suc s) t e l h = omega arith
  int_alone zero zero e l h = not-suc-le-zero l
  int_alone zero (suc t) e l h = not_int (get_or w t 0) (same_kind_lem (plain n T) w zero (suc t) h)

  -- DYNAMIC goes down to the target.
  pub spread_at : Spread (plain n T) w → (s : ℕ) → 1 ≤ s → 2 ≤ byte_of w s → 1 ≤ at T s → 2 ≤ byte_of w (at T s)
  spread_at f zero a h l = absurd (not-suc-le-zero a)
  spread_at f (suc s) a h l = go (at T (suc s)) refl l
    where
      go : (x : ℕ) → at T (suc s) ≡ x → 1 ≤ x → 2 ≤ byte_of w x
      go zero e l = absurd (not-suc-le-zero l)
      go (suc x) e l = f s h x e

-- ---- what a marking says of the targets of a pair

pub record Lower (n : ℕ) (T w : List ℕ) (s t : ℕ) : Type 0 where
  pub shallow : byte_of w s < 2 → same (plain n T) w (at T s) (at T t) ≡ true
  pub dynamic : 2 ≤ byte_of w s → 2 ≤ byte_of w t

pub same_lower : (n : ℕ) (T w : List ℕ) (s t : ℕ) → Falls T → Ref n s → 1 ≤ t → same (plain n T) w s t ≡ true → Lower n T w s t
same_lower n T w zero t f r c h = absurd (not-suc-le-zero r.low)
same_lower n T w (suc s) t f r c h =
    record {
      shallow = λ k. same_targets (plain n T) w (λ x l. omega (arith, f.by (suc x) (omega arith))) (suc s) t r.high (low_deep (get_or w s 0) k) h;
      dynamic = (same_level n T w (suc s) t h).up.two.goes c;
    }

pub conv_lower : {n : ℕ} {T w : List ℕ} {s t : ℕ} → Conv (plain n T) w s t → Lower n T w s t
conv_lower c = record { shallow = c.targets; dynamic = c.forth_two }
