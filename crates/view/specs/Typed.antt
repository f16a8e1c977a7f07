-- The types of a file's expression rows: each is its row's rule over those of earlier rows, and no type is beyond the last.
use Rattle.std.specs.Prelude.{◌≡◌, refl, true, ℕ, zero, suc, ◌+◌, ◌*◌, ◌≤◌, ◌<◌, List, ltb}
use Rattle.std.proofs.Common.{ap, ◌∙◌, zero-le, not-suc-le-zero, arith, leb-true, ltb-true}
use Rattle.rules.specs.declared.Starts.{Starts}
use Rattle.rules.specs.Basic.{half}
use Rattle.rules.specs.Table.{Expr, Routine, routine, literal, home, cast, null, sum, read, op}
use Rattle.rules.specs.Reading.{expr_good}
use Rattle.rules.specs.Shape.{home_at, row_type, type_below, type_of}
use Rattle.rules.specs.Tests.{parts_true, both_less, in_range_lem}
use Rattle.laws.specs.WellRead.{WellRead}
use Rattle.view.specs.Means.{home_has, home_in_range, target_below, expr_in_range}

-- A row in range asks only for the types of earlier rows.
same_rule : (r : Routine) (T H e : ℕ) (ty ty' : ℕ → ℕ) → ((a : ℕ) → a < e → ty a ≡ ty' a) → (x : Expr) → expr_good T H e x ≡ true → row_type r ty x ≡ row_type r ty' x
same_rule r T H e ty ty' f (literal n) g = refl
same_rule r T H e ty ty' f (home h) g = refl
same_rule r T H e ty ty' f (cast a t) g = refl
same_rule r T H e ty ty' f (null t) g = refl
same_rule r T H e ty ty' f (sum a b) g = f a (both_less a b e e g).0
same_rule r T H e ty ty' f (read a) g = ap r.target (f a (ltb-true a e g))
same_rule r T H e ty ty' f (op o a b) g = refl
same_rule r T H e ty ty' f Expr.none g = refl

module _ (s : List ℕ) (at : Starts) (known : WellRead s at) where
  any_depth : (d d' e : ℕ) → e < half s at.exprs → e < d → e < d' → type_below (routine s at) d e ≡ type_below (routine s at) d' e
  any_depth zero d' e l h h' = absurd (not-suc-le-zero h)
  any_depth (suc d) zero e l h h' = absurd (not-suc-le-zero h')
  any_depth (suc d) (suc d') e l h h' =
      same_rule (routine s at) _ _ e (λ a. type_below (routine s at) d a) (λ a. type_below (routine s at) d' a)
      (λ a k. any_depth d d' a (omega arith) (omega arith) (omega arith)) ((routine s at).expr e) (expr_in_range s at known e l)

  -- The type of a row, by its rule over any table that is right for earlier rows.
  pub type_by_rule : (ty : ℕ → ℕ) (e : ℕ) → e < half s at.exprs → ((a : ℕ) → a < e → ty a ≡ type_of (routine s at) a)
      → row_type (routine s at) ty ((routine s at).expr e) ≡ type_of (routine s at) e
  unfolding type_of
  type_by_rule ty e l h =
      same_rule (routine s at) _ _ e ty (λ a. type_below (routine s at) e a)
      (λ a k. h a k ∙ any_depth (suc a) e a (omega arith) (omega arith) k) ((routine s at).expr e) (expr_in_range s at known e l)

  -- ---- no type is beyond the last

  home_type : (g : ℕ) → 1 ≤ g → g ≤ half s at.homes → (home_at (routine s at).homes g).type ≤ half s at.types
  home_type g h l = omega (arith, (home_has s at g h l).type, (home_in_range s at known g h l).0.1)

  -- The target of a type, or the count in the place of row 0, is a type.
  pub target_type : (t : ℕ) → t ≤ half s at.types → (routine s at).target t ≤ half s at.types
  target_type zero l = let e : at.types + 2 * 0 ≡ at.types = omega arith in rw e (omega arith)
  target_type (suc t) l = omega (arith, target_below s at known (suc t) (omega arith) l)

  rule_type : (e : ℕ) (ty : ℕ → ℕ) → ((a : ℕ) → a < e → ty a ≤ half s at.types) → (x : Expr) → expr_good (half s at.types) (half s at.homes) e x ≡ true
      → row_type (routine s at) ty x ≤ half s at.types
  rule_type e ty f (literal n) g = zero-le
  rule_type e ty f (home h) g = let (a, b) = in_range_lem 1 h _ g in home_type h a b
  rule_type e ty f (cast a t) g = leb-true _ _ (parts_true (ltb a e) _ g).1
  rule_type e ty f (null t) g = (in_range_lem 1 t _ g).1
  rule_type e ty f (sum a b) g = f a (both_less a b e e g).0
  rule_type e ty f (read a) g = target_type (ty a) (f a (ltb-true a e g))
  rule_type e ty f (op o a b) g = zero-le
  rule_type e ty f Expr.none g = zero-le

  below_type : (d e : ℕ) → e < half s at.exprs → type_below (routine s at) d e ≤ half s at.types
  below_type zero e l = zero-le
  below_type (suc d) e l =
      rule_type e (λ a. type_below (routine s at) d a) (λ a k. below_type d a (omega arith)) ((routine s at).expr e) (expr_in_range s at known e l)

  pub type_in_range : (e : ℕ) → e < half s at.exprs → type_of (routine s at) e ≤ half s at.types
  unfolding type_of
  type_in_range e l = below_type (suc e) e l
