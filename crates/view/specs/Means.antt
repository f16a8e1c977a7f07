-- What the rows that the view answers mean in the routine, and that their numbers are in range.
use Rattle.std.specs.Prelude.{◌≡◌, true, List}
use Rattle.std.proofs.Common.{sym, ap, not-suc-le-zero, sub-one, arith}
use Prim.Native.Nat.{ℕ, zero, suc, ◌+◌, ◌≤◌, ◌<◌}
use Rattle.rules.specs.declared.Starts.{Starts}
use Rattle.rules.specs.Basic.{half, in_range}
use Rattle.rules.specs.Table.{Home, home_place, expr_of, command_of, routine}
use Rattle.rules.specs.Reading.{row_good, expr_spare, expr_good, command_spare, command_good}
use Rattle.rules.specs.Shape.{home_at}
use Rattle.rules.specs.Tests.{parts_true, in_range_lem}
use Rattle.laws.specs.WellRead.{WellRead}
use Rattle.laws.specs.Known.{values_good}
use Rattle.laws.specs.Read.{layout_at, target_falls}
use Rattle.view.specs.declared.ExprRow.{ExprRow}
use Rattle.view.specs.declared.CommandRow.{CommandRow}
use Rattle.view.specs.declared.HomeRow.{HomeRow}
use Rattle.view.specs.declared.StartRow.{StartRow}
use Rattle.view.specs.Rows.{home_row, expr_row, command_row, start_row}

-- ---- a row's meaning

pub expr_means : (s : List ℕ) (at : Starts) (e : ℕ) (r : ExprRow) → r ≡ expr_row s at e → expr_of r.tag r.a r.b ≡ (routine s at).expr e
expr_means s at e r h = ap (λ (x : ExprRow). expr_of x.tag x.a x.b) h

pub command_means : (s : List ℕ) (at : Starts) (c : ℕ) (r : CommandRow) → r ≡ command_row s at c
    → command_of r.tag r.a r.b r.c ≡ (routine s at).command c
command_means s at c r h = ap (λ (x : CommandRow). command_of x.tag x.a x.b x.c) h

-- A home has its type and its size from its row, at place q.
pub record HomeHas (s : List ℕ) (q : ℕ) (h : Home) : Type 0 where
  pub type : half s q ≡ h.type
  pub size : half s (q + 2) ≡ h.size

pub home_has : (s : List ℕ) (at : Starts) (g : ℕ) → 1 ≤ g → g ≤ half s at.homes → HomeHas s (home_place at g) (home_at (routine s at).homes g)
home_has s at zero h l = absurd (not-suc-le-zero h)
home_has s at (suc g) h l =
    let (type, size) = layout_at s (at.homes + 2) 1 (half s at.homes) g l in rw (sub-one (suc g)) (record { type = sym type; size = sym size })

-- ---- in range

module _ (s : List ℕ) (at : Starts) (known : WellRead s at) where
  -- A type's target is a lower number.
  pub target_below : (t : ℕ) → 1 ≤ t → t ≤ half s at.types → (routine s at).target t < t
  target_below zero h l = absurd (not-suc-le-zero h)
  target_below (suc t) h l = omega (arith, target_falls known t l)

  -- A home's type is a type, and it has 1 to 1,024 cells.
  pub home_in_range : (g : ℕ) → 1 ≤ g → g ≤ half s at.homes
      → ((1 ≤ half s (home_place at g)) × (half s (home_place at g) ≤ half s at.types))
      × ((1 ≤ half s (home_place at g + 2)) × (half s (home_place at g + 2) ≤ 1024))
  unfolding row_good
  home_in_range zero h l = absurd (not-suc-le-zero h)
  home_in_range (suc g) h l =
      let (a, b) = parts_true _ _ (known.homes.good g l) in
      rw (sub-one (suc g)) (in_range_lem 1 _ _ a, in_range_lem 1 _ _ b)

  -- What an expression row names is in range, by its form.
  pub expr_in_range : (e : ℕ) → e < half s at.exprs → expr_good (half s at.types) (half s at.homes) e ((routine s at).expr e) ≡ true
  unfolding row_good
  expr_in_range e l = (parts_true (expr_spare (expr_row s at e).tag (expr_row s at e).a (expr_row s at e).b) _ (known.exprs.good e l)).1

  -- The same of a command row.
  pub command_in_range : (c : ℕ) → c < half s at.commands → command_good (half s at.exprs) c ((routine s at).command c) ≡ true
  unfolding row_good
  command_in_range c l =
      (parts_true (command_spare (command_row s at c).tag (command_row s at c).a (command_row s at c).b (command_row s at c).c) _ (known.commands.good c l)).1

-- The home of a start row has a row, and so has the type of any home.
pub value_home : {s : List ℕ} {at : Starts} {i : ℕ} {row : StartRow} → WellRead s at → i < half s at.values → row ≡ start_row s at i
    → (1 ≤ row.home) × (row.home ≤ half s at.homes)
unfolding row_good
value_home {s} {at} {i} known l is =
    let g = (start_row s at i).home in
    let (a, b) = parts_true (in_range 1 g (half s at.homes)) _ (values_good known.values i l) in
    rw (ap (λ (x : StartRow). x.home) is) (in_range_lem 1 g (half s at.homes) a)

pub home_type : {s : List ℕ} {at : Starts} {g : ℕ} {row : HomeRow} → WellRead s at → 1 ≤ g → g ≤ half s at.homes → row ≡ home_row s at g
    → row.ty ≤ half s at.types
home_type {s} {at} {g} known first last is = rw (ap (λ (x : HomeRow). x.ty) is) (home_in_range s at known g first last).0.1
