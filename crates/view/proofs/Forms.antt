-- A row of a file that was read has one of the forms, and names what there is.
use Rattle.std.proofs.Common.{◌≡◌, sym, ◌∙◌, refl, ℕ, ◌-◌, ◌≤◌, ◌<◌, true, ◌&&◌, List, arith, ltb-true, leb-true, ltb, leb}
use Rattle.std.proofs.Math.Decide.{dec_le}
use Rattle.rules.specs.declared.Starts.{Starts}
use Rattle.rules.specs.Basic.{half}
use Rattle.rules.specs.Table.{Expr, routine, expr_of, command_of, operator_of, op, while}
use Rattle.rules.specs.Reading.{expr_good, command_good}
use Rattle.rules.specs.Tests.{false_true, parts_true, both_less}
use Rattle.laws.specs.WellRead.{WellRead}
use Rattle.view.specs.declared.ExprRow.{ExprRow}
use Rattle.view.specs.declared.CommandRow.{CommandRow}
use Rattle.view.specs.Rows.{expr_row, command_row}
use Rattle.view.specs.Tags.{expr_none, expr_op, expr_over, command_none}
use Rattle.view.specs.Means.{expr_means, command_means, expr_in_range, command_in_range}

module _ {s : List ℕ} {at : Starts} {e : ℕ} {row : ExprRow} (known : WellRead s at) (less : e < half s at.exprs) (is : row ≡ expr_row s at e) where
  good : expr_good (half s at.types) (half s at.homes) e (expr_of row.tag row.a row.b) ≡ true
  good = rw (expr_means s at e row is) (expr_in_range s at known e less)

  pub expr_good_tag : (k : ℕ) → row.tag ≡ k → expr_good (half s at.types) (half s at.homes) e (expr_of k row.a row.b) ≡ true
  expr_good_tag k h = rw h at good

  not_none : {X : Type 0} → expr_of row.tag row.a row.b ≡ Expr.none → X
  not_none h = false_true (rw h at good)

  -- A tag that is no other form's is an operator's.
  pub operator_tag : (row.tag ≤ 6 → row.tag ≡ 2) → (16 ≤ row.tag) × (row.tag < 25)
  operator_tag named = elim (dec_le 7 row.tag) [ yes k ↦ high k | no k ↦ not_none (two (named (omega arith))) ]
    where
      two : row.tag ≡ 2 → expr_of row.tag row.a row.b ≡ Expr.none
      two h = rw h refl

      high : 7 ≤ row.tag → (16 ≤ row.tag) × (row.tag < 25)
      high k = elim (dec_le 16 row.tag) [
        | yes i ↦ (elim (dec_le 25 row.tag) [ yes j ↦ not_none (expr_over row.tag row.a row.b j) | no j ↦ (i, omega arith) ])
        | no i ↦ not_none (expr_none row.tag row.a row.b k (omega arith))
      ]

  module _ (high : (16 ≤ row.tag) × (row.tag < 25)) where
    is_op : expr_of row.tag row.a row.b ≡ op (operator_of (row.tag - 16)) row.a row.b
    is_op = expr_op row.tag row.a row.b high.0 high.1

    pub operator_says : op (operator_of (row.tag - 16)) row.a row.b ≡ (routine s at).expr e
    operator_says = sym is_op ∙ expr_means s at e row is

    pub operator_names : (row.tag - 16 < 9) × (row.a < e) × (row.b < e)
    operator_names = let (l, m) = both_less row.a row.b e e (rw is_op at good) in (omega (arith, high.0, high.1), l, m)

pub cast_names : (a i t T : ℕ) → (ltb a i && leb t T) ≡ true → (a < i) × (t ≤ T)
cast_names a i t T h = let (p, q) = parts_true (ltb a i) (leb t T) h in (ltb-true a i p, leb-true t T q)

module _ {s : List ℕ} {at : Starts} {c : ℕ} {row : CommandRow} (known : WellRead s at) (less : c < half s at.commands) (is : row ≡ command_row s at c) where
  well : command_good (half s at.exprs) c (command_of row.tag row.a row.b row.c) ≡ true
  well = rw (command_means s at c row is) (command_in_range s at known c less)

  pub command_good_tag : (k : ℕ) → row.tag ≡ k → command_good (half s at.exprs) c (command_of k row.a row.b row.c) ≡ true
  command_good_tag k h = rw h at well

  -- A tag that is no other form's is a while's.
  pub while_tag : 4 ≤ row.tag → row.tag ≡ 4
  while_tag h = elim (dec_le 5 row.tag) [ yes l ↦ false_true (rw (command_none row.tag row.a row.b row.c l) at well) | no l ↦ omega arith ]

  pub while_says : 4 ≤ row.tag → while row.a row.b ≡ (routine s at).command c
  while_says h = rw (while_tag h) at (command_means s at c row is)

pub if_names : (a b d E c : ℕ) → (ltb a E && (ltb b c && ltb d c)) ≡ true → (a < E) × (b < c) × (d < c)
if_names a b d E c h = let (p, q) = parts_true (ltb a E) (ltb b c && ltb d c) h in let (l, m) = both_less b d c c q in (ltb-true a E p, l, m)
