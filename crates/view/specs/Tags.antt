-- What the tags of rows give beyond the first few, which compute: an operator for 16 to 24, and else no row.
use Rattle.std.specs.Prelude.{◌≡◌, true, ℕ, ◌-◌, ◌≤◌, ◌<◌}
use Rattle.std.proofs.Math.Decide.{dec_le}
use Rattle.std.proofs.Common.{arith, lt-ltb, le-ltb}
use Rattle.std.proofs.Math.ListN.{get_or-eq_default}
use Rattle.rules.specs.Table.{Expr, Command, operator_of, expr_of, command_of, op}
use Rattle.rules.specs.Reading.{expr_spare, expr_good, command_spare}
use Rattle.rules.specs.Tests.{false_true}

module _ (n a b : ℕ) where
  -- Tags 7 to 15.
  pub expr_none : 7 ≤ n → n < 16 → expr_of n a b ≡ Expr.none
  expr_none h l = rw (lt-ltb n 16 l, get_or-eq_default)

  -- Tags 16 to 24.
  pub expr_op : 16 ≤ n → n < 25 → expr_of n a b ≡ op (operator_of (n - 16)) a b
  expr_op h l = rw (le-ltb n 16 h, lt-ltb n 25 l)

  -- Tags 25 up.
  pub expr_over : 25 ≤ n → expr_of n a b ≡ Expr.none
  expr_over h =
      let l : 16 ≤ n = omega arith in
      rw (le-ltb n 16 l, le-ltb n 25 h)

  -- A row that is in range, with a tag from 7 on, is an operator's.
  pub expr_good_op : (T H i : ℕ) → 7 ≤ n → expr_good T H i (expr_of n a b) ≡ true → expr_of n a b ≡ op (operator_of (n - 16)) a b
  expr_good_op T H i h g = elim (dec_le 16 n) [ yes k ↦ low k | no k ↦ not_none (expr_none h (omega arith)) ]
    where
      not_none : {X : Type 0} → expr_of n a b ≡ Expr.none → X
      not_none e = false_true (rw e at g)

      low : 16 ≤ n → expr_of n a b ≡ op (operator_of (n - 16)) a b
      low k = elim (dec_le 25 n) [ yes l ↦ not_none (expr_over l) | no l ↦ expr_op k (omega arith) ]

  -- A tag that mentions no field less than both leaves none to be zero.
  pub expr_no_spare : 7 ≤ n → expr_spare n a b ≡ true
  expr_no_spare h = rw get_or-eq_default

module _ (n a b c : ℕ) (h : 5 ≤ n) where
  -- Tags 5 up.
  pub command_none : command_of n a b c ≡ Command.none
  command_none = rw get_or-eq_default

  pub command_no_spare : command_spare n a b c ≡ true
  command_no_spare = rw get_or-eq_default
