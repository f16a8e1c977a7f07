-- What the rows of a well-formed routine ask of kinds speaks of types that there are.
use Rattle.std.specs.Prelude.{true, ◌≡◌, ℕ, ◌≤◌, ◌<◌}
use Rattle.std.proofs.Common.{arith}
use Rattle.rules.specs.declared.Need.{Need}
use Rattle.rules.specs.declared.Need.TheVariants.{Nothing, Moving, Converting}
use Rattle.rules.specs.Table.{Expr, Command, Routine, literal, home, cast, null, sum, read, op, skip, then, store, if_else, while}
use Rattle.rules.specs.Shape.{type_of, expr_shaped, command_shaped, is_ref}
use Rattle.rules.specs.Kinds.{expr_need, command_need}
use Rattle.rules.specs.Tests.{parts_true}
use Rattle.laws.specs.Values.{target_le}
use Rattle.laws.specs.Formed.{Fits, CommandFits, Formed, ref_type, type_le}

-- Of n types.
abbrev pub NeedFits : ℕ → Need → Type 0
NeedFits n Nothing = Unit {0}
NeedFits n (Moving t) = (1 ≤ t) × (t ≤ n)
NeedFits n (Converting s t) = (s ≤ n) × (t ≤ n)

module _ {r : Routine} (formed : Formed r) where
  expr_fits : {e : ℕ} (x : Expr) → e < r.exprs → Fits r e x → expr_shaped r x ≡ true → NeedFits r.types (expr_need r x)
  expr_fits (literal n) l y s = tt
  expr_fits (home g) l y s = tt
  expr_fits (cast a t) l y s = (type_le formed a (omega (arith, y.0)), y.1)
  expr_fits (null t) l y s = tt
  expr_fits (sum a b) l y s = (ref_type _ (parts_true (is_ref (type_of r a)) _ s).0, type_le formed a (omega (arith, y.0)))
  expr_fits (read a) l y s = tt
  expr_fits (op o a b) l y s = tt
  expr_fits Expr.none l y s = tt

  command_fits : (c : ℕ) (x : Command) → CommandFits r c x → command_shaped r x ≡ true → NeedFits r.types (command_need r x)
  command_fits c skip y s = tt
  command_fits c (then a b) y s = tt
  command_fits c (store a b) y s = (type_le formed b y.1, target_le formed.falls (type_of r a) (ref_type _ s) (type_le formed a y.0))
  command_fits c (if_else a b d) y s = tt
  command_fits c (while a b) y s = tt
  command_fits c Command.none y s = tt

  pub expr_need_fits : (e : ℕ) → e < r.exprs → NeedFits r.types (expr_need r (r.expr e))
  expr_need_fits e l = let (y, s) = formed.exprs e l in expr_fits (r.expr e) l y s

  pub command_need_fits : (c : ℕ) → c < r.commands → NeedFits r.types (command_need r (r.command c))
  command_need_fits c l = let (y, s) = formed.commands c l in command_fits c (r.command c) y s
