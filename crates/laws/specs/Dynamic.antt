-- All DYNAMIC is acceptable for every well-formed routine.
use Rattle.std.specs.Prelude.{true, ◌≡◌, List, get_or, replicate}
use Rattle.rules.specs.Table.{Expr, Command, Routine, literal, home, cast, null, sum, read, op, skip, then, store, if_else, while}
use Rattle.rules.specs.Shape.{type_of, expr_shaped, command_shaped, is_ref}
use Rattle.rules.specs.declared.Kind.TheVariants.{DYNAMIC}
use Rattle.rules.specs.Kinds.{Acceptable, kind, spreads, not_safe, converts, type_kind, expr_kind, command_kind}
use Rattle.std.proofs.Math.Path.{refl}
use Prim.Native.Nat.{ℕ, zero, suc, ◌≤◌, ◌<◌}
use Rattle.std.proofs.Common.{not-suc-le-zero, arith}
use Rattle.std.proofs.lemmas.List.{length-replicate, get_or-replicate}
use Rattle.rules.specs.Tests.{parts_true}
use Rattle.laws.specs.Values.{target_le}
use Rattle.laws.specs.Formed.{Fits, CommandFits, Formed, ref_type, type_le}

module _ {r : Routine} (formed : Formed r) where
  abbrev wild : List ℕ
  wild = replicate r.types 2

  all_two : (t : ℕ) → t < r.types → get_or wild t 0 ≡ 2
  all_two t l = get_or-replicate r.types t 2 0 l

  converts_all : (a b : ℕ) → a ≤ r.types → b ≤ r.types → converts r wild a b ≡ true
  unfolding converts
  converts_all zero zero h l = refl
  converts_all zero (suc b) h l = rw (all_two b l)
  converts_all (suc a) zero h l = rw (all_two a h)
  converts_all (suc a) (suc b) h l = rw (all_two a h, all_two b l)

  spreads_to : (t : ℕ) → t ≤ r.types → spreads DYNAMIC (kind wild t) ≡ true
  spreads_to zero l = refl
  spreads_to (suc t) l = rw (all_two t l)

  type_kind_lem : (t : ℕ) → t < r.types → type_kind r wild (suc t) ≡ true
  type_kind_lem t l = rw (all_two t l) (spreads_to (r.target (suc t)) (target_le formed.falls (suc t) (omega arith) l))

  not_safe_lem : (t : ℕ) → 0 < t → t ≤ r.types → not_safe (kind wild t) ≡ true
  not_safe_lem zero h l = absurd (not-suc-le-zero h)
  not_safe_lem (suc t) h l = rw (all_two t l)

  expr_kind_lem : {e : ℕ} (x : Expr) → e < r.exprs → Fits r e x → expr_shaped r x ≡ true → expr_kind r wild x ≡ true
  expr_kind_lem (literal n) l y s = refl
  expr_kind_lem (home g) l y s = refl
  expr_kind_lem (cast a t) l y s = converts_all (type_of r a) t (type_le formed a (omega (arith, y.0))) y.1
  expr_kind_lem (null t) l y s = refl
  expr_kind_lem (sum a b) l y s = not_safe_lem (type_of r a) (ref_type _ (parts_true (is_ref (type_of r a)) _ s).0) (type_le formed a (omega (arith, y.0)))
  expr_kind_lem (read a) l y s = refl
  expr_kind_lem (op o a b) l y s = refl
  expr_kind_lem Expr.none l y s = refl

  command_kind_lem : (c : ℕ) (x : Command) → CommandFits r c x → command_shaped r x ≡ true → command_kind r wild x ≡ true
  command_kind_lem c skip y s = refl
  command_kind_lem c (then a b) y s = refl
  command_kind_lem c (store a b) y s =
      converts_all (type_of r b) (r.target (type_of r a)) (type_le formed b y.1) (target_le formed.falls (type_of r a) (ref_type _ s) (type_le formed a y.0))
  command_kind_lem c (if_else a b d) y s = refl
  command_kind_lem c (while a b) y s = refl
  command_kind_lem c Command.none y s = refl

  pub all_acceptable : Acceptable r wild
  all_acceptable =
      record {
        size = length-replicate r.types 2;
        bytes = λ i l. omega (arith, all_two i l);
        types = λ i l. type_kind_lem i l;
        exprs = λ e l. expr_kind_lem (r.expr e) l (formed.exprs e l).0 (formed.exprs e l).1;
        commands = λ c l. command_kind_lem c (r.command c) (formed.commands c l).0 (formed.commands c l).1;
      }
