-- Kinds, equality of types, conversion, acceptable markings, and refusals 7 and 8 (RULES 4).
use Rattle.std.specs.Prelude.{◌≡◌, ℕ, zero, suc, ◌≤◌, ◌<◌, min, Bool, true, false, ◌&&◌, List, get_or, length, leb, eqb}
use Rattle.rules.specs.declared.Kind.{Kind}
use Rattle.rules.specs.declared.Kind.TheVariants.{int, SAFE, SEQ, DYNAMIC}
use Rattle.rules.specs.declared.Need.{Need}
use Rattle.rules.specs.declared.Need.TheVariants.{Nothing, Moving, Converting}
use Rattle.rules.specs.Basic.{choose, Verdict, guard, first_bad}
use Rattle.rules.specs.Table.{Expr, Command, Routine, literal, home, cast, null, sum, read, op, skip, then, store, if_else, while}
use Rattle.rules.specs.Shape.{type_of}

-- RULES 4.1: a marking's byte.
abbrev pub kind_of : ℕ → Kind
kind_of zero = SAFE
kind_of (suc zero) = SEQ
kind_of (suc (suc k)) = DYNAMIC

-- Type 0 is int, and type t + 1 has the marking's byte t.
abbrev pub kind : List ℕ → ℕ → Kind
kind m zero = int
kind m (suc t) = kind_of (get_or m t 0)

-- A row of a table by kinds: what it says for int, SAFE, SEQ and DYNAMIC.
abbrev pub by_kind : {X : Type 0} → X → X → X → X → Kind → X
by_kind a b c d int = a
by_kind a b c d SAFE = b
by_kind a b c d SEQ = c
by_kind a b c d DYNAMIC = d

-- ---- equality (RULES 4.4)

abbrev pub same_kind : Kind → Kind → Bool
same_kind int b = by_kind true false false false b
same_kind SAFE b = by_kind false true false false b
same_kind SEQ b = by_kind false false true false b
same_kind DYNAMIC b = by_kind false false false true b

-- Are the targets compared too? Not those of int or DYNAMIC.
abbrev pub deep : Kind → Bool
deep int = false
deep SAFE = true
deep SEQ = true
deep DYNAMIC = false

-- Types t and u are equal, down d targets.
abbrev pub same_below : Routine → List ℕ → ℕ → ℕ → ℕ → Bool
same_below r m zero t u = eqb t u
same_below r m (suc d) t u =
    same_kind (kind m t) (kind m u)
    && choose (deep (kind m t)) (λ _. same_below r m d (r.target t) (r.target u)) (λ _. true)

-- Targets fall, so that one step more than there are types is enough.
unfoldable pub same : Routine → List ℕ → ℕ → ℕ → Bool
same r m t u = same_below r m (suc r.types) t u

-- ---- conversion (RULES 4.3)

-- The kinds: anything to int; int to what is not SAFE; equal kinds; SEQ to SAFE.
abbrev pub kind_converts : Kind → Kind → Bool
kind_converts int b = by_kind true false true true b
kind_converts SAFE b = by_kind true true false false b
kind_converts SEQ b = by_kind true true true false b
kind_converts DYNAMIC b = by_kind true false false true b

-- Reference to reference asks equal targets, unless both are DYNAMIC.
abbrev pub targets_matter : Kind → Kind → Bool
targets_matter int b = false
targets_matter SAFE b = deep b
targets_matter SEQ b = deep b
targets_matter DYNAMIC b = deep b

unfoldable pub converts : Routine → List ℕ → ℕ → ℕ → Bool
converts r m from to =
    kind_converts (kind m from) (kind m to)
    && choose (targets_matter (kind m from) (kind m to)) (λ _. same r m (r.target from) (r.target to)) (λ _. true)

-- ---- acceptable (RULES 4.2)

abbrev pub is_dynamic : Kind → Bool
is_dynamic int = false
is_dynamic SAFE = false
is_dynamic SEQ = false
is_dynamic DYNAMIC = true

abbrev pub not_safe : Kind → Bool
not_safe int = false
not_safe SAFE = false
not_safe SEQ = true
not_safe DYNAMIC = true

-- A DYNAMIC type whose target is a reference has a DYNAMIC target.
abbrev pub spreads : Kind → Kind → Bool
spreads int b = true
spreads SAFE b = true
spreads SEQ b = true
spreads DYNAMIC b = by_kind true false false true b

abbrev pub type_kind : Routine → List ℕ → ℕ → Bool
type_kind r m t = spreads (kind m t) (kind m (r.target t))

-- What a row asks: the a of a pointer sum is not SAFE; each cast converts.
abbrev pub expr_need : Routine → Expr → Need
expr_need r (literal n) = Nothing
expr_need r (home g) = Nothing
expr_need r (cast a t) = Converting (type_of r a) t
expr_need r (null t) = Nothing
expr_need r (sum a b) = Moving (type_of r a)
expr_need r (read a) = Nothing
expr_need r (op o a b) = Nothing
expr_need r Expr.none = Nothing

-- Each store's value converts to the target of the pointer's type.
abbrev pub command_need : Routine → Command → Need
command_need r skip = Nothing
command_need r (then a b) = Nothing
command_need r (store a b) = Converting (type_of r b) (r.target (type_of r a))
command_need r (if_else a b c) = Nothing
command_need r (while a b) = Nothing
command_need r Command.none = Nothing

-- Does the marking give what is asked?
abbrev pub need_met : Routine → List ℕ → Need → Bool
need_met r m Nothing = true
need_met r m (Moving t) = not_safe (kind m t)
need_met r m (Converting s t) = converts r m s t

abbrev pub expr_kind : Routine → List ℕ → Expr → Bool
expr_kind r m x = need_met r m (expr_need r x)

abbrev pub command_kind : Routine → List ℕ → Command → Bool
command_kind r m x = need_met r m (command_need r x)

-- A marking that earns neither 7 nor 8. Type row i is that of type i + 1.
pub record Acceptable (r : Routine) (m : List ℕ) : Type 0 where
  pub size : length m ≡ r.types
  pub bytes : (i : ℕ) → i < r.types → get_or m i 0 ≤ 2
  pub types : (i : ℕ) → i < r.types → type_kind r m (suc i) ≡ true
  pub exprs : (e : ℕ) → e < r.exprs → expr_kind r m (r.expr e) ≡ true
  pub commands : (c : ℕ) → c < r.commands → command_kind r m (r.command c) ≡ true

-- The test: refusal 7, length before bytes, then 8 over types, expressions, commands (RULES 2.2).
-- It refuses exactly the markings that are not acceptable (`Tested`).
unfoldable pub kinds : {X : Type 0} → Routine → List ℕ → (Unit {0} → Verdict X) → Verdict X
kinds r m go =
    guard 7 (min (length m) r.types) (eqb (length m) r.types) λ _.
    first_bad 7 (λ i. leb (get_or m i 0) 2) (λ i. i) 0 r.types λ _.
    first_bad 8 (λ i. type_kind r m (suc i)) (λ i. r.type_place (suc i)) 0 r.types λ _.
    first_bad 8 (λ e. expr_kind r m (r.expr e)) r.expr_place 0 r.exprs λ _.
    first_bad 8 (λ c. command_kind r m (r.command c)) r.command_place 0 r.commands go
