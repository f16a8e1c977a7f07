-- What refusals 1 to 6 see to, row by row, and the type of a row.
use Rattle.std.specs.Prelude.{true, ◌≡◌, refl, ℕ, zero, suc, ◌+◌, ◌≤◌, ◌<◌, List, [], ◌∷◌, get_or, drop}
use Rattle.rules.specs.Basic.{width}
use Rattle.rules.specs.Table.{Home, total, Expr, Command, StartRow, Routine, literal, home, cast, null, sum, read, op, skip, then, store, if_else, while}
use Rattle.rules.specs.Shape.{home_at, row_type, type_of, type_below, expr_shaped, command_shaped, value_shaped, is_int, is_ref}
use Rattle.rules.specs.declared.Kind.TheVariants.{int}
use Rattle.rules.specs.Kinds.{kind_of, kind}
use Rattle.rules.specs.Valid.{Real}
use Rattle.std.proofs.Common.{ap, zero-le, not-suc-le-zero, le_refl, arith, ltb-true, eqb-true}
use Rattle.laws.specs.Values.{Falls, target_le}

-- A row's fields are in range.
abbrev pub Fits : Routine → ℕ → Expr → Type 0
Fits r e (literal n) = n < width
Fits r e (home g) = Real r.homes g
Fits r e (cast a t) = (a < e) × (t ≤ r.types)
Fits r e (null t) = t ≤ r.types
Fits r e (sum a b) = (a < e) × (b < e)
Fits r e (read a) = a < e
Fits r e (op o a b) = (a < e) × (b < e)
Fits r e Expr.none = ⊥

abbrev pub CommandFits : Routine → ℕ → Command → Type 0
CommandFits r c skip = Unit {0}
CommandFits r c (then a b) = (a < c) × (b < c)
CommandFits r c (store a b) = (a < r.exprs) × (b < r.exprs)
CommandFits r c (if_else a b d) = (a < r.exprs) × (b < c) × (d < c)
CommandFits r c (while a b) = (a < r.exprs) × (b < c)
CommandFits r c Command.none = ⊥

-- A start row names a cell of a home, and its value is a 32-bit number.
pub record ValueFits (r : Routine) (x : StartRow) : Type 0 where
  pub home : Real r.homes x.home
  pub cell : x.cell < (home_at r.homes x.home).size
  pub value : x.value < width

-- One home after the other.
pub data Consecutive : ℕ → List Home → Type 0 where
  last : {from : ℕ} → Consecutive from []
  behind : {from : ℕ} {h : Home} {hs : List Home} → h.start ≡ from → Consecutive (from + h.size) hs → Consecutive from (h ∷ hs)

-- What refusals 1 to 6 see to.
pub record Formed (r : Routine) : Type 0 where
  pub falls : Falls r
  pub homed : {g : ℕ} → Real r.homes g → (1 ≤ (home_at r.homes g).type) × ((home_at r.homes g).type ≤ r.types)
  pub nowhere : (home_at r.homes 0).start ≡ 0
  pub single : (home_at r.homes 0).size ≡ 1
  pub consecutive : Consecutive 1 (drop 1 r.homes)
  pub few : total (drop 1 r.homes) ≤ 4096
  pub some : 0 < r.commands
  pub exprs : (e : ℕ) → e < r.exprs → Fits r e (r.expr e) × (expr_shaped r (r.expr e) ≡ true)
  pub commands : (c : ℕ) → c < r.commands → CommandFits r c (r.command c) × (command_shaped r (r.command c) ≡ true)
  pub values : (i : ℕ) → i < r.values → ValueFits r (r.value i) × (value_shaped r (r.value i) ≡ true)

pub int_type : (t : ℕ) → is_int t ≡ true → t ≡ 0
int_type t h = eqb-true t 0 h

pub ref_type : (t : ℕ) → is_ref t ≡ true → 0 < t
ref_type t h = ltb-true 0 t h

kind_ref : (k : ℕ) → kind_of k ≡ int → ⊥
kind_ref zero h = let z : ◌≡◌ {A = ℕ} 0 1 = cc in omega arith
kind_ref (suc zero) h = let z : ◌≡◌ {A = ℕ} 0 1 = cc in omega arith
kind_ref (suc (suc k)) h = let z : ◌≡◌ {A = ℕ} 0 1 = cc in omega arith

pub ref_kind : (m : List ℕ) (t : ℕ) → 0 < t → kind m t ≡ int → ⊥
ref_kind m zero l h = not-suc-le-zero l
ref_kind m (suc t) l h = kind_ref (get_or m t 0) h

-- ---- the type of a row

module _ {r : Routine} (formed : Formed r) where
  row_type_same : {e : ℕ} {ty ty' : ℕ → ℕ} → ((a : ℕ) → a < e → ty a ≡ ty' a) → (x : Expr) → Fits r e x → row_type r ty x ≡ row_type r ty' x
  row_type_same h (literal n) y = refl
  row_type_same h (home g) y = refl
  row_type_same h (cast a t) y = refl
  row_type_same h (null t) y = refl
  row_type_same h (sum a b) y = h a y.0
  row_type_same h (read a) y = ap r.target (h a y)
  row_type_same h (op o a b) y = refl
  row_type_same h Expr.none y = refl

  type_depth : (d d' e : ℕ) → e < r.exprs → e < d → e < d' → type_below r d e ≡ type_below r d' e
  type_depth zero d' e l h h' = absurd (not-suc-le-zero h)
  type_depth (suc d) zero e l h h' = absurd (not-suc-le-zero h')
  type_depth (suc d) (suc d') e l h h' =
      row_type_same (λ a k. type_depth d d' a (omega arith) (omega arith) (omega arith)) (r.expr e) (formed.exprs e l).0

  pub type_row_lem : (e : ℕ) → e < r.exprs → type_of r e ≡ row_type r (λ a. type_of r a) (r.expr e)
  unfolding type_of
  type_row_lem e l = row_type_same (λ a k. type_depth e (suc a) a (omega arith) k (omega arith)) (r.expr e) (formed.exprs e l).0

  row_type_le : {e : ℕ} (x : Expr) → Fits r e x → expr_shaped r x ≡ true → ((a : ℕ) → a < e → type_of r a ≤ r.types)
      → row_type r (λ a. type_of r a) x ≤ r.types
  row_type_le (literal n) y s h = zero-le
  row_type_le (home g) y s h = (formed.homed y).1
  row_type_le (cast a t) y s h = y.1
  row_type_le (null t) y s h = y
  row_type_le (sum a b) y s h = h a y.0
  row_type_le (read a) y s h = target_le formed.falls (type_of r a) (ref_type (type_of r a) s) (h a y)
  row_type_le (op o a b) y s h = zero-le
  row_type_le Expr.none y s h = absurd y

  type_le_below : (d e : ℕ) → e < d → e < r.exprs → type_of r e ≤ r.types
  type_le_below zero e h l = absurd (not-suc-le-zero h)
  type_le_below (suc d) e h l =
      let (y, s) = formed.exprs e l in
      rw (type_row_lem e l) (row_type_le (r.expr e) y s (λ a k. type_le_below d a (omega arith) (omega arith)))

  pub type_le : (e : ℕ) → e < r.exprs → type_of r e ≤ r.types
  type_le e l = type_le_below (suc e) e (le_refl (suc e)) l
