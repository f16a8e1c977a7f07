-- The table of types, and refusals 10 and 6: what a row says of its type, and the loops over rows.
use mathlib.Core.Path.{◌≡◌, refl, sym, ap, ◌∙◌}
use mathlib.Core.Bool.{Bool, true, false}
use Prim.Native.Nat.{ℕ, ◌+◌, ◌≤◌, ◌<◌}
use native.Mathlib.Nat.{not-suc-le-zero}
use native.Mathlib.Omega.{arith}
use mathlib.Core.List.{List}
use lib.ListN.{length, get_or, set, length-set}
use lib.Seq.{get_or-set_same, get_or-set_other}
use lib.Dec.{eqb}
use borrow.Author.Count.{below_more}
use Rattle.rules.specs.declared.Starts.{Starts}
use Rattle.rules.specs.declared.Refusal.{Refusal}
use Rattle.rules.specs.Basic.{half, fine, refused, unless_refused}
use Rattle.rules.specs.Table.{Expr, routine, home, expr_place, command_place, value_place}
use Rattle.rules.specs.Reading.{reading, rises, rising}
use Rattle.rules.specs.Shape.{home_at, row_type, type_of, expr_shaped, command_shaped, value_shaped, shape}
use Rattle.rules.specs.Calls.{says, refusal, formed}
use Rattle.rules.specs.Tested.{refused_fine}
use Rattle.view.specs.declared.HomeRow.{HomeRow}
use Rattle.view.specs.declared.TypeRow.{TypeRow}
use Rattle.view.specs.declared.StartRow.{StartRow}
use Rattle.rules.specs.Tests.{fine_same}
use Rattle.laws.proofs.WellRead.{reading_known}
use Rattle.laws.specs.WellRead.{WellRead}
use Rattle.laws.specs.First.{Each, First, first_stops, none_fails}
use Rattle.std.specs.Prelude.{Result, Ok, Err}
use Rattle.laws.specs.Known.{values_near}
use Rattle.view.specs.Rows.{home_row, type_row, start_row}
use Rattle.view.specs.Means.{home_has, value_home}
use Rattle.view.specs.Typed.{type_by_rule, type_in_range}
use Rattle.reader.specs.Tables.{TypedTo, TypeTable, formed_behind, ReadTyped}

-- ---- the type of an expression row, with a table that has the types of those before it

module _ {s : List ℕ} {at : Starts} {ty : List ℕ} {e : ℕ} (typed : TypedTo s at e ty) (less : e < half s at.exprs) where
  pub earlier_type : {a : ℕ} → a < e → get_or ty a 0 ≤ half s at.types
  earlier_type {a} l = omega (arith, typed.types a l, type_in_range s at typed.file a (omega arith))

  module _ {x : Expr} (says : x ≡ (routine s at).expr e) where
    pub type_is : {v : ℕ} → v ≡ row_type (routine s at) (λ k. get_or ty k 0) x → v ≡ type_of (routine s at) e
    type_is h = h ∙ ap (λ y. row_type (routine s at) (λ k. get_or ty k 0) y) says ∙ type_by_rule s at typed.file (λ k. get_or ty k 0) e less typed.types

  pub type_home : {g : ℕ} {r : HomeRow} → home g ≡ (routine s at).expr e → (1 ≤ g) × (g ≤ half s at.homes) → r ≡ home_row s at g → r.ty ≡ type_of (routine s at) e
  type_home {g} says fits is = type_is says (ap (λ (x : HomeRow). x.ty) is ∙ (home_has s at g fits.0 fits.1).type)

-- ---- the table is filled

-- At row e: the types of earlier rows, and the rest as before.
pub record TableSoFar (s : List ℕ) (at : Starts) (before : List ℕ) (e : ℕ) (ty : List ℕ) : Type 0 where
  pub typed : TypedTo s at e ty
  pub long : length ty ≡ length before
  pub stays : (k : ℕ) → e ≤ k → get_or ty k 0 ≡ get_or before k 0

pub table_start : {s : List ℕ} {at : Starts} {ty : List ℕ} → WellRead s at → TableSoFar s at ty 0 ty
table_start known = record { typed = record { file = known; types = λ k l. absurd (not-suc-le-zero l) }; long = refl; stays = λ k l. refl }

module _ {s : List ℕ} {at : Starts} {before : List ℕ} {e : ℕ} {ty : List ℕ} (so_far : TableSoFar s at before e ty) where
  pub table_next : {v : ℕ} → e < length ty → v ≡ type_of (routine s at) e → TableSoFar s at before (e + 1) (set ty e v)
  table_next {v} room is =
      record {
        typed = record {
          file = so_far.typed.file;
          types = below_more (λ k. get_or (set ty e v) k 0 ≡ type_of (routine s at) k) e
              (λ k d. get_or-set_other ty e k v 0 (λ q. omega arith) ∙ so_far.typed.types k d)
              (get_or-set_same ty e v 0 room ∙ is);
        };
        long = length-set ty e v ∙ so_far.long;
        stays = λ k d. get_or-set_other ty e k v 0 (λ q. omega arith) ∙ so_far.stays k (omega arith);
      }

  pub table_full : e ≡ half s at.exprs → TypeTable (routine s at) before ty
  table_full l = record { long = so_far.long; types = λ k d. so_far.typed.types k (omega arith); stays = λ k d. so_far.stays k (omega arith) }

-- ---- start rows

module _ {s : List ℕ} {at : Starts} (known : WellRead s at) {i : ℕ} (less : i < half s at.values) {row : StartRow} (is : row ≡ start_row s at i) where
  pub value_shaped_is : {home : HomeRow} {type : TypeRow} → home ≡ home_row s at row.home → type ≡ type_row s at home.ty → eqb type.target 0 ≡ value_shaped (routine s at) ((routine s at).value i)
  value_shaped_is {home} {type} named e =
      let fits = value_home known less is in
      let a : row.home ≡ ((routine s at).value i).home = ap (λ (x : StartRow). x.home) is in
      let b : home.ty ≡ (home_at (routine s at).homes row.home).type
      = ap (λ (x : HomeRow). x.ty) named ∙ (home_has s at row.home fits.0 fits.1).type in
      let c : type.target ≡ (routine s at).target home.ty = ap (λ (x : TypeRow). x.target) e in
      rw (c, b, a)

-- ---- refusals 10 and 6, one after the other

module _ (s : List ℕ) (at : Starts) where
  pub not_rising : {k : ℕ} → First (half s at.values) (λ i. rises (routine s at) i) k → refused 10 (value_place at k) ≡ formed_behind s at
  unfolding formed_behind rising
  not_rising f = sym (first_stops 10 _ _ _ f)

  module _ (rise : Each (half s at.values) (λ i. rises (routine s at) i)) where
    shape_next : shape (routine s at) (λ _. fine at) ≡ formed_behind s at
    unfolding formed_behind rising
    shape_next = sym (none_fails 10 _ _ _ rise)

    pub bad_expr : {k : ℕ} → First (half s at.exprs) (λ e. expr_shaped (routine s at) ((routine s at).expr e)) k → refused 6 (expr_place at k) ≡ formed_behind s at
    unfolding shape
    bad_expr f = sym (first_stops 6 _ _ _ f) ∙ shape_next

    module _ (exprs : Each (half s at.exprs) (λ e. expr_shaped (routine s at) ((routine s at).expr e))) where
      pub bad_command : {k : ℕ} → First (half s at.commands) (λ c. command_shaped (routine s at) ((routine s at).command c)) k → refused 6 (command_place at k) ≡ formed_behind s at
      unfolding shape
      bad_command f = sym (none_fails 6 _ _ _ exprs ∙ first_stops 6 _ _ _ f) ∙ shape_next

      module _ (commands : Each (half s at.commands) (λ c. command_shaped (routine s at) ((routine s at).command c))) where
        pub bad_value : {k : ℕ} → First (half s at.values) (λ i. value_shaped (routine s at) ((routine s at).value i)) k → refused 6 (value_place at k) ≡ formed_behind s at
        unfolding shape
        bad_value f = sym (none_fails 6 _ _ _ exprs ∙ none_fails 6 _ _ _ commands ∙ first_stops 6 _ _ _ f) ∙ shape_next

        pub all_shaped : Each (half s at.values) (λ i. value_shaped (routine s at) ((routine s at).value i)) → fine at ≡ formed_behind s at
        unfolding shape
        all_shaped values = sym (none_fails 6 _ _ _ exprs ∙ none_fails 6 _ _ _ commands ∙ none_fails 6 _ _ _ values) ∙ shape_next

pub places : {s : List ℕ} {at : Starts} → WellRead s at → (at.exprs ≤ 30000) × (at.commands ≤ 30000) × (at.values ≤ 30000)
places y = let v = values_near y in (omega (arith, y.commands_at, y.values_at), omega (arith, y.values_at), omega arith)

-- ---- the whole

formed_is : (s : List ℕ) → formed s ≡ unless_refused (reading s) (λ at. formed_behind s at)
unfolding formed formed_behind
formed_is s = refl

module _ (s : List ℕ) (r : Result Starts Refusal) (read : says r ≡ reading s) where
  pub not_read : {ty : List ℕ} (n : Refusal) → r ≡ Err n → ReadTyped s ty ty (Err n)
  not_read n is =
      let was : reading s ≡ refusal n = sym read ∙ ap says is in
      record {
        answer = sym (formed_is s ∙ ap (λ x. unless_refused x (λ at. formed_behind s at)) was);
        filled = λ at e. refused_fine (sym was ∙ e);
        left = λ m p e. refl;
      }

  module _ {at : Starts} (is : r ≡ Ok at) where
    was_read : reading s ≡ fine at
    was_read = sym read ∙ ap says is

    pub now_known : WellRead s at
    now_known = reading_known s at was_read

    pub read_typed_lem : {ty after : List ℕ} {v : Result Starts Refusal} → TypeTable (routine s at) ty after → says v ≡ formed_behind s at → ReadTyped s ty after v
    read_typed_lem table shaped = record {
      answer = shaped ∙ sym (formed_is s ∙ ap (λ x. unless_refused x (λ at. formed_behind s at)) was_read);
      filled = λ at' e. let same : at ≡ at' = fine_same (sym was_read ∙ e) in rw (← same) table;
      left = λ n p e. refused_fine (sym e ∙ was_read);
    }
