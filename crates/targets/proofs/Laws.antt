-- A turn writes one more target, and a target is below its type.
use mathlib.Core.Path.{◌≡◌, refl, sym, ap, ◌∙◌}
use mathlib.Core.Logic.{◌⊎◌, inl, inr}
use Prim.Native.Nat.{ℕ, ◌+◌, ◌≤◌, ◌<◌}
use native.Mathlib.Decide.{ℕ_discrete}
use native.Mathlib.Omega.{arith}
use mathlib.Core.List.{List}
use lib.ListN.{length, get_or, set, length-set}
use lib.Seq.{get_or-set_same, get_or-set_other}
use Rattle.rules.specs.declared.Starts.{Starts}
use Rattle.rules.specs.Basic.{half}
use Rattle.rules.specs.Table.{Routine}
use Rattle.laws.specs.WellRead.{WellRead}
use Rattle.view.specs.declared.TypeRow.{TypeRow}
use Rattle.view.specs.Rows.{type_row}
use Rattle.view.specs.Means.{target_below}
use Rattle.targets.specs.Filled.{TargetTable}

pub row_small : {s : List ℕ} {at : Starts} → WellRead s at → (t : ℕ) {row : TypeRow} → 1 ≤ t → t ≤ half s at.types → row ≡ type_row s at t → row.target < 256
row_small {s} {at} file t h l e = rw (ap (λ (x : TypeRow). x.target) e) (omega (arith, target_below s at file t h l, file.types.few))

pub filled_none : {r : Routine} {T : List ℕ} → length T ≡ 256 → TargetTable r 0 T T
filled_none l = record { size = l; each = λ t h k. absurd (omega arith); stays = λ t h. refl }

pub filled_more : {r : Routine} {n t x : ℕ} {T₀ T : List ℕ} → t < 256 → n + 1 ≡ t → TargetTable r n T₀ T → x ≡ r.target t → TargetTable r t T₀ (set T t x)
filled_more {r} {n} {t} {x} {T₀} {T} l q g e =
    record {
      size = rw length-set g.size;
      each = λ u h k. elim (ℕ_discrete u t) [ yes p ↦ here u p | no d ↦ there u h k d ];
      stays = λ u h. get_or-set_other T t u x 0 (apart u h) ∙ g.stays u (further u h);
    }
  where
    here : (u : ℕ) → u ≡ t → get_or (set T t x) u 0 ≡ r.target u
    here u p = ap (λ j. get_or (set T t x) j 0) p ∙ get_or-set_same T t x 0 (omega (arith, g.size)) ∙ e ∙ ap r.target (sym p)

    there : (u : ℕ) → 1 ≤ u → u ≤ t → (u ≡ t → ⊥) → get_or (set T t x) u 0 ≡ r.target u
    there u h k d = get_or-set_other T t u x 0 d ∙ g.each u h (omega arith)

    apart : (u : ℕ) → (u ≡ 0) ⊎ (t < u) → u ≡ t → ⊥
    apart u (inl z) p = omega arith
    apart u (inr k) p = omega arith

    further : (u : ℕ) → (u ≡ 0) ⊎ (t < u) → (u ≡ 0) ⊎ (n < u)
    further u (inl z) = inl z
    further u (inr k) = inr (omega arith)
