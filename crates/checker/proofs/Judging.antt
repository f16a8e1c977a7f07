-- The table of kinds, and refusals 7 and 8 one after the other.
use Rattle.std.proofs.Common.{◌≡◌, refl, sym, ap, ◌∙◌, ℕ, suc, ◌+◌, ◌≤◌, ◌<◌, min, List, length, get_or, arith, eq-eqb, ne_eqb, leb}
use Rattle.std.proofs.Math.Decide.{ℕ_discrete}
use Rattle.std.proofs.Math.Seq.{get_or-set_same, get_or-set_other}
use Rattle.std.proofs.Math.ListN.{set}
use Rattle.rules.specs.declared.Kind.{Kind}
use Rattle.rules.specs.declared.Kind.TheVariants.{int}
use Rattle.rules.specs.declared.Starts.{Starts}
use Rattle.rules.specs.Basic.{half, fine, refused}
use Rattle.rules.specs.Table.{routine, type_place, expr_place, command_place}
use Rattle.rules.specs.Kinds.{kind_of, kind, type_kind, expr_kind, command_kind, kinds}
use Rattle.laws.specs.First.{Each, First, first_stops, none_fails}
use Rattle.targets.specs.Filled.{TargetTable}
use Rattle.needs.specs.Typed.{Typed}
use Rattle.checker.specs.Tables.{KindsOf, TypeTables}
use Rattle.checker.specs.Judge.{breaking}

pub kinds_more : {m : List ℕ} {K : List Kind} {i : ℕ} {x : Kind} → i + 1 < length K → KindsOf m i K → x ≡ kind_of (get_or m i 0) → KindsOf m (i + 1) (set K (i + 1) x)
kinds_more {m} {K} {i} {x} room g e = record { kind_at = λ t h. elim (ℕ_discrete t (i + 1)) [ yes q ↦ here t q | no d ↦ there t h d ] }
  where
    there : (t : ℕ) → t ≤ i + 1 → (t ≡ i + 1 → ⊥) → get_or (set K (i + 1) x) t int ≡ kind m t
    there t h d = get_or-set_other K (i + 1) t x int d ∙ g.kind_at t (omega arith)

    here : (t : ℕ) → t ≡ i + 1 → get_or (set K (i + 1) x) t int ≡ kind m t
    here t q =
        let r : suc i ≡ t = omega arith in
        ap (λ j. get_or (set K (i + 1) x) j int) q ∙ get_or-set_same K (i + 1) x int room ∙ e ∙ ap (kind m) r

-- ---- refusal 8

module _ (s : List ℕ) (at : Starts) (m : List ℕ) where
  pub bad_type : {k : ℕ} → First (half s at.types) (λ i. type_kind (routine s at) m (suc i)) k → refused 8 (type_place at (suc k)) ≡ breaking (routine s at) m at
  bad_type f = sym (first_stops 8 _ _ _ f)

  module _ (types : Each (half s at.types) (λ i. type_kind (routine s at) m (suc i))) where
    pub bad_expr : {k : ℕ} → First (half s at.exprs) (λ e. expr_kind (routine s at) m ((routine s at).expr e)) k → refused 8 (expr_place at k) ≡ breaking (routine s at) m at
    bad_expr f = sym (none_fails 8 _ _ _ types ∙ first_stops 8 _ _ _ f)

    module _ (exprs : Each (half s at.exprs) (λ e. expr_kind (routine s at) m ((routine s at).expr e))) where
      pub bad_command : {k : ℕ} → First (half s at.commands) (λ c. command_kind (routine s at) m ((routine s at).command c)) k → refused 8 (command_place at k) ≡ breaking (routine s at) m at
      bad_command f = sym (none_fails 8 _ _ _ types ∙ none_fails 8 _ _ _ exprs ∙ first_stops 8 _ _ _ f)

      pub all_keep : Each (half s at.commands) (λ c. command_kind (routine s at) m ((routine s at).command c)) → fine at ≡ breaking (routine s at) m at
      all_keep commands = sym (none_fails 8 _ _ _ types ∙ none_fails 8 _ _ _ exprs ∙ none_fails 8 _ _ _ commands)

  -- ---- refusal 7

  pub bad_length : (length m ≡ half s at.types → ⊥) → refused 7 (min (length m) (half s at.types)) ≡ kinds (routine s at) m (λ _. fine at)
  unfolding kinds
  bad_length n = rw (ne_eqb (length m) (half s at.types) n) refl

  module _ (e : length m ≡ half s at.types) where
    pub bad_byte : {k : ℕ} → First (half s at.types) (λ i. leb (get_or m i 0) 2) k → refused 7 k ≡ kinds (routine s at) m (λ _. fine at)
    unfolding kinds
    bad_byte f = rw (eq-eqb (length m) (half s at.types) e) (sym (first_stops 7 _ (λ i. i) _ f))

    pub bytes_pass : Each (half s at.types) (λ i. leb (get_or m i 0) 2) → breaking (routine s at) m at ≡ kinds (routine s at) m (λ _. fine at)
    unfolding kinds
    bytes_pass each = rw (eq-eqb (length m) (half s at.types) e) (sym (none_fails 7 _ (λ i. i) _ each))

    pub tables : {ty T₀ T : List ℕ} {K : List Kind} → Typed s at ty → TargetTable (routine s at) (half s at.types) T₀ T → KindsOf m (length m) K → TypeTables (routine s at) m T K
    tables f ts ks =
        record { few = f.file.types.few; falls = f.formed.falls.by; target = ts.each; kind_at = λ t k. ks.kind_at t (omega arith) }
