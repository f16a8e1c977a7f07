-- Types compared and converted by the tables.
use Rattle.std.proofs.Common.{◌≡◌, refl, sym, ap, ◌∙◌, ℕ, zero, suc, ◌≤◌, ◌<◌, Bool, true, false, not, ◌&&◌, ◌⊎◌, inl, inr, List, get_or, not-suc-le-zero, arith}
use denote.Enum.Bare.{sameb}
use Rattle.rules.specs.contracts.Kind as kinds
use Rattle.rules.specs.Basic.{choose}
use Rattle.rules.specs.Table.{Routine}
use Rattle.rules.specs.declared.Kind.{Kind}
use Rattle.rules.specs.declared.Kind.TheVariants.{int, SAFE, SEQ, DYNAMIC}
use Rattle.rules.specs.Kinds.{kind, same_kind, deep, same, kind_converts, targets_matter, converts}
use Rattle.laws.specs.Same.{same_kind_eq, reflexive, same_depth}
use Rattle.checker.specs.Tables.{TypeTables}

-- The derived equality is the rules'.
equal_is : (a b : Kind) → sameb kinds.the_type a b ≡ same_kind a b
equal_is int int = refl
equal_is int SAFE = refl
equal_is int SEQ = refl
equal_is int DYNAMIC = refl
equal_is SAFE int = refl
equal_is SAFE SAFE = refl
equal_is SAFE SEQ = refl
equal_is SAFE DYNAMIC = refl
equal_is SEQ int = refl
equal_is SEQ SAFE = refl
equal_is SEQ SEQ = refl
equal_is SEQ DYNAMIC = refl
equal_is DYNAMIC int = refl
equal_is DYNAMIC SAFE = refl
equal_is DYNAMIC SEQ = refl
equal_is DYNAMIC DYNAMIC = refl

not_equal : (a b : Kind) → true ≡ not (sameb kinds.the_type a b) → same_kind a b ≡ false
not_equal a b h = go (same_kind a b) (rw equal_is at h)
  where
    go : (x : Bool) → true ≡ not x → x ≡ false
    go true h = cc
    go false h = refl

equal : (a b : Kind) → false ≡ not (sameb kinds.the_type a b) → same_kind a b ≡ true
equal a b h = go (same_kind a b) (rw equal_is at h)
  where
    go : (x : Bool) → false ≡ not x → x ≡ true
    go true h = refl
    go false h = cc

row_of : (r : Routine) (m : List ℕ) → ((t : ℕ) → t < r.types → r.target (suc t) ≤ t) → (t u : ℕ) → t ≤ r.types
    → same r m t u ≡ same_kind (kind m t) (kind m u) && choose (deep (kind m t)) (λ _. same r m (r.target t) (r.target u)) (λ _. true)
unfolding same
row_of r m falls zero u l = refl
row_of r m falls (suc t) u l =
    let k : r.target (suc t) ≤ t = falls t l in
    ap (λ x. same_kind (kind m (suc t)) (kind m u) && choose (deep (kind m (suc t))) (λ _. x) (λ _. true))
    (same_depth r m falls r.types (suc r.types) (r.target (suc t)) (r.target u) (omega arith) (omega arith) (omega arith))

module _ {r : Routine} {m T : List ℕ} {K : List Kind} (ts : TypeTables r m T K) where
  abbrev here : ℕ → Kind
  here t = get_or K t int

  -- A type whose targets are compared is no int.
  up : (t : ℕ) → t ≤ r.types → deep (here t) ≡ true → 1 ≤ t
  up zero l h = let e : deep (here 0) ≡ false = rw (ts.kind_at 0 l) refl in cc
  up (suc t) l h = omega arith

  pub lower : (t : ℕ) → 1 ≤ t → t ≤ r.types → get_or T t 0 < t
  lower zero h l = absurd (not-suc-le-zero h)
  lower (suc t) h l = omega (arith, ts.target (suc t) h l, ts.falls t l)

  module _ {t u : ℕ} (l : t ≤ r.types) (k : u ≤ r.types) where
    by_tables : same r m t u ≡ same_kind (here t) (here u) && choose (deep (here t)) (λ _. same r m (r.target t) (r.target u)) (λ _. true)
    by_tables = rw (ts.kind_at t l, ts.kind_at u k) (row_of r m ts.falls t u l)

    pub one_type : t ≡ u → true ≡ same r m t u
    one_type e = sym (reflexive r m t) ∙ ap (same r m t) e

    pub kinds_differ : true ≡ not (sameb kinds.the_type (here t) (here u)) → false ≡ same r m t u
    kinds_differ h = rw (by_tables, not_equal _ _ h)

    module _ (e : false ≡ not (sameb kinds.the_type (here t) (here u))) where
      pub no_deeper : (here t ≡ int) ⊎ (here t ≡ DYNAMIC) → true ≡ same r m t u
      no_deeper (inl h) = rw (by_tables, equal _ _ e, h)
      no_deeper (inr h) = rw (by_tables, equal _ _ e, h)

      both_deep : (here t ≡ SAFE) ⊎ (here t ≡ SEQ) → (deep (here t) ≡ true) × (deep (here u) ≡ true)
      both_deep h = let q : here t ≡ here u = same_kind_eq _ _ (equal _ _ e) in (first h, rw (← q) (first h))
        where
          first : (here t ≡ SAFE) ⊎ (here t ≡ SEQ) → deep (here t) ≡ true
          first (inl h) = rw h refl
          first (inr h) = rw h refl

      pub one_down : (here t ≡ SAFE) ⊎ (here t ≡ SEQ) → same r m (get_or T t 0) (get_or T u 0) ≡ same r m t u
      one_down h =
          let (d, f) = both_deep h in
          rw (by_tables, equal _ _ e, d, ts.target t (up t l d) l, ts.target u (up u k f) k)

      pub falling : (here t ≡ SAFE) ⊎ (here t ≡ SEQ) → (get_or T t 0 < t) × (get_or T u 0 < u)
      falling h = let (d, f) = both_deep h in (lower t (up t l d) l, lower u (up u k f) k)

    -- ---- conversion

    converts_by : converts r m t u ≡ kind_converts (here t) (here u) && choose (targets_matter (here t) (here u)) (λ _. same r m (r.target t) (r.target u)) (λ _. true)
    unfolding converts
    converts_by = rw (ts.kind_at t l, ts.kind_at u k)

    module _ {x : Bool} (c : x ≡ kind_converts (here t) (here u)) where
      pub kinds_refuse : x ≡ false → false ≡ converts r m t u
      kinds_refuse e = rw (converts_by, ← c, e)

      module _ (e : x ≡ true) {y : Bool} (j : y ≡ targets_matter (here t) (here u)) where
        pub kinds_suffice : y ≡ false → true ≡ converts r m t u
        kinds_suffice i = rw (converts_by, ← c, ← j, e, i)

        module _ (i : y ≡ true) where
          deep_both : (a b : Kind) → true ≡ targets_matter a b → (a ≡ int → ⊥) × (deep b ≡ true)
          deep_both int b h = cc
          deep_both SAFE b h = (λ q. cc, sym h)
          deep_both SEQ b h = (λ q. cc, sym h)
          deep_both DYNAMIC b h = (λ q. cc, sym h)

          not_int : (v : ℕ) → v ≤ r.types → (here v ≡ int → ⊥) → 1 ≤ v
          not_int zero p n = absurd (n (ts.kind_at 0 p))
          not_int (suc v) p n = omega arith

          pub converted_up : (1 ≤ t) × (1 ≤ u)
          converted_up = let (a, b) = deep_both _ _ (sym i ∙ j) in (not_int t l a, up u k b)

          pub targets_decide : same r m (get_or T t 0) (get_or T u 0) ≡ converts r m t u
          targets_decide =
              let (a, b) = converted_up in
              let p : kind_converts (here t) (here u) ≡ true = sym c ∙ e in
              let q : targets_matter (here t) (here u) ≡ true = sym j ∙ i in
              rw (converts_by, p, q, ts.target t a l, ts.target u b k)
