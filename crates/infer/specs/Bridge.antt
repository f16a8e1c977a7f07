-- From plain tables back to a routine: the least marking over the tables that its rows give is its least marking.
use Rattle.std.specs.Prelude.{◌≡◌, Bool, ◌&&◌, List, get_or}
use Rattle.std.proofs.Math.Path.{refl}
use Rattle.std.proofs.Common.{sym, ap, ◌∙◌, not-suc-le-zero, arith}
use Rattle.std.proofs.Math.Bool.{true}
use Prim.Native.Nat.{ℕ, zero, suc, ◌≤◌, ◌<◌}
use Rattle.std.proofs.Math.Decide.{dec_lt}
use Rattle.std.proofs.lemmas.List.{get_or-replicate}
use Rattle.std.proofs.lemmas.List.Elements.{All-contains}
use Rattle.rules.specs.Basic.{choose}
use Rattle.rules.specs.declared.Need.{Need}
use Rattle.rules.specs.declared.Need.TheVariants.{Nothing, Moving, Converting}
use Rattle.rules.specs.Table.{Routine}
use Rattle.rules.specs.declared.Kind.TheVariants.{int}
use Rattle.rules.specs.Kinds.{kind_of, kind, same_kind, deep, same, same_below, converts, spreads, expr_need, command_need, need_met, Acceptable}
use Rattle.rules.specs.Least.{Least}
use Rattle.rules.specs.Graph.{byte_of}
use Rattle.laws.specs.Convert.{Conv, conv_of, of_conv, any_to_int, int_from, spread_of, two_spreads, spreads_int, byte_not_safe}
use Rattle.laws.specs.Values.{target_le}
use Rattle.laws.specs.Formed.{Formed}
use Rattle.laws.specs.Dynamic.{all_acceptable}
use Rattle.raise.specs.Marks.{at, Below, kept}
use Rattle.raise.specs.declared.Conversion.{Conversion}
use Rattle.raise.specs.Demands.{Ref, Between}
use Rattle.links.specs.Plain.{plain}
use Rattle.gather.specs.Gathered.{Listed, NeedListed, Targets, Gathered}
use Rattle.infer.specs.Tables.{Suits, LeastAbove, past}

-- ---- the table's routine has the same equal types

mixed : (k : ℕ) (x y : Bool) → (same_kind (kind_of k) int && x) ≡ (same_kind (kind_of k) int && y)
mixed zero x y = refl
mixed (suc zero) x y = refl
mixed (suc (suc k)) x y = refl

module _ {r : Routine} (f : Formed r) {T : List ℕ} (table : Targets r T) where
  target_at : (t : ℕ) → t < r.types → at T (suc t) ≡ r.target (suc t)
  target_at t l = table.each (suc t) (record { low = omega arith; high = l })

  agree : (m : List ℕ) (d t u : ℕ) → t ≤ r.types → u ≤ r.types → same_below r m d t u ≡ same_below (plain r.types T) m d t u
  agree m zero t u h i = refl
  agree m (suc d) zero u h i = refl
  agree m (suc d) (suc t) zero h i = mixed (get_or m t 0) _ _
  agree m (suc d) (suc t) (suc u) h i =
      let a : r.target (suc t) ≤ t = f.falls.by t h in
      let b : r.target (suc u) ≤ u = f.falls.by u i in
      ap (λ x. same_kind (kind_of (get_or m t 0)) (kind_of (get_or m u 0)) && choose (deep (kind_of (get_or m t 0))) (λ _. x) (λ _. true))
      (agree m d (r.target (suc t)) (r.target (suc u)) (omega arith) (omega arith) ∙ both)
    where
      both : same_below (plain r.types T) m d (r.target (suc t)) (r.target (suc u)) ≡ same_below (plain r.types T) m d (at T (suc t)) (at T (suc u))
      both = rw (target_at t h, target_at u i) refl

  agree_targets : (m : List ℕ) (s t : ℕ) → Ref r.types s → Ref r.types t
      → same r m (r.target s) (r.target t) ≡ same (plain r.types T) m (at T s) (at T t)
  unfolding same
  agree_targets m s t a b =
      agree m (suc r.types) (r.target s) (r.target t) (target_le f.falls s a.low a.high) (target_le f.falls t b.low b.high)
      ∙ rw (table.each s a, table.each t b) refl

  conv_plain : {m : List ℕ} {s t : ℕ} → Ref r.types s → Ref r.types t → Conv r m s t → Conv (plain r.types T) m s t
  conv_plain {m} {s} {t} a b c =
      record { back_one = c.back_one; back_two = c.back_two; forth_two = c.forth_two; targets = λ l. sym (agree_targets m s t a b) ∙ c.targets l }

  plain_conv : {m : List ℕ} {s t : ℕ} → Ref r.types s → Ref r.types t → Conv (plain r.types T) m s t → Conv r m s t
  plain_conv {m} {s} {t} a b c =
      record { back_one = c.back_one; back_two = c.back_two; forth_two = c.forth_two; targets = λ l. agree_targets m s t a b ∙ c.targets l }

conv_ref : (r : Routine) (m : List ℕ) (s t : ℕ) → 1 ≤ s → 1 ≤ t → converts r m s t ≡ true → Conv r m s t
conv_ref r m zero t a b h = absurd (not-suc-le-zero a)
conv_ref r m (suc s) zero a b h = absurd (not-suc-le-zero b)
conv_ref r m (suc s) (suc t) a b h = conv_of r m s t h

-- ---- the least marking

module _ {r : Routine} (f : Formed r) {T : List ℕ} {C : List Conversion} {m₀ : List ℕ} (g : Gathered r T C m₀) where
  -- An acceptable marking suits the tables.
  acceptable_suits : {w : List ℕ} → Acceptable r w → Suits r.types T C w
  acceptable_suits {w} a =
      record {
        spread = λ t h i e. spread t h i e (dec_lt t r.types);
        convs = λ k d l.
            let b = g.listed k d l in
            conv_plain f g.table b.from b.to (conv_ref r w (get_or C k d).from (get_or C k d).to b.from.low b.to.low ((g.follows w a).convs k d l));
      }
    where
      spread : (t : ℕ) → 2 ≤ get_or w t 0 → (i : ℕ) → at T (suc t) ≡ suc i → Dec (t < r.types) → 2 ≤ get_or w i 0
      spread t h i e (yes l) = spread_of a t h i (sym (target_at f g.table t l) ∙ e)
      spread t h i e (no n) = absurd (omega (arith, past w t (omega (arith, a.size))))

  module _ {m : List ℕ} (low : LeastAbove T C m₀ m) where
    suits : Suits r.types T C m
    suits = rw g.size at low.suits

    lowest : {w : List ℕ} → Acceptable r w → Below m w
    lowest {w} a = low.lowest w (rw g.size (acceptable_suits a)) (g.follows w a).seeds

    seed : (t : ℕ) → 1 ≤ byte_of m₀ t → 1 ≤ byte_of m t
    seed t h = kept low.above t h

    converted : (s t : ℕ) → Listed C m₀ s t → converts r m s t ≡ true
    unfolding converts
    converted zero zero h = refl
    converted (suc s) zero h = any_to_int (get_or m s 0) _
    converted zero (suc t) h = int_from (get_or m t 0) true (seed (suc t) h)
    converted (suc s) (suc t) h =
        let d : Conversion = record { from = suc s; to = suc t } in
        let b = All-contains (Between r.types) C d g.listed h in
        of_conv r m s t (plain_conv f g.table b.from b.to (All-contains (λ x. Conv (plain r.types T) m x.from x.to) C d suits.convs h))

    need_met_lem : (x : Need) → NeedListed C m₀ x → need_met r m x ≡ true
    need_met_lem Nothing h = refl
    need_met_lem (Moving t) h = byte_not_safe m t (seed t h)
    need_met_lem (Converting s t) h = converted s t h

    type_kind_lem : (i t : ℕ) → i < r.types → r.target (suc i) ≡ t → spreads (kind_of (get_or m i 0)) (kind m t) ≡ true
    type_kind_lem i zero l e = spreads_int (get_or m i 0)
    type_kind_lem i (suc t) l e = two_spreads (get_or m i 0) (get_or m t 0) (λ h. suits.spread i h t (target_at f g.table i l ∙ e))

    pub least : Least r m
    least =
        record {
          acceptable =
              record {
                size = low.size ∙ g.size;
                bytes = λ i l. omega (arith, (lowest (all_acceptable f)).each i, get_or-replicate {A = ℕ} r.types i 2 0 l);
                types = λ i l. type_kind_lem i (r.target (suc i)) l refl;
                exprs = λ e l. need_met_lem (expr_need r (r.expr e)) (g.exprs e l);
                commands = λ c l. need_met_lem (command_need r (r.command c)) (g.commands c l);
              };
          lowest = λ w a i l. (lowest a).each i;
        }
