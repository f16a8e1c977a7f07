-- A marking of the right length and bytes is acceptable exactly if it meets its routine's demands, so the least solution of these is the
-- least acceptable marking. It is there because all DYNAMIC is acceptable, and there is one only, since two would be below each other.
use Rattle.std.specs.Prelude.{◌≡◌, refl, true, ℕ, zero, suc, ◌≤◌, ◌<◌, List, ◌++◌, length, get_or, replicate}
use Rattle.std.proofs.Common.{sym, ◌∙◌, not-suc-le-zero, le_refl, arith}
use Rattle.std.proofs.Math.Decide.{ℕ_discrete}
use Rattle.std.proofs.lemmas.List.{length-replicate, get_or-replicate}
use Rattle.rules.specs.Table.{Routine}
use Rattle.rules.specs.declared.Need.{Need}
use Rattle.rules.specs.declared.Need.TheVariants.{Nothing, Moving, Converting}
use Rattle.rules.specs.Kinds.{kind_of, kind, spreads, expr_need, command_need, need_met, Acceptable}
use Rattle.rules.specs.Least.{Least}
use Rattle.laws.specs.Convert.{Spread, spread_of, spreads_two, two_spreads, spreads_int, not_safe_byte, byte_not_safe}
use Rattle.laws.specs.Formed.{Formed}
use Rattle.laws.specs.Needs.{NeedFits, expr_need_fits, command_need_fits}
use Rattle.laws.specs.Dynamic.{all_acceptable}
use Rattle.rules.specs.Graph.{Demand, Meets, Each, need_demands, target_demands, type_demands, expr_demands, command_demands, gather, demands}
use Rattle.promises.specs.Solve.{Solution, solved, antisym}
use Rattle.promises.specs.Demands.{each_split, each_join, conversion_met, met_converts}

pub least_unique : {r : Routine} {m w : List ℕ} → Least r m → Least r w → m ≡ w
least_unique {r} {m} {w} a b =
    let l = a.acceptable.size in
    let k = b.acceptable.size in
    antisym m w (l ∙ sym k) (λ i h. a.lowest w b.acceptable i (omega arith)) (λ i h. b.lowest m a.acceptable i (omega arith))

-- ---- rows one after the other

each_gather : (P : Demand → Type 0) (f : ℕ → List Demand) (n : ℕ) → ((i : ℕ) → i < n → Each P (f i)) → Each P (gather f n)
each_gather P f zero h = tt
each_gather P f (suc n) h = each_join P (gather f n) (f n) (each_gather P f n (λ i l. h i (omega arith))) (h n (le_refl _))

gather_each : (P : Demand → Type 0) (f : ℕ → List Demand) (n : ℕ) → Each P (gather f n) → (i : ℕ) → i < n → Each P (f i)
gather_each P f zero h i l = absurd (not-suc-le-zero l)
gather_each P f (suc n) h i l = let (a, b) = each_split P (gather f n) (f n) h in here b (λ k. gather_each P f n a i k) (ℕ_discrete i n)
  where
    here : Each P (f n) → (i < n → Each P (f i)) → Dec (i ≡ n) → Each P (f i)
    here a b (yes e) = rw e a
    here a b (no x) = b (omega arith)

-- Each demand is that of a row.
pub record ByRow (P : Demand → Type 0) (r : Routine) : Type 0 where
  pub types : (i : ℕ) → i < r.types → Each P (type_demands r i)
  pub exprs : (e : ℕ) → e < r.exprs → Each P (expr_demands r e)
  pub commands : (c : ℕ) → c < r.commands → Each P (command_demands r c)

pub rows_each : (P : Demand → Type 0) (r : Routine) → ByRow P r → Each P (demands r)
unfolding demands
rows_each P r h =
    each_join P (gather (type_demands r) r.types) (gather (expr_demands r) r.exprs ++ gather (command_demands r) r.commands)
    (each_gather P (type_demands r) r.types h.types)
    (each_join P (gather (expr_demands r) r.exprs) (gather (command_demands r) r.commands)
    (each_gather P (expr_demands r) r.exprs h.exprs)
    (each_gather P (command_demands r) r.commands h.commands))

pub each_rows : (P : Demand → Type 0) (r : Routine) → Each P (demands r) → ByRow P r
unfolding demands
each_rows P r h =
    let (x, y) = each_split P (gather (type_demands r) r.types) (gather (expr_demands r) r.exprs ++ gather (command_demands r) r.commands) h in
    let (u, v) = each_split P (gather (expr_demands r) r.exprs) (gather (command_demands r) r.commands) y in
    record {
      types = gather_each P (type_demands r) r.types x;
      exprs = gather_each P (expr_demands r) r.exprs u;
      commands = gather_each P (command_demands r) r.commands v;
    }

-- ---- an expression or a command row, by what it asks

module _ (r : Routine) (m : List ℕ) where
  target_met : (p i t : ℕ) → spreads (kind_of (get_or m i 0)) (kind m t) ≡ true → Each (Meets m) (target_demands p (suc i) t)
  target_met p i zero h = tt
  target_met p i (suc t) h = (spreads_two (get_or m i 0) (get_or m t 0) h, tt)

  met_target : (p i t : ℕ) → Each (Meets m) (target_demands p (suc i) t) → spreads (kind_of (get_or m i 0)) (kind m t) ≡ true
  met_target p i zero h = spreads_int (get_or m i 0)
  met_target p i (suc t) h = two_spreads (get_or m i 0) (get_or m t 0) h.0

  need_met_lem : Spread r m → (p : ℕ) (x : Need) → need_met r m x ≡ true → Each (Meets m) (need_demands r p x)
  need_met_lem s p Nothing h = tt
  need_met_lem s p (Moving t) h = (not_safe_byte m t h, tt)
  need_met_lem s p (Converting a t) h = conversion_met r m p s a t h

  met_need : Formed r → (p : ℕ) (x : Need) → NeedFits r.types x → Each (Meets m) (need_demands r p x) → need_met r m x ≡ true
  met_need f p Nothing l h = refl
  met_need f p (Moving t) l h = byte_not_safe m t h.0
  met_need f p (Converting s t) l h = met_converts r m p f.falls s t l.0 h

  -- ---- all rows

  pub acceptable_meets : Acceptable r m → Each (Meets m) (demands r)
  acceptable_meets a =
      let s = spread_of a in
      rows_each (Meets m) r
      (record {
        types = λ i l. target_met (r.type_place (suc i)) i (r.target (suc i)) (a.types i l);
        exprs = λ e l. need_met_lem s (r.expr_place e) (expr_need r (r.expr e)) (a.exprs e l);
        commands = λ c l. need_met_lem s (r.command_place c) (command_need r (r.command c)) (a.commands c l);
      })

  pub meets_acceptable : Formed r → length m ≡ r.types → ((i : ℕ) → i < r.types → get_or m i 0 ≤ 2) → Each (Meets m) (demands r) → Acceptable r m
  meets_acceptable f l b h =
      let x = each_rows (Meets m) r h in
      record {
        size = l;
        bytes = b;
        types = λ i k. met_target (r.type_place (suc i)) i (r.target (suc i)) (x.types i k);
        exprs = λ e k.
            met_need f (r.expr_place e) (expr_need r (r.expr e)) (expr_need_fits f e k) (x.exprs e k);
        commands = λ c k.
            met_need f (r.command_place c) (command_need r (r.command c)) (command_need_fits f c k) (x.commands c k);
      }

-- ---- the least marking

pub record LeastOf (r : Routine) : Type 0 where
  pub marking : List ℕ
  pub least : Least r marking

pub least_exists : {r : Routine} → Formed r → LeastOf r
least_exists {r} f = record { marking = x.marking; least = record { acceptable = good; lowest = λ w a i l. x.lowest w (acceptable_meets r w a) i } }
  where
    top : List ℕ
    top = replicate r.types 2

    met : Each (Meets top) (demands r)
    met = acceptable_meets r top (all_acceptable f)

    x : Solution (demands r) (length top)
    x = solved (demands r) top met

    good : Acceptable r x.marking
    good =
        meets_acceptable r x.marking f (x.size ∙ length-replicate r.types 2)
        (λ i l. omega (arith, x.lowest top met i, get_or-replicate {A = ℕ} r.types i 2 0 l)) x.meets
