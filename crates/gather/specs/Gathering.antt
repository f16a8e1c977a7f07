-- The loops over rows: the first i expressions and c commands are noted. Every acceptable marking follows what is noted, since the rows ask for it.
use Rattle.std.specs.Prelude.{◌≡◌, true, ℕ, ◌+◌, ◌≤◌, ◌<◌, List, ◌++◌, length}
use Rattle.std.specs.List.{All}
use Rattle.std.proofs.Common.{ap, ◌∙◌, arith, length-append}
use Rattle.std.proofs.Math.Decide.{ℕ_discrete}
use Rattle.std.proofs.lemmas.List.Elements.{All-append}
use Rattle.rules.specs.declared.Need.{Need}
use Rattle.rules.specs.Table.{Routine}
use Rattle.rules.specs.Kinds.{converts, expr_need, command_need, need_met, Acceptable}
use Rattle.laws.specs.Formed.{Formed}
use Rattle.laws.specs.Needs.{NeedFits, expr_need_fits, command_need_fits}
use Rattle.raise.specs.declared.Conversion.{Conversion}
use Rattle.raise.specs.Demands.{Between}
use Rattle.gather.specs.Gathered.{NeedListed, Targets, Follows, Gathered}
use Rattle.gather.specs.Notes.{asked, Noted, asked_between, asked_few, asked_made, seed_met, need_listed, need_kept}

-- At most one conversion is listed for each row.
pub record Noting (r : Routine) (i c : ℕ) (C : List Conversion) (m : List ℕ) : Type 0 where
  pub count : length C ≤ i + c
  pub size : length m ≡ r.types
  pub listed : All (Between r.types) C
  pub exprs : (e : ℕ) → e < i → NeedListed C m (expr_need r (r.expr e))
  pub commands : (e : ℕ) → e < c → NeedListed C m (command_need r (r.command e))
  pub follows : (w : List ℕ) → Acceptable r w → Follows r C m w

pub gathered : {r : Routine} {T : List ℕ} {C : List Conversion} {m : List ℕ} → Targets r T → Noting r r.exprs r.commands C m → Gathered r T C m
gathered table g = record { size = g.size; table = table; listed = g.listed; exprs = g.exprs; commands = g.commands; follows = g.follows }

-- ---- one row more

-- What was listed stays so, and a need that every acceptable marking meets is listed too.
record After (r : Routine) (C : List Conversion) (m : List ℕ) (x : Need) (C' : List Conversion) (m' : List ℕ) : Type 0 where
  count : length C' ≤ length C + 1
  size : length m' ≡ r.types
  listed : All (Between r.types) C'
  before : (y : Need) → NeedListed C m y → NeedListed C' m' y
  now : NeedListed C' m' x
  follows : (w : List ℕ) → Acceptable r w → Follows r C' m' w

module _ {r : Routine} {i c : ℕ} {C : List Conversion} {m : List ℕ} (g : Noting r i c C m) where
  after : {x : Need} {C' : List Conversion} {m' : List ℕ} → NeedFits r.types x → ((w : List ℕ) → Acceptable r w → need_met r w x ≡ true) → Noted C m x C' m'
      → After r C m x C' m'
  after {x} {C'} {m'} f a d =
      rw d.listed
      (record {
        count = omega (arith, length-append C (asked x), asked_few x);
        size = d.size ∙ g.size;
        listed = All-append (Between r.types) C (asked x) g.listed (asked_between r.types x f);
        before = λ y h. need_kept C m' (asked x) d.grows y h;
        now = need_listed C m' r.types x f d.gets;
        follows = follows;
      })
    where
      follows : (w : List ℕ) → Acceptable r w → Follows r (C ++ asked x) m' w
      follows w h =
          let p = g.follows w h in
          record {
            seeds = d.below w p.seeds (seed_met r w x (a w h));
            convs = All-append (λ c. converts r w c.from c.to ≡ true) C (asked x) p.convs (asked_made r w x (a w h));
          }

  module _ (formed : Formed r) {x : Need} where
    pub expr_fits : i < r.exprs → x ≡ expr_need r (r.expr i) → NeedFits (length m) x
    expr_fits l q = rw (g.size, q) (expr_need_fits formed i l)

    pub command_fits : c < r.commands → x ≡ command_need r (r.command c) → NeedFits (length m) x
    command_fits l q = rw (g.size, q) (command_need_fits formed c l)

    module _ {C' : List Conversion} {m' : List ℕ} (d : Noted C m x C' m') where
      pub noting_expr : i < r.exprs → x ≡ expr_need r (r.expr i) → Noting r (i + 1) c C' m'
      noting_expr l q =
          let y = after (rw q (expr_need_fits formed i l)) (λ w a. ap (need_met r w) q ∙ a.exprs i l) d in
          record {
            count = omega (arith, g.count, y.count);
            size = y.size;
            listed = y.listed;
            exprs = λ e h. go (rw q at y.now) y.before e h (ℕ_discrete e i);
            commands = λ e h. y.before (command_need r (r.command e)) (g.commands e h);
            follows = y.follows;
          }
        where
          go : NeedListed C' m' (expr_need r (r.expr i)) → ((y : Need) → NeedListed C m y → NeedListed C' m' y) → (e : ℕ) → e < i + 1 → Dec (e ≡ i)
              → NeedListed C' m' (expr_need r (r.expr e))
          go now before e h (yes q) = rw q now
          go now before e h (no n) = before (expr_need r (r.expr e)) (g.exprs e (omega arith))

      pub noting_command : c < r.commands → x ≡ command_need r (r.command c) → Noting r i (c + 1) C' m'
      noting_command l q =
          let y = after (rw q (command_need_fits formed c l)) (λ w a. ap (need_met r w) q ∙ a.commands c l) d in
          record {
            count = omega (arith, g.count, y.count);
            size = y.size;
            listed = y.listed;
            exprs = λ e h. y.before (expr_need r (r.expr e)) (g.exprs e h);
            commands = λ e h. go (rw q at y.now) y.before e h (ℕ_discrete e c);
            follows = y.follows;
          }
        where
          go : NeedListed C' m' (command_need r (r.command c)) → ((y : Need) → NeedListed C m y → NeedListed C' m' y) → (e : ℕ) → e < c + 1 → Dec (e ≡ c)
              → NeedListed C' m' (command_need r (r.command e))
          go now before e h (yes q) = rw q now
          go now before e h (no n) = before (command_need r (r.command e)) (g.commands e (omega arith))
