-- By the three tests, in their order.
use Rattle.std.proofs.Common.{◌≡◌, ap, ℕ, suc, ◌<◌, true, false, List, add-one, rules, arith}
use Rattle.rules.specs.Basic.{half}
use Rattle.rules.specs.Table.{Routine, routine}
use Rattle.rules.specs.Kinds.{type_kind, expr_kind, command_kind}
use Rattle.view.specs.declared.Counts.{Counts}
use Rattle.checker.proofs.Judging.{bad_type, bad_expr, bad_command, all_keep}
use Rattle.checker.proofs.marked.MarkedFile.judge.Goals as goal

pub returns-in-Some : goal.returns-in-Some
returns-in-Some c =
    let v = c.args.self.now.formed.view in
    let r : Routine = routine v.bytes.now v.at in
    let m : List ℕ = c.args.self.now.marking.now in
    let h = c.in-Some.ensures.found in
    let bad : false ≡ type_kind r m (suc c.in-Some.i) = let q = h.1 in rw (← add-one c.in-Some.i) (search rules) in
    let before : (i : ℕ) → i < c.in-Some.i → true ≡ type_kind r m (suc i) = λ i l. let q = h.2 i l in rw (← add-one i) (search rules) in
    rw (c.new.ensures, c.type_place.ensures, add-one)
    (bad_type v.bytes.now v.at m (omega (arith, ap (λ (x : Counts). x.types) c.counts-n.ensures), bad, before))

pub returns-in-Some-first_bad : goal.returns-in-Some-first_bad
returns-in-Some-first_bad c =
    let v = c.args.self.now.formed.view in
    let r : Routine = routine v.bytes.now v.at in
    let m : List ℕ = c.args.self.now.marking.now in
    let types : (i : ℕ) → i < half v.bytes.now v.at.types → true ≡ type_kind r m (suc i) = λ i l. let q = c.in_default.ensures.none i (omega (arith, ap (λ (x : Counts). x.types) c.counts-n.ensures)) in rw (← add-one i) (search rules) in
    let h = c.in-Some-first_bad.ensures.found in
    let bad : false ≡ expr_kind r m (r.expr c.in-Some-first_bad.e) = let q = h.1 in search rules in
    let before : (i : ℕ) → i < c.in-Some-first_bad.e → true ≡ expr_kind r m (r.expr i) = λ i l. let q = h.2 i l in search rules in
    rw (c.new-in-Some-first_bad.ensures, c.expr_place.ensures)
    (bad_expr v.bytes.now v.at m types (omega (arith, ap (λ (x : Counts). x.exprs) c.counts-n.ensures), bad, before))

pub returns-in-Some-first_bad-2 : goal.returns-in-Some-first_bad-2
returns-in-Some-first_bad-2 c =
    let v = c.args.self.now.formed.view in
    let r : Routine = routine v.bytes.now v.at in
    let m : List ℕ = c.args.self.now.marking.now in
    let types : (i : ℕ) → i < half v.bytes.now v.at.types → true ≡ type_kind r m (suc i) = λ i l. let q = c.in_default.ensures.none i (omega (arith, ap (λ (x : Counts). x.types) c.counts-n.ensures)) in rw (← add-one i) (search rules) in
    let exprs : (i : ℕ) → i < half v.bytes.now v.at.exprs → true ≡ expr_kind r m (r.expr i) = λ i l. let q = c.in_default-first_bad.ensures.none i (omega (arith, ap (λ (x : Counts). x.exprs) c.counts-n.ensures)) in search rules in
    let h = c.in-Some-first_bad-2.ensures.found in
    let bad : false ≡ command_kind r m (r.command c.in-Some-first_bad-2.c) = let q = h.1 in search rules in
    let before : (i : ℕ) → i < c.in-Some-first_bad-2.c → true ≡ command_kind r m (r.command i) = λ i l. let q = h.2 i l in search rules in
    rw (c.new-in-Some-first_bad-2.ensures, c.command_place.ensures)
    (bad_command v.bytes.now v.at m types exprs (omega (arith, ap (λ (x : Counts). x.commands) c.counts-n.ensures), bad, before))

pub returns : goal.returns
returns c =
    let v = c.args.self.now.formed.view in
    let r : Routine = routine v.bytes.now v.at in
    let m : List ℕ = c.args.self.now.marking.now in
    let types : (i : ℕ) → i < half v.bytes.now v.at.types → true ≡ type_kind r m (suc i) = λ i l. let q = c.in_default.ensures.none i (omega (arith, ap (λ (x : Counts). x.types) c.counts-n.ensures)) in rw (← add-one i) (search rules) in
    let exprs : (i : ℕ) → i < half v.bytes.now v.at.exprs → true ≡ expr_kind r m (r.expr i) = λ i l. let q = c.in_default-first_bad.ensures.none i (omega (arith, ap (λ (x : Counts). x.exprs) c.counts-n.ensures)) in search rules in
    let commands : (i : ℕ) → i < half v.bytes.now v.at.commands → true ≡ command_kind r m (r.command i) = λ i l. let q = c.in_default-first_bad-2.ensures.none i (omega (arith, ap (λ (x : Counts). x.commands) c.counts-n.ensures)) in search rules in
    all_keep v.bytes.now v.at m types exprs commands
