-- By the four tests, in their order.
use Rattle.std.proofs.Common.{◌≡◌, ap, ℕ, ◌<◌, true, false, rules, arith}
use Rattle.rules.specs.Basic.{half}
use Rattle.rules.specs.Table.{routine}
use Rattle.rules.specs.Reading.{rises}
use Rattle.rules.specs.Shape.{expr_shaped, command_shaped, value_shaped}
use Rattle.view.specs.declared.Counts.{Counts}
use Rattle.reader.proofs.Shapes.{not_rising, bad_expr, bad_command, bad_value, all_shaped}
use Rattle.reader.proofs.shape.TypedRows.judge.Goals as goal

pub returns-in-Some : goal.returns-in-Some
returns-in-Some c =
    let v = c.args.self.now.view in
    let h = c.in-Some.ensures.found in
    let bad : false ≡ rises (routine v.bytes.now v.at) c.in-Some.i = let q = h.1 in search rules in
    let before : (i : ℕ) → i < c.in-Some.i → true ≡ rises (routine v.bytes.now v.at) i = λ i l. let q = h.2 i l in search rules in
    rw (c.new.ensures, c.start_place.ensures)
    (not_rising v.bytes.now v.at (omega (arith, ap (λ (x : Counts). x.values) c.counts-n.ensures), bad, before))

pub returns-in-Some-first_bad : goal.returns-in-Some-first_bad
returns-in-Some-first_bad c =
    let v = c.args.self.now.view in
    let rise : (i : ℕ) → i < half v.bytes.now v.at.values → true ≡ rises (routine v.bytes.now v.at) i = λ i l. let q = c.in_default.ensures.none i (omega (arith, ap (λ (x : Counts). x.values) c.counts-n.ensures)) in search rules in
    let h = c.in-Some-first_bad.ensures.found in
    let bad : false ≡ expr_shaped (routine v.bytes.now v.at) ((routine v.bytes.now v.at).expr c.in-Some-first_bad.e) = let q = h.1 in search rules in
    let before : (i : ℕ) → i < c.in-Some-first_bad.e → true ≡ expr_shaped (routine v.bytes.now v.at) ((routine v.bytes.now v.at).expr i) = λ i l. let q = h.2 i l in search rules in
    rw (c.new-in-Some-first_bad.ensures, c.expr_place.ensures)
    (bad_expr v.bytes.now v.at rise (omega (arith, ap (λ (x : Counts). x.exprs) c.counts-n.ensures), bad, before))

pub returns-in-Some-first_bad-2 : goal.returns-in-Some-first_bad-2
returns-in-Some-first_bad-2 c =
    let v = c.args.self.now.view in
    let rise : (i : ℕ) → i < half v.bytes.now v.at.values → true ≡ rises (routine v.bytes.now v.at) i = λ i l. let q = c.in_default.ensures.none i (omega (arith, ap (λ (x : Counts). x.values) c.counts-n.ensures)) in search rules in
    let exprs : (i : ℕ) → i < half v.bytes.now v.at.exprs → true ≡ expr_shaped (routine v.bytes.now v.at) ((routine v.bytes.now v.at).expr i) = λ i l. let q = c.in_default-first_bad.ensures.none i (omega (arith, ap (λ (x : Counts). x.exprs) c.counts-n.ensures)) in search rules in
    let h = c.in-Some-first_bad-2.ensures.found in
    let bad : false ≡ command_shaped (routine v.bytes.now v.at) ((routine v.bytes.now v.at).command c.in-Some-first_bad-2.c) = let q = h.1 in search rules in
    let before : (i : ℕ) → i < c.in-Some-first_bad-2.c → true ≡ command_shaped (routine v.bytes.now v.at) ((routine v.bytes.now v.at).command i) = λ i l. let q = h.2 i l in search rules in
    rw (c.new-in-Some-first_bad-2.ensures, c.command_place.ensures)
    (bad_command v.bytes.now v.at rise exprs (omega (arith, ap (λ (x : Counts). x.commands) c.counts-n.ensures), bad, before))

pub returns-in-Some-first_bad-3 : goal.returns-in-Some-first_bad-3
returns-in-Some-first_bad-3 c =
    let v = c.args.self.now.view in
    let rise : (i : ℕ) → i < half v.bytes.now v.at.values → true ≡ rises (routine v.bytes.now v.at) i = λ i l. let q = c.in_default.ensures.none i (omega (arith, ap (λ (x : Counts). x.values) c.counts-n.ensures)) in search rules in
    let exprs : (i : ℕ) → i < half v.bytes.now v.at.exprs → true ≡ expr_shaped (routine v.bytes.now v.at) ((routine v.bytes.now v.at).expr i) = λ i l. let q = c.in_default-first_bad.ensures.none i (omega (arith, ap (λ (x : Counts). x.exprs) c.counts-n.ensures)) in search rules in
    let commands : (i : ℕ) → i < half v.bytes.now v.at.commands → true ≡ command_shaped (routine v.bytes.now v.at) ((routine v.bytes.now v.at).command i) = λ i l. let q = c.in_default-first_bad-2.ensures.none i (omega (arith, ap (λ (x : Counts). x.commands) c.counts-n.ensures)) in search rules in
    let h = c.in-Some-first_bad-3.ensures.found in
    let bad : false ≡ value_shaped (routine v.bytes.now v.at) ((routine v.bytes.now v.at).value c.in-Some-first_bad-3.v) = let q = h.1 in search rules in
    let before : (i : ℕ) → i < c.in-Some-first_bad-3.v → true ≡ value_shaped (routine v.bytes.now v.at) ((routine v.bytes.now v.at).value i) = λ i l. let q = h.2 i l in search rules in
    rw (c.new-in-Some-first_bad-3.ensures, c.start_place-in-Some-first_bad-3.ensures)
    (bad_value v.bytes.now v.at rise exprs commands (omega (arith, ap (λ (x : Counts). x.values) c.counts-n.ensures), bad, before))

pub returns : goal.returns
returns c =
    let v = c.args.self.now.view in
    let rise : (i : ℕ) → i < half v.bytes.now v.at.values → true ≡ rises (routine v.bytes.now v.at) i = λ i l. let q = c.in_default.ensures.none i (omega (arith, ap (λ (x : Counts). x.values) c.counts-n.ensures)) in search rules in
    let exprs : (i : ℕ) → i < half v.bytes.now v.at.exprs → true ≡ expr_shaped (routine v.bytes.now v.at) ((routine v.bytes.now v.at).expr i) = λ i l. let q = c.in_default-first_bad.ensures.none i (omega (arith, ap (λ (x : Counts). x.exprs) c.counts-n.ensures)) in search rules in
    let commands : (i : ℕ) → i < half v.bytes.now v.at.commands → true ≡ command_shaped (routine v.bytes.now v.at) ((routine v.bytes.now v.at).command i) = λ i l. let q = c.in_default-first_bad-2.ensures.none i (omega (arith, ap (λ (x : Counts). x.commands) c.counts-n.ensures)) in search rules in
    let shaped : (i : ℕ) → i < half v.bytes.now v.at.values → true ≡ value_shaped (routine v.bytes.now v.at) ((routine v.bytes.now v.at).value i) = λ i l. let q = c.in_default-first_bad-3.ensures.none i (omega (arith, ap (λ (x : Counts). x.values) c.counts-n.ensures)) in search rules in
    all_shaped v.bytes.now v.at rise exprs commands shaped
