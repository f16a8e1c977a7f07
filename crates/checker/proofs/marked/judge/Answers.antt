-- A wrong length, then a byte that is no kind, is refused with 7; then the rows are judged.
use Rattle.std.proofs.Common.{◌≡◌, ap, ◌∙◌, ℕ, ◌<◌, true, false, List, get_or, leb, rules, arith}
use Rattle.rules.specs.Basic.{half}
use Rattle.view.specs.declared.Counts.{Counts}
use Rattle.checker.proofs.Judging.{bad_length, bad_byte, bytes_pass}
use Rattle.checker.proofs.marked.judge.Goals as goal

pub returns-then-marking-n : goal.returns-then-marking-n
returns-then-marking-n c =
    let v = c.args.formed.now.view in
    let n = ap (λ (x : Counts). x.types) c.counts-n.ensures in
    rw (c.new.ensures, c.min.ensures, n) (bad_length v.bytes.now v.at c.args.marking.now (λ q. omega arith))

pub returns-in-Some : goal.returns-in-Some
returns-in-Some c =
    let v = c.args.formed.now.view in
    let m : List ℕ = c.args.marking.now in
    let n = ap (λ (x : Counts). x.types) c.counts-n.ensures in
    let h = c.in-Some.ensures.found in
    let bad : false ≡ leb (get_or m c.in-Some.i 0) 2 = let q = h.1 in search rules in
    let before : (i : ℕ) → i < c.in-Some.i → true ≡ leb (get_or m i 0) 2 = λ i l. let q = h.2 i l in search rules in
    rw c.new-in-Some.ensures (bad_byte v.bytes.now v.at m (omega arith) (omega arith, bad, before))

pub returns : goal.returns
returns c =
    let v = c.args.formed.now.view in
    let m : List ℕ = c.args.marking.now in
    let n = ap (λ (x : Counts). x.types) c.counts-n.ensures in
    let each : (i : ℕ) → i < half v.bytes.now v.at.types → true ≡ leb (get_or m i 0) 2 = λ i l. let q = c.in_default.ensures.none i (omega arith) in search rules in
    c.judge.ensures ∙ bytes_pass v.bytes.now v.at m (omega arith) each
