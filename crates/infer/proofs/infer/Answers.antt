-- A law for each way out: refused with the file, too little lent, marked. Nothing is written before the last.
use Rattle.std.proofs.Common.{◌≡◌, refl, ap, ◌∙◌, rules}
use Rattle.rules.specs.Basic.{half}
use Rattle.view.specs.declared.Counts.{Counts}
use Rattle.infer.specs.Told.{told_typed}
use Rattle.infer.specs.Answers.{file_refused, marking_short, marking_filled}
use Rattle.infer.proofs.infer.Goals as goal

pub returns-in-Err : goal.returns-in-Err
returns-in-Err c = file_refused c.read_typed.ensures c.in-Err.is

pub new-formed-requires : goal.new-formed-requires
new-formed-requires c = told_typed c.read_typed.ensures (record { each = λ i. search rules }) c.in-Ok.is

pub returns-then-marking-needed : goal.returns-then-marking-needed
returns-then-marking-needed c =
    let v = c.new-formed.ensures.view in
    let q : c.counts.result.types ≡ half c.new-formed.result.view.bytes.now c.new-formed.result.view.at.types = ap (λ (x : Counts). x.types) c.counts.ensures in
    let n : c.counts.result.types ≡ half c.args.file.now c.in-Ok.at.types = rw (v.0, v.1) at q in
    rw c.new.ensures (marking_short c.read_typed.ensures c.in-Ok.is (c.from-needed.ensures ∙ n) _ refl c.if-marking-needed.true)

pub returns : goal.returns
returns c =
    let v = c.new-formed.ensures.view in
    let q : c.counts.result.types ≡ half c.new-formed.result.view.bytes.now c.new-formed.result.view.at.types = ap (λ (x : Counts). x.types) c.counts.ensures in
    let n : c.counts.result.types ≡ half c.args.file.now c.in-Ok.at.types = rw (v.0, v.1) at q in
    let least = rw (v.0, v.1) at c.mark.ensures in
    marking_filled c.read_typed.ensures c.in-Ok.is (c.from-needed.ensures ∙ n) _ c.if-marking-needed.false least
