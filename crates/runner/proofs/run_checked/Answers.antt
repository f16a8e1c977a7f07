-- The table stands for the routine, the starting memory is valid, and the body's answer is reported.
use Rattle.std.proofs.Common.{◌-◌, ap}
use Rattle.view.specs.declared.Counts.{Counts}
use Rattle.view.specs.Files.{routine_of}
use Rattle.runner.proofs.Whole.{started, body, reportable, whole}
use Rattle.runner.proofs.Parts.{zeros}
use Rattle.runner.proofs.run_checked.Goals as goal

pub fill-requires : goal.fill-requires
fill-requires c = λ k. zeros 2304 k

pub exec-ran-requires : goal.exec-ran-requires
exec-ran-requires c =
    let f = c.args.file.now in
    body f.formed.view.read f.formed.typed.formed f.accepted c.fill.ensures _ _
    (started (routine_of f.formed.view) f.marking.now _ _ _ c.clear.ensures c.give.ensures) _ (ap (λ (x : Counts). x.commands - 1) c.counts.ensures)

pub report-requires : goal.report-requires
report-requires c =
    let f = c.args.file.now in
    reportable f.formed.view.read f.formed.typed.formed f.accepted c.fill.ensures _ _
    (started (routine_of f.formed.view) f.marking.now _ _ _ c.clear.ensures c.give.ensures) _ (ap (λ (x : Counts). x.commands - 1) c.counts.ensures)
    _ c.exec-ran.result _ c.exec-ran.ensures

pub returns : goal.returns
returns c =
    let f = c.args.file.now in
    whole f.formed.view.read f.formed.typed.formed f.accepted c.fill.ensures _ _
    (started (routine_of f.formed.view) f.marking.now _ _ _ c.clear.ensures c.give.ensures) _ (ap (λ (x : Counts). x.commands - 1) c.counts.ensures)
    _ c.exec-ran.result _ c.exec-ran.ensures _ c.report.ensures
