use Rattle.std.proofs.Common.{ap, arith}
use Rattle.view.specs.declared.Counts.{Counts}
use Rattle.view.specs.Means.{home_type}
use Rattle.filling.proofs.Accepted.{in_marking, target_in}
use Rattle.starting.proofs.Cells.{begun_first, begun_all, begun_room, begun_next}
use Rattle.starting.proofs.clear.Goals as goal

pub loop-g-init : goal.loop-g-init
loop-g-init c = begun_first _ _ _ c.requires

pub fresh-requires-clause-type_in : goal.fresh-requires-clause-type_in
fresh-requires-clause-type_in c =
    let n = ap (λ (x : Counts). x.homes) c.counts.ensures in home_type c.args.file.now.formed.view.read (omega arith) (omega arith) c.home_row-row.ensures

pub fresh-requires-clause-kind : goal.fresh-requires-clause-kind
fresh-requires-clause-kind c =
    let n = ap (λ (x : Counts). x.homes) c.counts.ensures in
    in_marking c.args.file.now.accepted (home_type c.args.file.now.formed.view.read (omega arith) (omega arith) c.home_row-row.ensures)

pub fresh-requires-clause-target_kind : goal.fresh-requires-clause-target_kind
fresh-requires-clause-target_kind c =
    let n = ap (λ (x : Counts). x.homes) c.counts.ensures in
    let file = c.args.file.now in
    in_marking file.accepted (target_in _ _ _ file.formed.typed.formed (home_type file.formed.view.read (omega arith) (omega arith) c.home_row-row.ensures))

pub fresh-requires-clause-room : goal.fresh-requires-clause-room
fresh-requires-clause-room c =
    let n = ap (λ (x : Counts). x.homes) c.counts.ensures in begun_room _ _ (omega arith) (omega arith) c.loop-g.invariant c.home_row-row.ensures c.from-size.ensures

pub loop-g-preserved : goal.loop-g-preserved
loop-g-preserved c =
    let n = ap (λ (x : Counts). x.homes) c.counts.ensures in
    begun_next _ _ (omega arith) (omega arith) c.loop-g.invariant c.home_row-row.ensures c.from-size.ensures c.fresh.ensures

pub returns : goal.returns
returns c = let n = ap (λ (x : Counts). x.homes) c.counts.ensures in begun_all _ _ (omega arith) c.loop-g.invariant
