-- A home's cells are added to those before.
use Rattle.std.proofs.Common.{◌≡◌, ◌+◌, ◌*◌, ◌-◌, suc, ◌∙◌, arith}
use Rattle.reader.proofs.Sections.{one_home}
use Rattle.reader.proofs.front.cells.Goals as goal

pub loop-g-preserved : goal.loop-g-preserved
loop-g-preserved c =
    let q = c.args.at.homes + 2 + 4 * (c.loop-g.g - 1) in
    let more : c.half_at-n.result + 1 - c.loop-g.g ≡ suc (c.half_at-n.result + 1 - (c.loop-g.g + 1)) = omega arith in
    let next : q + 4 ≡ c.args.at.homes + 2 + 4 * (c.loop-g.g + 1 - 1) = omega arith in
    record {
      rest = c.loop-g.invariant.rest ∙ rw (more, ← next) (one_home c.args.file.now c.args.at q c.loop-g.total _ (rw c.home_place-place.ensures at c.half_at-size.ensures) c.if-total-size-gt4096.false);
      few = omega arith;
    }
