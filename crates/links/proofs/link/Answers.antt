use Rattle.links.specs.Linking.{linking_link, linking_follow, linked_end, linked_then}
use Rattle.links.proofs.link.Goals as goal

pub loop-a-preserved-then-p-i-eq0 : goal.loop-a-preserved-then-p-i-eq0
loop-a-preserved-then-p-i-eq0 c =
    linking_link c.requires.tables c.loop-a-test.true c.max-high.ensures c.min-low.ensures c.from-i.ensures c.loop-a.invariant c.if-p-i-eq0.true c.step.ensures

pub loop-a-preserved : goal.loop-a-preserved
loop-a-preserved c =
    linking_follow c.requires.tables c.loop-a-test.true c.max-high.ensures c.min-low.ensures c.from-i.ensures c.loop-a.invariant c.if-p-i-eq0.false

pub returns : goal.returns
returns c = linked_then c.loop-a.invariant.linked (linked_end c.loop-a-test.false)
