use Rattle.std.proofs.Common.{refl, ◌∙◌}
use Rattle.std.proofs.lemmas.List.{take_more}
use Rattle.links.specs.Linking.{joined_none, joined_more, joined_tables}
use Rattle.links.proofs.join.Goals as goal

pub loop-c-init : goal.loop-c-init
loop-c-init c = (refl, joined_none c.requires.none)

pub link-requires-clause-tables : goal.link-requires-clause-tables
link-requires-clause-tables c = joined_tables c.step-a.ensures.size c.loop-c.invariant.0 refl c.requires.tables c.loop-c.invariant.1

pub loop-c-preserved : goal.loop-c-preserved
loop-c-preserved c = (
  c.link.ensures.links ∙ c.loop-c.invariant.0,
  rw (take_more _ _ (record { from = 0; to = 0 }) c.loop-c-test.true) (joined_more refl refl c.loop-c.invariant.1 c.step-a.ensures c.link.ensures),
)
