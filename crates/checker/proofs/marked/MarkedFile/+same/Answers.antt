-- Each way out is a clause of the definition, one target down.
use Rattle.std.proofs.Common.{◌∙◌}
use Rattle.checker.proofs.Types.{one_type, kinds_differ, no_deeper, one_down}
use Rattle.checker.proofs.marked.MarkedFile.+same.Goals as goal

pub returns-then-t-u : goal.returns-then-t-u
returns-then-t-u t c = one_type c.args.self.now.tables c.requires.first c.requires.second c.if-t-u.true

pub returns-then-ne : goal.returns-then-ne
returns-then-ne t c = kinds_differ c.args.self.now.tables c.requires.first c.requires.second c.if-ne.ensures

pub returns-in-int : goal.returns-in-int
returns-in-int t c = no_deeper c.args.self.now.tables c.requires.first c.requires.second c.if-ne.ensures c.in-int.is

pub returns-in-SAFE : goal.returns-in-SAFE
returns-in-SAFE t c = c.same.ensures ∙ one_down c.args.self.now.tables c.requires.first c.requires.second c.if-ne.ensures c.in-SAFE.is
