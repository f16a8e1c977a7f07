-- The kinds decide, or the targets do: the two clauses of conversion.
use Rattle.std.proofs.Common.{◌∙◌}
use Rattle.checker.proofs.Types.{kinds_refuse, kinds_suffice, targets_decide}
use Rattle.checker.proofs.marked.MarkedFile.converts.Goals as goal

pub returns-then-not-kinds_convert : goal.returns-then-not-kinds_convert
returns-then-not-kinds_convert c = kinds_refuse c.args.self.now.tables c.requires.first c.requires.second c.kinds_convert.ensures c.if-not-kinds_convert.true

pub returns-then-not-targets_matter : goal.returns-then-not-targets_matter
returns-then-not-targets_matter c =
    kinds_suffice c.args.self.now.tables c.requires.first c.requires.second c.kinds_convert.ensures c.if-not-kinds_convert.false c.targets_matter.ensures c.if-not-targets_matter.true

pub returns : goal.returns
returns c =
    c.same.ensures
    ∙ targets_decide c.args.self.now.tables c.requires.first c.requires.second c.kinds_convert.ensures c.if-not-kinds_convert.false c.targets_matter.ensures c.if-not-targets_matter.false
