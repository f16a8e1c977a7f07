-- By the row's tag; the last arm has that of a while.
use Rattle.std.proofs.Common.{arith}
use Rattle.rules.specs.Tests.{both_less}
use Rattle.view.proofs.Forms.{command_good_tag, if_names, while_tag, while_says}
use Rattle.view.proofs.View.command.Goals as goal

pub returns-in-1-clause-names : goal.returns-in-1-clause-names
returns-in-1-clause-names c = both_less _ _ _ _ (command_good_tag c.args.self.now.read c.requires c.command_row-row.ensures 1 c.in-1.is)

pub returns-in-2-clause-names : goal.returns-in-2-clause-names
returns-in-2-clause-names c = both_less _ _ _ _ (command_good_tag c.args.self.now.read c.requires c.command_row-row.ensures 2 c.in-2.is)

pub returns-in-3-clause-names : goal.returns-in-3-clause-names
returns-in-3-clause-names c = if_names _ _ _ _ _ (command_good_tag c.args.self.now.read c.requires c.command_row-row.ensures 3 c.in-3.is)

pub returns-in_default-clause-says : goal.returns-in_default-clause-says
returns-in_default-clause-says c = while_says c.args.self.now.read c.requires c.command_row-row.ensures (omega arith)

pub returns-in_default-clause-names : goal.returns-in_default-clause-names
returns-in_default-clause-names c =
    both_less _ _ _ _ (command_good_tag c.args.self.now.read c.requires c.command_row-row.ensures 4 (while_tag c.args.self.now.read c.requires c.command_row-row.ensures (omega arith)))
