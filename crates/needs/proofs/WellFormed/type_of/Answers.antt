-- The table has the row's type, which is one of the file's.
use Rattle.std.proofs.Common.{arith}
use Rattle.laws.specs.Formed.{type_le}
use Rattle.needs.proofs.WellFormed.type_of.Goals as goal

pub overflow_cast-result-2 : goal.overflow_cast-result-2
overflow_cast-result-2 c =
    let y = c.args.self.now.typed in
    omega (arith, y.types c.args.e c.requires, type_le y.formed c.args.e c.requires, y.file.types.few)

pub returns-clause-in_range : goal.returns-clause-in_range
returns-clause-in_range c = let y = c.args.self.now.typed in omega (arith, y.types c.args.e c.requires, type_le y.formed c.args.e c.requires)
