-- `infer::least_above` meets its contract: what is linked and at rest suits the tables, and every marking that does follows each link and each raise.
use Rattle.std.proofs.Common.{refl, arith}
use Rattle.raise.specs.Marks.{zeros}
use Rattle.links.specs.Linking.{tables_none}
use Rattle.infer.specs.Rest.{least_above}
use Rattle.infer.proofs.least_above.Goals as goal

pub join-requires-clause-tables : goal.join-requires-clause-tables
join-requires-clause-tables c = tables_none 256 c.requires.size (omega arith) c.requires.falls

pub join-requires-clause-none : goal.join-requires-clause-none
join-requires-clause-none c = zeros 256

pub returns : goal.returns
returns c = least_above refl refl c.requires.falls c.requires.listed c.join.ensures.joined c.settle.ensures
