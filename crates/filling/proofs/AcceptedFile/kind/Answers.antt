-- A type of the file has a byte in the marking.
use Rattle.std.proofs.Common.{arith}
use Rattle.filling.proofs.Accepted.{fit}
use Rattle.filling.proofs.AcceptedFile.kind.Goals as goal

pub kind_of-requires : goal.kind_of-requires
kind_of-requires c = omega (arith, (fit c.args.self.now.accepted).size, c.requires)
