use Rattle.filling.proofs.Accepted.{typed}
use Rattle.filling.proofs.AcceptedFile.new.Goals as goal

pub new-formed-requires : goal.new-formed-requires
new-formed-requires c = typed c.requires
