-- Operation and field are those of the kind of the home's type.
use Rattle.view.specs.Means.{home_type}
use Rattle.filling.proofs.Words.{home_made}
use Rattle.filling.proofs.AcceptedFile.home_word.Goals as goal

pub kind-k-requires : goal.kind-k-requires
kind-k-requires c = home_type c.args.self.now.formed.view.read c.requires.first c.requires.last c.home_row-row.ensures

pub returns : goal.returns
returns c =
    home_made _ c.args.self.now.formed.view.read c.requires.first c.requires.last c.requires.homes c.home_row-row.ensures c.kind-k.ensures
    c.home_op.ensures.value c.from.ensures c.home_field.ensures c.word.ensures
