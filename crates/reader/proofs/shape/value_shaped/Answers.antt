-- The row's home and that home's type have rows, and the target there is the cell's type.
use Rattle.view.specs.Means.{value_home, home_type}
use Rattle.reader.proofs.Shapes.{value_shaped_is}
use Rattle.reader.proofs.shape.value_shaped.Goals as goal

pub home_row-home-requires-clause-first : goal.home_row-home-requires-clause-first
home_row-home-requires-clause-first c = (value_home c.args.view.now.read c.requires c.start_row.ensures).0

pub home_row-home-requires-clause-row : goal.home_row-home-requires-clause-row
home_row-home-requires-clause-row c = (value_home c.args.view.now.read c.requires c.start_row.ensures).1

pub type_row-requires : goal.type_row-requires
type_row-requires c =
    let fits = value_home c.args.view.now.read c.requires c.start_row.ensures in home_type c.args.view.now.read fits.0 fits.1 c.home_row-home.ensures

pub returns : goal.returns
returns c = value_shaped_is c.args.view.now.read c.requires c.start_row.ensures c.home_row-home.ensures c.type_row.ensures
