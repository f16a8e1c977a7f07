-- The row names a home of the file, and the type of a home is one of the file.
use Rattle.view.specs.Means.{value_home, home_type}
use Rattle.starting.proofs.start_entry.Goals as goal

pub kind-requires : goal.kind-requires
kind-requires c =
    let read = c.args.file.now.formed.view.read in
    let (first, last) = value_home read c.requires c.start_row-row.ensures in home_type read first last (rw c.from.ensures at c.home_row-home.ensures)
