-- A home row and a start row are judged whatever their number.
use Rattle.reader.proofs.range.row_good.Goals as goal

pub returns-in-Homes : goal.returns-in-Homes
returns-in-Homes c = rw c.in-Homes.is (c.home_good.ensures c.args.i)

pub returns-in-Values : goal.returns-in-Values
returns-in-Values c = rw c.in-Values.is (c.value_good.ensures c.args.i)
