-- `infer::mark` meets its contract: the rows of the file give tables that are fit for the inference, whose marking is then the file's least one.
use Rattle.raise.specs.Marks.{zeros}
use Rattle.gather.specs.Tables.{filled_from}
use Rattle.infer.specs.Marked.{marked}
use Rattle.infer.proofs.mark.Goals as goal

pub least_above-requires-clause-falls : goal.least_above-requires-clause-falls
least_above-requires-clause-falls c = (filled_from c.args.file.now.typed.formed.falls c.fill.ensures (zeros 256)).falls

pub least_above-requires-clause-listed : goal.least_above-requires-clause-listed
least_above-requires-clause-listed c = rw (c.as_slice.ensures.value, c.rows.ensures.size) c.rows.ensures.listed

pub returns : goal.returns
returns c = marked c.args.file.now.typed.formed (filled_from c.args.file.now.typed.formed.falls c.fill.ensures (zeros 256)) c.rows.ensures (rw c.as_slice.ensures.value at c.least_above.ensures)
