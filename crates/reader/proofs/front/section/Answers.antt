-- The count is within its limits, and followed by its rows.
use Rattle.std.proofs.Common.{arith, rules}
use Rattle.reader.proofs.Sections.{section_rows}
use Rattle.reader.proofs.front.section.Goals as goal

pub returns : goal.returns
returns c = section_rows c.half_at.ensures (omega arith) (search rules) c.rows.ensures
