-- A row is refused, or taken off the front.
use Rattle.std.proofs.Common.{sym, ◌∙◌, arith}
use Rattle.reader.proofs.Sections.{rows_start, row_short, row_bad, row_passed, rows_passed}
use Rattle.reader.proofs.front.rows.Goals as goal

pub loop-i-init : goal.loop-i-init
loop-i-init c = rows_start c.args.file.now c.args.part c.args.place c.args.n c.requires.inside

pub returns-then-file-at : goal.returns-then-file-at
returns-then-file-at c = row_short c.loop-i.invariant (omega arith) c.bytes_of-width.ensures.means c.new.ensures c.if-file-at.true

pub returns-then-not-row_good : goal.returns-then-not-row_good
returns-then-not-row_good c = row_bad c.loop-i.invariant (omega arith) c.bytes_of-width.ensures.means c.if-file-at.false c.new-then-not-row_good.ensures (sym c.row_good.ensures ∙ c.if-not-row_good.true)

pub loop-i-preserved : goal.loop-i-preserved
loop-i-preserved c = row_passed c.loop-i.invariant (omega arith) c.bytes_of-width.ensures.means c.if-file-at.false c.bytes_of-width.ensures.few (sym c.row_good.ensures ∙ c.if-not-row_good.false)

pub returns : goal.returns
returns c = rows_passed c.loop-i.invariant (omega arith)
