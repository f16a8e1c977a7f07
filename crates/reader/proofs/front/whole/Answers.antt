-- Behind the four sections a file's homes stand early.
use Rattle.std.proofs.Common.{sym}
use Rattle.laws.proofs.WellRead.{sections_known}
use Rattle.reader.proofs.front.whole.Goals as goal

pub from_values-requires : goal.from_values-requires
from_values-requires c = (sections_known c.args.file.now _ (sym c.in_ok-at.ensures)).0
