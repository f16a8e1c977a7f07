-- Every cell has the home's entry.
use Rattle.std.proofs.Common.{arith}
use Rattle.starting.proofs.Cells.{spread_put}
use Rattle.starting.proofs.fresh.Goals as goal

pub returns : goal.returns
returns c = rw (← c.home_entry-entry.ensures) (spread_put c.args.memory.now c.args.from c.args.n _ c.requires.room (omega arith) (c.fill.ensures.after (λ y e. e)))
