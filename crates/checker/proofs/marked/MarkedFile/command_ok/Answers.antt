-- What a row asks speaks of types that there are.
use Rattle.laws.specs.Needs.{command_need_fits}
use Rattle.checker.proofs.marked.MarkedFile.command_ok.Goals as goal

pub met-requires : goal.met-requires
met-requires c = rw c.command_need.ensures (command_need_fits c.args.self.now.formed.typed.formed c.args.c c.requires)
