-- What a row asks speaks of types that there are.
use Rattle.laws.specs.Needs.{expr_need_fits}
use Rattle.checker.proofs.marked.MarkedFile.expr_ok.Goals as goal

pub met-requires : goal.met-requires
met-requires c = rw c.expr_need.ensures (expr_need_fits c.args.self.now.formed.typed.formed c.args.e c.requires)
