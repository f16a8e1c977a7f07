-- An access's address lies in the memory, and its cell names one of the table's homes.
use Rattle.std.proofs.Common.{arith}
use Rattle.evaluate.proofs.Rules.{access_inside}
use Rattle.evaluate.proofs.one.Goals as goal

pub load-requires : goal.load-requires
load-requires c = access_inside c.args.t.now _ 0 _ c.args.v _ _ c.requires c.in-5.is c.reach_safe.ensures c.in_ok-reach_safe-in-5.was

pub load-requires-in-6 : goal.load-requires-in-6
load-requires-in-6 c = access_inside c.args.t.now _ 1 _ c.args.v _ _ c.requires c.in-6.is c.reach_seq.ensures c.in_ok-reach_seq-in-6.was

pub load-requires-in-7 : goal.load-requires-in-7
load-requires-in-7 c = access_inside c.args.t.now _ 2 _ c.args.v _ _ c.requires c.in-7.is c.reach_dynamic.ensures c.in_ok-reach_dynamic-in-7.was

pub load-requires-in_default : goal.load-requires-in_default
load-requires-in_default c = access_inside c.args.t.now _ 3 _ c.args.v _ _ c.requires (omega arith) c.reach_dynamic-in_default.ensures c.in_ok-reach_dynamic-in_default.was

pub to_int-requires-in_default : goal.to_int-requires-in_default
to_int-requires-in_default c = rw c.load-in_default.ensures (access_inside c.args.t.now _ 3 _ c.args.v _ _ c.requires (omega arith) c.reach_dynamic-in_default.ensures c.in_ok-reach_dynamic-in_default.was).named
