-- The pointer and its checks come before the value.
use Rattle.execute.proofs.Rows.{pointer_asked, pointer_stops, pointer_named, pointer_fails, put_ready, a_store}
use Rattle.execute.proofs.store.Goals as goal

pub eval-pointer-requires : goal.eval-pointer-requires
eval-pointer-requires c = pointer_asked c.requires.asked c.requires 0 _ c.field.ensures

pub returns-in_default : goal.returns-in_default
returns-in_default c = λ g. pointer_stops g c.requires _ _ c.field.ensures c.eval-pointer.result c.eval-pointer.ensures _ _ c.in_default.is (rw c.in_default.is at c.stopped.ensures)

pub reach-requires : goal.reach-requires
reach-requires c = pointer_named c.requires.asked c.requires _ _ c.field.ensures _ c.eval-pointer.ensures _ c.in-Ok.is

pub put-requires : goal.put-requires
put-requires c = put_ready c.requires.asked c.requires _ _ c.field.ensures _ c.eval-pointer.ensures _ c.in-Ok.is _ c.field-2.ensures _ c.reach.ensures _ c.in-Ok-reach.is

pub returns-in-Ok-reach : goal.returns-in-Ok-reach
returns-in-Ok-reach c = λ g. a_store g c.requires _ _ c.field.ensures _ c.eval-pointer.ensures _ c.in-Ok.is _ c.field-2.ensures _ c.reach.ensures _ _ c.in-Ok-reach.is (c.put.ensures g)

pub returns-in-Err : goal.returns-in-Err
returns-in-Err c = λ g. pointer_fails g c.requires _ _ c.field.ensures _ c.eval-pointer.ensures _ c.in-Ok.is _ c.field-2.ensures _ c.reach.ensures _ c.in-Err.is
