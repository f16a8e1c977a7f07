-- The value, its conversion, then the store, each by its row's equation.
use Rattle.execute.proofs.Rows.{value_asked, value_stops, value_named, value_fails, a_put}
use Rattle.execute.proofs.put.Goals as goal

pub eval-value-requires : goal.eval-value-requires
eval-value-requires c = value_asked c.requires.entered.asked c.requires.entered 0 _ c.field.ensures

pub returns-in_default : goal.returns-in_default
returns-in_default c = λ g. value_stops g c.requires.entered _ _ c.field.ensures _ c.eval-value.result c.eval-value.ensures _ _ c.in_default.is (rw c.in_default.is at c.stopped.ensures)

pub kept-requires : goal.kept-requires
kept-requires c = value_named c.requires.entered.asked c.requires.entered _ _ c.field.ensures 0 _ c.eval-value.ensures _ c.in-Ok.is

pub returns-in-Ok-kept : goal.returns-in-Ok-kept
returns-in-Ok-kept c = λ g. a_put g c.requires.entered _ _ c.field.ensures _ _ c.eval-value.ensures _ c.in-Ok.is _ c.d_of.ensures _ c.kept.ensures _ c.in-Ok-kept.is

pub returns-in-Err : goal.returns-in-Err
returns-in-Err c = λ g. value_fails g c.requires.entered _ _ c.field.ensures _ _ c.eval-value.ensures _ c.in-Ok.is _ c.d_of.ensures _ c.kept.ensures _ c.in-Err.is
