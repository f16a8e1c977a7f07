use mathlib.Core.Path.{refl}
use Rattle.std.proofs.lemmas.Grind.{common_steps}
use borrow.Author.Rules.{rules}
use native.Mathlib.Omega.{arith}
use Rattle.execute.proofs.Rows as rows
use Rattle.execute.proofs.Loop.{turned_start, test_asked, loop_stops, loop_ends, body_before, body_asked, loop_breaks, loop_dry, loop_less, loop_again}
use Rattle.execute.proofs.+choose_exec_repeat_then.Goals as goal

pub choose-eval-test-requires : goal.choose-eval-test-requires
choose-eval-test-requires t c = rows.test_asked c.requires.asked c.requires 0 _ c.field.ensures

pub choose-returns-in_default : goal.choose-returns-in_default
choose-returns-in_default t c = λ g. rows.test_stops g c.requires _ _ c.field.ensures c.eval-test.result c.eval-test.ensures _ _ c.in_default.is (rw c.in_default.is at c.stopped.ensures)

pub choose-exec-requires : goal.choose-exec-requires
choose-exec-requires t c = let l = rows.else_before c.requires.asked c.requires _ _ c.field.ensures _ c.eval-test.ensures _ c.in-Ok.is _ c.number.ensures _ c.field-then-number-eq0.ensures in (omega (arith, c.decreases, l), rows.command c.requires.asked _ c.requires.asked.valid _ l)

pub choose-exec-requires-else-number-eq0 : goal.choose-exec-requires-else-number-eq0
choose-exec-requires-else-number-eq0 t c = let l = rows.then_before c.requires.asked c.requires _ _ c.field.ensures _ c.eval-test.ensures _ c.in-Ok.is _ c.number.ensures _ c.field-else-number-eq0.ensures in (omega (arith, c.decreases, l), rows.command c.requires.asked _ c.requires.asked.valid _ l)

pub choose-returns-then-number-eq0 : goal.choose-returns-then-number-eq0
choose-returns-then-number-eq0 t c = λ g. rows.if_no g c.requires _ _ c.field.ensures _ c.eval-test.ensures _ c.in-Ok.is _ c.number.ensures _ c.field-then-number-eq0.ensures c.exec.result _ c.if-number-eq0.true c.exec.ensures

pub choose-returns-else-number-eq0 : goal.choose-returns-else-number-eq0
choose-returns-else-number-eq0 t c = λ g. rows.if_yes g c.requires _ _ c.field.ensures _ c.eval-test.ensures _ c.in-Ok.is _ c.number.ensures _ c.field-else-number-eq0.ensures c.exec-else-number-eq0.result _ c.if-number-eq0.false c.exec-else-number-eq0.ensures

pub exec-returns-then-fuel-eq0 : goal.exec-returns-then-fuel-eq0
exec-returns-then-fuel-eq0 t c = λ g. rows.no_fuel_lem g _ c.if-fuel-eq0.true

pub exec-returns-in-0 : goal.exec-returns-in-0
exec-returns-in-0 t c = λ g. rows.a_skip g _ _ _ c.if-fuel-eq0.false c.op_of.ensures refl c.in-0.is

pub exec-returns-in-1 : goal.exec-returns-in-1
exec-returns-in-1 t c = λ g. rows.a_row g _ _ _ c.if-fuel-eq0.false c.op_of.ensures refl _ (c.then.ensures g)

pub exec-returns-in-2 : goal.exec-returns-in-2
exec-returns-in-2 t c = λ g. rows.a_row g _ _ _ c.if-fuel-eq0.false c.op_of.ensures refl _ (c.store.ensures g)

pub exec-returns-in-3 : goal.exec-returns-in-3
exec-returns-in-3 t c = λ g. rows.a_row g _ _ _ c.if-fuel-eq0.false c.op_of.ensures refl _ (c.choose.ensures g)

pub exec-returns-in_default : goal.exec-returns-in_default
exec-returns-in_default t c = λ g. rows.a_row g _ _ _ c.if-fuel-eq0.false c.op_of.ensures refl _ (c.repeat.ensures g)

pub repeat-loop-turn-init : goal.repeat-loop-turn-init
repeat-loop-turn-init t c = (refl, λ g. turned_start g _)

pub repeat-eval-test-requires : goal.repeat-eval-test-requires
repeat-eval-test-requires t c = test_asked c.requires.asked c.requires _ _ _ (c.loop-turn.invariant.1 c.requires.asked) _ c.field.ensures

pub repeat-returns-in_default : goal.repeat-returns-in_default
repeat-returns-in_default t c = λ g. loop_stops g c.requires _ _ _ (c.loop-turn.invariant.1 g) _ c.field.ensures c.eval-test.result c.eval-test.ensures _ _ c.in_default.is (rw c.in_default.is at c.stopped.ensures)

pub repeat-returns-then-number-eq0 : goal.repeat-returns-then-number-eq0
repeat-returns-then-number-eq0 t c = λ g. loop_ends g c.requires _ _ _ (c.loop-turn.invariant.1 g) _ c.field.ensures _ c.eval-test.ensures _ c.in-Ok.is _ c.number.ensures c.if-number-eq0.true

pub repeat-exec-requires : goal.repeat-exec-requires
repeat-exec-requires t c = let l = body_before c.requires.asked c.requires _ _ _ (c.loop-turn.invariant.1 c.requires.asked) _ c.field.ensures _ c.eval-test.ensures _ c.in-Ok.is _ c.number.ensures c.if-number-eq0.false _ c.field-in-loop-turn.ensures in (omega (arith, c.decreases, l), body_asked c.requires.asked c.requires _ _ _ (c.loop-turn.invariant.1 c.requires.asked) _ c.field.ensures _ c.eval-test.ensures _ c.in-Ok.is _ c.number.ensures c.if-number-eq0.false _ c.field-in-loop-turn.ensures)

pub repeat-returns-in_err-after : goal.repeat-returns-in_err-after
repeat-returns-in_err-after t c = λ g. loop_breaks g c.requires _ _ _ (c.loop-turn.invariant.1 g) _ c.field.ensures _ c.eval-test.ensures _ c.in-Ok.is _ c.number.ensures c.if-number-eq0.false _ c.field-in-loop-turn.ensures _ _ c.exec.ensures _ _ c.in_err-after.was (grind (arith, common_steps))

pub repeat-returns-then-after-eq0 : goal.repeat-returns-then-after-eq0
repeat-returns-then-after-eq0 t c = λ g. loop_dry g c.requires _ _ _ (c.loop-turn.invariant.1 g) _ c.field.ensures _ c.eval-test.ensures _ c.in-Ok.is _ c.number.ensures c.if-number-eq0.false _ c.field-in-loop-turn.ensures _ _ c.exec.ensures _ c.in_ok-after.was c.if-after-eq0.true

pub repeat-loop-turn-smaller : goal.repeat-loop-turn-smaller
repeat-loop-turn-smaller t c = loop_less c.requires.asked c.requires _ _ _ (c.loop-turn.invariant.1 c.requires.asked) _ c.field.ensures _ c.eval-test.ensures _ c.in-Ok.is _ c.number.ensures c.if-number-eq0.false _ c.field-in-loop-turn.ensures _ _ c.exec.ensures _ c.in_ok-after.was c.if-after-eq0.false

pub repeat-loop-turn-preserved : goal.repeat-loop-turn-preserved
repeat-loop-turn-preserved t c = (search rules, λ g. loop_again g c.requires _ _ _ (c.loop-turn.invariant.1 g) _ c.field.ensures _ c.eval-test.ensures _ c.in-Ok.is _ c.number.ensures c.if-number-eq0.false _ c.field-in-loop-turn.ensures _ _ c.exec.ensures _ c.in_ok-after.was c.if-after-eq0.false)

pub then-exec-requires : goal.then-exec-requires
then-exec-requires t c = let l = rows.first_before c.requires.asked c.requires 0 _ c.field.ensures in (omega (arith, c.decreases, l), rows.first_asked c.requires.asked c.requires 0 _ c.field.ensures)

pub then-returns-in_err-rest : goal.then-returns-in_err-rest
then-returns-in_err-rest t c = λ g. rows.first_stops g c.requires _ _ c.field.ensures _ _ c.exec.ensures _ _ c.in_err-rest.was (grind (arith, common_steps))

pub then-exec-requires-2 : goal.then-exec-requires-2
then-exec-requires-2 t c = let l = rows.second_before c.requires.asked c.requires _ _ c.field.ensures _ _ c.exec.ensures _ c.in_ok-rest.was _ c.field-2.ensures in (omega (arith, c.decreases, l), rows.second_asked c.requires.asked c.requires _ _ c.field.ensures _ _ c.exec.ensures _ c.in_ok-rest.was _ c.field-2.ensures)

pub then-returns : goal.then-returns
then-returns t c = λ g. rows.a_then g c.requires _ _ c.field.ensures _ _ c.exec.ensures _ c.in_ok-rest.was _ c.field-2.ensures c.exec-2.result _ c.exec-2.ensures
