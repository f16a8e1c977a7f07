use mathlib.Core.Path.{refl}
use native.Mathlib.Omega.{arith}
use Rattle.evaluate.proofs.Rows.{earlier, no_fuel_lem, a_number, a_pair, a_compound, first_before, second_before, first_stops, one_ready, a_one, second_stops, a_two}
use Rattle.evaluate.proofs.+compound_eval.Goals as goal

pub compound-eval-first-requires : goal.compound-eval-first-requires
compound-eval-first-requires t c = let l = first_before c.requires.asked _ c.requires.word _ _ 0 c.op_of-op.ensures c.field.ensures c.requires.some in (omega (arith, c.decreases, l), earlier c.requires.asked _ l)

pub compound-returns-in_default : goal.compound-returns-in_default
compound-returns-in_default t c = λ g. first_stops g _ c.requires.word _ _ _ c.op_of-op.ensures c.field.ensures c.requires.some _ c.eval-first.ensures _ c.in_default.is

pub compound-single-requires : goal.compound-single-requires
compound-single-requires t c = one_ready c.requires.asked _ c.requires.word _ _ _ c.op_of-op.ensures c.field.ensures c.requires.some _ c.eval-first.ensures _ c.in-Ok.is c.if-op-lt-SUM.true

pub compound-returns-then-op-lt-SUM : goal.compound-returns-then-op-lt-SUM
compound-returns-then-op-lt-SUM t c = λ g. a_one g _ c.requires.word _ _ _ c.op_of-op.ensures c.field.ensures c.requires.some _ c.eval-first.ensures _ c.in-Ok.is _ _ c.if-op-lt-SUM.true refl c.single.ensures

pub compound-eval-second-requires : goal.compound-eval-second-requires
compound-eval-second-requires t c = let l = second_before c.requires.asked _ c.requires.word _ _ 0 c.op_of-op.ensures c.field.ensures _ c.high.ensures c.if-op-lt-SUM.false in (omega (arith, c.decreases, l), earlier c.requires.asked _ l)

pub compound-returns-in_default-second : goal.compound-returns-in_default-second
compound-returns-in_default-second t c = λ g. second_stops g _ c.requires.word _ _ _ c.op_of-op.ensures c.field.ensures c.requires.some _ c.eval-first.ensures _ c.in-Ok.is c.if-op-lt-SUM.false _ c.high.ensures _ c.eval-second.ensures _ c.in_default-second.is

pub compound-returns : goal.compound-returns
compound-returns t c = λ g. a_two g _ c.requires.word _ _ _ c.op_of-op.ensures c.field.ensures c.requires.some _ c.eval-first.ensures _ c.in-Ok.is c.if-op-lt-SUM.false _ c.high.ensures _ c.eval-second.ensures _ _ _ c.in-Ok-second.is c.two.ensures c.answer.ensures

pub eval-returns-then-fuel-eq0 : goal.eval-returns-then-fuel-eq0
eval-returns-then-fuel-eq0 t c = λ g. no_fuel_lem g _ c.if-fuel-eq0.true

pub eval-returns-in-0 : goal.eval-returns-in-0
eval-returns-in-0 t c = λ g. a_number g _ _ c.if-fuel-eq0.false refl _ _ c.op_of.ensures c.in-0.is c.high.ensures

pub eval-returns-in-1 : goal.eval-returns-in-1
eval-returns-in-1 t c = λ g. a_pair g _ _ c.if-fuel-eq0.false refl _ _ c.op_of.ensures c.in-1.is c.high-in-1.ensures

pub eval-returns-in_default : goal.eval-returns-in_default
eval-returns-in_default t c = λ g. a_compound g _ _ c.if-fuel-eq0.false refl _ (c.compound.ensures g)
