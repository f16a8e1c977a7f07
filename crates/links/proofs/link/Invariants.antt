-- `links::link` meets its contract. The loop's invariant: the links so far, with (a, b) left to link. Its measure is the greater of the two, which falls.
use Prim.Native.Nat.{max}
use Rattle.links.specs.Linking.{Linking}
use Rattle.links.proofs.link.Given as goal

abbrev pub invariant-loop-a : goal.invariant-loop-a
invariant-loop-a l = Linking l.targets l.initial.p l.initial.m l.from l.to l.p l.m l.a l.b

abbrev pub decreases-loop-a : goal.decreases-loop-a
decreases-loop-a l = max l.a l.b
