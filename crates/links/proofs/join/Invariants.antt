-- `links::join` meets its contract. The loop's invariant: the conversions so far are linked.
use Rattle.std.proofs.Common.{◌≡◌, length, take}
use Rattle.links.specs.Links.{Joined}
use Rattle.links.proofs.join.Given as goal

abbrev pub invariant-loop-c : goal.invariant-loop-c
invariant-loop-c l = (length l.p ≡ length l.initial.p) × Joined l.targets (take l.c-index l.conversions) l.initial.m l.p l.m
