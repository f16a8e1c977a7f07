-- `gather::rows` meets its contract. The loops' invariants: the first e expressions are noted; all of them and the first c commands are.
use Rattle.view.specs.Files.{routine_of}
use Rattle.gather.specs.Gathering.{Noting}
use Rattle.gather.proofs.rows.Given as goal

abbrev pub invariant-loop-e : goal.invariant-loop-e
invariant-loop-e l = Noting (routine_of l.file.view) l.e 0 l.list.items l.m

abbrev pub invariant-loop-c : goal.invariant-loop-c
invariant-loop-c l = Noting (routine_of l.file.view) (routine_of l.file.view).exprs l.c l.list.items l.m
