-- Targets fall.
use Rattle.checker.proofs.marked.MarkedFile.+same.Given as goal

abbrev pub decreases-same : goal.decreases-same
decreases-same l = l.t
