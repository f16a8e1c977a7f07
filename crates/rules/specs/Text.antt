-- How kinds, refusals, outcomes and reports read as text, byte by byte (RULES 8).
use Rattle.std.specs.Prelude.{ℕ, List, ◌++◌}
use lib.Chars.{codes}
use Rattle.std.specs.Fmt.{decimal}
use Rattle.rules.specs.declared.Kind.{Kind}
use Rattle.rules.specs.declared.Kind.TheVariants.{int, SAFE, SEQ, DYNAMIC}
use Rattle.rules.specs.declared.Refusal.{Refusal}
use Rattle.rules.specs.declared.Outcome.{Outcome}
use Rattle.rules.specs.declared.Outcome.TheVariants.{Done, Fuel, Check}
use Rattle.rules.specs.declared.Report.{Report}
use Rattle.rules.specs.Ruled.{check_number}
use Rattle.rules.specs.Calls.{fault_number}

abbrev pub kind_text : Kind → List ℕ
kind_text int = codes "int"
kind_text SAFE = codes "SAFE"
kind_text SEQ = codes "SEQ"
kind_text DYNAMIC = codes "DYNAMIC"

-- `refused`, number and place.
abbrev pub refusal_text : Refusal → List ℕ
refusal_text r = codes "refused " ++ decimal (fault_number r.fault) ++ codes " " ++ decimal r.place

-- Outcome and place; a run that is done has place 0.
abbrev pub outcome_text : Outcome → List ℕ
outcome_text Done = codes "done 0"
outcome_text (Fuel p) = codes "fuel " ++ decimal p
outcome_text (Check c p) = codes "check-" ++ decimal (check_number c) ++ codes " " ++ decimal p

-- Outcome, place and units.
abbrev pub report_text : Report → List ℕ
report_text r = outcome_text r.outcome ++ codes " " ++ decimal r.units
