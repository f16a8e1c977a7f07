-- Refusal 8 by itself, and what checking answers.
use Rattle.std.specs.Prelude.{◌≡◌, ℕ, suc, ◌<◌, List, get_or, Result}
use Rattle.rules.specs.declared.Starts.{Starts}
use Rattle.rules.specs.declared.Refusal.{Refusal}
use Rattle.rules.specs.Calls.{says, judged}
use Rattle.rules.specs.Basic.{Verdict, fine, refused, first_bad}
use Rattle.rules.specs.Table.{Routine, routine}
use Rattle.rules.specs.Shape.{type_of}
use Rattle.rules.specs.Kinds.{type_kind, expr_kind, command_kind}
use Rattle.rules.specs.Reading.{reading}
use Rattle.laws.specs.Known.{formed_reading}
use Rattle.laws.specs.Read.{judged_fine}
use Rattle.reader.specs.Tables.{TypeTable}

-- Refusal 8, over types, expressions, commands.
abbrev pub breaking : Routine → List ℕ → Starts → Verdict Starts
breaking r m at =
    first_bad 8 (λ i. type_kind r m (suc i)) (λ i. r.type_place (suc i)) 0 r.types λ _.
    first_bad 8 (λ e. expr_kind r m (r.expr e)) r.expr_place 0 r.exprs λ _.
    first_bad 8 (λ c. command_kind r m (r.command c)) r.command_place 0 r.commands λ _.
    fine at

-- What checking with a table answers and leaves: it is filled exactly where no refusal from 1 to 5 comes first.
pub record CheckedTyped (s m before after : List ℕ) (r : Result Starts Refusal) : Type 0 where
  pub answer : says r ≡ judged s m
  pub filled : (at : Starts) → reading s ≡ fine at → TypeTable (routine s at) before after
  pub left : (n p : ℕ) → reading s ≡ refused n p → after ≡ before

-- So it has the types of an accepted file's expressions.
pub checked_types : {s m before after : List ℕ} {r : Result Starts Refusal} → CheckedTyped s m before after r → (at : Starts) → judged s m ≡ fine at
    → (e : ℕ) → e < (routine s at).exprs → get_or after e 0 ≡ type_of (routine s at) e
checked_types {s} {m} c at j = (c.filled at (formed_reading s at (judged_fine s m j).0)).types
