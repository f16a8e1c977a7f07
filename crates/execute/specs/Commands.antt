-- What the carrying out of a command row from its word is held to: the answer, and every entry of the memory.
use Rattle.std.specs.Prelude.{◌≡◌, ℕ, ◌+◌, ◌<◌, List, get_or, Result, Ok, Err}
use Rattle.rules.specs.Table.{Home, Routine}
use Rattle.rules.specs.Shape.{type_of}
use Rattle.rules.specs.Kinds.{kind}
use Rattle.rules.specs.Memory.{put}
use Rattle.rules.specs.Values.{kept}
use Rattle.rules.specs.Run.{Ran as Runs, done, halted, eval, command_row, exec}
use Rattle.rules.specs.Valid.{ValidState}
use Rattle.laws.specs.Forget.{value, rule}
use Rattle.words.specs.Ops.{op_store}
use Rattle.words.specs.Words.{op_in, first_for, second_for, RowWords, HomeWords, state}
use Rattle.evaluate.specs.declared.Got.{Got}
use Rattle.evaluate.specs.declared.Stop.{Stop}
use Rattle.evaluate.specs.Rows.{stop_told, Inside}

-- ---- the code's answer and the memory, as the rules say them

abbrev pub ran_told : Routine → List Home → Result ℕ Stop → List ℕ → Runs
ran_told r hs (Ok f) memory = done (record { homes = hs; memory = memory }) f
ran_told r hs (Err s) memory = halted (record { homes = hs; memory = memory }) (stop_told r s)

-- A command whose expression has stopped stops as that has.
abbrev pub stopped_of : Result Got Stop → Result ℕ Stop
stopped_of (Ok x) = Ok x.left
stopped_of (Err s) = Err s

-- ---- a command row of a table's routine, in a memory that is valid for the table's homes

pub record Commanded (t memory : List ℕ) (row : ℕ) : Type 0 where
  pub rows : RowWords t
  pub homes : HomeWords rows.routine t
  pub valid : ValidState rows.routine rows.marking (state homes memory)
  pub inside : row < rows.routine.commands

module _ {t memory : List ℕ} {row : ℕ} (g : Commanded t memory row) where
  -- What the rules say of the row, and of the row once it has been entered.
  abbrev pub meant_run : ℕ → Runs
  meant_run f = (exec g.rows.routine g.rows.marking (state g.homes memory) row f).answer

  abbrev pub entered_run : ℕ → Runs
  entered_run f =
      (command_row g.rows.routine g.rows.marking (λ w a f₁. exec g.rows.routine g.rows.marking w a f₁)
      (g.rows.routine.command_place row) (g.rows.routine.command row) (state g.homes memory) f).answer

  -- A store whose pointer has reached address c.
  abbrev pub storing_run : ℕ → ℕ → Runs
  storing_run c f =
      let r = g.rows.routine in
      let m = g.rows.marking in
      let x = r.command row in
      let pointer = type_of r (first_for x) in
      value (halted (state g.homes memory)) (eval r m (state g.homes memory) (second_for x) f).answer λ v f₁.
      rule (halted (state g.homes memory)) (r.command_place row) f₁ (kept (state g.homes memory) (kind m pointer) (kind m (r.target pointer)) v) λ u.
      done (put (state g.homes memory) c u) f₁

-- Its word, of this operation.
pub record Entered (t memory : List ℕ) (row w o : ℕ) : Type 0 where
  pub asked : Commanded t memory row
  pub word : w ≡ get_or t (1024 + row) 0
  pub op : op_in w ≡ o

pub record Storing (t memory : List ℕ) (row w a : ℕ) : Type 0 where
  pub entered : Entered t memory row w op_store
  pub inside : Inside memory a
