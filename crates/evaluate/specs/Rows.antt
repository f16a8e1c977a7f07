-- What the evaluation of a row from its word is held to.
use Rattle.std.specs.Prelude.{◌≡◌, ℕ, ◌+◌, ◌-◌, ◌≤◌, ◌<◌, List, [], ◌∷◌, get_or, length, ltb, Result, Ok, Err}
use Rattle.rules.specs.declared.Value.{Value}
use Rattle.rules.specs.declared.Value.TheVariants.{Number}
use Rattle.rules.specs.declared.Check.{Check}
use Rattle.rules.specs.Basic.{choose}
use Rattle.rules.specs.Table.{Routine, operator_of}
use Rattle.rules.specs.Memory.{decode}
use Rattle.rules.specs.Ruled.{Ruled, gives, stuck, onward}
use Rattle.rules.specs.Operators.{applied}
use Rattle.rules.specs.Run.{Stop as Stops, no_fuel, failed, Answer as Answers, got, stopped, expr_row, eval}
use Rattle.rules.specs.Valid.{ValidState}
use Rattle.words.specs.Ops.{op_to_int, op_read_safe, op_sum, op_operators}
use Rattle.words.specs.Words.{op_in, Named, RowWords, HomeWords, state}
use Rattle.values.specs.Values.{number_of, plus_of, to_int_in, to_pair, to_safe_in, reach_in, as_number}
use Rattle.evaluate.specs.declared.Got.{Got}
use Rattle.evaluate.specs.declared.Stop.{Stop}
use Rattle.evaluate.specs.declared.Cause.{Cause}
use Rattle.evaluate.specs.declared.Cause.TheVariants as cause

-- ---- the code's answers, as the rules say them

-- A row's place. Command rows are numbered from 1,024 on.
abbrev pub place_of : Routine → ℕ → ℕ
place_of r i = choose (ltb i 1024) (λ _. r.expr_place i) (λ _. r.command_place (i - 1024))

abbrev pub cause_told : ℕ → Cause → Stops
cause_told p cause.Fuel = no_fuel p
cause_told p (cause.Check c f) = failed c p f

abbrev pub stop_told : Routine → Stop → Stops
stop_told r s = cause_told (place_of r s.row) s.cause

abbrev pub told : Routine → Result Got Stop → Answers
told r (Ok x) = got x.value x.left
told r (Err s) = stopped (stop_told r s)

-- ---- a row of a table's routine, in a memory that is valid for the table's homes

pub record Asked (t memory : List ℕ) (row : ℕ) : Type 0 where
  pub rows : RowWords t
  pub homes : HomeWords rows.routine t
  pub valid : ValidState rows.routine rows.marking (state homes memory)
  pub inside : row < rows.routine.exprs

module _ {t memory : List ℕ} {row : ℕ} (g : Asked t memory row) where
  -- What the rules say of the row, and of the row once it has been entered.
  abbrev pub meant : ℕ → Answers
  meant f = (eval g.rows.routine g.rows.marking (state g.homes memory) row f).answer

  abbrev pub entered : ℕ → Answers
  entered f =
      (expr_row g.rows.routine g.rows.marking (state g.homes memory)
      (λ a f₁. eval g.rows.routine g.rows.marking (state g.homes memory) a f₁)
      (g.rows.routine.expr_place row) (g.rows.routine.expr row) f).answer

-- Its word, of an operation that has operands.
pub record Operands (t memory : List ℕ) (row w : ℕ) : Type 0 where
  pub asked : Asked t memory row
  pub word : w ≡ get_or t row 0
  pub some : op_to_int ≤ op_in w

-- ---- what the code makes of operands

-- A rule's answer in row e, with fuel f left.
abbrev pub says : ℕ → ℕ → Result Value Check → Result Got Stop
says e f (Ok v) = Ok (record { left = f; value = v })
says e f (Err c) = Err (record { row = e; cause = cause.Check c f })

-- The cell at an address.
abbrev pub cell_in : List ℕ → ℕ → Value
cell_in memory a = decode (get_or memory (a - 1) 0)

-- By the operation.
unfoldable pub one_in : List ℕ → List ℕ → ℕ → Value → Ruled Value
one_in t memory o v =
    get_or (
    stuck
    ∷ stuck
    ∷ gives (Number (to_int_in t v))
    ∷ gives (to_pair v)
    ∷ as_number (to_safe_in t v)
    ∷ onward (reach_in t 0 v) (λ a. gives (cell_in memory a))
    ∷ onward (reach_in t 1 v) (λ a. gives (cell_in memory a))
    ∷ onward (reach_in t 2 v) (λ a. gives (cell_in memory a))
    ∷ onward (reach_in t 3 v) (λ a. gives (Number (to_int_in t (cell_in memory a))))
    ∷ []
    ) o stuck

unfoldable pub two_in : ℕ → Value → Value → Ruled Value
two_in o v n = get_or (gives (plus_of v (number_of n)) ∷ []) (o - op_sum) (as_number (applied (operator_of (o - op_operators)) (number_of v) (number_of n)))

-- An address in the memory, whose cell names one of the table's homes.
pub record Inside (memory : List ℕ) (a : ℕ) : Type 0 where
  pub from : 1 ≤ a
  pub to : a ≤ length memory
  pub named : Named (cell_in memory a)

-- What an operation on one operand needs.
pub record Ready (t memory : List ℕ) (o : ℕ) (v : Value) : Type 0 where
  pub from : op_to_int ≤ o
  pub to : o < op_sum
  pub named : Named v
  pub inside : (k a : ℕ) → o ≡ op_read_safe + k → reach_in t k v ≡ gives a → Inside memory a
