-- The run of a file and a marking that earn no refusal: the table stands for its routine, the starting memory is valid, and the report is the run's.
use mathlib.Core.Path.{◌≡◌, refl, sym, ap, ◌∙◌}
use Prim.Native.Nat.{ℕ, suc, ◌+◌, ◌-◌, ◌<◌, ◌≤◌}
use native.Mathlib.Omega.{arith}
use mathlib.Core.List.{List}
use lib.ListN.{length, length-append}
use Rattle.rules.specs.declared.Starts.{Starts}
use Rattle.rules.specs.declared.Report.{Report}
use Rattle.std.specs.Prelude.{Result, Ok, Err}
use Rattle.evaluate.specs.declared.Stop.{Stop}
use Rattle.evaluate.specs.declared.Cause.{Cause}
use Rattle.evaluate.specs.declared.Cause.TheVariants as cause
use Rattle.rules.specs.Basic.{half}
use Rattle.rules.specs.Steps.{units}
use Rattle.rules.specs.Table.{Home, Routine, routine}
use Rattle.rules.specs.Start.{start, cleared, given}
use Rattle.rules.specs.Run.{halted, exec, run}
use Rattle.rules.specs.Calls.{stop_ending, ending_of, state_of, Left, Ended, outcome_says, run_says, reported, cell_count}
use Rattle.rules.specs.Ends.{left_after}
use Rattle.laws.specs.Start.{start_ok, length_start}
use Rattle.laws.specs.Units.{exec_spends}
use Rattle.words.specs.Words.{RowWords, HomeWords}
use Rattle.laws.specs.WellRead.{WellRead}
use Rattle.filling.specs.Filling.{Accepted, CommandsDone}
use Rattle.filling.proofs.Accepted.{fit}
use Rattle.laws.specs.Formed.{Formed}
use Rattle.evaluate.specs.Rows.{cause_told}
use Rattle.execute.specs.Commands.{ran_told, Commanded, meant_run}
use Rattle.runner.specs.Whole.{place_at, stop_report, report_of, LeftOf, Reportable}
use Rattle.runner.proofs.Places.{place_in, RanAt, exec_at}

-- ---- the code's answer, as the report says it

module _ (s : List ℕ) (at : Starts) (hs : List Home) (memory : List ℕ) where
  abbrev R : Routine
  R = routine s at

  says_ending : (x : Result ℕ Stop) (fuel : ℕ) → outcome_says (report_of at x fuel).outcome ≡ ending_of (ran_told R hs x memory)
  says_ending (Ok f) fuel = refl
  says_ending (Err s) fuel = go s.cause
    where
      go : (c : Cause) → outcome_says (stop_report (place_at at s.row) c fuel).outcome ≡ stop_ending (cause_told (place_at at s.row) c)
      go cause.Fuel = refl
      go (cause.Check k f) = refl

  abbrev left_of : Cause → ℕ
  left_of cause.Fuel = 0
  left_of (cause.Check c f) = f

  abbrev left : Result ℕ Stop → ℕ
  left (Ok f) = f
  left (Err s) = left_of s.cause

  left_is : (x : Result ℕ Stop) → left_after (ran_told R hs x memory) ≡ left x
  left_is (Ok f) = refl
  left_is (Err s) = go s.cause
    where
      go : (c : Cause) → left_after (halted (record { homes = hs; memory = memory }) (cause_told (place_at at s.row) c)) ≡ left_of c
      go cause.Fuel = refl
      go (cause.Check k f) = refl

  says_units : (x : Result ℕ Stop) (fuel n : ℕ) → n + left x ≡ fuel → (report_of at x fuel).units ≡ n
  says_units (Ok f) fuel n h = omega arith
  says_units (Err s) fuel n h = go s.cause h
    where
      go : (c : Cause) → n + left_of c ≡ fuel → (stop_report (place_at at s.row) c fuel).units ≡ n
      go cause.Fuel h = omega arith
      go (cause.Check k f) h = omega arith

  says_memory : (x : Result ℕ Stop) → (state_of (ran_told R hs x memory)).memory ≡ memory
  says_memory (Ok f) = refl
  says_memory (Err s) = refl

  reports : (x : Result ℕ Stop) (fuel : ℕ) → RanAt (λ p. p < 4294967296) (ran_told R hs x memory) → left x ≤ fuel → Reportable at x fuel
  reports (Ok f) fuel y h = h
  reports (Err s) fuel y h = go s.cause y h
    where
      go : (c : Cause) → place_in (cause_told (place_at at s.row) c) < 4294967296 → left_of c ≤ fuel → (place_at at s.row < 4294967296) × LeftOf c fuel
      go cause.Fuel y h = (y, tt)
      go (cause.Check k f) y h = (y, h)

-- ---- the starting memory

pub cleared_room : (r : Routine) (m lent l : List ℕ) → l ≡ cleared r m lent → cell_count r ≤ length l
cleared_room r m lent l e = rw (e, length-append, length_start r m) (omega arith)

pub started : (r : Routine) (m lent l k : List ℕ) → l ≡ cleared r m lent → k ≡ given r m r.values l → k ≡ (start r m lent).memory
started r m lent l k e f = f ∙ ap (λ z. given r m r.values z) e

-- ---- the whole

module _ {s m ty t : List ℕ} {at : Starts} (known : WellRead s at) (well : Formed (routine s at)) (y : Accepted s at m ty) (d : CommandsDone (routine s at) m (half s at.commands) t) where
  abbrev rows : RowWords t
  rows =
      record {
        routine = routine s at;
        marking = m;
        formed = well;
        accepted = fit y;
        few_exprs = known.exprs.few;
        few_commands = known.commands.few;
        exprs = d.exprs;
        commands = d.commands;
      }

  abbrev homes : HomeWords (routine s at) t
  homes = record { list = (routine s at).homes; words = d.homes; declared = λ g h. refl }

  some : 1 ≤ half s at.commands
  some = known.commands.least

  module _ (lent l : List ℕ) (b : l ≡ (start (routine s at) m lent).memory) (c : ℕ) (i : c ≡ half s at.commands - 1) where
    pub body_in : c < half s at.commands
    body_in = omega (arith, some, i)

    abbrev pub body : Commanded t l c
    body = record { rows = rows; homes = homes; valid = rw b (start_ok (routine s at) m well lent); inside = body_in }

    module _ (fuel : ℕ) (x : Result ℕ Stop) (after : List ℕ) (right : (k : Commanded t l c) → ran_told k.rows.routine k.homes.list x after ≡ meant_run k fuel) where
      abbrev H : List Home
      H = (routine s at).homes

      is : ran_told (routine s at) H x after ≡ (run (routine s at) m lent fuel).answer
      is =
          right body
          ∙ ap (λ z. (exec (routine s at) m (record { homes = (routine s at).homes; memory = z }) c fuel).answer) b
          ∙ ap (λ z. (exec (routine s at) m (start (routine s at) m lent) z fuel).answer) i

      last : half s at.commands - 1 < half s at.commands
      last = omega (arith, some)

      spent : units (run (routine s at) m lent fuel).steps + left s at H after x ≡ fuel
      spent =
          let e = (exec_spends (routine s at) m (suc (half s at.commands - 1)) (start (routine s at) m lent) (half s at.commands - 1) fuel).by in
          rw (← left_is s at H after x, is) e

      -- The rows of a file stand in its bytes, of which there are few.
      placed : RanAt (λ p. p < 4294967296) (ran_told (routine s at) H x after)
      placed =
          let k : WellRead s at = known in
          rw is (exec_at (λ p. p < 4294967296) m well
          (λ e l. omega (arith, l, k.types_at, k.types.few, k.homes_at, k.homes.few, k.exprs_at, k.exprs.few))
          (λ c l. omega (arith, l, k.types_at, k.types.few, k.homes_at, k.homes.few, k.exprs_at, k.exprs.few, k.commands_at, k.commands.few))
          (half s at.commands - 1) (start (routine s at) m lent) fuel last)

      pub reportable : Reportable at x fuel
      reportable = reports s at H after x fuel placed (omega (arith, spent))

      pub whole : (r : Report) → r ≡ report_of at x fuel → ◌≡◌ {A = Left Ended} (record { answer = run_says (Ok r); lent = after }) (reported (run (routine s at) m lent fuel))
      whole r e =
          let a : outcome_says r.outcome ≡ ending_of (run (routine s at) m lent fuel).answer
          = ap (λ (z : Report). outcome_says z.outcome) e ∙ says_ending s at H after x fuel ∙ ap ending_of is in
          let b : r.units ≡ units (run (routine s at) m lent fuel).steps
          = ap (λ (z : Report). z.units) e ∙ says_units s at H after x fuel _ spent in
          let c : after ≡ (state_of (run (routine s at) m lent fuel).answer).memory
          = sym (says_memory s at H after x) ∙ ap (λ z. (state_of z).memory) is in
          rw (a, b, c)
