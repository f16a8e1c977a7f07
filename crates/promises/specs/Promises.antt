-- What is promised of the rules. Statements only: the proofs are in `Proofs`, or in the module that its first lines name.
use Rattle.std.specs.Prelude.{◌≡◌, ◌⊎◌, true, ℕ, suc, ◌+◌, ◌-◌, ◌%◌, ◌≤◌, ◌<◌, List, [], ◌∷◌, ◌++◌, length, get_or, drop, take, replicate, Result}
use Rattle.rules.specs.declared.Value.{Value}
use Rattle.rules.specs.declared.Value.TheVariants.{Number, Pair}
use Rattle.rules.specs.declared.Starts.{Starts}
use Rattle.rules.specs.declared.Refusal.{Refusal}
use Rattle.rules.specs.declared.Report.{Report}
use Rattle.rules.specs.Basic.{Bytes, half, width, fine, refused, unless_refused}
use Rattle.rules.specs.Table.{Routine, routine, null, read}
use Rattle.rules.specs.Reading.{cells, sections, reading, rises}
use Rattle.rules.specs.declared.Kind.{Kind}
use Rattle.rules.specs.declared.Kind.TheVariants.{SAFE}
use Rattle.rules.specs.Kinds.{kind, not_safe, same_below, same, type_kind, expr_kind, command_kind, Acceptable}
use Rattle.rules.specs.Shape.{home_at, type_of, expr_shaped, command_shaped, value_shaped, shape}
use Rattle.rules.specs.Least.{Least}
use Rattle.rules.specs.Steps.{Step, entered, looked, stored, Told, units}
use Rattle.rules.specs.Memory.{State, cell, replay}
use Rattle.rules.specs.declared.Check.{Check}
use Rattle.rules.specs.declared.Check.TheVariants.{Bounds}
use Rattle.rules.specs.Ruled.{gives, fails}
use Rattle.rules.specs.Values.{convert, reach, moved, fetched}
use Rattle.rules.specs.Start.{fresh_value, start_address, given_in, cleared, start}
use Rattle.rules.specs.Run.{Stop, no_fuel, failed, no_rule, got, Ran, done, halted, eval, exec, run}
use Rattle.rules.specs.Ends.{Ends, left_after}
use Rattle.rules.specs.Valid.{In, Real, InHome, Valid, ValidState}
use Rattle.rules.specs.Calls.{formed, judged, cell_count, Ending, finished, out_of_fuel, failed_check, ending_of, state_of, Left, Ended, Inferred, checking, running, says, run_says, runnable}
use Rattle.rules.specs.Made.{Made}
use Rattle.laws.specs.Formed.{Fits, CommandFits, ValueFits}
use Rattle.rules.specs.Graph.{Meets, Each, demands}

-- ---- words

-- An end, with d more fuel left.
abbrev pub stop_more : ℕ → Stop → Stop
stop_more d (no_fuel p) = no_fuel p
stop_more d (failed c p f) = failed c p (f + d)
stop_more d (no_rule p f) = no_rule p (f + d)

abbrev pub ran_more : ℕ → Ran → Ran
ran_more d (done w f) = done w (f + d)
ran_more d (halted w s) = halted w (stop_more d s)

-- Out of fuel at the row at place p.
pub data CutRan : ℕ → Ran → Type 0 where
  cut_ran : {w : State} {p : ℕ} → CutRan p (halted w (no_fuel p))

-- y takes the steps of x, and ends as x does or goes on by entering the row for which x had no fuel.
pub data Longer {X : Type 0} (more : X → X) (out : ℕ → X → Type 0) (x y : Told X) : Type 0 where
  alike : y.answer ≡ more x.answer → y.steps ≡ x.steps → Longer more out x y
  longer : {p : ℕ} (l : List Step) → out p x.answer → y.steps ≡ x.steps ++ entered p ∷ l → Longer more out x y

-- ---- demand 3

-- A run from state w, step by step. `before` is any part of its steps from the first on.
pub record Safe (r : Routine) (m : List ℕ) (w : State) (x : Told Ran) : Type 0 where
  -- It ends in done, fuel or a check 1 to 4: it is never stuck.
  pub outcome : Ends x.answer
  -- It never reads and never stores outside the homes.
  pub looks : (before after : List Step) (p : ℕ) (v : Value) (a : ℕ) → x.steps ≡ before ++ looked p v a ∷ after → InHome (replay w before).homes a
  pub stores : (before after : List Step) (p : ℕ) (v : Value) (a : ℕ) (u : Value) → x.steps ≡ before ++ stored p v a u ∷ after
      → InHome (replay w before).homes a
  -- Every step is made by the row that is at its place; a read and a store reach their cell through that row's pointer.
  pub made : (before after : List Step) (s : Step) → x.steps ≡ before ++ s ∷ after → Made r m (replay w before) s
  -- At the start, and after every step, each cell holds a value valid for its home.
  pub valid : (before after : List Step) → x.steps ≡ before ++ after → ValidState r m (replay w before)
  -- And its memory is as after the last store.
  pub last : state_of x.answer ≡ replay w x.steps

-- For every well-formed file of bytes, every marking that earns neither 7 nor 8, every lent memory and every fuel.
abbrev pub Safety : Type 0
Safety = (s m lent : List ℕ) (fuel : ℕ) (at : Starts) → Bytes s → judged s m ≡ fine at
    → Safe (routine s at) m (start (routine s at) m lent) (run (routine s at) m lent fuel)

-- Lent memory past the cells stays as it was.
abbrev pub Surplus : Type 0
Surplus = (s m lent : List ℕ) (fuel : ℕ) (at : Starts) → Bytes s → judged s m ≡ fine at
    → let n = cell_count (routine s at) in drop n (state_of (run (routine s at) m lent fuel).answer).memory ≡ drop n lent

-- What a call to run leaves. A refused one leaves the lent memory as it was; another leaves each cell valid for its home, and every entry
-- past the homes' cells as it was.
pub record Leaves (s m : List ℕ) (fuel : ℕ) (lent : List ℕ) : Type 0 where
  pub refusal : (n p : ℕ) → (running s m fuel lent).answer ≡ refused n p → (running s m fuel lent).lent ≡ lent
  pub valid : (at : Starts) → runnable s m lent ≡ fine at
      → ValidState (routine s at) m (record { homes = (routine s at).homes; memory = (running s m fuel lent).lent })
  pub outside : (at : Starts) → runnable s m lent ≡ fine at
      → let n = cell_count (routine s at) in drop n (running s m fuel lent).lent ≡ drop n lent

abbrev pub Afterwards : Type 0
Afterwards = (s m : List ℕ) (fuel : ℕ) (lent : List ℕ) → Bytes s → Leaves s m fuel lent

-- A read that gives a value tells last where it looks, and gives what that cell holds: for every routine, accepted or not.
pub record Looks (r : Routine) (m : List ℕ) (w : State) (e a : ℕ) (x : Value) (l : List Step) : Type 0 where
  pub before : List Step
  pub pointer : Value
  pub address : ℕ
  pub told : l ≡ before ++ looked (r.expr_place e) pointer address ∷ []
  pub holds : fetched w (kind m (type_of r a)) (kind m (r.target (type_of r a))) (cell w address) ≡ gives x

abbrev pub ReadsTold : Type 0
ReadsTold = (r : Routine) (m : List ℕ) (w : State) (e a f : ℕ) (x : Value) (left : ℕ) → r.expr e ≡ read a → (eval r m w e f).answer ≡ got x left
    → Looks r m w e a x (eval r m w e f).steps

-- ---- the starting memory

-- The cell of each start row holds its value, and every other cell of a home what its home's kind and its own say.
pub record Starting (r : Routine) (m : List ℕ) (w : State) : Type 0 where
  pub given : (i : ℕ) → i < r.values
      → cell w (start_address r (r.value i)) ≡ given_in r m (r.value i)
  pub others : (g a : ℕ) → Real r.homes g → In (home_at r.homes g) a → ((i : ℕ) → i < r.values → a ≡ start_address r (r.value i) → ⊥)
      → cell w a ≡ fresh_value (kind m (home_at r.homes g).type) (kind m (r.target (home_at r.homes g).type))

abbrev pub StartingMemory : Type 0
StartingMemory = (s m lent : List ℕ) (at : Starts) → Bytes s → formed s ≡ fine at → Starting (routine s at) m (start (routine s at) m lent)

-- A file that stops after its commands keeps its meaning. It is read by its four sections and refusal 5, and earns no 10. It has no start rows:
-- its starting memory is that of its cells alone, and its run begins there.
pub record Keeps (s : List ℕ) : Type 0 where
  pub read : reading s ≡ unless_refused (sections s) λ at. cells s (at.homes + 2) 0 (half s at.homes) λ _. fine at
  pub shaped : formed s ≡ unless_refused (reading s) λ at. shape (routine s at) λ _. fine at
  pub rows : (at : Starts) → sections s ≡ fine at → (routine s at).values ≡ 0
  pub memory : (at : Starts) → sections s ≡ fine at → (m lent : List ℕ)
      → start (routine s at) m lent ≡ record { homes = (routine s at).homes; memory = cleared (routine s at) m lent }
  pub runs : (at : Starts) → sections s ≡ fine at → (m lent : List ℕ) (fuel : ℕ)
      → run (routine s at) m lent fuel
      ≡ exec (routine s at) m (record { homes = (routine s at).homes; memory = cleared (routine s at) m lent }) ((routine s at).commands - 1) fuel

-- No byte follows the commands, if the file has them all.
abbrev pub Stops : List ℕ → Type 0
Stops s = (at : Starts) → sections s ≡ fine at → at.values ≡ length s

abbrev pub StopsAfterCommands : Type 0
StopsAfterCommands = (s : List ℕ) → Stops s → Keeps s

-- ---- units

-- The units are the rows entered, and with the fuel left they are the fuel given: for every routine, accepted or not.
abbrev pub Spending : Type 0
Spending = (r : Routine) (m lent : List ℕ) (fuel : ℕ) → units (run r m lent fuel).steps + left_after (run r m lent fuel).answer ≡ fuel

-- So units never pass the fuel given, and a run that is out of fuel has spent it all.
pub record Spent (fuel : ℕ) (x : Told Ran) : Type 0 where
  pub most : units x.steps ≤ fuel
  pub all : (p : ℕ) → ending_of x.answer ≡ out_of_fuel p → units x.steps ≡ fuel

abbrev pub Within : Type 0
Within = (r : Routine) (m lent : List ℕ) (fuel : ℕ) → Spent fuel (run r m lent fuel)

-- A run with fuel k is the first k rows of every run with more: `d` is how much more.
abbrev pub Prefixes : Type 0
Prefixes = (r : Routine) (m lent : List ℕ) (k d : ℕ) → Longer (ran_more d) CutRan (run r m lent k) (run r m lent (k + d))

-- What the lent memory held before does not matter: ending, units and cells are functions of file, marking and fuel alone.
pub record SameRun (cells : ℕ) (x y : Left Ended) : Type 0 where
  pub answers : x.answer ≡ y.answer
  pub memory : take cells x.lent ≡ take cells y.lent

abbrev pub Alone : Type 0
Alone = (s m lent lent' : List ℕ) (fuel : ℕ) (at : Starts) → Bytes s → judged s m ≡ fine at
    → let n = cell_count (routine s at) in n ≤ length lent → n ≤ length lent' → SameRun n (running s m fuel lent) (running s m fuel lent')

-- ---- markings

-- Equality of types is an equivalence. It does not depend on how many targets are gone down, if they are more than the type's number.
-- Equal types have equal kinds, and the same values are valid for both.
pub record Equality (r : Routine) (m : List ℕ) : Type 0 where
  pub reflexive : (t : ℕ) → same r m t t ≡ true
  pub symmetric : (t u : ℕ) → same r m t u ≡ true → same r m u t ≡ true
  pub transitive : (t u v : ℕ) → same r m t u ≡ true → same r m u v ≡ true → same r m t v ≡ true
  pub bound : (d t u : ℕ) → t ≤ r.types → t < d → same_below r m d t u ≡ same r m t u
  pub kinds : (t u : ℕ) → same r m t u ≡ true → kind m t ≡ kind m u
  pub values : {w : State} → ValidState r m w → (t u : ℕ) (v : Value) → t ≤ r.types → same r m t u ≡ true
      → Valid r m w.homes t v → Valid r m w.homes u v

abbrev pub Equal : Type 0
Equal = (s m : List ℕ) (at : Starts) → Bytes s → formed s ≡ fine at → Equality (routine s at) m

-- All DYNAMIC is accepted for every well-formed file.
abbrev pub AllDynamic : Type 0
AllDynamic = (s : List ℕ) (at : Starts) → Bytes s → formed s ≡ fine at → judged s (replicate (routine s at).types 2) ≡ fine at

-- A marking is accepted exactly if it is acceptable.
pub record Judges (s m : List ℕ) (at : Starts) : Type 0 where
  pub only : judged s m ≡ fine at → Acceptable (routine s at) m
  pub every : Acceptable (routine s at) m → judged s m ≡ fine at

abbrev pub Exactly : Type 0
Exactly = (s m : List ℕ) (at : Starts) → formed s ≡ fine at → Judges s m at

-- A marking of the right length and bytes is acceptable exactly if it meets every demand of its routine's graph.
pub record Meeting (r : Routine) (m : List ℕ) : Type 0 where
  pub only : Acceptable r m → Each (Meets m) (demands r)
  pub every : length m ≡ r.types → ((i : ℕ) → i < r.types → get_or m i 0 ≤ 2) → Each (Meets m) (demands r) → Acceptable r m

abbrev pub Demanded : Type 0
Demanded = (s m : List ℕ) (at : Starts) → Bytes s → formed s ≡ fine at → Meeting (routine s at) m

-- The least marking of a well-formed file exists, and there is one only.
pub record LeastMarking (r : Routine) : Type 0 where
  pub marking : List ℕ
  pub least : Least r marking
  pub only : (m : List ℕ) → Least r m → m ≡ marking

abbrev pub LeastExists : Type 0
LeastExists = (s : List ℕ) (at : Starts) → Bytes s → formed s ≡ fine at → LeastMarking (routine s at)

-- Inference has one outcome only: one answer, and one content of what was lent.
abbrev pub OneInference : Type 0
OneInference = (s lent : List ℕ) (x y : Left (Unit {0})) → Inferred s lent x → Inferred s lent y → x ≡ y

-- And it has one for every file of bytes.
abbrev pub SomeInference : Type 0
SomeInference = (s lent : List ℕ) → Bytes s → (x : Left (Unit {0})) × Inferred s lent x

-- Every marking that inference writes is accepted: its first entries, one for each type.
abbrev pub MarksAccepted : Type 0
MarksAccepted = (s lent : List ℕ) (x : Left (Unit {0})) → Inferred s lent x → x.answer ≡ fine tt
    → (at : Starts) × (formed s ≡ fine at) × (judged s (take (routine s at).types x.lent) ≡ fine at)

-- And it refuses a well-formed file with 9 only: fewer entries are lent than the types, which the place tells.
abbrev pub OnlyTooShort : Type 0
OnlyTooShort = (s lent : List ℕ) (x : Left (Unit {0})) (at : Starts) (n p : ℕ) → formed s ≡ fine at → Inferred s lent x → x.answer ≡ refused n p
    → (n ≡ 9) × (p ≡ (routine s at).types) × (length lent < p)

-- ---- a number gives nobody a way back

-- A pointer made of a number names home 0, also after sums. Every access through it fails a check, and as SAFE it is null or fails one.
pub record Nowhere (w : State) (s : Kind) (n : ℕ) : Type 0 where
  pub made : convert w s (Number n) ≡ gives (Pair 0 n)
  pub summed : (k : ℕ) → moved (Pair 0 n) (Number k) ≡ gives (Pair 0 ((n + k) % width))
  pub access : (c : Check) × (reach w s (Pair 0 n) ≡ fails c)
  pub narrowed : (convert w SAFE (Pair 0 n) ≡ gives (Number 0)) ⊎ (convert w SAFE (Pair 0 n) ≡ fails Bounds)

abbrev pub MadeOfNumber : Type 0
MadeOfNumber = (r : Routine) (m : List ℕ) (w : State) → ValidState r m w → (s : Kind) → not_safe s ≡ true → (n : ℕ) → Nowhere w s n

-- ---- rows

-- What refusals 1 to 8 and 10 leave of each row.
pub record Facts (r : Routine) (m : List ℕ) : Type 0 where
  -- A type's target has a lower number, and DYNAMIC goes down to it.
  pub types : (i : ℕ) → i < r.types → (r.target (suc i) < suc i) × (type_kind r m (suc i) ≡ true)
  -- A home's type is a reference.
  pub homes : (g : ℕ) → Real r.homes g → (0 < (home_at r.homes g).type) × ((home_at r.homes g).type ≤ r.types)
  -- An operand comes earlier and is in range, is int or a reference as its row needs, and the row keeps the kind rule.
  pub exprs : (e : ℕ) → e < r.exprs → Fits r e (r.expr e) × (expr_shaped r (r.expr e) ≡ true) × (expr_kind r m (r.expr e) ≡ true)
  pub commands : (c : ℕ) → c < r.commands → CommandFits r c (r.command c) × (command_shaped r (r.command c) ≡ true) × (command_kind r m (r.command c) ≡ true)
  -- A start row names a cell of a home, of int type, behind that of the row before it.
  pub values : (i : ℕ) → i < r.values → ValueFits r (r.value i) × (value_shaped r (r.value i) ≡ true) × (rises r i ≡ true)
  -- A null has a reference type.
  pub nulls : (e t : ℕ) → e < r.exprs → r.expr e ≡ null t → 0 < t
  -- The type of a row is one that there is.
  pub typed : (e : ℕ) → e < r.exprs → type_of r e ≤ r.types
  -- There is a body.
  pub body : 0 < r.commands

abbrev pub Rows : Type 0
Rows = (s m : List ℕ) (at : Starts) → Bytes s → judged s m ≡ fine at → Facts (routine s at) m

-- ---- answers

-- The code's answers lose nothing of what they say: two that say the same are the same.
pub record Lossless : Type 0 where
  pub reading : (x y : Result Starts Refusal) → says x ≡ says y → x ≡ y
  pub checking : (x y : Result (Unit {0}) Refusal) → says x ≡ says y → x ≡ y
  pub inferring : (x y : Result (Unit {0}) Refusal) → says x ≡ says y → x ≡ y
  pub running : (x y : Result Report Refusal) → run_says x ≡ run_says y → x ≡ y

-- The numbers that a refusal can have (RULES 2.3).
abbrev pub OfReading : ℕ → Type 0
OfReading n = ((1 ≤ n) × (n ≤ 6)) ⊎ (n ≡ 10)

abbrev pub OfChecking : ℕ → Type 0
OfChecking n = ((1 ≤ n) × (n ≤ 8)) ⊎ (n ≡ 10)

abbrev pub OfInference : ℕ → Type 0
OfInference n = ((1 ≤ n) × (n ≤ 6)) ⊎ ((9 ≤ n) × (n ≤ 10))

abbrev pub OfRunning : ℕ → Type 0
OfRunning n = (1 ≤ n) × (n ≤ 10)

-- Each call refuses with its numbers only. None is 0: a number 0 can say that nothing was refused.
pub record Numbers : Type 0 where
  pub reading : (s : List ℕ) (n p : ℕ) → formed s ≡ refused n p → OfReading n
  pub checking : (s m : List ℕ) (n p : ℕ) → checking s m ≡ refused n p → OfChecking n
  pub inferring : (s lent : List ℕ) (x : Left (Unit {0})) (n p : ℕ) → Inferred s lent x → x.answer ≡ refused n p → OfInference n
  pub running : (s m : List ℕ) (fuel : ℕ) (lent : List ℕ) (n p : ℕ) → (running s m fuel lent).answer ≡ refused n p → OfRunning n

-- A run that is not refused is done, out of fuel, or stopped by a check 1 to 4 (RULES 6.4).
pub data Regular : Ending → Type 0 where
  is_done : Regular finished
  is_fuel : {p : ℕ} → Regular (out_of_fuel p)
  is_check : {n p : ℕ} → 1 ≤ n → n ≤ 4 → Regular (failed_check n p)

abbrev pub Endings : Type 0
Endings = (s m : List ℕ) (fuel : ℕ) (lent : List ℕ) (e : Ended) → Bytes s → (running s m fuel lent).answer ≡ fine e → Regular e.ending

-- ---- reading

-- No well-formed file is longer than 15,112 bytes, and one has them.
pub record Longest : Type 0 where
  pub most : (s : List ℕ) (at : Starts) → formed s ≡ fine at → length s ≤ 15112
  pub file : List ℕ
  pub bytes : Bytes file
  pub at : Starts
  pub well : formed file ≡ fine at
  pub long : length file ≡ 15112

-- The first 15,113 bytes decide what is read,
abbrev pub FirstBytes : Type 0
FirstBytes = (s : List ℕ) → formed s ≡ formed (take 15113 s)

-- And with it what each call answers, and each lent entry afterwards.
pub record SameCalls (s z : List ℕ) : Type 0 where
  pub checks : (m : List ℕ) → checking s m ≡ checking z m
  pub infers : (lent : List ℕ) (x : Left (Unit {0})) → (Inferred s lent x → Inferred z lent x) × (Inferred z lent x → Inferred s lent x)
  pub runs : (m : List ℕ) (fuel : ℕ) (lent : List ℕ) → running s m fuel lent ≡ running z m fuel lent

abbrev pub FirstBytesDecide : Type 0
FirstBytesDecide = (s : List ℕ) → SameCalls s (take 15113 s)

-- A fifth section with no rows says what none says: behind a file that stops after its commands it changes no answer, and no entry.
abbrev pub NoRowsIsNone : Type 0
NoRowsIsNone = (s : List ℕ) (at : Starts) → formed s ≡ fine at → at.values ≡ length s
    → let z = s ++ 0 ∷ 0 ∷ [] in (formed z ≡ fine at) × SameCalls s z
