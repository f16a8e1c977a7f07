-- The numbers with which each call refuses: those that its tests name, and no other.
use Rattle.std.specs.Prelude.{◌≡◌, refl, Bool, true, false, List, get_or, length, leb, eqb}
use Rattle.std.proofs.Common.{inl, inr, arith}
use Prim.Native.Nat.{ℕ, zero, suc, ◌+◌}
use Rattle.rules.specs.declared.Starts.{Starts}
use Rattle.rules.specs.declared.Section.{Section}
use Rattle.rules.specs.declared.Section.TheVariants.{Types, Homes, Exprs, Commands, Values}
use Rattle.rules.specs.Basic.{half, in_range, Verdict, fine, refused, unless_refused, guard, scan, first_bad}
use Rattle.rules.specs.Table.{Routine, routine, row_place}
use Rattle.rules.specs.Reading.{row_bytes, fewest, most, row_good, row_read, rows, section, cells, sections, fifth, reading, rises, rising}
use Rattle.rules.specs.Shape.{expr_shaped, command_shaped, value_shaped, shape}
use Rattle.rules.specs.Kinds.{type_kind, expr_kind, command_kind, kinds}
use Rattle.rules.specs.Tests.{by_test}
use Rattle.rules.specs.Calls.{formed, judged, checking, cell_count, Left, Ended, or_leave, inferable, Inferred, left, marked, runnable, running}
use Rattle.promises.specs.Promises.{OfReading, OfChecking, OfInference, OfRunning, Numbers}

-- A verdict that refuses with numbers of P only.
data Only (P : ℕ → Type 0) {X : Type 0} : Verdict X → Type 0 where
  passes : {x : X} → Only P (fine x)
  refuses : {n p : ℕ} → P n → Only P (refused n p)

only_number : {P : ℕ → Type 0} {X : Type 0} {v : Verdict X} {n p : ℕ} → Only P v → v ≡ refused n p → P n
only_number {P} {n = n} (passes {x = x}) e = let z : ◌≡◌ {A = ℕ} 0 1 = cc in absurd (omega arith)
only_number {P} {n = n} (refuses {n = k} h) e = let q : n ≡ k = cc in rw q h

module _ {P Q : ℕ → Type 0} {X : Type 0} (h : (n : ℕ) → P n → Q n) where
  only_more : {v : Verdict X} → Only P v → Only Q v
  only_more passes = passes
  only_more (refuses {n = n} k) = refuses (h n k)

module _ {P : ℕ → Type 0} {X : Type 0} where
  only_then : {Y : Type 0} {v : Verdict Y} {go : Y → Verdict X} → Only P v → ((y : Y) → Only P (go y)) → Only P (unless_refused v go)
  only_then (passes {x = y}) h = h y
  only_then (refuses k) h = refuses k

  only_guard : (n p : ℕ) (b : Bool) (go : Unit {0} → Verdict X) → P n → Only P (go tt) → Only P (guard n p b go)
  only_guard n p true go h k = k
  only_guard n p false go h k = refuses h

  only_scan : (judge : ℕ → (Unit {0} → Verdict X) → Verdict X) → ((i : ℕ) (k : Unit {0} → Verdict X) → Only P (k tt) → Only P (judge i k))
      → (i n : ℕ) (go : Unit {0} → Verdict X) → Only P (go tt) → Only P (scan judge i n go)
  only_scan judge one i zero go h = h
  only_scan judge one i (suc n) go h = one i _ (only_scan judge one (suc i) n go h)

  only_first : (number : ℕ) (good : ℕ → Bool) (place : ℕ → ℕ) (n : ℕ) (go : Unit {0} → Verdict X) → P number → Only P (go tt)
      → Only P (first_bad number good place 0 n go)
  only_first number good place n go h k = only_scan _ (λ i g l. only_guard number (place i) (good i) g h l) 0 n go k

-- ---- refusals 1 to 6, and 10

module _ {X : Type 0} where
  section_only : (s : List ℕ) (c : Section) (q : ℕ) (go : ℕ → ℕ → Verdict X) → ((a b : ℕ) → Only OfReading (go a b)) → Only OfReading (section s c q go)
  unfolding section rows
  section_only s c q go h =
      only_guard 1 q (leb (q + 2) (length s)) _ (inl (omega arith))
      (only_guard 2 q (in_range (fewest c) (half s q) (most c)) _ (inl (omega arith))
      (only_scan (row_read s c (q + 2))
      (λ i k l.
      let p = row_place (q + 2) (row_bytes c) i in
      only_guard 1 p (leb (p + row_bytes c) (length s)) (λ _. guard 3 p (row_good s c i p) k) (inl (omega arith))
      (only_guard 3 p (row_good s c i p) k (inl (omega arith)) l))
      0 (half s q) (λ _. go (row_place (q + 2) (row_bytes c) (half s q)) (half s q)) (h _ _)))

  cells_only : (s : List ℕ) (q before n : ℕ) (go : Unit {0} → Verdict X) → Only OfReading (go tt) → Only OfReading (cells s q before n go)
  unfolding cells
  cells_only s q before zero go h = h
  cells_only s q before (suc n) go h = only_guard 5 q (leb (before + half s (q + 2)) 4096) _ (inl (omega arith)) (cells_only s (q + 4) (before + half s (q + 2)) n go h)

  fifth_only : (s : List ℕ) (at : Starts) (go : ℕ → Verdict X) → ((end : ℕ) → Only OfReading (go end)) → Only OfReading (fifth s at go)
  unfolding fifth
  fifth_only s at go h =
      by_test (Only OfReading) (eqb at.values (length s)) _ _ (λ _. h at.values) (λ _. section_only s (Values at.homes) at.values _ (λ end n. h end))

  rising_only : (r : Routine) (go : Unit {0} → Verdict X) → Only OfReading (go tt) → Only OfReading (rising r go)
  unfolding rising
  rising_only r go h = only_first 10 (λ i. rises r i) r.value_place r.values go (inr refl) h

  shape_only : (r : Routine) (go : Unit {0} → Verdict X) → Only OfReading (go tt) → Only OfReading (shape r go)
  unfolding shape
  shape_only r go h =
      only_first 6 (λ e. expr_shaped r (r.expr e)) r.expr_place r.exprs _ (inl (omega arith))
      (only_first 6 (λ c. command_shaped r (r.command c)) r.command_place r.commands _ (inl (omega arith))
      (only_first 6 (λ i. value_shaped r (r.value i)) r.value_place r.values go (inl (omega arith)) h))

sections_only : (s : List ℕ) → Only OfReading (sections s)
unfolding sections
sections_only s =
    section_only s Types 0 _ (λ h t.
    section_only s (Homes t) h _ (λ e g.
    section_only s (Exprs t g) e _ (λ c x.
    section_only s (Commands x) c _ (λ v n. passes))))

reading_only : (s : List ℕ) → Only OfReading (reading s)
unfolding reading
reading_only s =
    only_then (sections_only s) (λ at.
    fifth_only s at _ (λ end.
    only_guard 4 end (eqb end (length s)) _ (inl (omega arith)) (cells_only s (at.homes + 2) 0 (half s at.homes) _ passes)))

formed_only : (s : List ℕ) → Only OfReading (formed s)
unfolding formed
formed_only s = only_then (reading_only s) (λ at. rising_only (routine s at) _ (shape_only (routine s at) _ passes))

-- ---- 7, 8 and 9

-- Checking and inference have the numbers of reading too, and a run has all.
pub read_check : (n : ℕ) → OfReading n → OfChecking n
read_check n (inl h) = inl (omega arith)
read_check n (inr e) = inr e

read_infer : (n : ℕ) → OfReading n → OfInference n
read_infer n (inl h) = inl h
read_infer n (inr e) = inr (omega arith)

pub check_run : (n : ℕ) → OfChecking n → OfRunning n
check_run n (inl h) = omega arith
check_run n (inr e) = omega arith

pub infer_run : (n : ℕ) → OfInference n → OfRunning n
infer_run n (inl h) = omega arith
infer_run n (inr h) = omega arith

judged_only : (s m : List ℕ) → Only OfChecking (judged s m)
unfolding judged kinds
judged_only s m =
    only_then (only_more read_check (formed_only s)) (λ at.
    let r = routine s at in
    only_guard 7 _ (eqb (length m) r.types) _ (inl (omega arith))
    (only_first 7 (λ i. leb (get_or m i 0) 2) (λ i. i) r.types _ (inl (omega arith))
    (only_first 8 (λ i. type_kind r m (suc i)) (λ i. r.type_place (suc i)) r.types _ (inl (omega arith))
    (only_first 8 (λ e. expr_kind r m (r.expr e)) r.expr_place r.exprs _ (inl (omega arith))
    (only_first 8 (λ c. command_kind r m (r.command c)) r.command_place r.commands _ (inl (omega arith)) passes)))))

checking_only : (s m : List ℕ) → Only OfChecking (checking s m)
unfolding checking
checking_only s m = only_then (judged_only s m) (λ at. passes)

inferable_only : (s lent : List ℕ) → Only OfInference (inferable s lent)
unfolding inferable
inferable_only s lent = only_then (only_more read_infer (formed_only s)) (λ at. only_guard 9 _ (leb (routine s at).types (length lent)) _ (inr (omega arith)) passes)

runnable_only : (s m lent : List ℕ) → Only OfRunning (runnable s m lent)
unfolding runnable
runnable_only s m lent = only_then (only_more check_run (judged_only s m)) (λ at. only_guard 9 _ (leb (cell_count (routine s at)) (length lent)) _ (omega arith) passes)

running_only : (s m : List ℕ) (fuel : ℕ) (lent : List ℕ) → Only OfRunning (running s m fuel lent).answer
unfolding running
running_only s m fuel lent = go (runnable s m lent) _ (runnable_only s m lent) (λ at. passes)
  where
    go : (v : Verdict Starts) (k : Starts → Left Ended) → Only OfRunning v → ((at : Starts) → Only OfRunning (k at).answer) → Only OfRunning (or_leave v lent k).answer
    go (fine at) k h l = l at
    go (refused n p) k (refuses h) l = refuses h

-- ---- the promise

pub numbers : Numbers
numbers =
    record {
      reading = λ s n p e. only_number (formed_only s) e;
      checking = λ s m n p e. only_number (checking_only s m) e;
      inferring = λ s lent x n p i e. inferred s lent i e;
      running = λ s m fuel lent n p e. only_number (running_only s m fuel lent) e;
    }
  where
    inferred : (s lent : List ℕ) {x : Left (Unit {0})} {n p : ℕ} → Inferred s lent x → x.answer ≡ refused n p → OfInference n
    inferred s lent {n = n} (left {n = k} h) e = let q : n ≡ k = cc in rw q (only_number (inferable_only s lent) h)
    inferred s lent (marked h l) e = let z : ◌≡◌ {A = ℕ} 0 1 = cc in absurd (omega arith)
