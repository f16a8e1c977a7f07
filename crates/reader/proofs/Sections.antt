-- The reading, front to back: a loop over a section's rows, a section, the cells, and one step after the other.
use Rattle.std.proofs.Common.{◌≡◌, refl, sym, ◌∙◌, true, false, ℕ, suc, ◌+◌, ◌*◌, ◌-◌, ◌≤◌, ◌<◌, List, length, Result, Ok, Err, arith, add-one}
use Rattle.std.proofs.lemmas.Result.{IfOk-weaker}
use native.Mathlib.Nat.{mul-suc}
use borrow.Author.Tests.{le-leb, lt-leb}
use Rattle.rules.specs.declared.Starts.{Starts}
use Rattle.rules.specs.declared.Fault.TheVariants.{Short, Row}
use Rattle.rules.specs.declared.Refusal.{Refusal}
use Rattle.rules.specs.declared.Section.{Section}
use Rattle.rules.specs.declared.Section.TheVariants.{Types, Homes, Exprs, Commands, Values}
use Rattle.rules.specs.Basic.{half, in_range, Verdict, fine}
use Rattle.rules.specs.Reading.{row_bytes, fewest, most, row_good, row_read, rows, section, cells}
use Rattle.rules.specs.Calls.{refusal}
use Rattle.rules.specs.Tests.{in_range_lem}
use Rattle.reader.specs.declared.front.Passed.{Passed}
use Rattle.reader.specs.Steps.{RowsRead, SectionRead}

-- ---- the loop over a section's rows

-- At row i of n, at place `at`: the rest of the rows is judged as all of them are.
pub record RowsSoFar (s : List ℕ) (c : Section) (q n i at : ℕ) : Type 0 where
  pub rest : (go : Unit {0} → Verdict Starts) → rows s c q 0 n go ≡ rows s c q i (n - i) go
  pub place : at ≡ q + row_bytes c * i
  pub near : at ≤ q + 8 * i
  pub inside : at ≤ length s

pub rows_start : (s : List ℕ) (c : Section) (q n : ℕ) → q ≤ length s → RowsSoFar s c q n 0 q
rows_start s c q n h =
    let d : n - 0 ≡ n = omega arith in
    record { rest = λ go. rw d; place = omega arith; near = omega arith; inside = h }

module _ {s : List ℕ} {c : Section} {q n i at : ℕ} (so_far : RowsSoFar s c q n i at) where
  refuses : {r : Refusal} → ((go : Unit {0} → Verdict Starts) → rows s c q i (n - i) go ≡ refusal r) → RowsRead s c q n (Err r)
  refuses h = record { means = λ go. so_far.rest (λ _. go (q + row_bytes c * n) n) ∙ h (λ _. go (q + row_bytes c * n) n); passed = tt }

  module _ (less : i < n) {w : ℕ} (width : w ≡ row_bytes c) where
    -- One row off the front.
    one_row : (go : Unit {0} → Verdict Starts) → rows s c q i (n - i) go ≡ row_read s c q i λ _. rows s c q (i + 1) (n - (i + 1)) go
    unfolding rows
    one_row go = let e : n - i ≡ suc (n - (i + 1)) = omega arith in rw (e, add-one)

    at_row : q + row_bytes c * i ≡ at
    at_row = sym so_far.place

    pub row_short : {r : Refusal} → r ≡ record { fault = Short; place = at } → length s < at + w → RowsRead s c q n (Err r)
    row_short e h = refuses (λ go. one_row go ∙ rw (at_row, ← width, lt-leb (at + w) (length s) h, e))

    module _ (whole : at + w ≤ length s) where
      pub row_bad : {r : Refusal} → r ≡ record { fault = Row; place = at } → row_good s c i at ≡ false → RowsRead s c q n (Err r)
      row_bad e g = refuses (λ go. one_row go ∙ rw (at_row, ← width, le-leb (at + w) (length s) whole, g, e))

      pub row_passed : w ≤ 8 → row_good s c i at ≡ true → RowsSoFar s c q n (i + 1) (at + w)
      row_passed narrow g = record {
        rest = λ go. so_far.rest go ∙ one_row go ∙ rw (at_row, ← width, le-leb (at + w) (length s) whole, g);
        place = rw (so_far.place, width, add-one, mul-suc) (omega arith);
        near = omega (arith, so_far.near);
        inside = whole;
      }

  pub rows_passed : n ≡ i → RowsRead s c q n (Ok (record { end = at; rows = n }))
  unfolding rows
  rows_passed e =
      let d : n - i ≡ 0 = omega arith in
      let f : at ≡ q + row_bytes c * n = rw e so_far.place in
      record {
        means = λ go. so_far.rest (λ _. go (q + row_bytes c * n) n) ∙ rw (d, f);
        passed = (f, refl, so_far.inside);
      }

-- ---- a section

-- It has 1,024 rows and 7 * 1,024 bytes at most.
section_small : (c : Section) (n : ℕ) → n ≤ most c → (row_bytes c * n ≤ 7168) × (n ≤ 1024)
section_small Types n l = (omega arith, omega arith)
section_small (Homes t) n l = (omega arith, omega arith)
section_small (Exprs t h) n l = (omega arith, omega arith)
section_small (Commands e) n l = (omega arith, omega arith)
section_small (Values h) n l = (omega arith, omega arith)

module _ {s : List ℕ} {c : Section} {q n : ℕ} (count : n ≡ half s q) where
  pub section_rows : {r : Result Passed Refusal} → q + 2 ≤ length s → in_range (fewest c) n (most c) ≡ true → RowsRead s c (q + 2) n r → SectionRead s c q r
  unfolding section
  section_rows {r} whole few read =
      let k : in_range (fewest c) (half s q) (most c) ≡ true = rw (← count) few in
      let small = section_small c n (in_range_lem (fewest c) n (most c) few).1 in
      record {
        means = λ go. rw (le-leb (q + 2) (length s) whole, k, ← count) (read.means go);
        passed = IfOk-weaker r _ _ (λ x (end, rows, inside). (rw rows end, inside, omega arith, omega arith)) read.passed;
      }

-- ---- the cells

pub one_home : (s : List ℕ) (at : Starts) (q before n : ℕ) {size : ℕ} → size ≡ half s (q + 2) → before + size ≤ 4096
    → cells s q before (suc n) (λ _. fine at) ≡ cells s (q + 4) (before + size) n λ _. fine at
unfolding cells
one_home s at q before n read h = rw (← read, le-leb (before + _) 4096 h)
