-- The public call: refusals as judged, then 9, then the run.
use mathlib.Core.Path.{◌≡◌, sym, ap, ◌∙◌}
use mathlib.Core.Bool.{true, false}
use Prim.Native.Nat.{ℕ, suc, ◌+◌, ◌*◌, ◌-◌, ◌<◌, ◌≤◌}
use native.Mathlib.Omega.{arith}
use mathlib.Core.List.{List}
use lib.ListN.{get_or, length}
use lib.Dec.{leb}
use borrow.Author.Tests.{le-leb, lt-leb}
use Rattle.rules.specs.declared.Starts.{Starts}
use Rattle.rules.specs.declared.Refusal.{Refusal}
use Rattle.std.specs.Prelude.{Result, Ok, Err}
use Rattle.rules.specs.Basic.{half, fine, refused}
use Rattle.rules.specs.Table.{layout, total, routine}
use Rattle.rules.specs.Run.{run}
use Rattle.rules.specs.Calls.{Left, Ended, says, refusal, judged, cell_count, runnable, running, reported}
use Rattle.view.specs.declared.HomeRow.{HomeRow}
use Rattle.view.specs.Rows.{home_row}
use Rattle.checker.specs.Judge.{CheckedTyped, checked_types}
use Rattle.filling.specs.Filling.{Accepted}

-- ---- the cells that are needed

-- g homes are passed, and `cells` are counted.
pub record Counted (s : List ℕ) (at : Starts) (g cells : ℕ) : Type 0 where
  pub low : cells ≤ 65536 * g
  pub same : cell_count (routine s at) ≡ cells + total (layout s (at.homes + 2 + 4 * g) (1 + cells) (half s at.homes - g))

module _ (s : List ℕ) (at : Starts) where
  pub counted_first : Counted s at 0 0
  counted_first =
      let e : at.homes + 2 + 4 * 0 ≡ at.homes + 2 = omega arith in
      let f : half s at.homes - 0 ≡ half s at.homes = omega arith in
      record { low = omega arith; same = rw (e, f) (omega arith) }

  pub counted_all : (g cells : ℕ) → half s at.homes ≤ g → Counted s at g cells → cells ≡ cell_count (routine s at)
  counted_all g cells h y =
      let e : half s at.homes - g ≡ 0 = omega arith in let z : cell_count (routine s at) ≡ cells + 0 = rw e at y.same in omega arith

  pub counted_next : (g cells : ℕ) (row : HomeRow) → g < half s at.homes → row ≡ home_row s at (g + 1) → row.size < 65536 → Counted s at g cells → Counted s at (g + 1) (cells + row.size)
  counted_next g cells row l q small y =
      let n = half s at.homes in
      let p : g + 1 - 1 ≡ g = omega arith in
      let w : row.size ≡ half s (at.homes + 2 + 4 * g + 2) = ap (λ (x : HomeRow). x.size) q ∙ rw p in
      let e : n - g ≡ suc (n - g - 1) = omega arith in
      let z : cell_count (routine s at) ≡ cells + (half s (at.homes + 2 + 4 * g + 2) + total (layout s (at.homes + 2 + 4 * g + 4) (1 + cells + half s (at.homes + 2 + 4 * g + 2)) (n - g - 1)))
      = rw e at y.same in
      let a : at.homes + 2 + 4 * (g + 1) ≡ at.homes + 2 + 4 * g + 4 = omega arith in
      let b : n - (g + 1) ≡ n - g - 1 = omega arith in
      let d : 1 + (cells + half s (at.homes + 2 + 4 * g + 2)) ≡ 1 + cells + half s (at.homes + 2 + 4 * g + 2) = omega arith in
      record { low = omega (arith, y.low); same = rw (w, a, b, d) (omega (arith, z)) }

-- ---- refusals, and the run

module _ (s m lent : List ℕ) (fuel : ℕ) where
  pub run_refused : (x : Result Starts Refusal) (n : Refusal) → says x ≡ judged s m → x ≡ Err n
      → ◌≡◌ {A = Left Ended} (record { answer = refusal n; lent = lent }) (running s m fuel lent)
  unfolding running runnable
  run_refused x n e h = let j : judged s m ≡ refusal n = sym e ∙ ap says h in rw j

  module _ (at : Starts) (j : judged s m ≡ fine at) (needed : ℕ) (c : needed ≡ cell_count (routine s at)) where
    pub run_short : length lent < needed → ◌≡◌ {A = Left Ended} (record { answer = refused 9 needed; lent = lent }) (running s m fuel lent)
    unfolding running runnable
    run_short l = let e : leb needed (length lent) ≡ false = lt-leb needed (length lent) l in rw (j, ← c, e)

    pub run_goes : (x : Left Ended) → needed ≤ length lent → x ≡ reported (run (routine s at) m lent fuel) → x ≡ running s m fuel lent
    unfolding running runnable
    run_goes x l h = let e : leb needed (length lent) ≡ true = le-leb needed (length lent) l in h ∙ rw (j, ← c, e)

pub accept : (s m : List ℕ) {before ty : List ℕ} (x : Result Starts Refusal) (at : Starts) → ((i : ℕ) → get_or s i 0 < 256) → CheckedTyped s m before ty x
    → x ≡ Ok at → Accepted s at m ty
accept s m x at b h e =
    let j : judged s m ≡ fine at = sym h.answer ∙ ap says e in
    record { bytes = record { each = b }; verdict = j; types = checked_types h at j }
