-- A file that is well read is read, and well-formed if its start rows rise and its rows are shaped: the laws of `Known`, the other way round.
use Rattle.std.specs.Prelude.{◌≡◌, ℕ, zero, suc, ◌+◌, ◌*◌, ◌≤◌, ◌<◌, List, length}
use Rattle.std.proofs.Math.Path.{refl, ap}
use Rattle.std.proofs.Common.{sym, ◌∙◌, mul-suc, mul-le-mul_left, arith}
use borrow.Author.Tests.{le-leb, eq-eqb, ne_eqb}
use Rattle.rules.specs.declared.Starts.{Starts}
use Rattle.rules.specs.declared.Section.{Section}
use Rattle.rules.specs.Basic.{half, Verdict, fine}
use Rattle.rules.specs.Table.{layout, total, routine}
use Rattle.rules.specs.Reading.{row_bytes, fewest, most, row_read, rows, section, cells, sections, fifth, reading, rises, rising}
use Rattle.rules.specs.Shape.{expr_shaped, command_shaped, value_shaped, shape}
use Rattle.rules.specs.Calls.{formed}
use Rattle.rules.specs.Tested.{scan_passes, all_good}
use Rattle.laws.specs.WellRead.{Whole, Fifth, absent, present, WellRead}
use Rattle.laws.specs.Known.{Shaped, Rising}

row_read_lem : {X : Type 0} {s : List ℕ} {c : Section} {q : ℕ} → Whole s c q → (i : ℕ) (go : Unit {0} → Verdict X) → i < half s q
    → row_read s c (q + 2) i go ≡ go tt
row_read_lem {s = s} {c = c} {q = q} w i go l =
    let k : row_bytes c * i + row_bytes c ≤ row_bytes c * half s q = rw mul-suc at (mul-le-mul_left (row_bytes c) l) in
    rw (le-leb (q + 2 + row_bytes c * i + row_bytes c) (length s) (omega (arith, w.fits)), w.good i l)

-- A section of good rows is read: `end` is the place behind it.
section_read : {X : Type 0} {s : List ℕ} {c : Section} {q end : ℕ} (go : ℕ → ℕ → Verdict X) → Whole s c q → end ≡ q + 2 + row_bytes c * half s q
    → section s c q go ≡ go end (half s q)
unfolding section rows
section_read {s = s} {c = c} {q = q} go w e =
    rw (
      e,
      le-leb (q + 2) (length s) (omega (arith, w.fits)),
      le-leb (fewest c) (half s q) w.least,
      le-leb (half s q) (most c) w.few,
    )
    (scan_passes _ 0 (half s q) _ (λ i k l u. row_read_lem w i k (omega arith)))

cells_read : {X : Type 0} (s : List ℕ) (q before from n : ℕ) (go : Unit {0} → Verdict X) → before + total (layout s q from n) ≤ 4096
    → cells s q before n go ≡ go tt
unfolding cells
cells_read s q before from zero go l = refl
cells_read s q before from (suc n) go l =
    rw (le-leb (before + half s (q + 2)) 4096 (omega arith))
    (cells_read s (q + 4) (before + half s (q + 2)) (from + half s (q + 2)) n go (omega arith))

fifth_read : {X : Type 0} (s : List ℕ) (at : Starts) (go : ℕ → Verdict X) → Fifth s at.homes at.values → fifth s at go ≡ go (length s)
unfolding fifth
fifth_read s at go (absent e) = rw (eq-eqb at.values (length s) e) (ap go e)
fifth_read s at go (present w e) =
    rw (ne_eqb at.values (length s) (λ q. omega arith)) (section_read _ w (sym e))

module _ {s : List ℕ} {at : Starts} (y : WellRead s at) where
  sections_read : sections s ≡ fine at
  unfolding sections
  sections_read =
      section_read _ (rw y.types_at at y.types) (rw y.types_at at y.homes_at)
      ∙ section_read _ (rw y.types_at at y.homes) y.exprs_at
      ∙ section_read _ (rw y.types_at at y.exprs) y.commands_at
      ∙ section_read _ y.commands y.values_at
      ∙ ap (λ t. fine (record { types = t; homes = at.homes; exprs = at.exprs; commands = at.commands; values = at.values })) (sym y.types_at)

  reading_read : reading s ≡ fine at
  unfolding reading
  reading_read =
      rw (
        sections_read,
        fifth_read s at _ y.values,
        eq-eqb (length s) (length s) refl,
        cells_read s (at.homes + 2) 0 1 (half s at.homes) _ (omega (arith, y.cells)),
      )

  pub formed_read : Rising (routine s at) → Shaped (routine s at) → formed s ≡ fine at
  unfolding formed rising shape
  formed_read rise shaped =
      let r = routine s at in
      rw (
        reading_read,
        all_good 10 (λ i. rises r i) r.value_place r.values _ rise,
        all_good 6 (λ e. expr_shaped r (r.expr e)) r.expr_place r.exprs _ shaped.exprs,
        all_good 6 (λ c. command_shaped r (r.command c)) r.command_place r.commands _ shaped.commands,
        all_good 6 (λ i. value_shaped r (r.value i)) r.value_place r.values _ shaped.values,
      )
