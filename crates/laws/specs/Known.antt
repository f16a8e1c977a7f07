-- A file that was read is well read: a fine verdict passed every test on the way, row by row.
use Rattle.std.specs.Prelude.{◌≡◌, refl, Bool, true, false, ℕ, zero, suc, ◌+◌, ◌*◌, ◌≤◌, ◌<◌, List, length, leb, eqb}
use Rattle.std.proofs.Common.{zero-le, mul-suc, le_refl, arith, leb-true, eqb-true, eq-eqb}
use Rattle.std.proofs.Math.ListN.{get_or-eq_default}
use Rattle.rules.specs.declared.Starts.{Starts}
use Rattle.rules.specs.declared.Section.{Section}
use Rattle.rules.specs.declared.Section.TheVariants.{Values}
use Rattle.rules.specs.Basic.{half, choose, in_range, Verdict, fine, refused, guard, unless_refused}
use Rattle.rules.specs.Table.{Routine, layout, total, routine}
use Rattle.rules.specs.Reading.{row_bytes, fewest, most, row_good, row_read, rows, section, cells, sections, fifth, reading, rises, rising}
use Rattle.rules.specs.Shape.{expr_shaped, command_shaped, value_shaped, shape}
use Rattle.rules.specs.Calls.{formed}
use Rattle.rules.specs.Tested.{refused_fine, passed, scan_fine, none_bad}
use Rattle.rules.specs.Tests.{in_range_lem, fine_same}
use Rattle.laws.specs.WellRead.{Whole, Fifth, absent, present, WellRead}

-- ---- refusals 1 to 3: a section

-- A row that was read is whole and in range.
record RowRead (s : List ℕ) (c : Section) (q i : ℕ) : Type 0 where
  whole : q + row_bytes c * i + row_bytes c ≤ length s
  good : row_good s c i (q + row_bytes c * i) ≡ true

one_row : {X : Type 0} (s : List ℕ) (c : Section) (q : ℕ) (x : X) (i : ℕ) (go : Unit {0} → Verdict X)
    → row_read s c q i go ≡ fine x → RowRead s c q i × (go tt ≡ fine x)
one_row s c q x i go h =
    let (a, b) = passed (leb (q + row_bytes c * i + row_bytes c) (length s)) _ 1 _ x h in
    let (d, e) = passed (row_good s c i (q + row_bytes c * i)) go 3 _ x b in
    (record { whole = leb-true _ _ a; good = d }, e)

all_rows : {X : Type 0} (s : List ℕ) (c : Section) (q n : ℕ) (go : Unit {0} → Verdict X) (x : X)
    → rows s c q 0 n go ≡ fine x → ((i : ℕ) → i < n → RowRead s c q i) × (go tt ≡ fine x)
unfolding rows
all_rows s c q n go x h =
    let (a, b) = scan_fine (λ i. RowRead s c q i) _ x (λ i k r. one_row s c q x i k r) 0 n go h in
    (λ i l. a i zero-le (omega arith), b)

-- The rows end inside the file, since the last one does.
last_row : (s : List ℕ) (c : Section) (q n : ℕ) → q ≤ length s → ((i : ℕ) → i < n → RowRead s c q i) → q + row_bytes c * n ≤ length s
last_row s c q zero h each = omega arith
last_row s c q (suc n) h each = rw mul-suc (omega (arith, (each n (omega arith)).whole))

pub section_known : {X : Type 0} (s : List ℕ) (c : Section) (q : ℕ) (go : ℕ → ℕ → Verdict X) (x : X)
    → section s c q go ≡ fine x → Whole s c q × (go (q + 2 + row_bytes c * half s q) (half s q) ≡ fine x)
unfolding section
section_known s c q go x h =
    let (a, b) = passed (leb (q + 2) (length s)) _ 1 q x h in
    let (d, e) = passed (in_range (fewest c) (half s q) (most c)) _ 2 q x b in
    let (f, g) = all_rows s c (q + 2) (half s q) _ x e in
    let (low, high) = in_range_lem (fewest c) (half s q) (most c) d in
    (record { least = low; few = high; fits = last_row s c (q + 2) (half s q) (leb-true _ _ a) f; good = λ i l. (f i l).good }, g)

-- ---- refusal 5: the cells

cells_known : {X : Type 0} (s : List ℕ) (q before from n : ℕ) (go : Unit {0} → Verdict X) (x : X)
    → before ≤ 4096 → cells s q before n go ≡ fine x → (before + total (layout s q from n) ≤ 4096) × (go tt ≡ fine x)
unfolding cells
cells_known s q before from zero go x l h = (omega arith, h)
cells_known s q before from (suc n) go x l h =
    let (a, b) = passed (leb (before + half s (q + 2)) 4096) _ 5 q x h in
    let (d, e) = cells_known s (q + 4) (before + half s (q + 2)) (from + half s (q + 2)) n go x (leb-true _ _ a) b in
    (omega arith, e)

-- ---- the start values

-- None are there where the file stops after the commands.
pub fifth_none : {X : Type 0} (s : List ℕ) (at : Starts) → at.values ≡ length s → (go : ℕ → Verdict X) → fifth s at go ≡ go at.values
unfolding fifth
fifth_none s at e go = rw (eq-eqb at.values (length s) e)

fifth_known : {X : Type 0} (s : List ℕ) (at : Starts) (go : ℕ → Verdict X) (x : X) → fifth s at go ≡ fine x
    → (end : ℕ) × ((end ≡ length s → Fifth s at.homes at.values) × (go end ≡ fine x))
unfolding fifth
fifth_known s at go x h = by_end (eqb at.values (length s)) refl h
  where
    by_end : (b : Bool) → eqb at.values (length s) ≡ b
        → choose b (λ _. go at.values) (λ _. section s (Values at.homes) at.values λ end values. go end) ≡ fine x
        → (end : ℕ) × ((end ≡ length s → Fifth s at.homes at.values) × (go end ≡ fine x))
    by_end true e h = (at.values, ((λ _. absent (eqb-true _ _ e)), h))
    by_end false e h = let (w, k) = section_known s (Values at.homes) at.values _ x h in (_, ((λ l. present w l), k))

-- Past the end of a file all bytes are 0, so its start values are none where it stops after the commands.
pub none_past : (s : List ℕ) → half s (length s) ≡ 0
none_past s = omega (arith, get_or-eq_default s 0 (le_refl (length s)), get_or-eq_default s 0 {n = length s + 1} (omega arith))

pub none_at : (s : List ℕ) (q : ℕ) → q ≡ length s → 0 ≡ half s q
none_at s q e = rw (e, none_past s) refl

module _ {s : List ℕ} {h q : ℕ} where
  -- Where the file goes on at q, the count is whole.
  pub count_fits : Fifth s h q → (q ≡ length s → ⊥) → q + 2 ≤ length s
  count_fits (absent e) n = absurd (n e)
  count_fits (present w e) n = omega (arith, w.fits)

  pub values_few : Fifth s h q → half s q ≤ 256
  values_few (absent e) = rw (e, none_past s) zero-le
  values_few (present w e) = w.few

  pub values_fit : Fifth s h q → (i : ℕ) → i < half s q → q + 2 + 8 * i + 8 ≤ length s
  values_fit (absent e) i l = absurd (omega (arith, rw e at l, none_past s))
  values_fit (present w e) i l = omega arith

  pub values_good : Fifth s h q → (i : ℕ) → i < half s q → row_good s (Values h) i (q + 2 + 8 * i) ≡ true
  values_good (absent e) i l = absurd (omega (arith, rw e at l, none_past s))
  values_good (present w e) i l = w.good i l

-- ---- the whole

-- Behind the four sections: the start values, refusals 4 and 5.
pub behind_known : (s : List ℕ) (at' at : Starts)
    → (fifth s at' λ end. guard 4 end (eqb end (length s)) λ _. cells s (at'.homes + 2) 0 (half s at'.homes) λ _. fine at') ≡ fine at
    → Fifth s at'.homes at'.values × (total (layout s (at'.homes + 2) 1 (half s at'.homes)) ≤ 4096) × (at' ≡ at)
behind_known s at' at k =
    let (end, (f, g)) = fifth_known s at' _ at k in
    let (a, b) = passed (eqb end (length s)) _ 4 end at g in
    let (d, e) = cells_known s (at'.homes + 2) 0 1 (half s at'.homes) _ at zero-le b in
    (f (eqb-true _ _ a), omega arith, fine_same e)

-- A verdict that was not refused was fine before.
pub unrefused : {X Y : Type 0} (v : Verdict X) (go : X → Verdict Y) (y : Y) → unless_refused v go ≡ fine y → (x : X) × ((v ≡ fine x) × (go x ≡ fine y))
unrefused (fine x) go y h = (x, (refl, h))
unrefused (refused n p) go y h = refused_fine h

-- A file that was read has its four sections.
pub reading_sections : (s : List ℕ) (at : Starts) → reading s ≡ fine at → sections s ≡ fine at
unfolding reading
reading_sections s at h =
    let (at', (a, b)) = unrefused (sections s) _ at h in
    let (five, few, e) = behind_known s at' at b in
    rw (← e) a

-- So the commands end early.
pub values_near : {s : List ℕ} {at : Starts} → WellRead s at → at.values ≤ 13062
values_near y = omega (arith, y.types_at, y.homes_at, y.exprs_at, y.commands_at, y.values_at, y.types.few, y.homes.few, y.exprs.few, y.commands.few)

-- ---- refusals 10 and 6

-- Every row's operands have the shape that it needs.
pub record Shaped (r : Routine) : Type 0 where
  pub exprs : (e : ℕ) → e < r.exprs → expr_shaped r (r.expr e) ≡ true
  pub commands : (c : ℕ) → c < r.commands → command_shaped r (r.command c) ≡ true
  pub values : (i : ℕ) → i < r.values → value_shaped r (r.value i) ≡ true

shape_known : {X : Type 0} (r : Routine) (go : Unit {0} → Verdict X) (x : X) → shape r go ≡ fine x → Shaped r × (go tt ≡ fine x)
unfolding shape
shape_known r go x h =
    let (a, b) = none_bad 6 (λ e. expr_shaped r (r.expr e)) r.expr_place r.exprs _ x h in
    let (d, e) = none_bad 6 (λ c. command_shaped r (r.command c)) r.command_place r.commands _ x b in
    let (f, g) = none_bad 6 (λ i. value_shaped r (r.value i)) r.value_place r.values go x e in
    (record { exprs = a; commands = d; values = f }, g)

-- Start rows rise.
abbrev pub Rising : Routine → Type 0
Rising r = (i : ℕ) → i < r.values → rises r i ≡ true

rising_known : {X : Type 0} (r : Routine) (go : Unit {0} → Verdict X) (x : X) → rising r go ≡ fine x → Rising r × (go tt ≡ fine x)
unfolding rising
rising_known r go x h = none_bad 10 (λ i. rises r i) r.value_place r.values go x h

-- A well-formed file was read, its start rows rise, and it is shaped.
pub formed_parts : (s : List ℕ) (at : Starts) → formed s ≡ fine at → (reading s ≡ fine at) × (Rising (routine s at) × Shaped (routine s at))
unfolding formed
formed_parts s at h =
    let (at', (a, b)) = unrefused (reading s) _ at h in
    let (u, v) = rising_known (routine s at') _ at b in
    let (d, e) = shape_known (routine s at') _ at v in
    let same : at' ≡ at = fine_same e in
    (rw (← same) a, (rw (← same) u, rw (← same) d))

pub formed_reading : (s : List ℕ) (at : Starts) → formed s ≡ fine at → reading s ≡ fine at
formed_reading s at h = (formed_parts s at h).0

pub formed_rising : (s : List ℕ) (at : Starts) → formed s ≡ fine at → Rising (routine s at)
formed_rising s at h = (formed_parts s at h).1.0

pub formed_shaped : (s : List ℕ) (at : Starts) → formed s ≡ fine at → Shaped (routine s at)
formed_shaped s at h = (formed_parts s at h).1.1
