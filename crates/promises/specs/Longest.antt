-- The longest well-formed file. It has every section, and the cells, at their limits: 255 types that refer to int, 64 homes of 64 cells, 1,024
-- literals, 1,024 times skip, and 256 start values, one for each cell of the first four homes.
use Rattle.std.specs.Prelude.{◌≡◌, refl, true, List, [], ◌∷◌, length, replicate}
use Rattle.std.proofs.Common.{ap, ◌∙◌, not-suc-le-zero, lit<, le-leb, lt-ltb, eq-eqb}
use Prim.Native.Nat.{ℕ, zero, suc, ◌+◌, ◌*◌, ◌/◌, ◌%◌, ◌≤◌, ◌<◌}
use Rattle.std.proofs.Math.Decide.{dec_le}
use native.Mathlib.Omega.{arith}
use Rattle.std.proofs.Math.Dec.{leb-zero}
use Rattle.rules.specs.declared.Starts.{Starts}
use Rattle.rules.specs.declared.Section.{Section}
use Rattle.rules.specs.declared.Section.TheVariants.{Types, Homes, Exprs, Commands, Values}
use Rattle.rules.specs.Basic.{half, Bytes}
use Rattle.rules.specs.Table.{layout, total, routine}
use Rattle.rules.specs.Reading.{row_bytes, fewest, most, row_good}
use Rattle.rules.specs.Shape.{home_at}
use Rattle.rules.specs.Tests.{both_true}
use Rattle.promises.specs.Promises.{Longest}
use Rattle.laws.proofs.WellRead.{formed_known}
use Rattle.laws.specs.WellRead.{Whole, present, WellRead}
use Rattle.laws.specs.Known.{Shaped, Rising}
use Rattle.laws.specs.Read.{homed, value_row_fits}
use Rattle.promises.specs.Front.{read_short}
use Rattle.promises.specs.Given.{lower, earlier, before_below}
use Rattle.promises.specs.Build.{Rows, stands_whole, byte_first, half_at, half_first, before, length_before, rows_before, none, more, small_before, small_zeros, small_bytes}
use Rattle.promises.specs.Reads.{formed_read}

-- ---- the file

abbrev type_row : ℕ → List ℕ
type_row i = replicate 2 0

abbrev home_row : ℕ → List ℕ
home_row i = 1 ∷ 0 ∷ 64 ∷ 0 ∷ []

abbrev expr_row : ℕ → List ℕ
expr_row i = replicate 5 0

abbrev command_row : ℕ → List ℕ
command_row i = replicate 7 0

abbrev value_row : ℕ → List ℕ
value_row i = suc (i / 64) ∷ 0 ∷ i % 64 ∷ replicate 5 0

unfoldable longest : List ℕ
longest = before type_row 255 0 (before home_row 64 0 (before expr_row 0 4 (before command_row 0 4 (before value_row 0 1 []))))

abbrev places : Starts
places = record { types = 0; homes = 512; exprs = 770; commands = 5892; values = 13062 }

-- What is known of it.
record Full (s : List ℕ) : Type 0 where
  long : length s ≡ 15112
  types : Rows s 0 type_row 2 255
  homes : Rows s 512 home_row 4 64
  exprs : Rows s 770 expr_row 5 1024
  commands : Rows s 5892 command_row 7 1024
  values : Rows s 13062 value_row 8 256

full : Full longest
unfolding longest
full =
    let (t, x) = rows_before type_row 2 255 0 (λ i. refl) _ (stands_whole longest) in
    let (h, x₁) = rows_before home_row 4 64 0 (λ i. refl) _ x in
    let (e, x₂) = rows_before expr_row 5 0 4 (λ i. refl) _ x₁ in
    let (c, x₃) = rows_before command_row 7 0 4 (λ i. refl) _ x₂ in
    let (v, x₄) = rows_before value_row 8 0 1 (λ i. refl) _ x₃ in
    record {
      long =
          length_before type_row 2 (λ i. refl) 255 0 _
          ∙ ap (λ n. 512 + n) (length_before home_row 4 (λ i. refl) 64 0 _
          ∙ ap (λ n. 258 + n) (length_before expr_row 5 (λ i. refl) 0 4 _
          ∙ ap (λ n. 5122 + n) (length_before command_row 7 (λ i. refl) 0 4 _
          ∙ ap (λ n. 7170 + n) (length_before value_row 8 (λ i. refl) 0 1 []))));
      types = t;
      homes = h;
      exprs = e;
      commands = c;
      values = v;
    }

-- ---- its entries are bytes

bytes : Bytes longest
unfolding longest
bytes =
    small_bytes
    (small_before type_row 255 0 (lit< tt) (lit< tt) (λ k l. small_zeros 2)
    (small_before home_row 64 0 (lit< tt) (lit< tt) (λ k l. more (lit< tt) (more (lit< tt) (more (lit< tt) (small_zeros 1))))
    (small_before expr_row 0 4 (lit< tt) (lit< tt) (λ k l. small_zeros 5)
    (small_before command_row 0 4 (lit< tt) (lit< tt) (λ k l. small_zeros 7)
    (small_before value_row 0 1 (lit< tt) (lit< tt) (λ k l. more (omega arith) (more (lit< tt) (more (omega arith) (small_zeros 5)))) none)))))

-- ---- and it is well-formed

-- Homes of 64 cells each.
total_cells : (s : List ℕ) (q from n : ℕ) → ((i : ℕ) → i < n → half s (q + 4 * i + 2) ≡ 64) → total (layout s q from n) ≡ 64 * n
total_cells s q from zero h = refl
total_cells s q from (suc n) h =
    let e : q + 4 * 0 + 2 ≡ q + 2 = omega arith in
    let a : half s (q + 2) ≡ 64 = rw e at (h 0 (omega arith)) in
    omega (arith, a, total_cells s (q + 4) (from + half s (q + 2)) n (λ i l. later i (h (suc i) (omega arith))))
  where
    later : (i : ℕ) → half s (q + 4 * suc i + 2) ≡ 64 → half s (q + 4 + 4 * i + 2) ≡ 64
    later i k = let e : q + 4 + 4 * i + 2 ≡ q + 4 * suc i + 2 = omega arith in rw e k

module _ {s : List ℕ} (full : Full s) where
  target : (i : ℕ) → i < 255 → half s (2 + 2 * i) ≡ 0
  target i l = half_first (full.types.each i l) (lit< tt)

  home_type : (i : ℕ) → i < 64 → half s (514 + 4 * i) ≡ 1
  home_type i l = half_first (full.homes.each i l) (lit< tt)

  home_size : (i : ℕ) → i < 64 → half s (514 + 4 * i + 2) ≡ 64
  home_size i l = half_at (full.homes.each i l) 2 (lit< tt)

  value_home : (i : ℕ) → i < 256 → half s (13064 + 8 * i) ≡ suc (i / 64)
  value_home i l = omega (arith, half_first (full.values.each i l) (lit< tt))

  value_cell : (i : ℕ) → i < 256 → half s (13064 + 8 * i + 2) ≡ i % 64
  value_cell i l = omega (arith, half_at (full.values.each i l) 2 (lit< tt))

  -- A section of so many rows, each good.
  whole : (c : Section) (q n : ℕ) → half s q ≡ n → fewest c ≤ n → n ≤ most c → q + 2 + row_bytes c * n ≤ 15112
      → ((i : ℕ) → i < n → row_good s c i (q + 2 + row_bytes c * i) ≡ true) → Whole s c q
  whole c q n e least few fits good =
      record { least = rw e least; few = rw e few; fits = rw (e, full.long) fits; good = λ i l. good i (rw e at l) }

  types_good : (i : ℕ) → i < 255 → row_good s Types i (2 + 2 * i) ≡ true
  unfolding row_good
  types_good i l = rw (target i l) (leb-zero i)

  homes_good : (i : ℕ) → i < 64 → row_good s (Homes 255) i (514 + 4 * i) ≡ true
  unfolding row_good
  homes_good i l = rw (home_type i l, home_size i l)

  exprs_good : (i : ℕ) → i < 1024 → row_good s (Exprs 255 64) i (772 + 5 * i) ≡ true
  unfolding row_good
  exprs_good i l = rw (byte_first (full.exprs.each i l) (lit< tt))

  commands_good : (i : ℕ) → i < 1024 → row_good s (Commands 1024) i (5894 + 7 * i) ≡ true
  unfolding row_good
  commands_good i l =
      let x = full.commands.each i l in
      rw (byte_first x (lit< tt), half_at x 1 (lit< tt), half_at x 3 (lit< tt), half_at x 5 (lit< tt))

  values_good : (i : ℕ) → i < 256 → row_good s (Values 512) i (13064 + 8 * i) ≡ true
  unfolding row_good
  values_good i l =
      let e : 512 + 4 * suc (i / 64) ≡ 514 + 4 * (i / 64) + 2 = omega arith in
      rw (full.homes.count, value_home i l, value_cell i l, e, home_size (i / 64) (omega arith))
      (both_true (both_true (le-leb 1 (suc (i / 64)) (omega arith)) (le-leb (suc (i / 64)) 64 (omega arith))) (lt-ltb (i % 64) 64 (omega arith)))

  cells_few : total (layout s 514 1 (half s 512)) ≤ 4096
  cells_few = omega (arith, total_cells s 514 1 (half s 512) (λ i l. home_size i (omega (arith, full.homes.count))), full.homes.count)

  well_read : WellRead s places
  well_read =
      record {
        types_at = refl;
        types = whole Types 0 255 full.types.count (omega arith) (omega arith) (omega arith) types_good;
        homes_at = rw full.types.count;
        homes = rw full.types.count (whole (Homes 255) 512 64 full.homes.count (omega arith) (omega arith) (omega arith) homes_good);
        exprs_at = rw full.homes.count;
        exprs =
            rw (full.types.count, full.homes.count)
            (whole (Exprs 255 64) 770 1024 full.exprs.count (omega arith) (omega arith) (omega arith) exprs_good);
        commands_at = rw full.exprs.count;
        commands = rw full.exprs.count (whole (Commands 1024) 5892 1024 full.commands.count (omega arith) (omega arith) (omega arith) commands_good);
        values_at = rw full.commands.count;
        values =
            present (whole (Values 512) 13062 256 full.values.count (omega arith) (omega arith) (omega arith) values_good)
            (rw (full.values.count, full.long));
        cells = cells_few;
      }

  -- Each start row comes after the one before it: in the same home at a later cell, or in the next one.
  rise : Rising (routine s places)
  rise zero l = refl
  rise (suc i) l =
      let r = routine s places in
      let m : suc i < 256 = rw full.values.count at l in
      let a = value_home i (omega arith) in
      let b = value_home (suc i) m in
      let c = value_cell i (omega arith) in
      let d = value_cell (suc i) m in
      before_below (r.value i) (r.value (suc i))
      (elim (dec_le (suc i / 64) (i / 64)) [ yes k ↦ earlier (omega arith) (omega arith) | no k ↦ lower (omega arith) ])

  -- Every home's target is int.
  target_int : (t : ℕ) → 1 ≤ t → t ≤ half s 0 → half s (0 + 2 * t) ≡ 0
  target_int zero h l = absurd (not-suc-le-zero h)
  target_int (suc t) h l = let e : 0 + 2 * suc t ≡ 2 + 2 * t = omega arith in rw e (target t (omega (arith, full.types.count)))

  shaped : Bytes s → Shaped (routine s places)
  shaped bytes =
      record {
        exprs = λ e l. rw (byte_first (full.exprs.each e (rw full.exprs.count at l)) (lit< tt));
        commands = λ c l. rw (byte_first (full.commands.each c (rw full.commands.count at l)) (lit< tt));
        values = λ i l.
            let (a, b) = homed well_read _ (value_row_fits well_read bytes i l).home in
            eq-eqb _ 0 (target_int (home_at (routine s places).homes (half s (13064 + 8 * i))).type a b);
      }

pub longest_file : Longest
longest_file =
    record {
      most = λ s at h. read_short (formed_known s at h);
      file = longest;
      bytes = bytes;
      at = places;
      well = formed_read (well_read full) (rise full) (shaped full bytes);
      long = full.long;
    }
