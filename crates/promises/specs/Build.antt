-- Files built of rows: what stands where, how long they are, and that their entries are bytes.
use Rattle.std.specs.Prelude.{◌≡◌, refl, List, [], ◌∷◌, ◌++◌, length, replicate}
use Rattle.std.proofs.Common.{◌∙◌, add-zero, zero-add, not-suc-le-zero, get_or-append-add, lit<}
use Prim.Native.Nat.{ℕ, zero, suc, ◌+◌, ◌*◌, ◌<◌}
use Rattle.std.proofs.Math.Nat.{mul-suc}
use native.Mathlib.Omega.{arith}
use Rattle.std.proofs.Math.ListN.{length-append, get_or-append}
use Rattle.rules.specs.Basic.{byte, half, Bytes}

-- ---- bytes at a place of a file

-- The bytes l stand at place q.
pub record Stands (s : List ℕ) (q : ℕ) (l : List ℕ) : Type 0 where
  pub at : (j : ℕ) → j < length l → byte s (q + j) ≡ byte l j

-- A file stands at its own start.
pub stands_whole : (s : List ℕ) → Stands s 0 s
stands_whole s = record { at = λ j l. rw (zero-add j) refl }

module _ {s : List ℕ} {q : ℕ} where
  pub byte_first : {l : List ℕ} → Stands s q l → 0 < length l → byte s q ≡ byte l 0
  byte_first x l = rw add-zero at (x.at 0 l)

  pub half_at : {l : List ℕ} → Stands s q l → (j : ℕ) → j + 1 < length l → half s (q + j) ≡ half l j
  half_at x j l =
      let e : q + j + 1 ≡ q + (j + 1) = omega arith in
      rw (e, x.at j (omega arith), x.at (j + 1) l)

  pub half_first : {l : List ℕ} → Stands s q l → 1 < length l → half s q ≡ half l 0
  half_first x l = rw add-zero at (half_at x 0 l)

  stands_left : (l m : List ℕ) → Stands s q (l ++ m) → Stands s q l
  stands_left l m x = record { at = λ j k. x.at j (omega (arith, length-append l m)) ∙ get_or-append l m 0 j k }

  stands_right : (l m : List ℕ) → Stands s q (l ++ m) → Stands s (q + length l) m
  stands_right l m x =
      record {
        at = λ j k.
            let e : q + length l + j ≡ q + (length l + j) = omega arith in
            rw e (x.at (length l + j) (omega (arith, length-append l m)) ∙ get_or-append-add l m j 0);
      }

-- ---- rows, and sections of them

-- n rows, from number i on, one after the other.
unfoldable pub rows_of : (ℕ → List ℕ) → ℕ → ℕ → List ℕ
rows_of row i zero = []
rows_of row i (suc n) = row i ++ rows_of row (suc i) n

-- A section before the rest of a file: a count, by its two bytes, and its rows.
unfoldable pub before : (ℕ → List ℕ) → ℕ → ℕ → List ℕ → List ℕ
before row low high rest = low ∷ high ∷ (rows_of row 0 (low + 256 * high) ++ rest)

-- Rows of w bytes each.
module _ (row : ℕ → List ℕ) (w : ℕ) (wide : (i : ℕ) → length (row i) ≡ w) where
  length_rows : (i n : ℕ) → length (rows_of row i n) ≡ w * n
  unfolding rows_of
  length_rows i zero = omega arith
  length_rows i (suc n) = rw mul-suc (omega (arith, length-append (row i) (rows_of row (suc i) n), wide i, length_rows (suc i) n))

  stands_row : {s : List ℕ} {q : ℕ} (i n k : ℕ) → Stands s q (rows_of row i n) → k < n → Stands s (q + w * k) (row (i + k))
  unfolding rows_of
  stands_row i zero k x l = absurd (not-suc-le-zero l)
  stands_row {s} {q} i (suc n) zero x l =
      let e : q + w * 0 ≡ q = omega arith in
      rw (e, add-zero) (stands_left (row i) (rows_of row (suc i) n) x)
  stands_row {s} {q} i (suc n) (suc k) x l =
      let y : Stands s (q + w) (rows_of row (suc i) n) = rw (wide i) at (stands_right (row i) (rows_of row (suc i) n) x) in
      let e : q + w * suc k ≡ q + w + w * k = omega (arith, mul-suc w k) in
      let f : i + suc k ≡ suc i + k = omega arith in
      rw (e, f) (stands_row {q = q + w} (suc i) n k y (omega arith))

  pub length_before : (low high : ℕ) (rest : List ℕ) → length (before row low high rest) ≡ 2 + w * (low + 256 * high) + length rest
  unfolding before
  length_before low high rest = omega (arith, length-append (rows_of row 0 (low + 256 * high)) rest, length_rows 0 (low + 256 * high))

-- A section of n rows whose count stands at q.
pub record Rows (s : List ℕ) (q : ℕ) (row : ℕ → List ℕ) (w n : ℕ) : Type 0 where
  pub count : half s q ≡ n
  pub each : (i : ℕ) → i < n → Stands s (q + 2 + w * i) (row i)

pub rows_before : (row : ℕ → List ℕ) (w low high : ℕ) {s : List ℕ} {q : ℕ} → ((i : ℕ) → length (row i) ≡ w) → (rest : List ℕ) → Stands s q (before row low high rest)
    → Rows s q row w (low + 256 * high) × Stands s (q + 2 + w * (low + 256 * high)) rest
unfolding before
rows_before row w low high {s} {q} wide rest x =
    let n = low + 256 * high in
    let y : Stands s (q + 2) (rows_of row 0 n ++ rest) = stands_right (low ∷ high ∷ []) (rows_of row 0 n ++ rest) x in (
      record {
        count = half_first x (omega arith);
        each = λ i l. rw zero-add at (stands_row row w wide 0 n i (stands_left (rows_of row 0 n) rest y) l);
      },
      rw (length_rows row w wide 0 n) at (stands_right (rows_of row 0 n) rest y),
    )

-- ---- entries that are bytes

pub data Small : List ℕ → Type 0 where
  none : Small []
  more : {b : ℕ} {l : List ℕ} → b < 256 → Small l → Small (b ∷ l)

small_append : {l m : List ℕ} → Small l → Small m → Small (l ++ m)
small_append none y = y
small_append (more h x) y = more h (small_append x y)

small_rows : (row : ℕ → List ℕ) (i n : ℕ) → ((k : ℕ) → k < i + n → Small (row k)) → Small (rows_of row i n)
unfolding rows_of
small_rows row i zero h = none
small_rows row i (suc n) h = small_append (h i (omega arith)) (small_rows row (suc i) n (λ k l. h k (omega arith)))

pub small_before : (row : ℕ → List ℕ) (low high : ℕ) {rest : List ℕ} → low < 256 → high < 256 → ((k : ℕ) → k < low + 256 * high → Small (row k)) → Small rest
    → Small (before row low high rest)
unfolding before
small_before row low high l h each x = more l (more h (small_append (small_rows row 0 (low + 256 * high) (λ k m. each k (omega arith))) x))

pub small_zeros : (n : ℕ) → Small (replicate n 0)
small_zeros zero = none
small_zeros (suc n) = more (lit< tt) (small_zeros n)

small_byte : {l : List ℕ} → Small l → (i : ℕ) → byte l i < 256
small_byte none i = lit< tt
small_byte (more h x) zero = h
small_byte (more h x) (suc i) = small_byte x i

pub small_bytes : {l : List ℕ} → Small l → Bytes l
small_bytes x = record { each = λ i. small_byte x i }
