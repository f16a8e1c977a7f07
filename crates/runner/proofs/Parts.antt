-- What the small functions return.
use mathlib.Core.Path.{◌≡◌, refl}
use Prim.Native.Nat.{ℕ, zero, suc, ◌-◌, ◌<◌, ◌≤◌}
use lib.ListN.{get_or, replicate}
use borrow.Author.Tests.{lt-ltb, le-ltb}
use Rattle.rules.specs.declared.Starts.{Starts}
use Rattle.rules.specs.Table.{expr_place, command_place}
use Rattle.runner.specs.Whole.{place_at}

-- ---- a row's place

module _ (at : Starts) (i : ℕ) where
  pub low_place : i < 1024 → place_at at i ≡ expr_place at i
  low_place l = rw (lt-ltb i 1024 l)

  pub high_place : 1024 ≤ i → place_at at i ≡ command_place at (i - 1024)
  high_place l = rw (le-ltb i 1024 l)

-- ---- an empty table

pub zeros : (n k : ℕ) → ◌≡◌ {A = ℕ} (get_or (replicate n 0) k 0) 0
zeros zero k = refl
zeros (suc n) zero = refl
zeros (suc n) (suc k) = zeros n k
