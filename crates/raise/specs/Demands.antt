-- What is asked of kinds, type by type and conversion by conversion, over plain tables.
-- T has the target of each type, p the lower type that it is linked to or 0, C the conversions.
use Rattle.std.specs.Prelude.{ℕ, ◌≤◌, ◌<◌, List, length}
use Rattle.std.specs.List.{All}
use Rattle.rules.specs.Graph.{byte_of}
use Rattle.raise.specs.declared.Conversion.{Conversion}
use Rattle.raise.specs.Marks.{at}

-- ---- the tables

-- Each entry is below its index.
pub record Falls (l : List ℕ) : Type 0 where
  pub by : (x : ℕ) → 1 ≤ x → at l x < x

pub record Tables (n : ℕ) (T p : List ℕ) : Type 0 where
  pub targets : n < length T
  pub links : n < length p
  pub low : Falls T
  pub linked : Falls p

-- The number of a reference.
pub record Ref (n t : ℕ) : Type 0 where
  pub low : 1 ≤ t
  pub high : t ≤ n

-- A conversion between two references.
pub record Between (n : ℕ) (c : Conversion) : Type 0 where
  pub from : Ref n c.from
  pub to : Ref n c.to

-- ---- the demands

-- If s is k at least, so is t; nothing where t is int.
pub record Edge (w : List ℕ) (s t k : ℕ) : Type 0 where
  pub goes : 1 ≤ t → k ≤ byte_of w s → k ≤ byte_of w t

-- t is of s's kind or above.
pub record Upward (w : List ℕ) (s t : ℕ) : Type 0 where
  pub one : Edge w s t 1
  pub two : Edge w s t 2

-- s and t are of one kind.
pub record Level (w : List ℕ) (s t : ℕ) : Type 0 where
  pub up : Upward w s t
  pub back : Upward w t s

-- A type: one kind along its link, and DYNAMIC down to its target.
pub record Row (T p w : List ℕ) (x : ℕ) : Type 0 where
  pub level : Level w x (at p x)
  pub down : Edge w x (at T x) 2

-- A conversion, as far as its own two kinds go: back to its source, and DYNAMIC forth to the other.
pub record Outer (w : List ℕ) (c : Conversion) : Type 0 where
  pub back : Upward w c.to c.from
  pub forth : Edge w c.from c.to 2

pub record Rows (n : ℕ) (T p w : List ℕ) : Type 0 where
  pub each : (x : ℕ) → Ref n x → Row T p w x

pub record Outers (C : List Conversion) (w : List ℕ) : Type 0 where
  pub each : All (Outer w) C

pub record Whole (n : ℕ) (T p : List ℕ) (C : List Conversion) (w : List ℕ) : Type 0 where
  pub rows : Rows n T p w
  pub outers : Outers C w
