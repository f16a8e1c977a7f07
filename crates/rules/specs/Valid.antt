-- Valid values, valid cells and valid memory (RULES 5.12).
use Rattle.std.specs.Prelude.{◌≡◌, ◌⊎◌, true, false, ℕ, ◌+◌, ◌≤◌, ◌<◌, List, length}
use Rattle.rules.specs.declared.Value.{Value}
use Rattle.rules.specs.declared.Value.TheVariants.{Number, Pair}
use Rattle.rules.specs.Basic.{width}
use Rattle.rules.specs.Table.{Home, Routine}
use Rattle.rules.specs.Shape.{home_at}
use Rattle.rules.specs.declared.Kind.{Kind}
use Rattle.rules.specs.declared.Kind.TheVariants.{int, SAFE, SEQ, DYNAMIC}
use Rattle.rules.specs.Kinds.{kind, is_dynamic, same}
use Rattle.rules.specs.Memory.{State, cell}

-- An address lies in a home.
pub record In (h : Home) (a : ℕ) : Type 0 where
  pub from : h.start ≤ a
  pub to : a < h.start + h.size

-- g numbers a home other than home 0. A number that no home has, has size 0.
pub record Real (hs : List Home) (g : ℕ) : Type 0 where
  pub positive : 0 < g
  pub exists : 0 < (home_at hs g).size

-- The address lies in a home other than home 0.
pub record InHome (hs : List Home) (a : ℕ) : Type 0 where
  pub home : ℕ
  pub real : Real hs home
  pub inside : In (home_at hs home) a

-- Homes lie apart in `cells` cells, from address 1 on; home 0 is at address 0.
pub record Laid (r : Routine) (cells : ℕ) (hs : List Home) : Type 0 where
  pub nowhere : (home_at hs 0).start ≡ 0
  pub single : (home_at hs 0).size ≡ 1
  pub low : {g : ℕ} → Real hs g → 1 ≤ (home_at hs g).start
  pub high : {g : ℕ} → Real hs g → (home_at hs g).start + (home_at hs g).size ≤ 1 + cells
  pub apart : {g h a : ℕ} → Real hs g → Real hs h → In (home_at hs g) a → In (home_at hs h) a → g ≡ h
  pub typed : {g : ℕ} → Real hs g → (1 ≤ (home_at hs g).type) × ((home_at hs g).type ≤ r.types)
  pub few : cells ≤ 4096

module _ (r : Routine) (m : List ℕ) (hs : List Home) where
  -- Home g is SAFE or SEQ, and its element type is equal to t.
  pub record Typed (t g : ℕ) : Type 0 where
    pub real : Real hs g
    pub mild : is_dynamic (kind m (home_at hs g).type) ≡ false
    pub elements : same r m (r.target (home_at hs g).type) t ≡ true

  -- Home g is DYNAMIC.
  pub record Untyped (g : ℕ) : Type 0 where
    pub real : Real hs g
    pub wild : is_dynamic (kind m (home_at hs g).type) ≡ true

  -- An address of an element of type t.
  pub record Points (t a : ℕ) : Type 0 where
    pub home : ℕ
    pub owned : Typed t home
    pub inside : In (home_at hs home) a

  -- A value of a type of this kind, whose target is t.
  pub data ValidAt : Kind → ℕ → Value → Type 0 where
    number : {t n : ℕ} → n < width → ValidAt int t (Number n)
    address : {t a : ℕ} → (a ≡ 0) ⊎ Points t a → ValidAt SAFE t (Number a)
    pair : {t g n : ℕ} → (g ≡ 0) ⊎ Typed t g → n < width → ValidAt SEQ t (Pair g n)
    wild_pair : {t g n : ℕ} → (g ≡ 0) ⊎ Untyped g → n < width → ValidAt DYNAMIC t (Pair g n)

  abbrev pub Valid : ℕ → Value → Type 0
  Valid t v = ValidAt (kind m t) (r.target t) v

  -- What a cell of home h may hold: in a DYNAMIC home, of int type too, what a DYNAMIC cell may.
  pub record Holds (h : Home) (v : Value) : Type 0 where
    pub plain : is_dynamic (kind m h.type) ≡ false → Valid (r.target h.type) v
    pub wild : is_dynamic (kind m h.type) ≡ true → ValidAt DYNAMIC 0 v

-- Every cell holds a value valid for its home. The memory may be longer than its cells.
pub record ValidState (r : Routine) (m : List ℕ) (w : State) : Type 0 where
  pub cells : ℕ
  pub room : cells ≤ length w.memory
  pub laid : Laid r cells w.homes
  pub declared : {g : ℕ} → Real r.homes g → Real w.homes g × ((home_at w.homes g).type ≡ (home_at r.homes g).type)
  pub holds : {g a : ℕ} → Real w.homes g → In (home_at w.homes g) a → Holds r m w.homes (home_at w.homes g) (cell w a)
