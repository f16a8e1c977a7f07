-- Tests, bytes, and verdicts.
use Rattle.std.specs.Prelude.{ℕ, zero, suc, ◌+◌, ◌*◌, ◌<◌, Bool, true, false, ◌&&◌, List, get_or, leb}

-- A test with a branch for each side. The branches are functions, so that only the one taken is computed.
abbrev pub choose {ℓ} : {X : Type ℓ} → Bool → (Unit {0} → X) → (Unit {0} → X) → X
choose true x y = x tt
choose false x y = y tt

abbrev pub in_range : ℕ → ℕ → ℕ → Bool
in_range low n high = leb low n && leb n high

-- The byte, the 16-bit number and the 32-bit number at place i (RULES 1.1).
abbrev pub byte : List ℕ → ℕ → ℕ
byte s i = get_or s i 0

abbrev pub half : List ℕ → ℕ → ℕ
half s i = byte s i + 256 * byte s (i + 1)

abbrev pub word : List ℕ → ℕ → ℕ
word s i = half s i + 65536 * half s (i + 2)

-- A file's entries are bytes.
pub record Bytes (s : List ℕ) : Type 0 where
  pub each : (i : ℕ) → byte s i < 256

-- 2 ^ 32
abbrev pub width : ℕ
width = 4294967296

-- What a stage says: all is well, or a refusal with its number and place (RULES 2.1).
pub data Verdict (X : Type 0) : Type 0 where
  fine : X → Verdict X
  refused : ℕ → ℕ → Verdict X

abbrev pub unless_refused : {X Y : Type 0} → Verdict X → (X → Verdict Y) → Verdict Y
unless_refused (fine x) go = go x
unless_refused (refused n p) go = refused n p

-- Refusal `number` at `place` unless the test holds; else on to `go`.
abbrev pub guard : {X : Type 0} → ℕ → ℕ → Bool → (Unit {0} → Verdict X) → Verdict X
guard number place b go = choose b go (λ _. refused number place)

-- n rows from number i on, lowest first, each judged by `at`; then `go`.
abbrev pub scan : {X : Type 0} → (ℕ → (Unit {0} → Verdict X) → Verdict X) → ℕ → ℕ → (Unit {0} → Verdict X) → Verdict X
scan at i zero go = go tt
scan at i (suc n) go = at i λ _. scan at (suc i) n go

-- The first of n rows, from number i on, that the test fails, as a refusal; else `go`.
abbrev pub first_bad : {X : Type 0} → ℕ → (ℕ → Bool) → (ℕ → ℕ) → ℕ → ℕ → (Unit {0} → Verdict X) → Verdict X
first_bad number good place i n go = scan (λ j k. guard number (place j) (good j) k) i n go
