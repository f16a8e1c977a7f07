-- Kind rules as facts on the marking's bytes, a conversion between references as four: what inference and its proofs go by.
use Rattle.std.specs.Prelude.{◌≡◌, refl, Bool, true, ◌&&◌, ℕ, zero, suc, ◌-◌, ◌≤◌, ◌<◌, List, get_or}
use Rattle.std.proofs.Common.{zero-le, suc-le-suc, not-suc-le-zero, arith}
use Rattle.std.proofs.Math.Decide.{dec_lt}
use Rattle.std.proofs.Math.ListN.{get_or-eq_default}
use Rattle.rules.specs.Basic.{choose}
use Rattle.rules.specs.Table.{Routine}
use Rattle.rules.specs.declared.Kind.TheVariants.{int}
use Rattle.rules.specs.Kinds.{kind_of, kind, kind_converts, targets_matter, same, converts, spreads, not_safe, Acceptable}
use Rattle.rules.specs.Graph.{byte_of}
use Rattle.rules.specs.Tests.{false_true}

-- What a conversion of reference s to reference t says.
pub record Conv (r : Routine) (m : List ℕ) (s t : ℕ) : Type 0 where
  pub back_one : 1 ≤ byte_of m t → 1 ≤ byte_of m s
  pub back_two : 2 ≤ byte_of m t → 2 ≤ byte_of m s
  pub forth_two : 2 ≤ byte_of m s → 2 ≤ byte_of m t
  pub targets : byte_of m s < 2 → same r m (r.target s) (r.target t) ≡ true

-- a and b are the bytes, x whether the targets are equal.
abbrev test : ℕ → ℕ → Bool → Bool
test a b x = kind_converts (kind_of a) (kind_of b) && choose (targets_matter (kind_of a) (kind_of b)) (λ _. x) (λ _. true)

record Facts (a b : ℕ) (x : Bool) : Type 0 where
  back_one : 1 ≤ b → 1 ≤ a
  back_two : 2 ≤ b → 2 ≤ a
  forth_two : 2 ≤ a → 2 ≤ b
  targets : a < 2 → x ≡ true

facts : (a b : ℕ) (x : Bool) → test a b x ≡ true → Facts a b x
facts zero zero x h = record { back_one = λ i. i; back_two = λ i. i; forth_two = λ i. i; targets = λ i. h }
facts zero (suc zero) x h = false_true h
facts zero (suc (suc b)) x h = false_true h
facts (suc zero) zero x h = record { back_one = λ i. omega arith; back_two = λ i. omega arith; forth_two = λ i. omega arith; targets = λ i. h }
facts (suc zero) (suc zero) x h = record { back_one = λ i. i; back_two = λ i. i; forth_two = λ i. i; targets = λ i. h }
facts (suc zero) (suc (suc b)) x h = false_true h
facts (suc (suc a)) zero x h = false_true h
facts (suc (suc a)) (suc zero) x h = false_true h
facts (suc (suc a)) (suc (suc b)) x h =
    record { back_one = λ i. omega arith; back_two = λ i. omega arith; forth_two = λ i. omega arith; targets = λ i. absurd (omega arith) }

tests : (a b : ℕ) (x : Bool) → Facts a b x → test a b x ≡ true
tests zero zero x f = f.targets (omega arith)
tests zero (suc zero) x f = absurd (omega (arith, f.back_one (omega arith)))
tests zero (suc (suc b)) x f = absurd (omega (arith, f.back_one (omega arith)))
tests (suc zero) zero x f = f.targets (omega arith)
tests (suc zero) (suc zero) x f = f.targets (omega arith)
tests (suc zero) (suc (suc b)) x f = absurd (omega (arith, f.back_two (omega arith)))
tests (suc (suc a)) zero x f = absurd (omega (arith, f.forth_two (omega arith)))
tests (suc (suc a)) (suc zero) x f = absurd (omega (arith, f.forth_two (omega arith)))
tests (suc (suc a)) (suc (suc b)) x f = refl

pub conv_of : (r : Routine) (m : List ℕ) (s t : ℕ) → converts r m (suc s) (suc t) ≡ true → Conv r m (suc s) (suc t)
unfolding converts
conv_of r m s t h =
    let f = facts (get_or m s 0) (get_or m t 0) (same r m (r.target (suc s)) (r.target (suc t))) h in
    record { back_one = f.back_one; back_two = f.back_two; forth_two = f.forth_two; targets = f.targets }

pub of_conv : (r : Routine) (m : List ℕ) (s t : ℕ) → Conv r m (suc s) (suc t) → converts r m (suc s) (suc t) ≡ true
unfolding converts
of_conv r m s t f =
    tests (get_or m s 0) (get_or m t 0) (same r m (r.target (suc s)) (r.target (suc t)))
    (record { back_one = f.back_one; back_two = f.back_two; forth_two = f.forth_two; targets = f.targets })

pub any_to_int : (a : ℕ) (x : Bool) → (kind_converts (kind_of a) int && choose (targets_matter (kind_of a) int) (λ _. x) (λ _. true)) ≡ true
any_to_int zero x = refl
any_to_int (suc zero) x = refl
any_to_int (suc (suc a)) x = refl

pub from_int : (b : ℕ) (x : Bool) → (kind_converts int (kind_of b) && choose (targets_matter int (kind_of b)) (λ _. x) (λ _. true)) ≡ true → 1 ≤ b
from_int zero x h = false_true h
from_int (suc b) x h = suc-le-suc zero-le

pub int_from : (b : ℕ) (x : Bool) → 1 ≤ b → (kind_converts int (kind_of b) && choose (targets_matter int (kind_of b)) (λ _. x) (λ _. true)) ≡ true
int_from zero x h = absurd (not-suc-le-zero h)
int_from (suc zero) x h = refl
int_from (suc (suc b)) x h = refl

pub spreads_two : (a b : ℕ) → spreads (kind_of a) (kind_of b) ≡ true → 2 ≤ a → 2 ≤ b
spreads_two zero b h i = absurd (omega arith)
spreads_two (suc zero) b h i = absurd (omega arith)
spreads_two (suc (suc a)) zero h i = false_true h
spreads_two (suc (suc a)) (suc zero) h i = false_true h
spreads_two (suc (suc a)) (suc (suc b)) h i = omega arith

pub two_spreads : (a b : ℕ) → (2 ≤ a → 2 ≤ b) → spreads (kind_of a) (kind_of b) ≡ true
two_spreads zero b h = refl
two_spreads (suc zero) b h = refl
two_spreads (suc (suc a)) zero h = absurd (omega (arith, h (omega arith)))
two_spreads (suc (suc a)) (suc zero) h = absurd (omega (arith, h (omega arith)))
two_spreads (suc (suc a)) (suc (suc b)) h = refl

pub spreads_int : (a : ℕ) → spreads (kind_of a) int ≡ true
spreads_int zero = refl
spreads_int (suc zero) = refl
spreads_int (suc (suc a)) = refl

-- Bytes that are SEQ, or DYNAMIC, together are of one kind.
pub kinds_equal : (k l : ℕ) → (1 ≤ k → 1 ≤ l) → (1 ≤ l → 1 ≤ k) → (2 ≤ k → 2 ≤ l) → (2 ≤ l → 2 ≤ k) → kind_of k ≡ kind_of l
kinds_equal zero zero a b c d = refl
kinds_equal zero (suc l) a b c d = absurd (omega (arith, b (suc-le-suc zero-le)))
kinds_equal (suc k) zero a b c d = absurd (omega (arith, a (suc-le-suc zero-le)))
kinds_equal (suc zero) (suc zero) a b c d = refl
kinds_equal (suc zero) (suc (suc l)) a b c d = absurd (omega (arith, d (omega arith)))
kinds_equal (suc (suc k)) (suc zero) a b c d = absurd (omega (arith, c (omega arith)))
kinds_equal (suc (suc k)) (suc (suc l)) a b c d = refl

-- A type that is not int has the kind of its byte.
pub kind_up : (m : List ℕ) (t : ℕ) → (t ≡ 0 → ⊥) → kind m t ≡ kind_of (get_or m (t - 1) 0)
kind_up m zero h = absurd (h refl)
kind_up m (suc t) h = let q : suc t - 1 ≡ t = omega arith in rw q refl

-- DYNAMIC goes down to the target.
abbrev pub Spread : Routine → List ℕ → Type 0
Spread r m = (t : ℕ) → 2 ≤ get_or m t 0 → (i : ℕ) → r.target (suc t) ≡ suc i → 2 ≤ get_or m i 0

pub spread_of : {r : Routine} {m : List ℕ} → Acceptable r m → Spread r m
spread_of {r} {m} a t h i e = go (dec_lt t r.types)
  where
    go : Dec (t < r.types) → 2 ≤ get_or m i 0
    go (yes l) = let s : spreads (kind_of (get_or m t 0)) (kind m (suc i)) ≡ true = rw e at (a.types t l) in spreads_two (get_or m t 0) (get_or m i 0) s h
    go (no n) = absurd (omega (arith, get_or-eq_default m 0 {n = t} (omega (arith, a.size))))

-- A type is not SAFE exactly if its byte is SEQ or more.
pub not_safe_byte : (m : List ℕ) (t : ℕ) → not_safe (kind m t) ≡ true → 1 ≤ byte_of m t
not_safe_byte m zero h = false_true h
not_safe_byte m (suc t) h = go (get_or m t 0) h
  where
    go : (k : ℕ) → not_safe (kind_of k) ≡ true → 1 ≤ k
    go zero h = false_true h
    go (suc k) h = suc-le-suc zero-le

pub byte_not_safe : (m : List ℕ) (t : ℕ) → 1 ≤ byte_of m t → not_safe (kind m t) ≡ true
byte_not_safe m zero h = absurd (not-suc-le-zero h)
byte_not_safe m (suc t) h = go (get_or m t 0) h
  where
    go : (k : ℕ) → 1 ≤ k → not_safe (kind_of k) ≡ true
    go zero h = absurd (not-suc-le-zero h)
    go (suc zero) h = refl
    go (suc (suc k)) h = refl
