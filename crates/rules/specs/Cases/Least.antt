-- Least, computed: a test over all markings of a file, and that it says what `Least` says.
use Rattle.std.specs.Prelude.{◌≡◌, refl, Bool, true, false, not, ◌&&◌, ◌||◌, ℕ, zero, suc, ◌≤◌, ◌<◌, List, [], ◌∷◌, ◌++◌, length, get_or, drop, leb}
use Rattle.std.proofs.Common.{sym, ap, arith, leb-true}
use Rattle.rules.specs.declared.Starts.{Starts}
use Rattle.rules.specs.Basic.{Verdict, fine, refused}
use Rattle.rules.specs.Table.{Routine, routine}
use Rattle.rules.specs.Kinds.{Acceptable, kinds}
use Rattle.rules.specs.Least.{Least}
use Rattle.rules.specs.Calls.{inferable, Inferred, marked}
use Rattle.rules.specs.Tests.{false_true, parts_true}
use Rattle.rules.specs.Tested.{kinds_acceptable, acceptable_kinds}

abbrev pub is_fine : Verdict (Unit {0}) → Bool
is_fine (fine x) = true
is_fine (refused n p) = false

abbrev pub accepts : Routine → List ℕ → Bool
accepts r m = is_fine (kinds r m (λ _. fine tt))

abbrev pub lower : List ℕ → List ℕ → Bool
lower [] w = true
lower (k ∷ m) [] = leb k 0 && lower m []
lower (k ∷ m) (l ∷ w) = leb k l && lower m w

-- Every marking of n types passes.
abbrev pub every : ℕ → (List ℕ → Bool) → Bool
every zero P = P []
every (suc n) P = every n (λ m. P (0 ∷ m)) && (every n (λ m. P (1 ∷ m)) && every n (λ m. P (2 ∷ m)))

abbrev pub is_least : Routine → List ℕ → Bool
is_least r m = accepts r m && every r.types (λ w. not (accepts r w) || lower m w)

implied : (a b : Bool) → (not a || b) ≡ true → a ≡ true → b ≡ true
implied true b h e = h
implied false b h e = false_true e

accepts_acceptable : (r : Routine) (m : List ℕ) → accepts r m ≡ true → Acceptable r m
accepts_acceptable r m h = go (kinds r m (λ _. fine tt)) refl h
  where
    go : (v : Verdict (Unit {0})) → kinds r m (λ _. fine tt) ≡ v → is_fine v ≡ true → Acceptable r m
    go (fine x) e h = (kinds_acceptable r m (λ _. fine tt) x e).0
    go (refused n p) e h = false_true h

acceptable_accepts : (r : Routine) (m : List ℕ) → Acceptable r m → accepts r m ≡ true
acceptable_accepts r m a = ap is_fine (acceptable_kinds r m (λ _. fine tt) a)

every_marking : (n : ℕ) (P : List ℕ → Bool) → every n P ≡ true → (m : List ℕ) → length m ≡ n → ((i : ℕ) → i < n → get_or m i 0 ≤ 2) → P m ≡ true
every_marking zero P h [] e l = h
every_marking zero P h (k ∷ m) e l = absurd (omega arith)
every_marking (suc n) P h [] e l = absurd (omega arith)
every_marking (suc n) P h (k ∷ m) e l =
    let (a, bc) = parts_true (every n (λ m. P (0 ∷ m))) _ h in
    let (b, c) = parts_true (every n (λ m. P (1 ∷ m))) _ bc in
    byte k (l 0 (omega arith))
    (λ Q q. every_marking n Q q m (omega arith) (λ i u. l (suc i) (omega arith))) a b c
  where
    byte : (k : ℕ) → k ≤ 2 → ((Q : List ℕ → Bool) → every n Q ≡ true → Q m ≡ true)
        → every n (λ m. P (0 ∷ m)) ≡ true → every n (λ m. P (1 ∷ m)) ≡ true → every n (λ m. P (2 ∷ m)) ≡ true → P (k ∷ m) ≡ true
    byte zero l go a b c = go (λ m. P (0 ∷ m)) a
    byte (suc zero) l go a b c = go (λ m. P (1 ∷ m)) b
    byte (suc (suc zero)) l go a b c = go (λ m. P (2 ∷ m)) c
    byte (suc (suc (suc k))) l go a b c = absurd (omega arith)

lower_at : (m w : List ℕ) → lower m w ≡ true → (i : ℕ) → get_or m i 0 ≤ get_or w i 0
lower_at [] w h i = omega arith
lower_at (k ∷ m) [] h zero = leb-true k 0 (parts_true (leb k 0) _ h).0
lower_at (k ∷ m) [] h (suc i) = lower_at m [] (parts_true (leb k 0) _ h).1 i
lower_at (k ∷ m) (l ∷ w) h zero = leb-true k l (parts_true (leb k l) _ h).0
lower_at (k ∷ m) (l ∷ w) h (suc i) = lower_at m w (parts_true (leb k l) _ h).1 i

pub is_least_least : (r : Routine) (m : List ℕ) → is_least r m ≡ true → Least r m
is_least_least r m h =
    let (a, e) = parts_true (accepts r m) _ h in
    record {
      acceptable = accepts_acceptable r m a;
      lowest = λ w b i l.
          lower_at m w
          (implied (accepts r w) (lower m w)
          (every_marking r.types (λ w. not (accepts r w) || lower m w) e w b.size b.bytes)
          (acceptable_accepts r w b)) i;
    }

-- ---- what inference leaves

-- Is m the least marking of the file?
abbrev pub least_in : Verdict Starts → List ℕ → List ℕ → Bool
least_in (fine at) s m = is_least (routine s at) m
least_in (refused n p) s m = false

pub leaves_least : (s l m z : List ℕ) → ◌≡◌ {A = Bool × List ℕ} (least_in (inferable s l) s m, m ++ drop (length m) l) (true, z) → Inferred s l (record { answer = fine tt; lent = z })
leaves_least s l m z p = rw (sym (ap (λ x. x.1) p)) (go (inferable s l) refl (ap (λ x. x.0) p))
  where
    go : (v : Verdict Starts) → inferable s l ≡ v → least_in v s m ≡ true → Inferred s l (record { answer = fine tt; lent = m ++ drop (length m) l })
    go (fine at) e h = marked e (is_least_least (routine s at) m h)
    go (refused n p) e h = false_true h
