-- The first 15,113 bytes decide. By the limits the sections end at place 15,112 at the latest, so a longer file is refused by its bytes before that
-- place, or because bytes follow the start values.
use Rattle.std.specs.Prelude.{◌≡◌, Bool, ◌&&◌, length, take, leb, eqb}
use Rattle.std.proofs.Math.Path.{refl, sym}
use Rattle.std.proofs.Common.{ap, ◌∙◌, arith, length-take, take_all, get_or-take, lit<}
use Rattle.std.proofs.Math.Bool.{true, false}
use Prim.Native.Nat.{ℕ, zero, suc, ◌+◌, ◌*◌, ◌≤◌, ◌<◌}
use Rattle.std.proofs.Math.Decide.{dec_le}
use mathlib.Core.List.{List}
use Rattle.std.proofs.Math.Dec.{ltb}
use borrow.Author.Tests.{le-leb, ne_eqb}
use Rattle.rules.specs.declared.Starts.{Starts}
use Rattle.rules.specs.declared.Section.{Section}
use Rattle.rules.specs.declared.Section.TheVariants.{Types, Homes, Exprs, Commands, Values}
use Rattle.rules.specs.Basic.{byte, half, in_range, Verdict, fine, refused, guard, unless_refused}
use Rattle.rules.specs.Reading.{row_bytes, fewest, most, row_good, rows, section, cells, sections, fifth, reading}
use Rattle.rules.specs.Calls.{formed, judged, checking, Left, inferable, Inferred, left, marked, runnable, running}
use Rattle.rules.specs.Tested.{refused_fine}
use Rattle.rules.specs.Tests.{false_true, in_range_lem}
use Rattle.promises.specs.Promises.{FirstBytes, SameCalls, FirstBytesDecide}
use Rattle.laws.proofs.WellRead.{sections_known, reading_known}
use Rattle.laws.specs.WellRead.{Placed, Fifth, absent, present, WellRead}
use Rattle.laws.specs.Known.{values_near}

guard_same : {X : Type 0} (n p : ℕ) (b c : Bool) (go go' : Unit {0} → Verdict X) → b ≡ c → (b ≡ true → go tt ≡ go' tt) → guard n p b go ≡ guard n p c go'
guard_same n p true true go go' e h = h refl
guard_same n p true false go go' e h = false_true (sym e)
guard_same n p false true go go' e h = false_true e
guard_same n p false false go go' e h = refl

-- Two files that go on past 15,112 bytes, and agree until there.
record Long (s z : List ℕ) : Type 0 where
  first : 15112 < length s
  second : 15112 < length z
  agree : (i : ℕ) → i < 15112 → byte s i ≡ byte z i

module _ {s z : List ℕ} (x : Long s z) where
  half_agree : (q : ℕ) → q + 2 ≤ 15112 → half s q ≡ half z q
  half_agree q l = rw (x.agree q (omega arith), x.agree (q + 1) (omega arith))

  -- What else a section's rows are judged by comes before: for the start values, the homes.
  Before : Section → Type 0
  Before Types = Unit {0}
  Before (Homes t) = Unit {0}
  Before (Exprs t h) = Unit {0}
  Before (Commands e) = Unit {0}
  Before (Values h) = h + 2 + 4 * half z h ≤ 15112

  good_agree : (c : Section) (i q : ℕ) → Before c → q + row_bytes c ≤ 15112 → row_good s c i q ≡ row_good z c i q
  unfolding row_good Before
  good_agree Types i q b l = rw (half_agree q l)
  good_agree (Homes t) i q b l = rw (half_agree q (omega arith), half_agree (q + 2) (omega arith))
  good_agree (Exprs t h) i q b l = rw (x.agree q (omega arith), half_agree (q + 1) (omega arith), half_agree (q + 3) (omega arith))
  good_agree (Commands e) i q b l =
      rw (x.agree q (omega arith), half_agree (q + 1) (omega arith), half_agree (q + 3) (omega arith), half_agree (q + 5) (omega arith))
  good_agree (Values h) i q b l =
      rw (half_agree q (omega arith), half_agree (q + 2) (omega arith), half_agree h (omega arith))
      (in_home (in_range 1 (half z q) (half z h)) refl)
    where
      in_home : (t : Bool) → in_range 1 (half z q) (half z h) ≡ t
          → (t && ltb (half z (q + 2)) (half s (h + 4 * half z q))) ≡ (t && ltb (half z (q + 2)) (half z (h + 4 * half z q)))
      in_home true e = rw (half_agree (h + 4 * half z q) (omega (arith, (in_range_lem 1 (half z q) (half z h) e).1)))
      in_home false e = refl

  whole_agree : (n : ℕ) → n ≤ 15112 → leb n (length s) ≡ leb n (length z)
  whole_agree n l = le-leb n (length s) (omega (arith, x.first)) ∙ sym (le-leb n (length z) (omega (arith, x.second)))

  rows_agree : {X : Type 0} (c : Section) (q i n : ℕ) (go go' : Unit {0} → Verdict X) → Before c
      → ((j : ℕ) → j < i + n → q + row_bytes c * j + row_bytes c ≤ 15112) → go tt ≡ go' tt → rows s c q i n go ≡ rows z c q i n go'
  unfolding rows
  rows_agree c q i zero go go' b l h = h
  rows_agree c q i (suc n) go go' b l h =
      let k : q + row_bytes c * i + row_bytes c ≤ 15112 = l i (omega arith) in
      guard_same 1 _ _ _ _ _ (whole_agree _ k) (λ _.
      guard_same 3 _ _ _ _ _ (good_agree c i _ b k) (λ _. rows_agree c q (suc i) n go go' b (λ j m. l j (omega arith)) h))

  section_agree : {X : Type 0} (c : Section) (q : ℕ) (go go' : ℕ → ℕ → Verdict X) → Before c → q + 2 ≤ 15112
      → ((j : ℕ) → j < most c → q + 2 + row_bytes c * j + row_bytes c ≤ 15112)
      → ((n : ℕ) → n ≤ most c → go (q + 2 + row_bytes c * n) n ≡ go' (q + 2 + row_bytes c * n) n) → section s c q go ≡ section z c q go'
  unfolding section
  section_agree c q go go' b l k h =
      rw (half_agree q l)
      (guard_same 1 q _ _ _ _ (whole_agree (q + 2) l) (λ _.
      guard_same 2 q _ _ _ _ refl (λ t.
      let (lo, hi) = in_range_lem (fewest c) (half z q) (most c) t in
      rows_agree c (q + 2) 0 (half z q) _ _ b (λ j m. k j (omega arith)) (h (half z q) hi))))

  sections_agree : sections s ≡ sections z
  unfolding sections Before
  sections_agree =
      section_agree Types 0 _ _ tt (omega arith) (λ j l. omega arith) (λ t l₁.
      section_agree (Homes t) _ _ _ tt (omega arith) (λ j l. omega arith) (λ h l₂.
      section_agree (Exprs t h) _ _ _ tt (omega arith) (λ j l. omega arith) (λ e l₃.
      section_agree (Commands e) _ _ _ tt (omega arith) (λ j l. omega arith) (λ c l₄. refl))))

  -- Both go on behind the commands, with a byte to spare behind the start values.
  behind_agree : (at : Starts) → Placed z at → (go go' : ℕ → Verdict Starts) → ((end : ℕ) → end ≤ 15112 → go end ≡ go' end) → fifth s at go ≡ fifth z at go'
  unfolding fifth Before
  behind_agree at y go go' h =
      let k : at.homes + 2 + 4 * half z at.homes ≤ 15112 = omega (arith, y.near, y.homes.few) in
      rw (ne_eqb at.values (length s) (λ q. omega (arith, x.first, y.far)), ne_eqb at.values (length z) (λ q. omega (arith, x.second, y.far)))
      (section_agree (Values at.homes) at.values _ _ k (omega (arith, y.far)) (λ j l. omega (arith, y.far)) (λ n l. h _ (omega (arith, y.far))))

  reading_agree : reading s ≡ reading z
  unfolding reading
  reading_agree = rw sections_agree (by_sections (sections z) refl)
    where
      by_sections : (v : Verdict Starts) → sections z ≡ v
          → unless_refused v (λ at. fifth s at λ end. guard 4 end (eqb end (length s)) λ _. cells s (at.homes + 2) 0 (half s at.homes) λ _. fine at)
          ≡ unless_refused v (λ at. fifth z at λ end. guard 4 end (eqb end (length z)) λ _. cells z (at.homes + 2) 0 (half z at.homes) λ _. fine at)
      by_sections (refused n p) e = refl
      by_sections (fine at) e =
          behind_agree at (sections_known z at e).0 _ _ (λ end l.
          let a = ne_eqb end (length s) (λ q. omega (arith, x.first)) in
          let b = ne_eqb end (length z) (λ q. omega (arith, x.second)) in
          guard_same 4 _ _ _ _ _ (a ∙ sym b) (λ q. false_true (sym a ∙ q)))

-- The start values add 2 + 8 * 256 bytes at most.
fifth_short : {s : List ℕ} {h q : ℕ} → Fifth s h q → length s ≤ q + 2050
fifth_short (absent e) = omega arith
fifth_short (present w e) = omega (arith, w.few)

-- A file that earns none of refusals 1 to 5 has 15,112 bytes at most.
pub read_short : {s : List ℕ} {at : Starts} → WellRead s at → length s ≤ 15112
read_short y = omega (arith, values_near y, fifth_short y.values)

-- A file is all there in its first n bytes, or both are refused, and alike.
data Cut (s z : List ℕ) : Type 0 where
  whole : z ≡ s → Cut s z
  refused_both : {number place : ℕ} → formed s ≡ refused number place → formed z ≡ refused number place → Cut s z

module _ (n : ℕ) (s : List ℕ) (far : 15112 < n) where
  agreeing : 15112 < length s → Long s (take n s)
  agreeing l = record { first = l; second = rw (length-take n s) (omega arith); agree = λ i k. sym (get_or-take n s i 0 (omega arith)) }

  too_long : 15112 < length s → (v : Verdict Starts) → reading s ≡ v → reading (take n s) ≡ v → Cut s (take n s)
  unfolding formed
  too_long l (fine at) e f = absurd (omega (arith, read_short (reading_known s at e)))
  too_long l (refused number place) e f = refused_both {number = number} {place = place} (rw e) (rw f)

  cut : Cut s (take n s)
  cut =
      elim (dec_le (length s) 15112) [
        | yes l ↦ whole (take_all n s (omega arith))
        | no k ↦ let l : 15112 < length s = omega arith in too_long l (reading s) refl (sym (reading_agree (agreeing l)))
      ]

module _ {s z : List ℕ} where
  same_reading : Cut s z → formed s ≡ formed z
  same_reading (whole e) = ap formed (sym e)
  same_reading (refused_both e f) = e ∙ sym f

  same_calls : Cut s z → SameCalls s z
  unfolding judged checking inferable runnable running
  same_calls (whole e) = rw e (record { checks = λ m. refl; infers = λ lent x. ((λ y. y), (λ y. y)); runs = λ m fuel lent. refl })
  same_calls (refused_both {number = number} {place = place} e f) =
      record {
        checks = λ m. rw (e, f);
        infers = λ lent x. (again lent x (rw e) (rw f), again lent x (rw f) (rw e));
        runs = λ m fuel lent. rw (e, f);
      }
    where
      again : {a b : List ℕ} (lent : List ℕ) (x : Left (Unit {0})) → inferable a lent ≡ refused number place → inferable b lent ≡ refused number place
          → Inferred a lent x → Inferred b lent x
      again lent x p q (left {n = k} {p = l} h) = left (q ∙ sym p ∙ h)
      again lent x p q (marked h y) = refused_fine (sym p ∙ h)

pub first_bytes : FirstBytes
first_bytes s = same_reading (cut 15113 s (lit< tt))

pub first_bytes_decide : FirstBytesDecide
first_bytes_decide s = same_calls (cut 15113 s (lit< tt))
