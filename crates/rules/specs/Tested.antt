-- The test for refusals 7 and 8 refuses exactly the markings that are not acceptable. A scan passes exactly if every row passes.
use Rattle.std.specs.Prelude.{◌≡◌, refl, Bool, true, false, ℕ, zero, suc, ◌+◌, ◌≤◌, ◌<◌, List, get_or, length, leb, eqb}
use Rattle.std.proofs.Common.{◌∙◌, zero-le, arith, leb-true, le-leb, eqb-true, eq-eqb}
use Rattle.std.proofs.Math.Decide.{dec_le}
use Rattle.rules.specs.Basic.{Verdict, fine, refused, guard, scan, first_bad}
use Rattle.rules.specs.Table.{Routine}
use Rattle.rules.specs.Kinds.{type_kind, expr_kind, command_kind, Acceptable, kinds}

pub refused_fine : {A X : Type 0} {n p : ℕ} {x : X} → ◌≡◌ {A = Verdict X} (refused n p) (fine x) → A
refused_fine h = let z : ◌≡◌ {A = ℕ} 0 1 = cc in absurd (omega arith)

-- A test that a fine verdict passed.
pub passed : {X : Type 0} (b : Bool) (go : Unit {0} → Verdict X) (n p : ℕ) (x : X) → guard n p b go ≡ fine x → (b ≡ true) × (go tt ≡ fine x)
passed true go n p x h = (refl, h)
passed false go n p x h = refused_fine h

pub scan_fine : {X : Type 0} (P : ℕ → Type 0) (judge : ℕ → (Unit {0} → Verdict X) → Verdict X) (x : X)
    → ((i : ℕ) (k : Unit {0} → Verdict X) → judge i k ≡ fine x → P i × (k tt ≡ fine x))
    → (i n : ℕ) (go : Unit {0} → Verdict X) → scan judge i n go ≡ fine x → ((j : ℕ) → i ≤ j → j < i + n → P j) × (go tt ≡ fine x)
scan_fine P judge x one i zero go h = (λ j a b. absurd (omega arith), h)
scan_fine P judge x one i (suc n) go h =
    let (a, b) = one i _ h in
    let (c, d) = scan_fine P judge x one (suc i) n go b in
    (λ j l u. elim (dec_le (suc i) j) [ yes k ↦ c j k (omega arith) | no k ↦ here j a l k ], d)
  where
    here : (j : ℕ) → P i → i ≤ j → (suc i ≤ j → ⊥) → P j
    here j a l k = let e : j ≡ i = omega arith in rw e a

pub none_bad : {X : Type 0} (number : ℕ) (good : ℕ → Bool) (place : ℕ → ℕ) (n : ℕ) (go : Unit {0} → Verdict X) (x : X)
    → first_bad number good place 0 n go ≡ fine x → ((j : ℕ) → j < n → good j ≡ true) × (go tt ≡ fine x)
none_bad number good place n go x h =
    let (a, b) = scan_fine (λ j. good j ≡ true) _ x (λ j k q. passed (good j) k number (place j) x q) 0 n go h in
    (λ j l. a j zero-le (omega arith), b)

-- A scan passes where every row does.
pub scan_passes : {X : Type 0} (judge : ℕ → (Unit {0} → Verdict X) → Verdict X) (i n : ℕ) (go : Unit {0} → Verdict X)
    → ((j : ℕ) (k : Unit {0} → Verdict X) → i ≤ j → j < i + n → judge j k ≡ k tt) → scan judge i n go ≡ go tt
scan_passes judge i zero go h = refl
scan_passes judge i (suc n) go h =
    h i _ (omega arith) (omega arith) ∙ scan_passes judge (suc i) n go (λ j k l u. h j k (omega arith) (omega arith))

pub good_scan : {X : Type 0} (number : ℕ) (good : ℕ → Bool) (place : ℕ → ℕ) (i n : ℕ) (go : Unit {0} → Verdict X)
    → ((j : ℕ) → i ≤ j → j < i + n → good j ≡ true) → first_bad number good place i n go ≡ go tt
good_scan number good place i n go h = scan_passes (λ j. guard number (place j) (good j)) i n go (λ j k l u. rw (h j l u))

pub all_good : {X : Type 0} (number : ℕ) (good : ℕ → Bool) (place : ℕ → ℕ) (n : ℕ) (go : Unit {0} → Verdict X)
    → ((j : ℕ) → j < n → good j ≡ true) → first_bad number good place 0 n go ≡ go tt
all_good number good place n go h = good_scan number good place 0 n go (λ j l u. h j (omega arith))

pub kinds_acceptable : {X : Type 0} (r : Routine) (m : List ℕ) (go : Unit {0} → Verdict X) (x : X) → kinds r m go ≡ fine x → Acceptable r m × (go tt ≡ fine x)
unfolding kinds
kinds_acceptable r m go x h =
    let (a, b) = passed (eqb (length m) r.types) _ 7 _ x h in
    let (c, d) = none_bad 7 (λ i. leb (get_or m i 0) 2) (λ i. i) r.types _ x b in
    let (e, f) = none_bad 8 (λ i. type_kind r m (suc i)) (λ i. r.type_place (suc i)) r.types _ x d in
    let (g, i) = none_bad 8 (λ e. expr_kind r m (r.expr e)) r.expr_place r.exprs _ x f in
    let (j, k) = none_bad 8 (λ c. command_kind r m (r.command c)) r.command_place r.commands go x i in
    (record { size = eqb-true _ _ a; bytes = λ t l. leb-true _ _ (c t l); types = e; exprs = g; commands = j }, k)

pub acceptable_kinds : {X : Type 0} (r : Routine) (m : List ℕ) (go : Unit {0} → Verdict X) → Acceptable r m → kinds r m go ≡ go tt
unfolding kinds
acceptable_kinds r m go a =
    rw (
      eq-eqb (length m) r.types a.size,
      all_good 7 (λ i. leb (get_or m i 0) 2) (λ i. i) r.types _ (λ i l. le-leb _ _ (a.bytes i l)),
      all_good 8 (λ i. type_kind r m (suc i)) (λ i. r.type_place (suc i)) r.types _ a.types,
      all_good 8 (λ e. expr_kind r m (r.expr e)) r.expr_place r.exprs _ a.exprs,
      all_good 8 (λ c. command_kind r m (r.command c)) r.command_place r.commands go a.commands,
    )
