-- A fifth section with no rows says what none says: past its end a file has bytes 0, so both have the same bytes everywhere.
use Rattle.std.specs.Prelude.{◌≡◌, true, List, [], ◌∷◌, ◌++◌, get_or, leb}
use Rattle.std.proofs.Math.Path.{refl, fun_ext}
use Rattle.std.proofs.Common.{sym, ap, ◌∙◌, length-append, get_or-append-add}
use Prim.Native.Nat.{ℕ, zero, suc, ◌+◌, ◌*◌, ◌-◌, ◌≤◌}
use Rattle.std.proofs.Math.Decide.{dec_lt}
use native.Mathlib.Omega.{arith}
use Rattle.std.proofs.Math.ListN.{length, get_or-append, get_or-eq_default}
use borrow.Author.Tests.{leb-true, le-leb, eq-eqb, ne_eqb}
use Rattle.rules.specs.declared.Starts.{Starts}
use Rattle.rules.specs.declared.Section.{Section}
use Rattle.rules.specs.declared.Section.TheVariants.{Types, Homes, Exprs, Commands, Values}
use Rattle.rules.specs.Basic.{byte, half, in_range, Verdict, fine, unless_refused}
use Rattle.rules.specs.Table.{Routine, layout, expr_at, command_at, start_row_at, routine}
use Rattle.rules.specs.Reading.{row_bytes, fewest, most, row_good, rows, section, cells, sections, fifth, reading}
use Rattle.rules.specs.Kinds.{kinds}
use Rattle.rules.specs.Run.{run}
use Rattle.rules.specs.Calls.{formed, judged, checking, lent_enough, cell_count, inferable, Left, Ended, or_leave, reported, Inferred, left, marked, runnable, running}
use Rattle.rules.specs.Tested.{passed}
use Rattle.promises.specs.Promises.{SameCalls, NoRowsIsNone}
use Rattle.laws.specs.Known.{none_past, fifth_none, reading_sections, formed_reading}

module _ (s : List ℕ) where
  abbrev z : List ℕ
  z = s ++ 0 ∷ 0 ∷ []

  -- ---- the same bytes

  byte_same : (i : ℕ) → byte z i ≡ byte s i
  byte_same i = elim (dec_lt i (length s)) [ yes l ↦ get_or-append s (0 ∷ 0 ∷ []) 0 i l | no n ↦ past (i - length s) (omega arith) ]
    where
      zeros : (k : ℕ) → ◌≡◌ {A = ℕ} (get_or (0 ∷ 0 ∷ []) k 0) 0
      zeros zero = refl
      zeros (suc zero) = refl
      zeros (suc (suc k)) = refl

      past : (k : ℕ) → i ≡ length s + k → byte z i ≡ byte s i
      past k e =
          let l : length s ≤ length s + k = omega arith in
          rw e (get_or-append-add s (0 ∷ 0 ∷ []) k 0 ∙ zeros k ∙ sym (get_or-eq_default s 0 l))

  half_same : (i : ℕ) → half z i ≡ half s i
  half_same i = rw (byte_same i, byte_same (i + 1))

  longer : length z ≡ length s + 2
  longer = length-append s (0 ∷ 0 ∷ [])

  layout_same : (q from n : ℕ) → layout z q from n ≡ layout s q from n
  layout_same q from zero = refl
  layout_same q from (suc n) = rw (half_same q, half_same (q + 2), layout_same (q + 4) (from + half s (q + 2)) n)

  expr_same : (q : ℕ) → expr_at z q ≡ expr_at s q
  expr_same q = rw (byte_same q, half_same (q + 1), half_same (q + 3))

  command_same : (q : ℕ) → command_at z q ≡ command_at s q
  command_same q = rw (byte_same q, half_same (q + 1), half_same (q + 3), half_same (q + 5))

  value_same : (q : ℕ) → start_row_at z q ≡ start_row_at s q
  value_same q = rw (half_same q, half_same (q + 2), half_same (q + 4), half_same (q + 4 + 2))

  routine_same : (at : Starts) → routine z at ≡ routine s at
  routine_same at =
      let a : (routine z at).target ≡ (routine s at).target = fun_ext (λ t. half_same (at.types + 2 * t)) in
      let b : (routine z at).expr ≡ (routine s at).expr = fun_ext (λ e. expr_same (at.exprs + 2 + 5 * e)) in
      let c : (routine z at).command ≡ (routine s at).command = fun_ext (λ c. command_same (at.commands + 2 + 7 * c)) in
      let d : (routine z at).value ≡ (routine s at).value = fun_ext (λ i. value_same (at.values + 2 + 8 * i)) in
      rw (a, b, c, d, half_same at.types, half_same at.homes, half_same at.exprs, half_same at.commands, half_same at.values, layout_same)

  -- ---- read alike

  good_same : (c : Section) (i q : ℕ) → row_good z c i q ≡ row_good s c i q
  unfolding row_good
  good_same Types i q = rw (half_same q)
  good_same (Homes t) i q = rw (half_same q, half_same (q + 2))
  good_same (Exprs t h) i q = rw (byte_same q, half_same (q + 1), half_same (q + 3))
  good_same (Commands e) i q = rw (byte_same q, half_same (q + 1), half_same (q + 3), half_same (q + 5))
  good_same (Values h) i q = rw (half_same q, half_same (q + 2), half_same h, half_same (h + 4 * half s q))

  fits : (n : ℕ) → leb n (length s) ≡ true → leb n (length z) ≡ true
  fits n h = le-leb n (length z) (omega (arith, leb-true n (length s) h, longer))

  module _ {X : Type 0} (x : X) where
    rows_pass : (c : Section) (q i n : ℕ) (go go' : Unit {0} → Verdict X) → (go tt ≡ fine x → go' tt ≡ fine x) → rows s c q i n go ≡ fine x → rows z c q i n go' ≡ fine x
    unfolding rows
    rows_pass c q i zero go go' h e = h e
    rows_pass c q i (suc n) go go' h e =
        let (a, b) = passed (leb (q + row_bytes c * i + row_bytes c) (length s)) _ 1 _ x e in
        let (d, f) = passed (row_good s c i (q + row_bytes c * i)) _ 3 _ x b in
        rw (fits _ a, good_same c i (q + row_bytes c * i), d) (rows_pass c q (suc i) n go go' h f)

    section_pass : (c : Section) (q : ℕ) (go go' : ℕ → ℕ → Verdict X) → ((a b : ℕ) → go a b ≡ fine x → go' a b ≡ fine x) → section s c q go ≡ fine x → section z c q go' ≡ fine x
    unfolding section
    section_pass c q go go' h e =
        let (a, b) = passed (leb (q + 2) (length s)) _ 1 q x e in
        let (d, f) = passed (in_range (fewest c) (half s q) (most c)) _ 2 q x b in
        rw (fits (q + 2) a, half_same q, d) (rows_pass c (q + 2) 0 (half s q) _ _ (h (q + 2 + row_bytes c * half s q) (half s q)) f)

    cells_pass : (q before n : ℕ) (go : Unit {0} → Verdict X) → cells z q before n go ≡ cells s q before n go
    unfolding cells
    cells_pass q before zero go = refl
    cells_pass q before (suc n) go = rw (half_same (q + 2), cells_pass (q + 4) (before + half s (q + 2)) n go)

  sections_pass : (at : Starts) → sections s ≡ fine at → sections z ≡ fine at
  unfolding sections
  sections_pass at e =
      section_pass at Types 0 _ _ (λ h t.
      section_pass at (Homes t) h _ _ (λ e g.
      section_pass at (Exprs t g) e _ _ (λ c x.
      section_pass at (Commands x) c _ _ (λ v n k. k)))) e

  -- The fifth section is there, and has no rows.
  module _ (at : Starts) (ends : at.values ≡ length s) where
    no_rows : half z at.values ≡ 0
    no_rows = half_same at.values ∙ rw (ends, none_past s)

    empty_there : (go : ℕ → Verdict Starts) → fifth z at go ≡ go (at.values + 2)
    unfolding fifth section rows
    empty_there go =
        let d : at.values + 2 ≤ length z = omega (arith, longer) in
        let e : at.values + 2 + 8 * 0 ≡ at.values + 2 = omega arith in
        rw (ne_eqb at.values (length z) (λ e. omega (arith, longer)), le-leb (at.values + 2) (length z) d, no_rows, e)

    reading_pass : reading s ≡ fine at → reading z ≡ fine at
    unfolding reading
    reading_pass h =
        let e : sections s ≡ fine at = reading_sections s at h in
        let l : at.values + 2 ≡ length z = omega (arith, longer) in
        rw (sections_pass at e, empty_there, eq-eqb (at.values + 2) (length z) l, cells_pass at, half_same at.homes)
        (rw (e, fifth_none s at ends, eq-eqb at.values (length s) ends) at h)

    formed_pass : formed s ≡ fine at → formed z ≡ fine at
    unfolding formed
    formed_pass h =
        let e : reading s ≡ fine at = formed_reading s at h in
        rw (reading_pass e, routine_same at) (rw e at h)

    -- ---- and answered alike

    module _ (formed-s : formed s ≡ fine at) where
      inferable_same : (lent : List ℕ) → inferable z lent ≡ inferable s lent
      unfolding inferable
      inferable_same lent = rw (formed_pass formed-s, formed-s) (ap (λ (r : Routine). lent_enough r.types lent at) (routine_same at))

      to_empty : (lent : List ℕ) (x : Left (Unit {0})) → Inferred s lent x → Inferred z lent x
      to_empty lent x (left e) = left (inferable_same lent ∙ e)
      to_empty lent x (marked {at = at'} {m = m} e l) = marked {m = m} (inferable_same lent ∙ e) (rw (routine_same at') l)

      from_empty : (lent : List ℕ) (x : Left (Unit {0})) → Inferred z lent x → Inferred s lent x
      from_empty lent x (left e) = left (sym (inferable_same lent) ∙ e)
      from_empty lent x (marked {at = at'} {m = m} e l) = marked {m = m} (sym (inferable_same lent) ∙ e) (rw (routine_same at') at l)

      -- A run of this file, by the routine that its starts stand for.
      abbrev ran : (Starts → Routine) → List ℕ → ℕ → List ℕ → Left Ended
      ran R m fuel lent =
          or_leave (unless_refused (kinds (R at) m λ _. fine at) λ at'. lent_enough (cell_count (R at')) lent at') lent λ at'. reported (run (R at') m lent fuel)

      same_calls : SameCalls s z
      unfolding judged checking runnable running
      same_calls =
          record {
            checks = λ m. rw (formed_pass formed-s, formed-s, routine_same at);
            infers = λ lent x. (to_empty lent x, from_empty lent x);
            runs = λ m fuel lent. rw (formed_pass formed-s, formed-s) (ap (λ R. ran R m fuel lent) (sym (fun_ext routine_same)));
          }

pub no_rows_is_none : NoRowsIsNone
no_rows_is_none s at h e = (formed_pass s at e h, same_calls s at e h)
