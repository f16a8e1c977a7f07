-- Refusals 1 to 5, in reading order, then 10 (RULES 2.1, 2.2).
use Rattle.std.specs.Prelude.{ℕ, zero, suc, ◌+◌, ◌*◌, Bool, true, false, ◌&&◌, ◌||◌, List, [], ◌∷◌, get_or, length, ltb, leb, eqb}
use Rattle.rules.specs.declared.Starts.{Starts}
use Rattle.rules.specs.declared.Section.{Section}
use Rattle.rules.specs.declared.Section.TheVariants.{Types, Homes, Exprs, Commands, Values}
use Rattle.rules.specs.Table.{Expr, Command, StartRow, Routine, row_place, expr_at, command_at, start_row_at, literal, home, cast, null, sum, read, op, skip, then, store, if_else, while}
use Rattle.rules.specs.Basic.{byte, half, choose, in_range, Verdict, fine, unless_refused, guard, scan, first_bad}

-- ---- the sections (RULES 1.2)

abbrev pub row_bytes : Section → ℕ
row_bytes Types = 2
row_bytes (Homes t) = 4
row_bytes (Exprs t h) = 5
row_bytes (Commands e) = 7
row_bytes (Values h) = 8

abbrev pub fewest : Section → ℕ
fewest Types = 0
fewest (Homes t) = 0
fewest (Exprs t h) = 0
fewest (Commands e) = 1
fewest (Values h) = 0

abbrev pub most : Section → ℕ
most Types = 255
most (Homes t) = 64
most (Exprs t h) = 1024
most (Commands e) = 1024
most (Values h) = 256

-- ---- a row's fields are in range (refusal 3). A row that no tag gives is not.

-- Expression row i of a file with T types and H homes (RULES 1.5, 1.8).
abbrev pub expr_good : ℕ → ℕ → ℕ → Expr → Bool
expr_good T H i (literal n) = true
expr_good T H i (home g) = in_range 1 g H
expr_good T H i (cast a t) = ltb a i && leb t T
expr_good T H i (null t) = in_range 1 t T
expr_good T H i (sum a b) = ltb a i && ltb b i
expr_good T H i (read a) = ltb a i
expr_good T H i (op o a b) = ltb a i && ltb b i
expr_good T H i Expr.none = false

-- Fields that the tag does not mention are zero.
abbrev pub expr_spare : ℕ → ℕ → ℕ → Bool
expr_spare tag a b = get_or (true ∷ eqb b 0 ∷ true ∷ true ∷ eqb b 0 ∷ true ∷ eqb b 0 ∷ []) tag true

-- Command row i of a file with E expressions (RULES 1.7, 1.8).
abbrev pub command_good : ℕ → ℕ → Command → Bool
command_good E i skip = true
command_good E i (then a b) = ltb a i && ltb b i
command_good E i (store a b) = ltb a E && ltb b E
command_good E i (if_else a b c) = ltb a E && (ltb b i && ltb c i)
command_good E i (while a b) = ltb a E && ltb b i
command_good E i Command.none = false

abbrev pub command_spare : ℕ → ℕ → ℕ → ℕ → Bool
command_spare tag a b c = get_or ((eqb a 0 && (eqb b 0 && eqb c 0)) ∷ eqb c 0 ∷ eqb c 0 ∷ true ∷ eqb c 0 ∷ []) tag true

-- A start row of a file with H homes of these sizes: a cell of a home (RULES 1.10).
abbrev pub value_good : ℕ → (ℕ → ℕ) → StartRow → Bool
value_good H size x = in_range 1 x.home H && ltb x.cell (size x.home)

-- Row i of a section, at place q. Where the homes' count stands at h, the size of home g stands at h + 4 * g.
unfoldable pub row_good : List ℕ → Section → ℕ → ℕ → Bool
row_good s Types i q = leb (half s q) i
row_good s (Homes T) i q = in_range 1 (half s q) T && in_range 1 (half s (q + 2)) 1024
row_good s (Exprs T H) i q = expr_spare (byte s q) (half s (q + 1)) (half s (q + 3)) && expr_good T H i (expr_at s q)
row_good s (Commands E) i q =
    command_spare (byte s q) (half s (q + 1)) (half s (q + 3)) (half s (q + 5)) && command_good E i (command_at s q)
row_good s (Values h) i q = value_good (half s h) (λ g. half s (h + 4 * g)) (start_row_at s q)

-- ---- reading front to back

-- Row i of a section whose rows begin at q: whole (else 1), and in range (else 3).
abbrev pub row_read : {X : Type 0} → List ℕ → Section → ℕ → ℕ → (Unit {0} → Verdict X) → Verdict X
row_read s c q i go =
    guard 1 (row_place q (row_bytes c) i) (leb (row_place q (row_bytes c) i + row_bytes c) (length s)) λ _.
    guard 3 (row_place q (row_bytes c) i) (row_good s c i (row_place q (row_bytes c) i)) go

-- n rows, from number i on, of a section whose rows begin at q.
unfoldable pub rows : {X : Type 0} → List ℕ → Section → ℕ → ℕ → ℕ → (Unit {0} → Verdict X) → Verdict X
rows s c q i n go = scan (λ j k. row_read s c q j k) i n go

-- A section whose count stands at q. It goes on with the place behind its rows, and its count.
unfoldable pub section : {X : Type 0} → List ℕ → Section → ℕ → (ℕ → ℕ → Verdict X) → Verdict X
section s c q go =
    guard 1 q (leb (q + 2) (length s)) λ _.
    guard 2 q (in_range (fewest c) (half s q) (most c)) λ _.
    rows s c (q + 2) 0 (half s q) λ _.
    go (row_place (q + 2) (row_bytes c) (half s q)) (half s q)

-- Refusal 5: the first home row with which the cells pass 4,096 (RULES 1.9).
unfoldable pub cells : {X : Type 0} → List ℕ → ℕ → ℕ → ℕ → (Unit {0} → Verdict X) → Verdict X
cells s q before zero go = go tt
cells s q before (suc n) go = guard 5 q (leb (before + half s (q + 2)) 4096) λ _. cells s (q + 4) (before + half s (q + 2)) n go

-- The four sections that every file has.
unfoldable pub sections : List ℕ → Verdict Starts
sections s =
    section s Types 0 λ h types.
    section s (Homes types) h λ e homes.
    section s (Exprs types homes) e λ c exprs.
    section s (Commands exprs) c λ v commands.
    fine (record { types = 0; homes = h; exprs = e; commands = c; values = v })

-- The start values are there exactly if a byte follows the commands. It goes on with the place behind them.
unfoldable pub fifth : {X : Type 0} → List ℕ → Starts → (ℕ → Verdict X) → Verdict X
fifth s at go =
    choose (eqb at.values (length s))
    (λ _. go at.values)
    (λ _. section s (Values at.homes) at.values λ end values. go end)

unfoldable pub reading : List ℕ → Verdict Starts
reading s =
    unless_refused (sections s) λ at.
    fifth s at λ end.
    guard 4 end (eqb end (length s)) λ _.
    cells s (at.homes + 2) 0 (half s at.homes) λ _.
    fine at

-- ---- start rows rise by home, then cell (refusal 10, RULES 1.10)

abbrev pub below : StartRow → StartRow → Bool
below x y = ltb x.home y.home || (eqb x.home y.home && ltb x.cell y.cell)

-- Start row i comes after the row before it.
abbrev pub rises : Routine → ℕ → Bool
rises r zero = true
rises r (suc i) = below (r.value i) (r.value (suc i))

unfoldable pub rising : {X : Type 0} → Routine → (Unit {0} → Verdict X) → Verdict X
rising r go = first_bad 10 (λ i. rises r i) r.value_place 0 r.values go
