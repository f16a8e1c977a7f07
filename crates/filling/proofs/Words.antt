-- The word that is made of a home's row is the word of a row that names it.
use Rattle.std.proofs.Common.{◌≡◌, refl, ap, ◌∙◌, ℕ, ◌≤◌, ◌<◌, List, arith}
use Rattle.rules.specs.declared.Kind.{Kind}
use Rattle.rules.specs.declared.Kind.TheVariants.{int, SAFE, SEQ, DYNAMIC}
use Rattle.rules.specs.declared.Starts.{Starts}
use Rattle.rules.specs.Basic.{half}
use Rattle.rules.specs.Table.{Home, routine, home}
use Rattle.rules.specs.Shape.{home_at}
use Rattle.rules.specs.Kinds.{kind}
use Rattle.laws.specs.WellRead.{WellRead}
use Rattle.words.specs.Words.{Packed, home_op, home_field, ExprWord, Homes}
use Rattle.view.specs.declared.HomeRow.{HomeRow}
use Rattle.view.specs.Rows.{home_row}
use Rattle.view.specs.Means.{home_has}
use Rattle.filling.specs.Filling.{home_field_in}

field_is : {hs : List Home} {t : List ℕ} {g : ℕ} (k : Kind) → Homes hs t → g < 256 → home_field_in t k g ≡ home_field k (home_at hs g) g
field_is int h l = refl
field_is {g = g} SAFE h l = h.start g l
field_is SEQ h l = refl
field_is DYNAMIC h l = refl

pub home_made : {s t : List ℕ} {at : Starts} {g : ℕ} (m : List ℕ) → WellRead s at → 1 ≤ g → g ≤ half s at.homes → Homes (routine s at).homes t
    → {row : HomeRow} → row ≡ home_row s at g → {k : Kind} → k ≡ kind m row.ty
    → {w o i b : ℕ} → o ≡ home_op k → i ≡ g → b ≡ home_field_in t k i → Packed w o 0 b → ExprWord (routine s at) m (home g) w
home_made {s} {t} {at} {g} m known first last homes {row} is {k} named f i h p =
    let few : g < 256 = omega (arith, last, known.homes.few) in
    let e : k ≡ kind m (home_at (routine s at).homes g).type
    = named ∙ ap (kind m) (ap (λ (x : HomeRow). x.ty) is ∙ (home_has s at g first last).type) in
    rw (← e, ← f, ← field_is k homes few, ← i, ← h) p
