-- The start values, row by row: each is written in its cell, over what stands there.
use Rattle.std.proofs.Common.{◌≡◌, ap, ◌∙◌, ℕ, ◌<◌, ◌≤◌, List, [], arith}
use Rattle.rules.specs.declared.Starts.{Starts}
use Rattle.rules.specs.declared.Kind.{Kind}
use Rattle.rules.specs.declared.Value.{Value}
use Rattle.rules.specs.Basic.{half}
use Rattle.rules.specs.Table.{routine}
use Rattle.rules.specs.Shape.{home_at}
use Rattle.rules.specs.Kinds.{kind}
use Rattle.rules.specs.Memory.{encode}
use Rattle.rules.specs.Start.{given_value, given_in}
use Rattle.laws.specs.WellRead.{WellRead}
use Rattle.laws.specs.Formed.{Formed}
use Rattle.laws.specs.Start.{start_laid}
use Rattle.view.specs.declared.HomeRow.{HomeRow}
use Rattle.view.specs.declared.StartRow.{StartRow}
use Rattle.view.specs.Rows.{home_row, start_row}
use Rattle.view.specs.Means.{home_has, value_home}
use Rattle.words.specs.Words.{start_in, Homes}

pub start_entry_is : {s : List ℕ} {at : Starts} {i : ℕ} (m : List ℕ) → WellRead s at → i < half s at.values → {row : StartRow} → row ≡ start_row s at i
    → {home : HomeRow} → home ≡ home_row s at row.home → {k : Kind} → k ≡ kind m home.ty → {v : Value} → v ≡ given_value k row.value
    → {x : ℕ} → x ≡ encode v → x ≡ encode (given_in (routine s at) m ((routine s at).value i))
start_entry_is {s} {at} {i} m known less {row} is {home} named f h q =
    let (first, last) = value_home known less is in
    let a : home.ty ≡ (home_at (routine s at).homes row.home).type = ap (λ (x : HomeRow). x.ty) named ∙ (home_has s at row.home first last).type in
    let b : row.value ≡ ((routine s at).value i).value = ap (λ (x : StartRow). x.value) is in
    let c : row.home ≡ ((routine s at).value i).home = ap (λ (x : StartRow). x.home) is in
    q ∙ rw (h, f, a, b, c)

-- No home starts at address 0.
pub first_address : {s t : List ℕ} {at : Starts} {i : ℕ} → WellRead s at → Formed (routine s at) → i < half s at.values → {row : StartRow} → row ≡ start_row s at i
    → Homes (routine s at).homes t → 1 ≤ start_in t row.home
first_address {s} {t} {at} {i} known formed less {row} is homes =
    let (first, last) = value_home known less is in
    let c : row.home ≡ ((routine s at).value i).home = ap (λ (x : StartRow). x.home) is in
    let low = (start_laid (routine s at) [] formed []).low (formed.values i less).0.home in
    omega (arith, homes.start row.home (omega (arith, last, known.homes.few)), rw (← c) at low)
