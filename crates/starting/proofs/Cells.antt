-- The cells' own starting values, home by home: what is still to be written makes the same memory of what stands there as of what stood there first.
use Rattle.std.proofs.Common.{◌≡◌, sym, ap, ◌∙◌, ℕ, suc, ◌+◌, ◌≤◌, List, [], ◌∷◌, ◌++◌, length, take, drop, replicate, append_assoc, append-nil, take-append-drop, length-append, add-one, arith}
use Rattle.std.proofs.Math.Seq.{length-take-le, take_at, drop-append-add, drop-drop, drop-cons}
use Rattle.std.proofs.Math.ListN.{length-replicate, length-drop}
use Rattle.std.proofs.lemmas.List.{drop_all}
use borrow.Rule.Slice.PartMut.{put_mid, mid_of}
use Rattle.rules.specs.declared.Starts.{Starts}
use Rattle.rules.specs.Basic.{half}
use Rattle.rules.specs.Table.{Home, Routine, total, routine}
use Rattle.rules.specs.Shape.{home_at, no_home}
use Rattle.rules.specs.Start.{fresh_cells, cleared}
use Rattle.rules.specs.Calls.{cell_count}
use Rattle.laws.specs.Start.{length_start}
use Rattle.view.specs.declared.HomeRow.{HomeRow}
use Rattle.view.specs.Rows.{home_row}
use Rattle.view.specs.Means.{home_has}
use Rattle.filling.proofs.Table.{homes_length}
use Rattle.starting.specs.Starting.{spread, entry_in}

-- After a fill of the part from place `from` on.
pub spread_put : (l : List ℕ) (from n x : ℕ) {k : ℕ} {ys : List ℕ} → from + n ≤ length l → k ≡ n → ys ≡ replicate (length (mid_of from k l)) x
    → put_mid from k l ys ≡ spread l from n x
spread_put l from n x {k} {ys} h e w =
    let few : length (mid_of from k l) ≡ n = rw e (length-take-le n (drop from l) (rw length-drop (omega arith))) in
    rw (e, w ∙ ap (λ i. replicate i x) few) (simp (append_assoc, drop-drop))

spread_length : (l : List ℕ) (from n x : ℕ) → from + n ≤ length l → length (spread l from n x) ≡ length l
spread_length l from n x h = rw (length-append, length-append, length-take-le from l (omega arith), length-replicate, length-drop) (omega arith)

module _ (r : Routine) (m : List ℕ) where
  -- These homes' cells, from place `from` on.
  abbrev finish : List Home → ℕ → List ℕ → List ℕ
  finish hs from l = take from l ++ fresh_cells r m hs ++ drop (from + total hs) l

  finish_next : (h : Home) (hs : List Home) (from : ℕ) (l : List ℕ) → from + (h.size + total hs) ≤ length l
      → finish (h ∷ hs) from l ≡ finish hs (from + h.size) (spread l from h.size (entry_in r m h.type))
  finish_next h hs from l room =
      let x = entry_in r m h.type in
      let p = take from l ++ replicate h.size x in
      let n : length (take from l ++ replicate h.size x) ≡ from + h.size = rw (length-append, length-take-le from l (omega arith), length-replicate) in
      let a : take (from + h.size) (spread l from h.size x) ≡ take from l ++ replicate h.size x = take_at _ _ (from + h.size) n in
      let b : from + h.size + total hs ≡ from + (h.size + total hs) = omega arith in
      let c : drop (from + h.size + total hs) (spread l from h.size x) ≡ drop (from + (h.size + total hs)) l
      = ap (λ k. drop (k + total hs) (spread l from h.size x)) (sym n) ∙ drop-append-add p (drop (from + h.size) l) (total hs) ∙ drop-drop (total hs) (from + h.size) l ∙ rw b in
      rw (a, c, append_assoc (take from l) (replicate h.size x) (fresh_cells r m hs))

-- Home g is next, and its cells start at place `from`.
pub record Begun (r : Routine) (m : List ℕ) (g from : ℕ) (lent l : List ℕ) : Type 0 where
  pub room : from + total (drop g r.homes) ≤ length l
  pub same : cleared r m lent ≡ finish r m (drop g r.homes) from l

pub begun_first : (r : Routine) (m lent : List ℕ) → cell_count r ≤ length lent → Begun r m 1 0 lent lent
begun_first r m lent h =
    let z : 0 + total (drop 1 r.homes) ≡ total (drop 1 r.homes) = omega arith in
    record { room = omega (arith, h); same = rw (length_start r m (drop 1 r.homes), z) }

module _ (s : List ℕ) (at : Starts) {m lent l : List ℕ} {g from : ℕ} where
  module _ (first : 1 ≤ g) (last : g ≤ half s at.homes) (y : Begun (routine s at) m g from lent l) {row : HomeRow} {size : ℕ} (is : row ≡ home_row s at g) (size_is : size ≡ row.size) where
    abbrev h : Home
    h = home_at (routine s at).homes g

    abbrev rest : List Home
    rest = drop (suc g) (routine s at).homes

    left : drop g (routine s at).homes ≡ home_at (routine s at).homes g ∷ drop (suc g) (routine s at).homes
    left = drop-cons (routine s at).homes g no_home (omega (arith, homes_length s at))

    same_size : size ≡ (home_at (routine s at).homes g).size
    same_size = size_is ∙ ap (λ (x : HomeRow). x.size) is ∙ (home_has s at g first last).size

    same_type : row.ty ≡ (home_at (routine s at).homes g).type
    same_type = ap (λ (x : HomeRow). x.ty) is ∙ (home_has s at g first last).type

    room_here : from + (h.size + total rest) ≤ length l
    room_here = rw left at y.room

    pub begun_room : from + size ≤ length l
    begun_room = omega (arith, room_here, same_size)

    pub begun_next : {k : List ℕ} → k ≡ spread l from size (entry_in (routine s at) m row.ty) → Begun (routine s at) m (g + 1) (from + size) lent k
    begun_next {k} written =
        let v : k ≡ spread l from h.size (entry_in (routine s at) m h.type) = rw (← same_size, ← same_type) written in
        let c : length k ≡ length l = ap length v ∙ spread_length l from _ _ (omega (arith, room_here)) in
        let z : cleared (routine s at) m lent ≡ finish (routine s at) m (h ∷ rest) from l = rw left at y.same in
        record {
          room = rw (same_size, add-one g, c) (omega (arith, room_here));
          same = rw (same_size, add-one g, v) (z ∙ finish_next (routine s at) m h rest from l room_here);
        }

  pub begun_all : half s at.homes + 1 ≡ g → Begun (routine s at) m g from lent l → l ≡ cleared (routine s at) m lent
  begun_all last y =
      let none : drop g (routine s at).homes ≡ [] = drop_all g (routine s at).homes (omega (arith, homes_length s at)) in
      let z : from + 0 ≡ from = omega arith in
      sym (y.same ∙ rw (none, append-nil (take from l), z) (take-append-drop from l))
