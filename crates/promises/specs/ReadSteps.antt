-- A read that gives a value tells last where it looks.
use Rattle.std.specs.Prelude.{◌≡◌, refl, List, [], ◌∷◌, ◌++◌}
use Prim.Native.Nat.{ℕ, zero, suc}
use Rattle.std.proofs.Common.{arith}
use Rattle.rules.specs.declared.Value.{Value}
use Rattle.rules.specs.Table.{Routine, read}
use Rattle.rules.specs.Shape.{type_of}
use Rattle.rules.specs.declared.Kind.{Kind}
use Rattle.rules.specs.Kinds.{kind}
use Rattle.rules.specs.Steps.{Step, entered, looked, Told, quiet, tell}
use Rattle.rules.specs.Memory.{State, cell}
use Rattle.rules.specs.Ruled.{Ruled, gives, fails, stuck}
use Rattle.rules.specs.Values.{reach, fetched}
use Rattle.rules.specs.Run.{Stop, Answer, got, stopped, on_value, and_then, ruled, enter, answered, expr_row, eval_below}
use Rattle.promises.specs.Promises.{Looks, ReadsTold}

-- A read whose access reached address c, with its step: by its place, the fuel left, the kinds of pointer and target, and the pointer's value.
abbrev pub read_of : ℕ → ℕ → State → Kind → Kind → Value → ℕ → Told Answer
read_of p f w k t v c = tell (looked p v c) (quiet (answered p f (fetched w k t (cell w c))))

no_value : {X : Type 0} {s : Stop} {x : Value} {f : ℕ} → stopped s ≡ got x f → X
no_value h = let z : ◌≡◌ {A = ℕ} 0 1 = cc in absurd (omega arith)

answered_gives : (p f : ℕ) (u : Ruled Value) {x : Value} {left : ℕ} → answered p f u ≡ got x left → u ≡ gives x
answered_gives p f (gives v) {x} h = let e : v ≡ x = cc in rw e
answered_gives p f (fails c) h = no_value h
answered_gives p f stuck h = no_value h

module _ (r : Routine) (m : List ℕ) (w : State) (e a : ℕ) where
  abbrev Gives : List Step → Told Answer → Type 0
  Gives l y = (x : Value) (left : ℕ) → y.answer ≡ got x left → Looks r m w e a x (l ++ y.steps)

  abbrev looking : ℕ → Value → ℕ → Told Answer
  looking f v c = read_of (r.expr_place e) f w (kind m (type_of r a)) (kind m (r.target (type_of r a))) v c

  at_address : (l : List Step) (f : ℕ) (v : Value) (u : Ruled ℕ) → Gives l (ruled stopped (r.expr_place e) f u (looking f v))
  unfolding ruled
  at_address l f v (gives c) x left h = record { before = l; pointer = v; address = c; told = refl; holds = answered_gives _ f _ h }
  at_address l f v (fails c) x left h = no_value h
  at_address l f v stuck x left h = no_value h

  at_pointer : (l : List Step) (b : Answer)
      → Gives l (on_value stopped b λ v f. ruled stopped (r.expr_place e) f (reach w (kind m (type_of r a)) v) (looking f v))
  at_pointer l (got v f) x left h = at_address l f v (reach w (kind m (type_of r a)) v) x left h
  at_pointer l (stopped s) x left h = no_value h

  at_row : (ev : ℕ → ℕ → Told Answer) (f : ℕ) → Gives [] (enter stopped (r.expr_place e) f λ f₁. expr_row r m w ev (r.expr_place e) (read a) f₁)
  unfolding enter and_then
  at_row ev zero x left h = no_value h
  at_row ev (suc f) x left h = at_pointer (entered (r.expr_place e) ∷ (ev a f).steps) (ev a f).answer x left h

pub reads_told : ReadsTold
reads_told r m w e a f x left q = rw q (at_row r m w e a (λ b f₁. eval_below r m w e b f₁) f x left)
