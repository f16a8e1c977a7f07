-- Which row makes a step of a run, and through what.
use Rattle.std.specs.Prelude.{◌≡◌, ℕ, ◌<◌, List}
use Rattle.rules.specs.declared.Value.{Value}
use Rattle.rules.specs.Table.{Routine, read, store}
use Rattle.rules.specs.Shape.{type_of}
use Rattle.rules.specs.Kinds.{kind}
use Rattle.rules.specs.Steps.{Step, entered, looked, stored}
use Rattle.rules.specs.Memory.{State}
use Rattle.rules.specs.Ruled.{gives}
use Rattle.rules.specs.Values.{reach, kept}
use Rattle.rules.specs.Run.{got, eval}
use Rattle.rules.specs.Valid.{InHome, Valid}

module _ (r : Routine) (m : List ℕ) (w : State) where
  -- Evaluated here, expression a has value v.
  pub record Has (a : ℕ) (v : Value) : Type 0 where
    pub fuel : ℕ
    pub left : ℕ
    pub by : (eval r m w a fuel).answer ≡ got v left

  -- An access: pointer a has value v, a valid one, which passes every check and reaches address c, and c lies in a home.
  pub record Accesses (a : ℕ) (v : Value) (c : ℕ) : Type 0 where
    pub pointer : Has a v
    pub valid : Valid r m w.homes (type_of r a) v
    pub reaches : reach w (kind m (type_of r a)) v ≡ gives c
    pub inside : InHome w.homes c

  -- A row of the routine is entered. A read looks at what its pointer accesses. A store stores there what its value is kept as.
  pub data Made : Step → Type 0 where
    enters_expr : {e : ℕ} → e < r.exprs → Made (entered (r.expr_place e))
    enters_command : {d : ℕ} → d < r.commands → Made (entered (r.command_place d))
    looks : {e a : ℕ} {v : Value} {c : ℕ} → e < r.exprs → r.expr e ≡ read a → Accesses a v c → Made (looked (r.expr_place e) v c)
    stores : {d a b : ℕ} {v : Value} {c : ℕ} {u x : Value} → d < r.commands → r.command d ≡ store a b → Accesses a v c → Has b u
        → kept w (kind m (type_of r a)) (kind m (r.target (type_of r a))) u ≡ gives x → Made (stored (r.command_place d) v c x)
