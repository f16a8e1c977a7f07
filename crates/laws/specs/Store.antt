-- A store of what its home may hold keeps memory valid.
use Rattle.std.specs.Prelude.{Bool, true, false, ◌≡◌, refl, ℕ, suc, ◌+◌, ◌*◌, ◌-◌, ◌/◌, ◌%◌, ◌≤◌, ◌<◌, List, length}
use Rattle.rules.specs.declared.Value.{Value}
use Rattle.rules.specs.declared.Value.TheVariants.{Number, Pair}
use Rattle.rules.specs.Basic.{width, choose}
use Rattle.rules.specs.Table.{Home, Routine}
use Rattle.rules.specs.Shape.{home_at}
use Rattle.rules.specs.declared.Kind.{Kind}
use Rattle.rules.specs.declared.Kind.TheVariants.{int, SAFE, SEQ, DYNAMIC}
use Rattle.rules.specs.Kinds.{kind, same, spreads, is_dynamic, kind_converts, targets_matter}
use Rattle.rules.specs.Memory.{State, cell, put, encode, decode}
use Rattle.rules.specs.Values.{paired, kept}
use Rattle.rules.specs.Valid.{In, Real, Typed, Untyped, ValidAt, number, address, pair, wild_pair, Valid, Holds, ValidState}
use Rattle.std.proofs.Common.{sym, ap, ◌∙◌, arith, length-set, get_or-set_same, get_or-set_other}
use Rattle.std.proofs.Math.Decide.{ℕ_discrete}
use Rattle.rules.specs.Tests.{false_true}
use Rattle.laws.specs.Same.{symmetric}
use Rattle.laws.specs.Values.{Ok, holds, ok_then, ok_map, Falls, Owns, safely, sequently, wildly, convert_ok, valid_same, wild_any, small_address}

-- What the low half of an entry holds.
abbrev pub Small : Value → Type 0
Small (Number n) = n < width
Small (Pair g n) = n < width

pub decode_encode : (v : Value) → Small v → decode (encode v) ≡ v
decode_encode (Number n) h =
    let a : n / width ≡ 0 = omega arith in
    let b : n % width ≡ n = omega arith in
    rw (a, b)
decode_encode (Pair g n) h =
    let a : (n + width * suc g) / width ≡ suc g = omega arith in
    let b : (n + width * suc g) % width ≡ n = omega arith in
    rw (a, b)

module _ {r : Routine} {m : List ℕ} {w : State} (ok : ValidState r m w) where
  small : {s : Kind} {t : ℕ} {v : Value} → ValidAt r m w.homes s t v → Small v
  small (number l) = l
  small (address y) = small_address ok y
  small (pair y l) = l
  small (wild_pair y l) = l

  holds_small : {h : Home} {v : Value} → Holds r m w.homes h v → Small v
  holds_small {h} {v} y = go (is_dynamic (kind m h.type)) refl
    where
      go : (b : Bool) → is_dynamic (kind m h.type) ≡ b → Small v
      go true e = small (y.wild e)
      go false e = small (y.plain e)

  pub cell_same : (a : ℕ) (v : Value) → 1 ≤ a → a ≤ length w.memory → Small v → cell (put w a v) a ≡ v
  cell_same a v h l s = rw (get_or-set_same w.memory (a - 1) (encode v) 0 (omega arith)) (decode_encode v s)

  pub cell_other : (a b : ℕ) (v : Value) → 1 ≤ a → 1 ≤ b → (b ≡ a → ⊥) → cell (put w a v) b ≡ cell w b
  cell_other a b v h l n = ap decode (get_or-set_other w.memory (a - 1) (b - 1) (encode v) 0 (λ e. n (omega arith)))

  pub put_ok : (g a : ℕ) (v : Value) → Real w.homes g → In (home_at w.homes g) a → Holds r m w.homes (home_at w.homes g) v
      → ValidState r m (put w a v)
  put_ok g a v y i q =
      record {
        cells = ok.cells;
        room = rw length-set ok.room;
        laid = ok.laid;
        declared = λ z. ok.declared z;
        holds = λ {g = h} {a = b} z j. elim (ℕ_discrete b a) [ yes e ↦ here h b z j e | no n ↦ there h b z j n ];
      }
    where
      low : 1 ≤ a
      low = omega (arith, ok.laid.low y, i.from)

      here : (h b : ℕ) → Real w.homes h → In (home_at w.homes h) b → b ≡ a → Holds r m w.homes (home_at w.homes h) (cell (put w a v) b)
      here h b z j e =
          let g≡h : g ≡ h = ok.laid.apart y z i (rw e at j) in
          rw (e, cell_same a v low (omega (arith, ok.room, ok.laid.high y, i.to)) (holds_small q)) (rw g≡h at q)

      there : (h b : ℕ) → Real w.homes h → In (home_at w.homes h) b → (b ≡ a → ⊥) → Holds r m w.homes (home_at w.homes h) (cell (put w a v) b)
      there h b z j n = rw (cell_other a b v low (omega (arith, ok.laid.low z, j.from)) n) (ok.holds z j)

  module _ (falls : Falls r) where
    typed_holds : {u g : ℕ} {v : Value} → u ≤ r.types → Typed r m w.homes u g → Valid r m w.homes u v → Holds r m w.homes (home_at w.homes g) v
    typed_holds {u} l y i =
        record { plain = λ _. valid_same ok falls l (symmetric r m _ u y.elements) i; wild = λ d. false_true (sym y.mild ∙ d) }

    wild_holds : {t g : ℕ} {v : Value} → Untyped r m w.homes g → ValidAt r m w.homes DYNAMIC t v → Holds r m w.homes (home_at w.homes g) v
    wild_holds y i = record { plain = λ d. false_true (sym d ∙ y.wild); wild = λ _. wild_any ok i }

    paired_ok : {s : Kind} (s' : Kind) {u g : ℕ} {v : Value} → u ≤ r.types → Owns r m w.homes s u g → kind m u ≡ s' → spreads s s' ≡ true
        → ValidAt r m w.homes s' (r.target u) v → Ok (Holds r m w.homes (home_at w.homes g)) (paired w s s' v)
    paired_ok s' l (safely o) e h y = holds (typed_holds l o (rw (← e) at y))
    paired_ok s' l (sequently o) e h y = holds (typed_holds l o (rw (← e) at y))
    paired_ok int l (wildly o) e h y = ok_map (convert_ok ok DYNAMIC {u = 0} refl refl y) (λ v i. wild_holds o i)
    paired_ok SAFE l (wildly o) e h y = false_true h
    paired_ok SEQ l (wildly o) e h y = false_true h
    paired_ok DYNAMIC l (wildly o) e h y = holds (wild_holds o y)

    -- What is stored, the home may hold.
    pub kept_ok : {s : Kind} (s' : Kind) {s'' : Kind} {t u g : ℕ} {v : Value} → u ≤ r.types → Owns r m w.homes s u g → kind m u ≡ s' → spreads s s' ≡ true
        → kind_converts s'' s' ≡ true → choose (targets_matter s'' s') (λ _. same r m t (r.target u)) (λ _. true) ≡ true
        → ValidAt r m w.homes s'' t v → Ok (Holds r m w.homes (home_at w.homes g)) (kept w s s' v)
    kept_ok s' l o e h k k' y = ok_then (convert_ok ok s' k k' y) (λ v i. paired_ok s' l o e h i)
