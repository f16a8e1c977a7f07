-- Facts of a file that was read have one proof each, as a struct that keeps them asks.
use Rattle.std.specs.Prelude.{◌≡◌, ℕ, zero, suc, ◌+◌, ◌*◌, ◌≤◌, ◌<◌, List, [], ◌∷◌, length, refl, ◌⊎◌}
use Rattle.std.proofs.Common.{ap, inl, inr, arith}
use Rattle.std.specs.Coded.{Coded, Coded-set, coded_ℕ, coded×, coded⊎, code_by}
use denote.Struct.Props as logic
use Rattle.rules.specs.declared.Starts.{Starts}
use Rattle.rules.specs.declared.Kind.{Kind}
use Rattle.rules.specs.declared.Kind.TheVariants.{int, SAFE, SEQ, DYNAMIC}
use Rattle.rules.specs.declared.Section.TheVariants.{Types, Homes, Exprs, Commands, Values}
use Rattle.rules.specs.Basic.{half, Verdict, fine, refused}
use Rattle.rules.specs.Table.{Home, Expr, Command, Routine, literal, home, cast, null, sum, read, op, skip, then, store, if_else, while}
use Rattle.laws.specs.Formed.{Fits, CommandFits, Consecutive, last, behind, Formed}
use Rattle.laws.specs.WellRead.{Whole, Fifth, absent, present, WellRead}

Both : List ℕ → ℕ → ℕ → Type 0
Both s h q = Whole s (Values h) q × (q + 2 + 8 * half s q ≡ length s)

Both_prop : (s : List ℕ) (h q : ℕ) → IsProp (Both s h q)
unfolding Both
Both_prop s h q = Prim.hlevel logic.props

Absent_prop : (s : List ℕ) (q : ℕ) → IsProp (q ≡ length s)
Absent_prop s q = Prim.hlevel logic.props

pub Fifth_prop : (s : List ℕ) (h q : ℕ) → IsProp (Fifth s h q)
unfolding Both
Fifth_prop s h q (absent e) (absent e') = ap absent (Absent_prop s q e e')
Fifth_prop s h q (absent e) (present w f) = absurd (omega (arith, e, f))
Fifth_prop s h q (present w f) (absent e) = absurd (omega (arith, e, f))
Fifth_prop s h q (present w f) (present w' f') = ap {A = Both s h q} (λ b. present b.0 b.1) (Both_prop s h q (w, f) (w', f'))

pub WellRead_prop : (s : List ℕ) (at : Starts) → IsProp (WellRead s at)
WellRead_prop s at = Prim.hlevel (logic.props, Fifth_prop)

Behind_prop : (from : ℕ) (h : Home) (hs : List Home) → IsProp (Consecutive (from + h.size) hs) → IsProp ((h.start ≡ from) × Consecutive (from + h.size) hs)
Behind_prop from h hs p = Prim.hlevel (logic.props, p)

Consecutive_prop : (from : ℕ) (hs : List Home) → IsProp (Consecutive from hs)
Consecutive_prop from [] last last = refl
Consecutive_prop from (h ∷ hs) (behind e c) (behind e' c') =
    ap {A = (h.start ≡ from) × Consecutive (from + h.size) hs} (λ b. behind b.0 b.1)
    (Behind_prop from h hs (Consecutive_prop (from + h.size) hs) (e, c) (e', c'))

Fits_prop : (r : Routine) (e : ℕ) (x : Expr) → IsProp (Fits r e x)
Fits_prop r e (literal n) = Prim.hlevel logic.props
Fits_prop r e (home g) = Prim.hlevel logic.props
Fits_prop r e (cast a t) = Prim.hlevel logic.props
Fits_prop r e (null t) = Prim.hlevel logic.props
Fits_prop r e (sum a b) = Prim.hlevel logic.props
Fits_prop r e (read a) = Prim.hlevel logic.props
Fits_prop r e (op o a b) = Prim.hlevel logic.props
Fits_prop r e Expr.none = Prim.hlevel logic.props

CommandFits_prop : (r : Routine) (c : ℕ) (x : Command) → IsProp (CommandFits r c x)
CommandFits_prop r c skip = Prim.hlevel logic.props
CommandFits_prop r c (then a b) = Prim.hlevel logic.props
CommandFits_prop r c (store a b) = Prim.hlevel logic.props
CommandFits_prop r c (if_else a b d) = Prim.hlevel logic.props
CommandFits_prop r c (while a b) = Prim.hlevel logic.props
CommandFits_prop r c Command.none = Prim.hlevel logic.props

pub Formed_prop : (r : Routine) → IsProp (Formed r)
Formed_prop r = Prim.hlevel (logic.props, Consecutive_prop, Fits_prop, CommandFits_prop)

-- ---- an answer of a stage

abbrev starts_of : ℕ × (ℕ × (ℕ × (ℕ × ℕ))) → Starts
starts_of (a, (b, (c, (d, e)))) = record { types = a; homes = b; exprs = c; commands = d; values = e }

coded_starts : Coded Starts
coded_starts =
    code_by (ℕ × (ℕ × (ℕ × (ℕ × ℕ)))) (coded× coded_ℕ (coded× coded_ℕ (coded× coded_ℕ (coded× coded_ℕ coded_ℕ))))
    (λ at. (at.types, (at.homes, (at.exprs, (at.commands, at.values)))))
    starts_of
    (λ _. refl)

abbrev split : Verdict Starts → Starts ⊎ (ℕ × ℕ)
split (fine at) = inl at
split (refused n p) = inr (n, p)

abbrev join : Starts ⊎ (ℕ × ℕ) → Verdict Starts
join (inl at) = fine at
join (inr (n, p)) = refused n p

join_split : (v : Verdict Starts) → join (split v) ≡ v
join_split (fine at) = refl
join_split (refused n p) = refl

pub verdict_prop : (v w : Verdict Starts) → IsProp (v ≡ w)
verdict_prop v w = Coded-set (code_by (Starts ⊎ (ℕ × ℕ)) (coded⊎ coded_starts (coded× coded_ℕ coded_ℕ)) split join join_split) v w

-- ---- a kind

number : Kind → ℕ
number int = 0
number SAFE = 1
number SEQ = 2
number DYNAMIC = 3

kind_by : ℕ → Kind
kind_by zero = int
kind_by (suc zero) = SAFE
kind_by (suc (suc zero)) = SEQ
kind_by (suc (suc (suc n))) = DYNAMIC

kind_again : (k : Kind) → kind_by (number k) ≡ k
unfolding number kind_by
kind_again int = refl
kind_again SAFE = refl
kind_again SEQ = refl
kind_again DYNAMIC = refl

pub Kind_set : IsSet Kind
Kind_set = Coded-set (code_by ℕ coded_ℕ number kind_by kind_again)
