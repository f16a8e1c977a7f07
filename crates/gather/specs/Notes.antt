-- A need noted: what it adds to the list of conversions, and to the seeds.
use Rattle.std.specs.Prelude.{◌≡◌, true, ℕ, zero, suc, ◌≤◌, List, [], ◌∷◌, ◌++◌, length}
use Rattle.std.specs.List.{All}
use Rattle.std.proofs.Common.{not-suc-le-zero, arith}
use Rattle.std.proofs.lemmas.List.Elements.{All-nil, All-cons, Contains-append_left, Contains-push}
use Rattle.rules.specs.declared.Need.{Need}
use Rattle.rules.specs.declared.Need.TheVariants.{Nothing, Moving, Converting}
use Rattle.rules.specs.Table.{Routine}
use Rattle.rules.specs.Kinds.{converts, need_met}
use Rattle.rules.specs.Graph.{byte_of}
use Rattle.laws.specs.Convert.{from_int, not_safe_byte}
use Rattle.laws.specs.Needs.{NeedFits}
use Rattle.raise.specs.declared.Conversion.{Conversion}
use Rattle.raise.specs.Marks.{Below, kept}
use Rattle.raise.specs.Demands.{Between}
use Rattle.gather.specs.Gathered.{Listed, NeedListed}

-- The conversion between references that a need asks, if it does.
abbrev pub asked : Need → List Conversion
asked Nothing = []
asked (Moving t) = []
asked (Converting s zero) = []
asked (Converting zero (suc t)) = []
asked (Converting (suc s) (suc t)) = record { from = suc s; to = suc t } ∷ []

-- The type that it asks to be SEQ at least; 0 for none.
abbrev pub seed : Need → ℕ
seed Nothing = 0
seed (Moving t) = t
seed (Converting s zero) = 0
seed (Converting zero (suc t)) = suc t
seed (Converting (suc s) (suc t)) = 0

-- List C and marking m have become C' and m' with a need noted.
pub record Noted (C : List Conversion) (m : List ℕ) (x : Need) (C' : List Conversion) (m' : List ℕ) : Type 0 where
  pub listed : C' ≡ C ++ asked x
  pub size : length m' ≡ length m
  pub grows : Below m m'
  pub gets : 1 ≤ seed x → 1 ≤ byte_of m' (seed x)
  pub below : (w : List ℕ) → Below m w → (1 ≤ seed x → 1 ≤ byte_of w (seed x)) → Below m' w

-- ---- what is added, by what the need is

pub asked_between : (n : ℕ) (x : Need) → NeedFits n x → All (Between n) (asked x)
asked_between n Nothing f = All-nil (Between n)
asked_between n (Moving t) f = All-nil (Between n)
asked_between n (Converting s zero) f = All-nil (Between n)
asked_between n (Converting zero (suc t)) f = All-nil (Between n)
asked_between n (Converting (suc s) (suc t)) f =
    All-cons (Between n) (record { from = suc s; to = suc t }) []
    (record { from = record { low = omega arith; high = f.0 }; to = record { low = omega arith; high = f.1 } }) (All-nil (Between n))

pub asked_few : (x : Need) → length (asked x) ≤ 1
asked_few Nothing = omega arith
asked_few (Moving t) = omega arith
asked_few (Converting s zero) = omega arith
asked_few (Converting zero (suc t)) = omega arith
asked_few (Converting (suc s) (suc t)) = omega arith

-- A marking that meets the need makes the conversion that is added, and has the seed at SEQ or above.
module _ (r : Routine) (w : List ℕ) where
  abbrev Made : Conversion → Type 0
  Made c = converts r w c.from c.to ≡ true

  pub asked_made : (x : Need) → need_met r w x ≡ true → All Made (asked x)
  asked_made Nothing h = All-nil Made
  asked_made (Moving t) h = All-nil Made
  asked_made (Converting s zero) h = All-nil Made
  asked_made (Converting zero (suc t)) h = All-nil Made
  asked_made (Converting (suc s) (suc t)) h = All-cons Made (record { from = suc s; to = suc t }) [] h (All-nil Made)

  pub seed_met : (x : Need) → need_met r w x ≡ true → 1 ≤ seed x → 1 ≤ byte_of w (seed x)
  unfolding converts
  seed_met Nothing h l = absurd (not-suc-le-zero l)
  seed_met (Moving t) h l = not_safe_byte w t h
  seed_met (Converting s zero) h l = absurd (not-suc-le-zero l)
  seed_met (Converting zero (suc t)) h l = from_int _ true h
  seed_met (Converting (suc s) (suc t)) h l = absurd (not-suc-le-zero l)

-- ---- what is listed

module _ (C : List Conversion) (m' : List ℕ) where
  pub need_listed : (n : ℕ) (x : Need) → NeedFits n x → (1 ≤ seed x → 1 ≤ byte_of m' (seed x)) → NeedListed (C ++ asked x) m' x
  need_listed n Nothing f g = tt
  need_listed n (Moving t) f g = g f.0
  need_listed n (Converting s zero) f g = tt
  need_listed n (Converting zero (suc t)) f g = g (omega arith)
  need_listed n (Converting (suc s) (suc t)) f g = Contains-push C (record { from = suc s; to = suc t })

  module _ (D : List Conversion) {m : List ℕ} (g : Below m m') where
    listed_kept : (s t : ℕ) → Listed C m s t → Listed (C ++ D) m' s t
    listed_kept s zero h = tt
    listed_kept zero (suc t) h = kept g (suc t) h
    listed_kept (suc s) (suc t) h = Contains-append_left C D (record { from = suc s; to = suc t }) h

    pub need_kept : (x : Need) → NeedListed C m x → NeedListed (C ++ D) m' x
    need_kept Nothing h = tt
    need_kept (Moving t) h = kept g t h
    need_kept (Converting s t) h = listed_kept s t h
