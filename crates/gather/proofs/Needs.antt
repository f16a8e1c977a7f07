-- Rows noted: none yet, and what it takes to note a need, by what the need is.
use Rattle.std.specs.Prelude.{◌≡◌, refl, true, ℕ, zero, suc, ◌≤◌, List, [], ◌∷◌, ◌++◌, get_or, replicate}
use Rattle.std.proofs.Common.{sym, zero-le, not-suc-le-zero, arith}
use Rattle.std.proofs.lemmas.List.{append-nil, length-replicate}
use Rattle.std.proofs.lemmas.List.Elements.{All-nil}
use Rattle.rules.specs.declared.Need.{Need}
use Rattle.rules.specs.declared.Need.TheVariants.{Nothing, Moving, Converting}
use denote.Enum.Declared.{tag_of}
use Rattle.rules.specs.contracts.Need as needs
use Rattle.rules.specs.Table.{Routine}
use Rattle.rules.specs.Kinds.{converts}
use Rattle.rules.specs.Graph.{byte_of}
use Rattle.laws.specs.Convert.{from_int}
use Rattle.raise.specs.declared.Conversion.{Conversion}
use Rattle.raise.specs.Marks.{zeros, Below, below_same, kept, Raised}
use Rattle.gather.specs.Gathered.{Listed}
use Rattle.gather.specs.Notes.{Noted}
use Rattle.gather.specs.Gathering.{Noting}

-- No row yet, and all SAFE.
pub noting_none : {r : Routine} {m : List ℕ} → m ≡ replicate r.types 0 → Noting r 0 0 [] m
noting_none {r} e =
    rw e
    (record {
      count = omega arith;
      size = length-replicate r.types 0;
      listed = All-nil _;
      exprs = λ i l. absurd (not-suc-le-zero l);
      commands = λ i l. absurd (not-suc-le-zero l);
      follows = λ w a. record { seeds = record { each = λ i. rw (zeros r.types i) zero-le }; convs = All-nil _ };
    })

module _ {C : List Conversion} {m : List ℕ} where
  pub noted_nothing : {x : Need} → tag_of needs.the_type x ≡ 0 → Noted C m x C m
  noted_nothing {x = Nothing} e =
      record { listed = sym (append-nil C); size = refl; grows = below_same; gets = λ l. absurd (not-suc-le-zero l); below = λ w b h. b }
  noted_nothing {x = Moving t} e = absurd (omega arith)
  noted_nothing {x = Converting s t} e = absurd (omega arith)

  -- A type that is to move: SEQ at least.
  pub noted_moving : {x : Need} {t : ℕ} {m' : List ℕ} → x ≡ Moving t → Raised m m' t 1 → Noted C m x C m'
  noted_moving {t = zero} e r = absurd (not-suc-le-zero r.gets)
  noted_moving {t = suc t} e r =
      rw e
      (record { listed = sym (append-nil C); size = r.size; grows = r.grows; gets = λ _. r.gets; below = λ w b h. r.below w b (h (omega arith)) })

  pub noted_converting : {x : Need} {s t : ℕ} {C' : List Conversion} {m' : List ℕ} → x ≡ Converting s t → Noted C m (Converting s t) C' m' → Noted C m x C' m'
  noted_converting e d = rw e d

  -- To int: nothing to note.
  pub noted_none : {s t : ℕ} → t ≡ 0 → Noted C m (Converting s t) C m
  noted_none {t = zero} e =
      record { listed = sym (append-nil C); size = refl; grows = below_same; gets = λ l. absurd (not-suc-le-zero l); below = λ w b h. b }
  noted_none {t = suc t} e = absurd (omega arith)

  -- From int: a seed.
  pub noted_seed : {s t : ℕ} {m' : List ℕ} → s ≡ 0 → 1 ≤ t → Raised m m' t 1 → Noted C m (Converting s t) C m'
  noted_seed {s = suc s} e l r = absurd (omega arith)
  noted_seed {s = zero} {t = zero} e l r = absurd (not-suc-le-zero l)
  noted_seed {s = zero} {t = suc t} e l r =
      record { listed = sym (append-nil C); size = r.size; grows = r.grows; gets = λ _. r.gets; below = λ w b h. r.below w b (h l) }

  -- Between references: one conversion more in the list.
  pub noted_push : {s t : ℕ} → 1 ≤ s → 1 ≤ t → Noted C m (Converting s t) (C ++ record { from = s; to = t } ∷ []) m
  noted_push {s = zero} l h = absurd (not-suc-le-zero l)
  noted_push {s = suc s} {t = zero} l h = absurd (not-suc-le-zero h)
  noted_push {s = suc s} {t = suc t} l h =
      record { listed = refl; size = refl; grows = below_same; gets = λ z. absurd (not-suc-le-zero z); below = λ w b z. b }

-- What is listed stays so in a marking above.
pub listed_grows : (C : List Conversion) {m m' : List ℕ} → Below m m' → (s t : ℕ) → Listed C m s t → Listed C m' s t
listed_grows C g s zero h = tt
listed_grows C g zero (suc t) h = kept g (suc t) h
listed_grows C g (suc s) (suc t) h = h

-- A reference that a marking lets be made of an int is SEQ there at least.
pub int_converts : (r : Routine) (w : List ℕ) (s t : ℕ) → converts r w s t ≡ true → s ≡ 0 → 1 ≤ t → 1 ≤ byte_of w t
unfolding converts
int_converts r w (suc s) t h e l = absurd (omega arith)
int_converts r w zero zero h e l = absurd (not-suc-le-zero l)
int_converts r w zero (suc t) h e l = from_int (get_or w t 0) true h
