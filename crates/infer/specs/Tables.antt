-- What inference over plain tables gives: the least marking at or above the one given that suits the tables.
-- T has the target of each type, C the conversions.
use Rattle.std.specs.Prelude.{◌≡◌, ℕ, ◌≤◌, List, length}
use Rattle.std.specs.List.{All}
use Rattle.std.proofs.Math.ListN.{get_or-eq_default}
use Rattle.laws.specs.Convert.{Conv, Spread}
use Rattle.raise.specs.declared.Conversion.{Conversion}
use Rattle.raise.specs.Marks.{at, Below}
use Rattle.links.specs.Plain.{plain}

-- Acceptable, as far as types and conversions between references go.
pub record Suits (n : ℕ) (T : List ℕ) (C : List Conversion) (w : List ℕ) : Type 0 where
  pub spread : Spread (plain n T) w
  pub convs : All (λ c. Conv (plain n T) w c.from c.to) C

pub record LeastAbove (T : List ℕ) (C : List Conversion) (m₀ m : List ℕ) : Type 0 where
  pub size : length m ≡ length m₀
  pub suits : Suits (length m₀) T C m
  pub above : Below m₀ m
  pub lowest : (w : List ℕ) → Suits (length m₀) T C w → Below m₀ w → Below m w

-- Past its end a marking has 0.
pub past : (m : List ℕ) (i : ℕ) → length m ≤ i → at m i ≡ 0
past m i l = get_or-eq_default m 0 {n = i} l
