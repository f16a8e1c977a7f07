-- The kind rules of a routine as a graph over its types: where a kind begins, and from which type to which it passes.
-- A marking is acceptable exactly if it meets every demand of the graph (`Promises.Meeting`).
use Rattle.std.specs.Prelude.{ℕ, zero, suc, ◌≤◌, List, [], ◌∷◌, ◌++◌, get_or}
use Rattle.rules.specs.declared.Need.{Need}
use Rattle.rules.specs.declared.Need.TheVariants.{Nothing, Moving, Converting}
use Rattle.rules.specs.Table.{Routine}
use Rattle.rules.specs.Kinds.{expr_need, command_need}

-- ---- demands

-- Why a type has a kind. It begins at the a of a pointer sum, at a reference made of an int, and at a pair of types of which only one target is int;
-- it passes between the types of a pair, and from a DYNAMIC type to what it points to.
pub data Rule : Type 0 where
  pointerSum madeOfInt oneTargetInt paired pointedTo : Rule

-- `source rule place k t`: type t has kind k at least. `edge rule place k s t`: it has if the other type, s, has. The rule applies at the row at this
-- place, and k is the marking's byte: 1 SEQ, 2 DYNAMIC. A source has no other type.
pub data Demand : Type 0 where
  source : Rule → ℕ → ℕ → ℕ → Demand
  edge : Rule → ℕ → ℕ → ℕ → ℕ → Demand

-- The byte of type t; int has 0.
abbrev pub byte_of : List ℕ → ℕ → ℕ
byte_of m zero = 0
byte_of m (suc t) = get_or m t 0

abbrev pub Meets : List ℕ → Demand → Type 0
Meets m (source rule place k t) = k ≤ byte_of m t
Meets m (edge rule place k s t) = k ≤ byte_of m s → k ≤ byte_of m t

-- P holds of each demand of a list.
abbrev pub Each : (Demand → Type 0) → List Demand → Type 0
Each P [] = Unit {0}
Each P (d ∷ ds) = P d × Each P ds

-- ---- the demands of a conversion, whose row is at place p

-- Kind k passes between the types of a pair both ways.
abbrev pub across : ℕ → ℕ → ℕ → ℕ → List Demand
across p k t u = edge paired p k t u ∷ edge paired p k u t ∷ []

-- Both types of a pair are DYNAMIC where only one of their targets, the first two numbers, is int.
abbrev pub ends : ℕ → ℕ → ℕ → ℕ → ℕ → List Demand
ends p zero zero t u = []
ends p zero (suc b) t u = source oneTargetInt p 2 t ∷ source oneTargetInt p 2 u ∷ []
ends p (suc a) zero t u = source oneTargetInt p 2 t ∷ source oneTargetInt p 2 u ∷ []
ends p (suc a) (suc b) t u = []

-- A pair below the outermost, then the pair of their targets, level by level until one is int. d bounds the levels.
abbrev pub pairs : Routine → ℕ → ℕ → ℕ → ℕ → List Demand
pairs r p zero t u = []
pairs r p (suc d) zero u = []
pairs r p (suc d) (suc t) zero = []
pairs r p (suc d) (suc t) (suc u) =
    across p 1 (suc t) (suc u)
    ++ across p 2 (suc t) (suc u)
    ++ ends p (r.target (suc t)) (r.target (suc u)) (suc t) (suc u)
    ++ pairs r p d (r.target (suc t)) (r.target (suc u))

-- The outermost pair of a conversion of s to t: SEQ passes only from t back to s.
abbrev pub conversion : Routine → ℕ → ℕ → ℕ → List Demand
conversion r p s zero = []
conversion r p zero (suc t) = source madeOfInt p 1 (suc t) ∷ []
conversion r p (suc s) (suc t) =
    edge paired p 1 (suc t) (suc s)
    ∷ across p 2 (suc s) (suc t)
    ++ ends p (r.target (suc s)) (r.target (suc t)) (suc s) (suc t)
    ++ pairs r p (suc r.types) (r.target (suc s)) (r.target (suc t))

-- ---- the demands of each row

-- DYNAMIC passes from type t to its target, unless that is int.
abbrev pub target_demands : ℕ → ℕ → ℕ → List Demand
target_demands p t zero = []
target_demands p t (suc u) = edge pointedTo p 2 t (suc u) ∷ []

abbrev pub need_demands : Routine → ℕ → Need → List Demand
need_demands r p Nothing = []
need_demands r p (Moving t) = source pointerSum p 1 t ∷ []
need_demands r p (Converting s t) = conversion r p s t

-- ---- the graph of a routine

-- Rows 0 to n - 1, one after the other.
abbrev pub gather : (ℕ → List Demand) → ℕ → List Demand
gather f zero = []
gather f (suc n) = gather f n ++ f n

abbrev pub type_demands : Routine → ℕ → List Demand
type_demands r i = target_demands (r.type_place (suc i)) (suc i) (r.target (suc i))

abbrev pub expr_demands : Routine → ℕ → List Demand
expr_demands r e = need_demands r (r.expr_place e) (expr_need r (r.expr e))

abbrev pub command_demands : Routine → ℕ → List Demand
command_demands r c = need_demands r (r.command_place c) (command_need r (r.command c))

unfoldable pub demands : Routine → List Demand
demands r = gather (type_demands r) r.types ++ (gather (expr_demands r) r.exprs ++ gather (command_demands r) r.commands)
