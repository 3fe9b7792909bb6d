-- The places of the statements of a process: each statement has the place of its first token (IEEE 1364-2001, clause 9).
use Rattle.std.specs.Prelude.{Bool, ◌&&◌, List, [], ◌∷◌, ◌++◌, nat_eq}
use Rattle.std.specs.List.{IsDistinct}
use Rattle.vf_base.specs.Base.{SourcePlace}
use Rattle.v_design.specs.Trees.{Statement, Null, Block, If, Case, For, While, Repeat, Forever, Delay, EventControl, Wait, Blocking, Nonblocking, Finish, Statements, no_statements, more_statements}
use Rattle.v_design.specs.Trees.{CaseItems, no_items, more_items}

-- two places are one
abbrev pub same_place : SourcePlace → SourcePlace → Bool
same_place one other = nat_eq one.line other.line && nat_eq one.column other.column

abbrev mutual
  -- the places of the statements that take steps in a statement, its own first; null statements and blocks take none
  pub places_in : Statement → List SourcePlace
  places_in Null = []
  places_in (Block statements) = places_in_all statements
  places_in (If place condition first second) = place ∷ (places_in first ++ places_in second)
  places_in (Case place kind value items default) = place ∷ (places_in_items items ++ places_in default)
  places_in (For place first_targets first condition next_targets next body) = place ∷ places_in body
  places_in (While place condition body) = place ∷ places_in body
  places_in (Repeat place count body) = place ∷ places_in body
  places_in (Forever place body) = place ∷ places_in body
  places_in (Delay place delay body) = place ∷ places_in body
  places_in (EventControl place entries body) = place ∷ places_in body
  places_in (Wait place condition body) = place ∷ places_in body
  places_in (Blocking place targets delay value) = place ∷ []
  places_in (Nonblocking place targets delay value) = place ∷ []
  places_in (Finish place) = place ∷ []

  pub places_in_all : Statements → List SourcePlace
  places_in_all no_statements = []
  places_in_all (more_statements first others) = places_in first ++ places_in_all others

  pub places_in_items : CaseItems → List SourcePlace
  places_in_items no_items = []
  places_in_items (more_items labels statement others) = places_in statement ++ places_in_items others

-- no two statements that take steps stand at one place; a text gives each statement a place of its own
abbrev pub PlacesDiffer : Statement → Type 0
PlacesDiffer statement = IsDistinct same_place (places_in statement)
