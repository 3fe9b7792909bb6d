-- The rest that belongs to each position of compiled code, and where its steps lead (IEEE 1364-2001, clause 9).
use Rattle.std.specs.Prelude.{◌≡◌, ℕ, suc, zero, ◌+◌, ◌≤◌, ◌<◌, List, [], ◌∷◌, ◌++◌, map, length, get_or, slice_get, Option, Some, None}
use Rattle.vf_base.specs.Base.{SourcePlace}
use Rattle.v_design.specs.Trees.{Statement, Null, Block, If, Case, For, While, Repeat, Forever, Delay, EventControl, Wait, Blocking, Nonblocking, Finish, Statements, no_statements, more_statements}
use Rattle.v_design.specs.Trees.{CaseItems, no_items, more_items}
use Rattle.v_design.specs.Processes.{loop_of}
use Rattle.v_design.specs.Plain.{statement_of}
use Rattle.process_code.specs.Rests.{Part, Runs, TurnsLeft, opened_parts, NumbersFall}
use Rattle.process_code.specs.declared.code.Head.{Head}
use Rattle.process_code.specs.declared.code.Head.TheVariants.{Statement as Begins, Test, Advance, Turns}
use Rattle.process_code.specs.declared.code.Spot.{Spot}
use Rattle.process_code.specs.declared.code.Ways.{Ways}
use Rattle.process_code.specs.declared.code.Code.{Code}

-- the loop that a for goes on as
abbrev pub loop_part : Statement → Part
loop_part (For place first_targets first condition next_targets next body) = Runs (loop_of place condition next_targets next body)
loop_part other = Runs other

-- the assignment that ends a turn of a for
abbrev pub advance_part : Statement → Part
advance_part (For place first_targets first condition next_targets next body) = Runs (Blocking place next_targets None next)
advance_part other = Runs other

-- the turns of a repeat with a number
abbrev pub turns_part : ℕ → Statement → Part
turns_part number (Repeat place count body) = TurnsLeft number place body
turns_part number other = Runs other

-- what is first in a rest
abbrev pub part_of_head : Head → Part
part_of_head (Begins s) = Runs (statement_of s.now)
part_of_head (Test s) = loop_part (statement_of s.now)
part_of_head (Advance s) = advance_part (statement_of s.now)
part_of_head (Turns s number) = turns_part number (statement_of s.now)

-- the rests of some positions, and those of more spots
abbrev pub rests_from : List (List Part) → List Spot → List (List Part)
rests_from rests [] = rests
rests_from rests (spot ∷ spots) = rests_from (rests ++ ((part_of_head spot.head ∷ get_or rests spot.next []) ∷ [])) spots

-- the rest that belongs to each position: none at the end, at position 0
abbrev pub rests_of : List Spot → List (List Part)
rests_of spots = rests_from ([] ∷ []) spots

-- a rest belongs to a position
abbrev pub StandsAt : List (List Part) → ℕ → List Part → Type 0
StandsAt rests position rest = slice_get rests position ≡ Some rest

-- the positions of a case's items
abbrev pub ItemsLead : List (List Part) → List ℕ → CaseItems → List Part → Type 0
ItemsLead rests [] no_items after = Unit {0}
ItemsLead rests (position ∷ positions) no_items after = ⊥
ItemsLead rests [] (more_items labels statement others) after = ⊥
ItemsLead rests (position ∷ positions) (more_items labels statement others) after =
    StandsAt rests position (opened_parts statement after) × ItemsLead rests positions others after

-- where the steps of a part lead, with so many repeats in the process, before a rest
abbrev pub PartLeads : ℕ → List (List Part) → Ways → Part → List Part → Type 0
PartLeads repeats rests ways (Runs Null) after = ⊥
PartLeads repeats rests ways (Runs (Block many)) after = ⊥
PartLeads repeats rests ways (Runs (If place condition first second)) after =
    StandsAt rests ways.inner (opened_parts first after) × StandsAt rests ways.other (opened_parts second after)
PartLeads repeats rests ways (Runs (Case place kind value items default)) after =
    ItemsLead rests ways.items.items items after × StandsAt rests ways.other (opened_parts default after)
PartLeads repeats rests ways (Runs (For place first_targets first condition next_targets next body)) after =
    StandsAt rests ways.inner (Runs (loop_of place condition next_targets next body) ∷ after)
PartLeads repeats rests ways (Runs (While place condition body)) after = StandsAt rests ways.inner (opened_parts body (Runs (While place condition body) ∷ after))
PartLeads repeats rests ways (Runs (Repeat place count body)) after = (ways.other < repeats) × NumbersFall ways.other after × StandsAt rests ways.inner (TurnsLeft ways.other place body ∷ after)
PartLeads repeats rests ways (Runs (Forever place body)) after = StandsAt rests ways.inner (opened_parts body (Runs (Forever place body) ∷ after))
PartLeads repeats rests ways (Runs (Delay place delay body)) after = StandsAt rests ways.inner (opened_parts body after)
PartLeads repeats rests ways (Runs (EventControl place entries body)) after = StandsAt rests ways.inner (opened_parts body after)
PartLeads repeats rests ways (Runs (Wait place condition body)) after =
    StandsAt rests ways.inner (opened_parts body after)
PartLeads repeats rests ways (Runs (Blocking place targets delay value)) after = Unit {0}
PartLeads repeats rests ways (Runs (Nonblocking place targets delay value)) after = Unit {0}
PartLeads repeats rests ways (Runs (Finish place)) after = Unit {0}
PartLeads repeats rests ways (TurnsLeft number place body) after =
    (number < repeats) × NumbersFall number after × StandsAt rests ways.inner (opened_parts body (TurnsLeft number place body ∷ after))
