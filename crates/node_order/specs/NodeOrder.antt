-- The nodes of a design in their order, or why they make no design (continuous assignments, gates and blocks of IEEE 1364-2001, clause 6, clause 7 and clause 9; that nodes are acyclic, and
-- that a node has few inputs, is own).
use Rattle.std.specs.Prelude.{ℕ, List, length, Option, Some, None, Result, Ok, slice_get}
use Rattle.v_design.specs.Designs.{FlatObject, FlatNode}
use Rattle.v_elab.specs.Refusals.{Refusal, LoopAt, then_go, unless_refused}
use Rattle.v_elab.specs.Ranks.{least_loop, by_rank}
use Rattle.v_elab.specs.Flat.{some_inputs_over}

-- the declaration of an object that reaches itself
abbrev pub loop_of : Option FlatObject → Option Refusal
loop_of None = None
loop_of (Some object) = Some (LoopAt object.place)

abbrev pub loop_of_number : List FlatObject → Option ℕ → Option Refusal
loop_of_number objects None = None
loop_of_number objects (Some number) = loop_of (slice_get objects number)

-- the declaration of the least object that reaches itself through nodes
abbrev pub loop_among : List FlatObject → List FlatNode → Option Refusal
loop_among objects nodes = loop_of_number objects (least_loop (length objects) nodes)

-- nodes with too many inputs, then a loop, are refused; else they stand by rank
abbrev pub ordered_nodes : List FlatObject → List FlatNode → Result (List FlatNode) Refusal
ordered_nodes objects nodes =
    then_go (unless_refused (some_inputs_over nodes) nodes) (λ few. then_go (unless_refused (loop_among objects few) few) (λ acyclic. Ok (by_rank acyclic)))
