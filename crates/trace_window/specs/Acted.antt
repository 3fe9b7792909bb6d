-- Which node the events of a window evaluate, and which processes take steps by them, numbered through (events by IEEE 1364-2001, clause 5).
use Rattle.std.specs.Prelude.{ℕ, Bool, false, List, [], ◌∷◌, map, Option, Some, None, nat_eq, slice_get}
use Rattle.v_design.specs.States.{Event, Step, LaneStep, Evaluation, NetUpdate}
use Rattle.window_index.specs.declared.occurrence.Occurrence.{Occurrence}
use Rattle.trace_window.specs.Moments.{Seen}
use Rattle.trace_window.specs.Occurring.{occurrences_from}

-- the node that an event evaluates
abbrev pub node_evaluated : Event → Option ℕ
node_evaluated (Step process) = None
node_evaluated (LaneStep process) = None
node_evaluated (Evaluation node) = Some node
node_evaluated (NetUpdate node) = None

-- the process that takes a step by an event, itself or its lane
abbrev pub process_stepped : Event → Option ℕ
process_stepped (Step process) = Some process
process_stepped (LaneStep process) = Some process
process_stepped (Evaluation node) = None
process_stepped (NetUpdate node) = None

-- whether there is a number, and it is this one
abbrev pub is_number : ℕ → Option ℕ → Bool
is_number number None = false
is_number number (Some other) = nat_eq other number

-- whether the event of a number evaluates a node, if there is such an event
abbrev pub evaluated_at : List Seen → ℕ → ℕ → Bool
evaluated_at events node number = elim (slice_get events number) [ None ↦ false | Some seen ↦ is_number node (node_evaluated seen.event) ]

-- whether it is a step of a process or of its lane
abbrev pub stepped_at : List Seen → ℕ → ℕ → Bool
stepped_at events process number = elim (slice_get events number) [ None ↦ false | Some seen ↦ is_number process (process_stepped seen.event) ]

-- the events alone
abbrev pub events_of : List Seen → List Event
events_of seen = map (λ (one : Seen). one.event) seen

-- a number, if there is one, as an occurrence at a moment
abbrev pub occurrence_at : ℕ → Option ℕ → List Occurrence
occurrence_at moment None = []
occurrence_at moment (Some number) = record { number = number; moment = moment } ∷ []

-- the nodes that some events evaluate, the first of which has a number
abbrev pub evaluations_from : ℕ → List Event → List Occurrence
evaluations_from number events = occurrences_from (λ moment event. occurrence_at moment (node_evaluated event)) number events

-- the processes that take steps by them
abbrev pub steps_from : ℕ → List Event → List Occurrence
steps_from number events = occurrences_from (λ moment event. occurrence_at moment (process_stepped event)) number events
