-- What an index tells of the slots of the good machine, so that nothing in them touches what differs.
use Rattle.std.proofs.Common.{◌≡◌, ℕ, zero, suc, ◌+◌, List, [], ◌∷◌, Bool, true, false, refl, sym, ap, subst, ◌∙◌}
use Rattle.std.specs.Prelude.{Option, Some, None, is_some, slice_get}
use Rattle.four_value.specs.Values.{LogicValue}
use Rattle.vf_base.specs.Lists.{AllHold}
use Rattle.v_design.specs.Designs.{FlatDesign, FlatNode, Machine, StuckAt, good_machine, faulty_machine}
use Rattle.v_design.specs.States.{State, Event, TurnKind, PostponedTurn, UpdatesTurn, TimeTurn, node_at, possible, after, turn_of, turned, time_turn}
use Rattle.v_design.specs.Runs.{Move, Happens, Turns, FirstSlot, first_event, turn_in_slot, event_or_turn, turned_by, made, is_counted, less_one_if, slot_moves, most_steps, most_moves, first_run}
use Rattle.v_design.specs.Grades.{SlotOutcome, Fine, Hyper, phases, first_race, race_or_fine, slot_outcome}
use Rattle.v_design.specs.Laws.{BeginsPhase}
use Rattle.v_design.specs.Runs.{is_hyper}
use Rattle.v_design.specs.WellFormed.{KeepsRules}
use Rattle.order_laws.specs.NodesRest.{NodesRestOnInputs}
use Rattle.order_laws.specs.Settling.{FirstEvents}
use Rattle.machine_laws.specs.SlotLoop.{slot_from}
use Rattle.copy_laws.specs.Differences.{Differences, StandsFor, KeepsNothingEqual}
use Rattle.copy_laws.specs.Touches.{OtherSitesAreFree}
use Rattle.copy_laws.specs.Windows.{state_at}
use Rattle.grade_laws.specs.Ahead.{StopsAfter}
use Rattle.beside_laws.specs.Stands.{RunsStand}
use Rattle.trace_window.specs.Moments.{slot_seen}
use Rattle.v_design.specs.Grades.{first_stop}
use Rattle.quiet_slots.specs.FirstSlots.{RestsAfterSlot, FirstSlotsStand}
use Rattle.quiet_slots.specs.Pending.{PendingFrom, Before, Now, pending-from, begun-widths, begun-idle}
use Rattle.quiet_slots.specs.Quiet.{IsFreeBeside}
use Rattle.quiet_slots.specs.SlotMoves.{seen_moves, slot-seen, through-get}
use Rattle.quiet_index.specs.Indexed.{LeavesAlone, IndexTellsQuiet}
use Rattle.quiet_index.proofs.Alone.{NoneDiffers, UpdatesClean, none-apart, event-free}
use Rattle.quiet_index.proofs.Settled.{CleanNode, clean-node}

pub record IndexLaws : Type 0 where
  pub sites : OtherSitesAreFree
  pub nodes_rest : NodesRestOnInputs
  pub first : FirstEvents
  pub slots : FirstSlotsStand
  pub stand : RunsStand

-- What holds in a slot

-- a copy of values alone, for which each node is clean
pub record ValuesAlone (design : FlatDesign) (fault : StuckAt) (d : Differences) : Type 0 where
  pub activities : d.activities ≡ []
  pub updates : d.updates ≡ []
  pub clean : (number : ℕ) (node : FlatNode) → slice_get design.nodes number ≡ Some node → CleanNode design fault d number node

-- each pending update of a node writes nothing that differs
abbrev PendingClean : FlatDesign → Differences → State → Type 0
PendingClean design d state =
    (number : ℕ) (node : FlatNode) (given : List LogicValue) → slice_get design.nodes number ≡ Some node → (node_at state number).pending ≡ Some given → NoneDiffers d node.outputs

after-clean : (design : FlatDesign) (fault : StuckAt) (d : Differences) → ValuesAlone design fault d → (state : State) (event : Event) →
    LeavesAlone design fault d (record { before = state; event = event }) → PendingClean design d state → PendingClean design d (after (good_machine design) state event)
after-clean design fault d values state event alone clean number node given here pending = go (pending-from (good_machine design) state event number given pending)
  where
    go : PendingFrom (good_machine design) state event number given → NoneDiffers d node.outputs
    go (Before was) = clean number node given here was
    go (Now is) = values.clean number node here (alone.site_node number is) (λ input h. alone.inputs number input node is here h)

turned-clean : (design : FlatDesign) (d : Differences) (turn : TurnKind) (state : State) → PendingClean design d state → PendingClean design d (turned turn state)
turned-clean design d PostponedTurn state clean = clean
turned-clean design d UpdatesTurn state clean = clean
turned-clean design d (TimeTurn time) state clean = clean

-- the update that the first order makes is pending
update-clean : FirstEvents → (design : FlatDesign) (d : Differences) (state : State) (event : Event) → first_event state ≡ Some event → PendingClean design d state → UpdatesClean design d event
update-clean law design d state event first clean number node is here =
    go (node_at state number).pending refl (ap (possible state) (sym is) ∙ law.may state event first)
  where
    go : (pending : Option (List LogicValue)) → (node_at state number).pending ≡ pending → is_some pending ≡ true → NoneDiffers d node.outputs
    go None at e = cc
    go (Some given) at e = clean number node given here at

-- The walk

abbrev moves_from : ℕ → ℕ → Machine → State → Option Move → List Move
moves_from most left machine state None = []
moves_from most left machine state (Some move) = move ∷ slot_moves most (less_one_if (is_counted move) (suc left)) machine (made machine state move)

abbrev AreAlone : FlatDesign → StuckAt → Differences → State → List Move → Type 0
AreAlone design fault d state moves = AllHold (LeavesAlone design fault d) (seen_moves (good_machine design) state moves)

abbrev AreFree : FlatDesign → StuckAt → Differences → State → State → List Move → Type 0
AreFree design fault d other state moves = AllHold (IsFreeBeside design fault d other) (seen_moves (good_machine design) state moves)

abbrev FreeFrom : FlatDesign → StuckAt → Differences → State → ℕ → Type 0
FreeFrom design fault d other most =
    (left : ℕ) (state : State) → PendingClean design d state → AreAlone design fault d state (slot_moves most left (good_machine design) state) →
    AreFree design fault d other state (slot_moves most left (good_machine design) state)

turn-free : (design : FlatDesign) (fault : StuckAt) (d : Differences) (other : State) (most left : ℕ) (state : State) → PendingClean design d state → FreeFrom design fault d other most →
    (turn : Option TurnKind) → turn_of state ≡ turn → AreAlone design fault d state (moves_from most left (good_machine design) state (turn_in_slot turn)) →
    AreFree design fault d other state (moves_from most left (good_machine design) state (turn_in_slot turn))
turn-free design fault d other most left state clean rest None t alone = tt
turn-free design fault d other most left state clean rest (Some (TimeTurn time)) t alone = tt
turn-free design fault d other most left state clean rest (Some PostponedTurn) t alone =
    rest (suc left) (made (good_machine design) state Turns)
    (subst (PendingClean design d) (ap (λ o. turned_by o state) (sym t)) (turned-clean design d PostponedTurn state clean)) alone
turn-free design fault d other most left state clean rest (Some UpdatesTurn) t alone =
    rest (suc left) (made (good_machine design) state Turns)
    (subst (PendingClean design d) (ap (λ o. turned_by o state) (sym t)) (turned-clean design d UpdatesTurn state clean)) alone

move-free : IndexLaws → (design : FlatDesign) (fault : StuckAt) (d : Differences) → ValuesAlone design fault d → (other : State) (most left : ℕ) (state : State) → PendingClean design d state →
    FreeFrom design fault d other most → (found : Option Event) → first_event state ≡ found →
    AreAlone design fault d state (moves_from most left (good_machine design) state (event_or_turn found (turn_of state))) →
    AreFree design fault d other state (moves_from most left (good_machine design) state (event_or_turn found (turn_of state)))
move-free laws design fault d values other most left state clean rest (Some event) e alone = (
  event-free laws.sites design fault d values.activities values.updates state other event alone.0 (update-clean laws.first design d state event e clean),
  rest (less_one_if (is_counted (Happens event)) (suc left)) (after (good_machine design) state event) (after-clean design fault d values state event alone.0 clean) alone.1,
)
move-free laws design fault d values other most left state clean rest None e alone = turn-free design fault d other most left state clean rest (turn_of state) refl alone

frees : IndexLaws → (design : FlatDesign) (fault : StuckAt) (d : Differences) → ValuesAlone design fault d → (other : State) (most : ℕ) → FreeFrom design fault d other most
frees laws design fault d values other zero left state clean alone = tt
frees laws design fault d values other (suc most) zero state clean alone = tt
frees laws design fault d values other (suc most) (suc left) state clean alone =
    move-free laws design fault d values other most left state clean (frees laws design fault d values other most) (first_event state) refl alone

-- A slot

slot-free : IndexLaws → (design : FlatDesign) (fault : StuckAt) (d : Differences) → ValuesAlone design fault d → (other : State) (slot : FirstSlot) → BeginsPhase (good_machine design) slot.begins →
    slot ≡ slot_from (good_machine design) slot.begins → AllHold (LeavesAlone design fault d) (slot_seen (good_machine design) slot) →
    AllHold (IsFreeBeside design fault d other) (slot_seen (good_machine design) slot)
slot-free laws design fault d values other slot begins is alone =
    subst (λ (s : FirstSlot). AllHold (IsFreeBeside design fault d other) (slot_seen (good_machine design) s)) (sym is)
    (subst (AllHold (IsFreeBeside design fault d other)) (sym (slot-seen (good_machine design) (slot_from (good_machine design) slot.begins)))
    (frees laws design fault d values other (most_moves (good_machine design)) (most_steps + 1) slot.begins
    (λ number node given here pending. absurd (let no : None ≡ Some given = sym (begun-idle (good_machine design) slot.begins begins number) ∙ pending in cc))
    (subst (AllHold (LeavesAlone design fault d)) (slot-seen (good_machine design) (slot_from (good_machine design) slot.begins))
    (subst (λ (s : FirstSlot). AllHold (LeavesAlone design fault d) (slot_seen (good_machine design) s)) is alone))))

-- The law

fine-few : (machine : Machine) (slot : FirstSlot) → slot_outcome machine slot ≡ Fine → is_hyper slot ≡ false
fine-few machine slot = go (is_hyper slot)
  where
    go : (hyper : Bool) → elim hyper as (λ _. SlotOutcome) [ true ↦ Hyper | false ↦ race_or_fine (first_race machine 1 (phases machine slot)) ] ≡ Fine → hyper ≡ false
    go true e = cc
    go false e = refl

rests-at : IndexLaws → (machine : Machine) → KeepsRules machine.design → (end time : ℕ) → StopsAfter time (first_stop machine (first_run machine end)) → RestsAfterSlot machine (state_at machine end time)
rests-at laws machine rules end time stops =
    let s = laws.stand.slot machine end time rules stops in
    subst (RestsAfterSlot machine) (sym s.state_is) (laws.slots.rests machine end s.number s.slot rules s.stands (fine-few machine s.slot s.fine))

values-alone : IndexLaws → (design : FlatDesign) (fault : StuckAt) → KeepsRules design → (d : Differences) (good faulty : State) → StandsFor d good faulty → KeepsNothingEqual d good →
    d.activities ≡ [] → d.updates ≡ [] → BeginsPhase (good_machine design) (time_turn 0 good) → BeginsPhase (faulty_machine design fault) (time_turn 0 faulty) → ValuesAlone design fault d
values-alone laws design fault rules d good faulty stands differ activities updates good_begins own_begins = record {
  activities = activities;
  updates = updates;
  clean = clean-node laws.nodes_rest laws.sites design fault rules d good faulty stands differ (begun-widths (good_machine design) (time_turn 0 good) good_begins)
      (begun-widths (faulty_machine design fault) (time_turn 0 faulty) own_begins) good_begins.settled own_begins.settled;
}

pub index_tells_quiet : IndexLaws → IndexTellsQuiet
index_tells_quiet laws design plan fault d from until rules copy activities updates good_on own_on alone = record {
  free = λ number slot here late early.
      let there = through-get (good_machine design) (first_run (good_machine design) plan.end) number slot here in
      slot-free laws design fault d values (state_at (faulty_machine design fault) plan.end from) slot
      (laws.slots.begins (good_machine design) plan.end number slot rules there) (laws.slots.moves (good_machine design) plan.end number slot rules there)
      (alone number slot here late early);
  sleep = λ process h. absurd (let no : true ≡ false = sym h ∙ none-apart d activities updates process in cc);
}
  where
    values : ValuesAlone design fault d
    values = values-alone laws design fault rules d (state_at (good_machine design) plan.end from) (state_at (faulty_machine design fault) plan.end from) copy.stands copy.nothing_equal activities updates
        ((rests-at laws (good_machine design) rules plan.end from good_on).begins 0) ((rests-at laws (faulty_machine design fault) rules plan.end from own_on).begins 0)
