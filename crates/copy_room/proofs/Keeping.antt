-- What of a room's state is kept beside the good machine's.
use Rattle.std.proofs.Common.{◌≡◌, ℕ, zero, suc, ◌<◌, List, [], ◌∷◌, length, map, get_or, refl, sym, ap, subst, ◌∙◌, arith}
use Rattle.std.specs.Prelude.{Option}
use Rattle.std.proofs.lemmas.List.{ext_get_or, get_or-map, length-map}
use Rattle.std.proofs.lemmas.Option.{slice_get-get_or}
use Rattle.graph_order.specs.ListLaws.{AllHold-slice_get}
use Rattle.four_value.specs.Values.{LogicValue}
use Rattle.v_design.specs.Assignments.{value_at}
use Rattle.v_design.specs.Designs.{FlatDesign, FlatNode, FlatProcess, Machine, good_machine, width_in}
use Rattle.v_design.specs.Laws.{HaveWidths}
use Rattle.v_design.specs.Places.{PlacesDiffer}
use Rattle.v_design.specs.Plain.{process_of, statement_of}
use Rattle.v_design.specs.Processes.{Activity}
use Rattle.v_design.specs.States.{State, LaterUpdate, process_at, found_or, idle_node}
use Rattle.v_design.specs.WellFormed.{KeepsRules}
use Rattle.process_code.specs.Points.{activity_of}
use Rattle.process_code.specs.StatesOf.{IsStateOf}
use Rattle.process_code.specs.declared.code.Code.{Code}
use Rattle.process_code.specs.declared.state.ProcState.{ProcState}
use Rattle.run_ends.specs.RunEnds.{IsCodeAt, AreCodesOf}
use Rattle.between_slots.specs.Updates.{Rests}
use Rattle.copy_laws.specs.Differences.{own_of}
use Rattle.copy_state.specs.Kept.{CopyKept}
use Rattle.copy_between.specs.Differing.{IsOwnState, IsDifference, IsKeptAt, AreKeptBelow}
use Rattle.machine_events.specs.PartLaws.{table-count}
use Rattle.copy_between.specs.DifferingLaws.{two-same}
use Rattle.copy_between.specs.Beside.{IsCopyOf, KeepsWithin, TellsOwn, AreKept, AreAlike, KeepsAscending, DifferencesStand}
use Rattle.copy_between.specs.BesideLaws.{copy-within}
use Rattle.good_trace.specs.RunsKept.{Stands}
use Rattle.machine.specs.declared.parts.Machine.{Machine as Simulated}
use Rattle.machine.specs.Standing.{IsStanding, StandsBetween, machine_kept, state_kept, idle_nodes}

-- Processes

-- no two statements of a process stand at one place
places-at : (design : FlatDesign) (process : ℕ) (code : Code) → KeepsRules design → IsCodeAt design process code → PlacesDiffer (statement_of code.process.now.body)
places-at design process code rules at =
    AllHold-slice_get (λ (process : FlatProcess). PlacesDiffer process.body) design.processes process (process_of code.process.now) rules.places at.process_is

pub tells-own : (design : FlatDesign) (process : ℕ) (before after : Activity) (good own : ProcState) (found : Option ProcState) → KeepsRules design → Stands design process before good →
    Stands design process after own → IsOwnState good own found → TellsOwn design process before after found
tells-own design process before after good own found rules first second is = record {
  does = λ code at.
      two-same before (activity_of code good) after (activity_of code own) _ _ (sym (first.does code at)) (sym (second.does code at)) refl
      (is.does code (record { places = places-at design process code rules at; code_is = at.code_of; good_is = first.state_of code at; own_is = second.state_of code at }));
  state_of = λ code state at kept. is.state_of code state (second.state_of code at) kept;
}

-- the room's state of a process
pub stands-room : (design : FlatDesign) (process : ℕ) (m : Simulated) (state : ProcState) → (machine_kept m).design ≡ design →
    ((code : Code) → IsCodeAt (machine_kept m).design process code → IsStateOf code state) →
    ((code : Code) → IsCodeAt (machine_kept m).design process code → activity_of code state ≡ (process_at (state_kept m) process).activity) →
    Stands design process (process_at (state_kept m) process).activity state
stands-room design process m state same states does = record {
  state_of = λ code at. states code (subst (λ d. IsCodeAt d process code) (sym same) at);
  does = λ code at. does code (subst (λ d. IsCodeAt d process code) (sym same) at);
}

pub keeps-state : (design : FlatDesign) (process : ℕ) (before after : Activity) (good own : ProcState) (old first new : CopyKept) → KeepsRules design → Stands design process before good →
    Stands design process after own → IsKeptAt (IsOwnState good own) process old.states first.states → new ≡ record first { updates = new.updates } →
    IsKeptAt (TellsOwn design process before after) process old.states new.states
keeps-state design process before after good own old first new rules one other kept rest =
    subst (IsKeptAt (TellsOwn design process before after) process old.states) (sym (ap (λ (k : CopyKept). k.states) rest))
    (record { here = tells-own design process before after good own (own_of first.states process) rules one other kept.here; others = kept.others })

pub keeps-updates : (process : ℕ) (before after good own : List LaterUpdate) (old first new : CopyKept) → good ≡ before → own ≡ after → first ≡ record old { states = first.states } →
    IsKeptAt (IsDifference good own) process first.updates new.updates → IsKeptAt (IsDifference before after) process old.updates new.updates
keeps-updates process before after good own old first new one other rest kept =
    subst (λ l. IsKeptAt (IsDifference before after) process l new.updates) (ap (λ (k : CopyKept). k.updates) rest)
    (subst (λ b. IsKeptAt (IsDifference b after) process first.updates new.updates) one (subst (λ a. IsKeptAt (IsDifference good a) process first.updates new.updates) other kept))

-- a process of the design is one of the room's
pub process-there : (design : FlatDesign) (process : ℕ) (m : Simulated) → IsStanding m → (machine_kept m).design ≡ design → process < length design.processes →
    process < length (state_kept m).processes
process-there design process m standing same low =
    let count : length (state_kept m).processes ≡ length design.processes = table-count m.table standing.table ∙ ap (λ (d : FlatDesign). length d.processes) (standing.design ∙ same) in
    omega (arith, low, count)

-- Objects

-- values of the objects' widths
pub wide-at : (design : FlatDesign) (values : List LogicValue) (object : ℕ) → HaveWidths (good_machine design) values → object < length values → length (value_at values object) ≡ width_in design object
wide-at design values object have low =
    sym (get_or-map (λ (value : LogicValue). length value) values object [] 0 low) ∙ ap (λ l. get_or l object 0) have

-- Whole states

idle-are : (design : FlatDesign) (state : State) → Rests design state → state.nodes ≡ idle_nodes design
idle-are design state rests =
    ext_get_or idle_node state.nodes (idle_nodes design) (rests.node_count ∙ sym (length-map design.nodes (λ (node : FlatNode). idle_node)))
    (λ node low.
    sym (ap (found_or idle_node) (slice_get-get_or state.nodes node idle_node low)) ∙ rests.nodes node ∙ sym (idle-there design.nodes node))
  where
    idle-there : (nodes : List FlatNode) (node : ℕ) → get_or (map (λ (node : FlatNode). idle_node) nodes) node idle_node ≡ idle_node
    idle-there [] node = refl
    idle-there (n ∷ nodes) zero = refl
    idle-there (n ∷ nodes) (suc node) = idle-there nodes node

pub are-alike : (machine : Machine) (design : FlatDesign) (good own : State) → machine.design ≡ design → Rests design good → StandsBetween machine own → AreAlike design good own
are-alike machine design good own same rests between = record {
  good_values = rests.value_count;
  own_values = between.values ∙ ap (λ (d : FlatDesign). length d.objects) same;
  good_processes = rests.process_count;
  own_processes = between.count ∙ ap (λ (d : FlatDesign). length d.processes) same;
  nodes = between.nodes ∙ ap idle_nodes same ∙ sym (idle-are design good rests);
}

-- the values were gone through first, and then the processes
pub are-kept : (design : FlatDesign) (good own : State) (objects processes : ℕ) (old first new : CopyKept) → objects ≡ length design.objects → processes ≡ length design.processes →
    first ≡ record old { values = first.values } → new ≡ record first { states = new.states; updates = new.updates } →
    AreKeptBelow (λ object. IsDifference (value_at good.values object) (value_at own.values object)) objects old.values first.values →
    AreKeptBelow (λ process. TellsOwn design process (process_at good process).activity (process_at own process).activity) processes first.states new.states →
    AreKeptBelow (λ process. IsDifference (process_at good process).later (process_at own process).later) processes first.updates new.updates → AreKept design good own old new
are-kept design good own objects processes old first new object_count process_count one two values states updates =
    let V : ℕ → Option LogicValue → Type 0 = λ object. IsDifference (value_at good.values object) (value_at own.values object) in
    let S : ℕ → Option ProcState → Type 0 = λ process. TellsOwn design process (process_at good process).activity (process_at own process).activity in
    let U : ℕ → Option (List LaterUpdate) → Type 0 = λ process. IsDifference (process_at good process).later (process_at own process).later in
    record {
      values =
          subst (λ n. AreKeptBelow V n old.values new.values) object_count
          (subst (AreKeptBelow V objects old.values) (sym (ap (λ (k : CopyKept). k.values) two)) values);
      states =
          subst (λ n. AreKeptBelow S n old.states new.states) process_count
          (subst (λ l. AreKeptBelow S processes l new.states) (ap (λ (k : CopyKept). k.states) one) states);
      updates =
          subst (λ n. AreKeptBelow U n old.updates new.updates) process_count
          (subst (λ l. AreKeptBelow U processes l new.updates) (ap (λ (k : CopyKept). k.updates) one) updates);
    }

-- so the copy stands for the room's state
pub left-copy : DifferencesStand → (codes : List Code) (machine : Machine) (design : FlatDesign) (good own : State) (objects processes : ℕ) (old first new : CopyKept) → AreCodesOf design codes →
    machine.design ≡ design → Rests design good → StandsBetween machine own → KeepsWithin (length design.objects) (length design.processes) old → objects ≡ length design.objects →
    processes ≡ length design.processes → first ≡ record old { values = first.values } → new ≡ record first { states = new.states; updates = new.updates } →
    AreKeptBelow (λ object. IsDifference (value_at good.values object) (value_at own.values object)) objects old.values first.values →
    AreKeptBelow (λ process. TellsOwn design process (process_at good process).activity (process_at own process).activity) processes first.states new.states →
    AreKeptBelow (λ process. IsDifference (process_at good process).later (process_at own process).later) processes first.updates new.updates → KeepsAscending new → IsCopyOf codes good own new
left-copy law codes machine design good own objects processes old first new codes_are same rests between within object_count process_count one two values states updates up =
    law codes design good own old new codes_are (are-alike machine design good own same rests between) within
    (are-kept design good own objects processes old first new object_count process_count one two values states updates) up

pub left-within : (codes : List Code) (design : FlatDesign) (good own : State) (kept : CopyKept) → Rests design good → IsCopyOf codes good own kept →
    KeepsWithin (length design.objects) (length design.processes) kept
left-within codes design good own kept rests copy =
    subst (λ n. KeepsWithin n (length design.processes) kept) rests.value_count
    (subst (λ n. KeepsWithin (length good.values) n kept) rests.process_count (copy-within codes good own kept copy))
