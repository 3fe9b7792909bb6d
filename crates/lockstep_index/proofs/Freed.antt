-- An event that leaves own values alone touches no difference.
use Rattle.std.proofs.Common.{◌≡◌, ℕ, zero, suc, ◌+◌, List, [], ◌∷◌, ◌++◌, Bool, true, false, ◌&&◌, ◌||◌, refl, sym, ap, ◌∙◌}
use Rattle.std.specs.Prelude.{Option, Some, None, is_some, nat_eq, slice_get}
use Rattle.std.proofs.lemmas.Bool.{eq-eqb}
use Rattle.four_value.specs.Values.{LogicValue}
use Rattle.vf_base.specs.Lists.{AllHold}
use Rattle.v_design.specs.Designs.{FlatDesign, FlatNode, StuckAt, good_machine, faulty_machine}
use Rattle.v_design.specs.Assignments.{ValueUpdate}
use Rattle.v_design.specs.Processes.{Action, ReadsObject, WritesObject, AppendsUpdate, TouchesNothing}
use Rattle.v_design.specs.States.{State, NodeState, Event, Step, LaneStep, Evaluation, NetUpdate, after, possible, process_at, node_at, step_of, first_update, value_written, found_or, idle_node}
use Rattle.v_design.specs.Accesses.{ObjectAccess, action_accesses, await_accesses, lane_accesses}
use Rattle.v_design.specs.Runs.{first_event, work_of, least_work}
use Rattle.order_laws.specs.NodesRest.{NodesRestOnInputs}
use Rattle.order_laws.specs.Settling.{FirstEvents}
use Rattle.machine_laws.specs.SlotLoop.{NoNodeWorks}
use Rattle.copy_laws.specs.Beside.{AreFirst}
use Rattle.copy_laws.specs.Moves.{Within}
use Rattle.copy_laws.specs.Touches.{site_is_object, IsFree, WriteIsFree, UpdateIsFree, ActionIsFree, EventIsFree, OtherSitesAreFree}
use Rattle.trace_window.specs.Moments.{seen_from}
use Rattle.trace_window.specs.Touched.{touches}
use Rattle.quiet_slots.specs.Pending.{PendingFrom, Before, Now, pending-from}
use Rattle.lockstep_laws.specs.Lockstep.{LockstepIsBeside}
use Rattle.lockstep_laws.specs.Passing.{AreFree}
use Rattle.lockstep_laws.specs.Phases.{FitsDesign, PhasesFit}
use Rattle.lockstep_index.specs.Alone.{apart_values, LeavesValues, IndexTellsFree}
use Rattle.lockstep_index.proofs.Clean.{NoneDiffers, CleanNode, clean-node}

-- the laws on which this stands
pub record IndexLaws : Type 0 where
  pub sites : OtherSitesAreFree
  pub rest : NodesRestOnInputs
  pub first : FirstEvents
  pub fit : PhasesFit
  pub side : LockstepIsBeside

-- The objects of an event

-- accesses that leave own values alone
record LeaveAlone (fault : StuckAt) (d : Within) (accesses : List ObjectAccess) : Type 0 where
  objects : (object : ℕ) → is_some (d.values object) ≡ true → touches object accesses ≡ false
  site : (object : ℕ) → site_is_object fault.site object ≡ true → touches object accesses ≡ false

-- the object of the first of some accesses fails a test that touched objects fail
first-fails : (test : ℕ → Bool) (object : ℕ) (rest : Bool) → (test object ≡ true → ((true && nat_eq object object) || rest) ≡ false) → test object ≡ false
first-fails test object rest h = go (test object) refl
  where
    first-is : ((true && nat_eq object object) || rest) ≡ false → ⊥
    first-is e = absurd (let no : true ≡ false = sym (ap (λ b. (true && b) || rest) (eq-eqb object object refl)) ∙ e in cc)

    go : (b : Bool) → test object ≡ b → b ≡ false
    go true e = absurd (first-is (h e))
    go false e = refl

is-free : (d : Within) → (good : State) (object : ℕ) → is_some (d.values object) ≡ false → IsFree (apart_values d.values) good good object
is-free d good object same = record {
  agrees = same;
  good_elsewhere = λ p h. absurd (let no : true ≡ false = sym h in cc);
  faulty_elsewhere = λ p h. absurd (let no : true ≡ false = sym h in cc);
}

write-free : OtherSitesAreFree → (design : FlatDesign) (fault : StuckAt) (d : Within) → (good : State) (update : ValueUpdate) → is_some (d.values update.object) ≡ false →
    site_is_object fault.site update.object ≡ false → WriteIsFree design fault (apart_values d.values) good good update
write-free law design fault d good update same site =
    (law.objects fault update.object (value_written (good_machine design) good update) site, is-free d good update.object same)

action-free : OtherSitesAreFree → (design : FlatDesign) (fault : StuckAt) (d : Within) → (good : State) (process line : ℕ) (action : Action) (awaits : List ObjectAccess) →
    LeaveAlone fault d (action_accesses (good_machine design) process line action good ++ awaits) → ActionIsFree design fault (apart_values d.values) good good action
action-free law design fault d good process line (ReadsObject object) awaits alone = first-fails (λ o. is_some (d.values o)) object (touches object awaits) (alone.objects object)
action-free law design fault d good process line (WritesObject update) awaits alone =
    write-free law design fault d good update (first-fails (λ o. is_some (d.values o)) update.object _ (alone.objects update.object))
    (first-fails (site_is_object fault.site) update.object _ (alone.site update.object))
action-free law design fault d good process line (AppendsUpdate delay update) awaits alone = tt
action-free law design fault d good process line TouchesNothing awaits alone = tt

lane-free : OtherSitesAreFree → (design : FlatDesign) (fault : StuckAt) (d : Within) → (good : State) (process : ℕ) (lane : List ValueUpdate) →
    LeaveAlone fault d (lane_accesses (good_machine design) process lane good) → UpdateIsFree design fault (apart_values d.values) good good (first_update lane)
lane-free law design fault d good process [] alone = tt
lane-free law design fault d good process (update ∷ lane) alone =
    write-free law design fault d good update (first-fails (λ o. is_some (d.values o)) update.object _ (alone.objects update.object))
    (first-fails (site_is_object fault.site) update.object _ (alone.site update.object))

all-free : (d : Within) → (good : State) (objects : List ℕ) → NoneDiffers d objects → AllHold (IsFree (apart_values d.values) good good) objects
all-free d good [] same = tt
all-free d good (object ∷ objects) same = (is-free d good object same.0, all-free d good objects same.1)

-- what a node's update writes has no own value
abbrev UpdatesClean : FlatDesign → Within → Event → Type 0
UpdatesClean design d event = (number : ℕ) (node : FlatNode) → event ≡ NetUpdate number → slice_get design.nodes number ≡ Some node → NoneDiffers d node.outputs

event-free : OtherSitesAreFree → (design : FlatDesign) (fault : StuckAt) (d : Within) → (good : State) (event : Event) →
    LeavesValues design fault d (record { before = good; event = event }) → UpdatesClean design d event → EventIsFree design fault (apart_values d.values) good good event
event-free law design fault d good (Step process) alone clean = (
  refl,
  action-free law design fault d good process (step_of (good_machine design) good process).line (step_of (good_machine design) good process).action
      (await_accesses process (step_of (good_machine design) good process).line (step_of (good_machine design) good process).next) (record { objects = alone.objects; site = alone.site_object }),
)
event-free law design fault d good (LaneStep process) alone clean = (
  refl,
  lane-free law design fault d good process (process_at good process).lane (record { objects = alone.objects; site = alone.site_object }),
)
event-free law design fault d good (Evaluation number) alone clean = λ node at.
    (law.nodes design fault number node good.values (alone.site_node number refl), λ input h. alone.inputs number input node refl at h)
event-free law design fault d good (NetUpdate number) alone clean = λ node at. all-free d good node.outputs (clean number node refl at)

-- Event by event

-- each pending update of a node writes nothing that has an own value
abbrev PendingClean : FlatDesign → Within → State → Type 0
PendingClean design d state =
    (number : ℕ) (node : FlatNode) (given : List LogicValue) → slice_get design.nodes number ≡ Some node → (node_at state number).pending ≡ Some given → NoneDiffers d node.outputs

abbrev AllClean : FlatDesign → StuckAt → Within → Type 0
AllClean design fault d = (number : ℕ) (node : FlatNode) → slice_get design.nodes number ≡ Some node → CleanNode design fault d number node

after-clean : (design : FlatDesign) (fault : StuckAt) (d : Within) → AllClean design fault d → (state : State) (event : Event) →
    LeavesValues design fault d (record { before = state; event = event }) → PendingClean design d state → PendingClean design d (after (good_machine design) state event)
after-clean design fault d nodes state event alone clean number node given here pending = go (pending-from (good_machine design) state event number given pending)
  where
    go : PendingFrom (good_machine design) state event number given → NoneDiffers d node.outputs
    go (Before was) = clean number node given here was
    go (Now is) = nodes number node here (alone.site_node number is) (λ input h. alone.inputs number input node is here h)

-- the update that the first order makes is pending
update-clean : FirstEvents → (design : FlatDesign) (d : Within) (state : State) (event : Event) → first_event state ≡ Some event → PendingClean design d state → UpdatesClean design d event
update-clean law design d state event first clean number node is here =
    go (node_at state number).pending refl (ap (possible state) (sym is) ∙ law.may state event first)
  where
    go : (pending : Option (List LogicValue)) → (node_at state number).pending ≡ pending → is_some pending ≡ true → NoneDiffers d node.outputs
    go None at e = cc
    go (Some given) at e = clean number node given here at

frees : IndexLaws → (design : FlatDesign) (fault : StuckAt) (d : Within) → AllClean design fault d → (state : State) (events : List Event) → PendingClean design d state →
    AreFirst (good_machine design) state events → AllHold (LeavesValues design fault d) (seen_from (good_machine design) state events) → AreFree design fault (apart_values d.values) state events
frees laws design fault d nodes state [] clean first alone = tt
frees laws design fault d nodes state (event ∷ events) clean first alone = (
  event-free laws.sites design fault d state event alone.0 (update-clean laws.first design d state event first.0 clean),
  frees laws design fault d nodes (after (good_machine design) state event) events (after-clean design fault d nodes state event alone.0 clean) first.1 alone.1,
)

-- No node has work

none-pending : (start : ℕ) (nodes : List NodeState) (number : ℕ) → work_of start nodes ≡ None → (found_or idle_node (slice_get nodes number)).pending ≡ None
none-pending start [] number e = refl
none-pending start (n ∷ nodes) zero e = go n.marked n.pending e
  where
    go : (marked : Bool) (pending : Option (List LogicValue)) → least_work start marked (is_some pending) (work_of (start + 1) nodes) ≡ None → pending ≡ None
    go true pending e = cc
    go false None e = refl
    go false (Some given) e = cc
none-pending start (n ∷ nodes) (suc number) e = none-pending (start + 1) nodes number (go n.marked (is_some n.pending) e)
  where
    go : (a b : Bool) → least_work start a b (work_of (start + 1) nodes) ≡ None → work_of (start + 1) nodes ≡ None
    go true b e = cc
    go false true e = cc
    go false false e = e

-- The law

pub index_tells_free : IndexLaws → IndexTellsFree
index_tells_free laws design fault d good faulty events rules lockstep differ good_in own_in rests first alone =
    frees laws design fault d clean good events
    (λ number node given here pending. absurd (let no : None ≡ Some given = sym (none-pending 0 good.nodes number rests) ∙ pending in cc)) first alone
  where
    good_fits : FitsDesign (good_machine design) good
    good_fits = laws.fit (good_machine design) good rules good_in

    own_fits : FitsDesign (faulty_machine design fault) faulty
    own_fits = laws.fit (faulty_machine design fault) faulty rules own_in

    own_rests : NoNodeWorks faulty
    own_rests = ap (λ nodes. work_of 0 nodes) (sym (laws.side d good faulty lockstep).beside.nodes) ∙ rests

    clean : AllClean design fault d
    clean = λ number node here.
        clean-node laws.rest laws.sites design fault rules d good faulty lockstep.within differ good_fits.widths own_fits.widths (good_fits.settled rests) (own_fits.settled own_rests) number node here
