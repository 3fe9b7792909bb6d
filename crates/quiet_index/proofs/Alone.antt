-- An event that leaves a copy alone touches nothing that differs.
use Rattle.std.proofs.Common.{◌≡◌, ℕ, List, [], ◌∷◌, ◌++◌, Bool, true, false, ◌&&◌, ◌||◌, refl, sym, ap, ◌∙◌}
use Rattle.std.specs.Prelude.{Some, is_some, nat_eq, slice_get}
use Rattle.std.proofs.lemmas.Bool.{eq-eqb}
use Rattle.vf_base.specs.Lists.{AllHold}
use Rattle.v_design.specs.Designs.{FlatDesign, FlatNode, StuckAt, good_machine}
use Rattle.v_design.specs.Assignments.{ValueUpdate}
use Rattle.v_design.specs.Processes.{Action, ReadsObject, WritesObject, AppendsUpdate, TouchesNothing}
use Rattle.v_design.specs.States.{State, Event, Step, LaneStep, Evaluation, NetUpdate, process_at, step_of, first_update, value_written}
use Rattle.v_design.specs.Accesses.{ObjectAccess, action_accesses, await_accesses, lane_accesses}
use Rattle.copy_laws.specs.Differences.{Differences, own_of, apart_of}
use Rattle.copy_laws.specs.Touches.{site_is_object, IsFree, WriteIsFree, UpdateIsFree, ActionIsFree, EventIsFree, OtherSitesAreFree}
use Rattle.trace_window.specs.Touched.{touches}
use Rattle.quiet_index.specs.Indexed.{LeavesAlone}

-- some objects don't differ
abbrev pub NoneDiffers : Differences → List ℕ → Type 0
NoneDiffers d objects = AllHold (λ object. is_some (own_of d.values object) ≡ false) objects

-- nothing is kept of a process
pub none-apart : (d : Differences) → d.activities ≡ [] → d.updates ≡ [] → (p : ℕ) → (apart_of d).processes p ≡ false
none-apart d activities updates p = λ i. is_some (own_of (activities i) p) || is_some (own_of (updates i) p)

-- The objects of an event

-- accesses that leave a copy alone
record LeaveAlone (fault : StuckAt) (d : Differences) (accesses : List ObjectAccess) : Type 0 where
  objects : (object : ℕ) → is_some (own_of d.values object) ≡ true → touches object accesses ≡ false
  site : (object : ℕ) → site_is_object fault.site object ≡ true → touches object accesses ≡ false

first-is : (object : ℕ) (rest : Bool) → ((true && nat_eq object object) || rest) ≡ false → ⊥
first-is object rest e = absurd (let no : true ≡ false = sym (ap (λ b. (true && b) || rest) (eq-eqb object object refl)) ∙ e in cc)

-- an object that is read or written first among some accesses
not-differing : (d : Differences) (object : ℕ) (rest : Bool) → (is_some (own_of d.values object) ≡ true → ((true && nat_eq object object) || rest) ≡ false) → is_some (own_of d.values object) ≡ false
not-differing d object rest h = go (is_some (own_of d.values object)) refl
  where
    go : (b : Bool) → is_some (own_of d.values object) ≡ b → is_some (own_of d.values object) ≡ false
    go true e = absurd (first-is object rest (h e))
    go false e = e

not-site : (fault : StuckAt) (object : ℕ) (rest : Bool) → (site_is_object fault.site object ≡ true → ((true && nat_eq object object) || rest) ≡ false) → site_is_object fault.site object ≡ false
not-site fault object rest h = go (site_is_object fault.site object) refl
  where
    go : (b : Bool) → site_is_object fault.site object ≡ b → site_is_object fault.site object ≡ false
    go true e = absurd (first-is object rest (h e))
    go false e = e

is-free : (d : Differences) → d.activities ≡ [] → d.updates ≡ [] → (good other : State) (object : ℕ) → is_some (own_of d.values object) ≡ false → IsFree (apart_of d) good other object
is-free d activities updates good other object same = record {
  agrees = same;
  good_elsewhere = λ p h. absurd (let no : true ≡ false = sym h ∙ none-apart d activities updates p in cc);
  faulty_elsewhere = λ p h. absurd (let no : true ≡ false = sym h ∙ none-apart d activities updates p in cc);
}

write-free : OtherSitesAreFree → (design : FlatDesign) (fault : StuckAt) (d : Differences) → d.activities ≡ [] → d.updates ≡ [] → (good other : State) (update : ValueUpdate) →
    is_some (own_of d.values update.object) ≡ false → site_is_object fault.site update.object ≡ false → WriteIsFree design fault (apart_of d) good other update
write-free law design fault d activities updates good other update same site =
    (law.objects fault update.object (value_written (good_machine design) good update) site, is-free d activities updates good other update.object same)

action-free : OtherSitesAreFree → (design : FlatDesign) (fault : StuckAt) (d : Differences) → d.activities ≡ [] → d.updates ≡ [] → (good other : State) (process line : ℕ) (action : Action)
    (awaits : List ObjectAccess) → LeaveAlone fault d (action_accesses (good_machine design) process line action good ++ awaits) → ActionIsFree design fault (apart_of d) good other action
action-free law design fault d activities updates good other process line (ReadsObject object) awaits alone = not-differing d object (touches object awaits) (alone.objects object)
action-free law design fault d activities updates good other process line (WritesObject update) awaits alone =
    write-free law design fault d activities updates good other update (not-differing d update.object _ (alone.objects update.object)) (not-site fault update.object _ (alone.site update.object))
action-free law design fault d activities updates good other process line (AppendsUpdate delay update) awaits alone = tt
action-free law design fault d activities updates good other process line TouchesNothing awaits alone = tt

lane-free : OtherSitesAreFree → (design : FlatDesign) (fault : StuckAt) (d : Differences) → d.activities ≡ [] → d.updates ≡ [] → (good other : State) (process : ℕ) (lane : List ValueUpdate) →
    LeaveAlone fault d (lane_accesses (good_machine design) process lane good) → UpdateIsFree design fault (apart_of d) good other (first_update lane)
lane-free law design fault d activities updates good other process [] alone = tt
lane-free law design fault d activities updates good other process (update ∷ lane) alone =
    write-free law design fault d activities updates good other update (not-differing d update.object _ (alone.objects update.object)) (not-site fault update.object _ (alone.site update.object))

-- The event

all-free : (d : Differences) → d.activities ≡ [] → d.updates ≡ [] → (good other : State) (objects : List ℕ) → NoneDiffers d objects → AllHold (IsFree (apart_of d) good other) objects
all-free d activities updates good other [] none = tt
all-free d activities updates good other (object ∷ objects) none = (is-free d activities updates good other object none.0, all-free d activities updates good other objects none.1)

-- what a node's update writes doesn't differ
abbrev pub UpdatesClean : FlatDesign → Differences → Event → Type 0
UpdatesClean design d event = (number : ℕ) (node : FlatNode) → event ≡ NetUpdate number → slice_get design.nodes number ≡ Some node → NoneDiffers d node.outputs

pub event-free : OtherSitesAreFree → (design : FlatDesign) (fault : StuckAt) (d : Differences) → d.activities ≡ [] → d.updates ≡ [] → (good other : State) (event : Event) →
    LeavesAlone design fault d (record { before = good; event = event }) → UpdatesClean design d event → EventIsFree design fault (apart_of d) good other event
event-free law design fault d activities updates good other (Step process) alone clean = (
  none-apart d activities updates process,
  action-free law design fault d activities updates good other process (step_of (good_machine design) good process).line (step_of (good_machine design) good process).action
      (await_accesses process (step_of (good_machine design) good process).line (step_of (good_machine design) good process).next) (record { objects = alone.objects; site = alone.site_object }),
)
event-free law design fault d activities updates good other (LaneStep process) alone clean = (
  none-apart d activities updates process,
  lane-free law design fault d activities updates good other process (process_at good process).lane (record { objects = alone.objects; site = alone.site_object }),
)
event-free law design fault d activities updates good other (Evaluation number) alone clean = λ node at.
    (law.nodes design fault number node good.values (alone.site_node number refl), λ input h. alone.inputs number input node refl at h)
event-free law design fault d activities updates good other (NetUpdate number) alone clean = λ node at.
    all-free d activities updates good other node.outputs (clean number node refl at)
