-- Nodes that read too many objects.
use Rattle.std.proofs.Common.{◌≡◌, ◌+◌, ℕ, Bool, true, false, List, Some, None, Ok, Err, refl, ap, ◌∙◌}
use Rattle.v_tree.specs.Trees.{SourceItem, SourceInstance, SourceModule}
use Rattle.v_design.specs.WellFormed.{most_inputs}
use Rattle.v_names.specs.Faults.{first_fault}
use Rattle.v_names.specs.Names.{GivenParameter}
use Rattle.v_elab.specs.declared.What.TheVariants.{Inputs}
use Rattle.v_elab.specs.Refusals.{TooMany, then_go, unless_refused}
use Rattle.v_elab.specs.ItemFaults.{item_faults}
use Rattle.v_elab.specs.Parts.{Part, too_many_if}
use Rattle.v_elab.specs.ReadCounts.{some_reads_over, reads_refused, item_reads, connections_reads}
use Rattle.v_elab.specs.Walk.{Here, Walker, item_parts, checked_item, added, child_of, entered, instance_parts, walked_instance}
use Rattle.elab_walk.specs.WalkFaults.{IsWalkFault, reads_fault}
use Rattle.elab_walk.specs.declared.fault.WalkFault.{WalkFault}
use Rattle.elab_walk.specs.declared.fault.WalkFault.TheVariants as faults
use Rattle.elab_walk.proofs.Turns.{Answer, then-clean}

-- an item of which nothing is wrong
item-if : (h : Here) (gates : ℕ) (item : SourceItem) (over : Bool) → first_fault (item_faults h.scope item) ≡ None → some_reads_over h.scope (item_reads h.mode h.scope item) ≡ over
    → checked_item h gates item ≡ unless_refused (too_many_if over Inputs most_inputs) (item_parts h gates item)
item-if h gates item over clean e =
    then-clean (item_faults h.scope item) (item_parts h gates item) (unless_refused (reads_refused h.scope (item_reads h.mode h.scope item))) clean
    ∙ ap (λ (b : Bool). unless_refused (too_many_if b Inputs most_inputs) (item_parts h gates item)) e

pub item-few : (h : Here) (gates : ℕ) (item : SourceItem) → first_fault (item_faults h.scope item) ≡ None → some_reads_over h.scope (item_reads h.mode h.scope item) ≡ false →
    checked_item h gates item ≡ Ok (item_parts h gates item)
item-few h gates item clean e = item-if h gates item false clean e

pub item-over : (h : Here) (gates : ℕ) (item : SourceItem) → first_fault (item_faults h.scope item) ≡ None → some_reads_over h.scope (item_reads h.mode h.scope item) ≡ true →
    checked_item h gates item ≡ Err (TooMany Inputs (most_inputs + 1))
item-over h gates item clean e = item-if h gates item true clean e

-- its parts are put behind the others
pub item-added : (h : Here) (gates : ℕ) (item : SourceItem) (before : List Part) → checked_item h gates item ≡ Ok (item_parts h gates item) →
    then_go (checked_item h gates item) (added before) ≡ added before (item_parts h gates item)
item-added h gates item before e = ap (λ (a : Answer). then_go a (added before)) e

-- an instance whose connections read few objects, and one whose connections read too many
instance-if : (walker : Walker) (h : Here) (m : SourceModule) (given : List GivenParameter) (i : SourceInstance) (all : List Part) (over : Bool) →
    some_reads_over h.scope (connections_reads (child_of h m given) 0 i.connections) ≡ over
    → walked_instance walker h m given i all ≡ then_go (then_go (unless_refused (too_many_if over Inputs most_inputs) (instance_parts h m given i)) (added all)) (walker (entered h m given i))
instance-if walker h m given i all over e = ap (λ (b : Bool). then_go (then_go (unless_refused (too_many_if b Inputs most_inputs) (instance_parts h m given i)) (added all))
    (walker (entered h m given i))) e

pub instance-few : (walker : Walker) (h : Here) (m : SourceModule) (given : List GivenParameter) (i : SourceInstance) (all : List Part) →
    some_reads_over h.scope (connections_reads (child_of h m given) 0 i.connections) ≡ false
    → walked_instance walker h m given i all ≡ then_go (added all (instance_parts h m given i)) (walker (entered h m given i))
instance-few walker h m given i all e = instance-if walker h m given i all false e

pub instance-over : (walker : Walker) (h : Here) (m : SourceModule) (given : List GivenParameter) (i : SourceInstance) (all : List Part) →
    some_reads_over h.scope (connections_reads (child_of h m given) 0 i.connections) ≡ true
    → walked_instance walker h m given i all ≡ Err (TooMany Inputs (most_inputs + 1))
instance-over walker h m given i all e = instance-if walker h m given i all true e

-- the fault of a node that reads too many objects
pub reads-wrong : (wanted : Answer) (over : Bool) (fault : WalkFault) → reads_fault over ≡ Some fault → (over ≡ true → wanted ≡ Err (TooMany Inputs (most_inputs + 1))) → IsWalkFault wanted fault
reads-wrong wanted false fault e is = absurd (cc)
reads-wrong wanted true fault e is =
    let fault-is : fault ≡ faults.TooManyInputs = cc in
    rw fault-is (is refl)
