-- What holds of the parts of each item and of each connection holds of all parts of a walk (IEEE 1364-2001, clause 12.1).
use Rattle.std.proofs.Common.{◌≡◌, ℕ, zero, suc, ◌+◌, List, [], ◌∷◌, ◌++◌, map, Option, Some, None, Result, Ok, Err, refl, sym, ap, ◌∙◌, subst}
use Rattle.std.specs.Prelude.{slice_get, flat_map}
use Rattle.vf_base.specs.Base.{SourcePlace}
use Rattle.vf_base.specs.Lists.{AllHold}
use Rattle.v_tree.specs.Trees.{Identifier, SourceConnection, SourceInstance, SourceItem, ParameterItem, PortItem, WireItem, RegItem, IntegerItem, AssignItem, GateItem, InstanceItem, InitialItem}
use Rattle.v_tree.specs.Trees.{AlwaysItem, SourceModule}
use Rattle.v_elab.specs.declared.Mode.{Mode}
use Rattle.v_names.specs.Faults.{Fault}
use Rattle.v_names.specs.Names.{GivenParameter, names}
use Rattle.v_elab.specs.Refusals.{Refusal, as_refusal, checked, then_go, unless_refused}
use Rattle.v_elab.specs.ItemFaults.{item_faults}
use Rattle.v_elab.specs.Connections.{most_depth, open_parameters, given_faults, given_parameters, instance_faults, connections_parts}
use Rattle.v_elab.specs.Parts.{Part, InstancePart, too_many_parts}
use Rattle.v_elab.specs.ReadCounts.{reads_refused, item_reads, connections_reads}
use Rattle.v_elab.specs.Walk.{Entered, Here, item_parts, gates_in, checked_item, added, Walker, child_of, paths_of, entered, instance_parts, checked_instance, walked_instance, walked_instances}
use Rattle.v_elab.specs.Walk.{module_named, instance_item_faults, walked_instance_item, walked_item, walked_items, head_items, not_port_faults, walked_module, walked, walked_from}
use Rattle.flat_laws.specs.Lists.{AllHold-from}
use Rattle.flat_laws.specs.Numbered.{AllHold-append}
use Rattle.flat_laws.specs.Made.{then_go-ok, unless_refused-ok}
use Rattle.flat_laws.specs.Sizes.Complete.{append-none}

-- What isn't refused

pub same_parts : {A : Type 0} (one other : A) (given : Result A Refusal) → given ≡ Ok one → given ≡ Ok other → one ≡ other
same_parts one other given e d = cc

pub as_refusal-ok : {A : Type 0} (given : Result A Fault) (answer : A) → as_refusal given ≡ Ok answer → given ≡ Ok answer
as_refusal-ok (Ok found) answer e = let same = same_parts found answer (Ok found) refl e in ap Ok same
as_refusal-ok (Err fault) answer e = absurd (cc)

-- where nothing is refused there are no faults
pub checked-ok : {A : Type 0} (faults : List Fault) (given answer : A) → checked faults given ≡ Ok answer → (faults ≡ []) × (given ≡ answer)
checked-ok [] given answer e = (refl, same_parts given answer (Ok given) refl e)
checked-ok (fault ∷ faults) given answer e = absurd (cc)

pub added-ok : (parts more result : List Part) → added parts more ≡ Ok result → parts ++ more ≡ result
added-ok parts more result e = (unless_refused-ok (too_many_parts (parts ++ more)) (parts ++ more) result e).1

-- an item that isn't refused has no faults
pub checked_item-ok : (here : Here) (gates : ℕ) (item : SourceItem) (answer : List Part) → checked_item here gates item ≡ Ok answer →
    (item_faults here.scope item ≡ []) × (item_parts here gates item ≡ answer)
checked_item-ok here gates item answer e =
    let refused = reads_refused here.scope (item_reads here.mode here.scope item) in
    let step = then_go-ok (checked (item_faults here.scope item) (item_parts here gates item)) (unless_refused refused) answer e in
    let none = checked-ok (item_faults here.scope item) (item_parts here gates item) step.0 step.1 in
    (none.0, none.1 ∙ (unless_refused-ok refused step.0 answer step.2).1)

-- an instance that isn't refused is added, then what stands in it
pub instance-steps : (walker : Walker) (here : Here) (inner : SourceModule) (given : List GivenParameter) (i : SourceInstance) (parts result : List Part) →
    walked_instance walker here inner given i parts ≡ Ok result →
    (middle : List Part) × (added parts (instance_parts here inner given i) ≡ Ok middle) × (walker (entered here inner given i) middle ≡ Ok result)
instance-steps walker here inner given i parts result e =
    let refused = reads_refused here.scope (connections_reads (child_of here inner given) 0 i.connections) in
    let outer = then_go-ok (then_go (checked_instance here inner given i) (added parts)) (walker (entered here inner given i)) result e in
    let step = then_go-ok (checked_instance here inner given i) (added parts) outer.0 outer.1 in
    (outer.0, ap (added parts) (unless_refused-ok refused (instance_parts here inner given i) step.0 step.1).1 ∙ step.2, outer.2)

-- The items of a module

-- the parameters of a module's head, its ports and its items
abbrev pub items_of : SourceModule → List SourceItem
items_of m = map ParameterItem m.parameters ++ (head_items m.heads ++ m.items)

-- an item stands in a module
abbrev pub IsOf : SourceModule → SourceItem → Type 0
IsOf m item = (i : ℕ) × (slice_get (items_of m) i ≡ Some item)

at-front : {A : Type 0} (xs ys : List A) (i : ℕ) (x : A) → slice_get xs i ≡ Some x → slice_get (xs ++ ys) i ≡ Some x
at-front [] ys i x e = absurd (cc)
at-front (y ∷ xs) ys zero x e = e
at-front (y ∷ xs) ys (suc i) x e = at-front xs ys i x e

at-back : {A : Type 0} (xs ys : List A) (i : ℕ) (x : A) → slice_get ys i ≡ Some x → (j : ℕ) × (slice_get (xs ++ ys) j ≡ Some x)
at-back [] ys i x e = (i, e)
at-back (y ∷ xs) ys i x e = let r = at-back xs ys i x e in (suc r.0, r.1)

parameters-of : (m : SourceModule) → AllHold (IsOf m) (map ParameterItem m.parameters)
parameters-of m = AllHold-from (IsOf m) (map ParameterItem m.parameters) (λ i item at. (i, at-front (map ParameterItem m.parameters) (head_items m.heads ++ m.items) i item at))

others-of : (m : SourceModule) → AllHold (IsOf m) (head_items m.heads ++ m.items)
others-of m = AllHold-from (IsOf m) (head_items m.heads ++ m.items) (λ i item at. at-back (map ParameterItem m.parameters) (head_items m.heads ++ m.items) i item at)

-- What each step gives

-- an instance that is walked has the scope of its module, of whose names nothing is wrong
pub record IsHere (Q : Entered → Type 0) (modules : List SourceModule) (mode : Mode) (here : Here) : Type 0 where
  pub scope : names here.instance.inner here.instance.given ≡ Ok here.scope
  pub entered : Q here.instance
  pub same_modules : here.modules ≡ modules
  pub same_mode : here.mode ≡ mode

-- an instance that an item of the module has
pub record IsInstance (here : Here) (inner : SourceModule) (given : List GivenParameter) (i : SourceInstance) : Type 0 where
  pub place : SourcePlace
  pub module_name : Identifier
  pub parameters : List SourceConnection
  pub instances : List SourceInstance
  pub is : IsOf here.instance.inner (InstanceItem place module_name parameters instances)
  pub number : ℕ
  pub at : slice_get instances number ≡ Some i
  pub named : module_named here.modules module_name ≡ Some inner
  pub given_is : given_parameters here.scope (open_parameters inner) 0 parameters ≡ given
  pub faultless : instance_faults (child_of here inner given) (here.instance.depth + 1) i ≡ []

-- what holds of the parts of each item and of each instance, where something holds of each instance that is walked
pub record HoldsOfEach (P : Part → Type 0) (Q : Entered → Type 0) (modules : List SourceModule) (mode : Mode) : Type 0 where
  pub of_item : (here : Here) → IsHere Q modules mode here → (gates : ℕ) (item : SourceItem) → IsOf here.instance.inner item → item_faults here.scope item ≡ [] → AllHold P (item_parts here gates item)
  pub of_connections : (here : Here) → IsHere Q modules mode here → (inner : SourceModule) (given : List GivenParameter) (i : SourceInstance) → IsInstance here inner given i →
      AllHold P (connections_parts (child_of here inner given) (paths_of here i) 0 i.connections)
  pub of_instance : P InstancePart
  pub enters : (here : Here) → IsHere Q modules mode here → (inner : SourceModule) (given : List GivenParameter) (i : SourceInstance) → IsInstance here inner given i → Q (entered here inner given i)

-- The walk

-- a way to walk an instance keeps what holds of all parts
abbrev Keeps : (Part → Type 0) → (Entered → Type 0) → Walker → Type 0
Keeps P Q walker = (instance : Entered) → Q instance → (parts result : List Part) → walker instance parts ≡ Ok result → AllHold P parts → AllHold P result

instance-keeps : (P : Part → Type 0) (Q : Entered → Type 0) (modules : List SourceModule) (mode : Mode) → HoldsOfEach P Q modules mode → (walker : Walker) → Keeps P Q walker → (here : Here) →
    IsHere Q modules mode here →
    (inner : SourceModule) (given : List GivenParameter) (i : SourceInstance) → IsInstance here inner given i → (parts result : List Part) →
    walked_instance walker here inner given i parts ≡ Ok result → AllHold P parts → AllHold P result
instance-keeps P Q modules mode each walker keeps here is inner given i of parts result e h =
    let more = instance_parts here inner given i in
    let step = instance-steps walker here inner given i parts result e in
    let first : AllHold P step.0 = subst (AllHold P) (added-ok parts more step.0 step.1) (AllHold-append P parts more h (each.of_instance, each.of_connections here is inner given i of)) in
    keeps (entered here inner given i) (each.enters here is inner given i of) step.0 result step.2 first

instances-keep : (P : Part → Type 0) (Q : Entered → Type 0) (modules : List SourceModule) (mode : Mode) → HoldsOfEach P Q modules mode → (walker : Walker) → Keeps P Q walker → (here : Here) →
    IsHere Q modules mode here →
    (inner : SourceModule) (given : List GivenParameter) (instances : List SourceInstance) → AllHold (IsInstance here inner given) instances → (parts result : List Part) →
    walked_instances walker here inner given instances parts ≡ Ok result →
    AllHold P parts → AllHold P result
instances-keep P Q modules mode each walker keeps here is inner given [] of parts result e h = subst (AllHold P) (same_parts parts result (Ok parts) refl e) h
instances-keep P Q modules mode each walker keeps here is inner given (i ∷ rest) of parts result e h =
    let step = then_go-ok (walked_instance walker here inner given i parts) (walked_instances walker here inner given rest) result e in
    instances-keep P Q modules mode each walker keeps here is inner given rest of.1 step.0 result step.2
    (instance-keeps P Q modules mode each walker keeps here is inner given i of.0 parts step.0 step.1 h)

pub flat-none : {A : Type 0} (f : A → List Fault) (xs : List A) → flat_map f xs ≡ [] → (i : ℕ) (x : A) → slice_get xs i ≡ Some x → f x ≡ []
flat-none f [] e i x at = absurd (cc)
flat-none f (y ∷ xs) e zero x at = let same : y ≡ x = cc in ap f (sym same) ∙ (append-none (f y) (flat_map f xs) e).0
flat-none f (y ∷ xs) e (suc i) x at = flat-none f xs (append-none (f y) (flat_map f xs) e).1 i x at

instance_item-keeps : (P : Part → Type 0) (Q : Entered → Type 0) (modules : List SourceModule) (mode : Mode) → HoldsOfEach P Q modules mode → (walker : Walker) → Keeps P Q walker → (here : Here) →
    IsHere Q modules mode here →
    (found : Option SourceModule) (place : SourcePlace) (module_name : Identifier) (parameters : List SourceConnection) (instances : List SourceInstance) →
    module_named here.modules module_name ≡ found →
    IsOf here.instance.inner (InstanceItem place module_name parameters instances) → (parts result : List Part) →
    walked_instance_item walker here found place parameters instances parts ≡ Ok result → AllHold P parts → AllHold P result
instance_item-keeps P Q modules mode each walker keeps here is None place module_name parameters instances named of parts result e h = absurd (cc)
instance_item-keeps P Q modules mode each walker keeps here is (Some inner) place module_name parameters instances named of parts result e h =
    let wanted = given_parameters here.scope (open_parameters inner) 0 parameters in
    let faults = instance_item_faults here inner parameters instances in
    let step = then_go-ok (checked faults wanted) (λ given. walked_instances walker here inner given instances parts) result e in
    let none = checked-ok faults wanted step.0 step.1 in
    let each_none = (append-none (given_faults here.scope (open_parameters inner) 0 [] parameters)
    (flat_map (instance_faults (child_of here inner wanted) (here.instance.depth + 1)) instances) none.0).1 in
    let all : AllHold (IsInstance here inner wanted) instances =
    AllHold-from (IsInstance here inner wanted) instances
    (λ k i at.
    record {
      place = place;
      module_name = module_name;
      parameters = parameters;
      instances = instances;
      is = of;
      number = k;
      at = at;
      named = named;
      given_is = refl;
      faultless = flat-none (instance_faults (child_of here inner wanted) (here.instance.depth + 1)) instances each_none k i at;
    }) in
    instances-keep P Q modules mode each walker keeps here is inner wanted instances all parts result (ap (λ given. walked_instances walker here inner given instances parts) none.1 ∙ step.2) h

plain-keeps : (P : Part → Type 0) (Q : Entered → Type 0) (modules : List SourceModule) (mode : Mode) → HoldsOfEach P Q modules mode → (here : Here) → IsHere Q modules mode here →
    (gates : ℕ) (item : SourceItem) → IsOf here.instance.inner item →
    (parts result : List Part) → then_go (checked_item here gates item) (added parts) ≡ Ok result → AllHold P parts → AllHold P result
plain-keeps P Q modules mode each here is gates item of parts result e h =
    let step = then_go-ok (checked_item here gates item) (added parts) result e in
    let none = checked_item-ok here gates item step.0 step.1 in
    subst (AllHold P) (added-ok parts step.0 result step.2) (AllHold-append P parts step.0 h (subst (AllHold P) none.1 (each.of_item here is gates item of none.0)))

item-keeps : (P : Part → Type 0) (Q : Entered → Type 0) (modules : List SourceModule) (mode : Mode) → HoldsOfEach P Q modules mode → (walker : Walker) → Keeps P Q walker → (here : Here) →
    IsHere Q modules mode here → (gates : ℕ) (item : SourceItem) →
    IsOf here.instance.inner item → (parts result : List Part) → walked_item walker here gates item parts ≡ Ok result → AllHold P parts → AllHold P result
item-keeps P Q modules mode each walker keeps here is gates (InstanceItem place module_name parameters instances) of parts result e h =
    instance_item-keeps P Q modules mode each walker keeps here is (module_named here.modules module_name) place module_name parameters instances refl of parts result e h
item-keeps P Q modules mode each walker keeps here is gates (ParameterItem group) of parts result e h = plain-keeps P Q modules mode each here is gates (ParameterItem group) of parts result e h
item-keeps P Q modules mode each walker keeps here is gates (PortItem group) of parts result e h = plain-keeps P Q modules mode each here is gates (PortItem group) of parts result e h
item-keeps P Q modules mode each walker keeps here is gates (WireItem place signed range wires) of parts result e h =
    plain-keeps P Q modules mode each here is gates (WireItem place signed range wires) of parts result e h
item-keeps P Q modules mode each walker keeps here is gates (RegItem place signed range regs) of parts result e h =
    plain-keeps P Q modules mode each here is gates (RegItem place signed range regs) of parts result e h
item-keeps P Q modules mode each walker keeps here is gates (IntegerItem place regs) of parts result e h = plain-keeps P Q modules mode each here is gates (IntegerItem place regs) of parts result e h
item-keeps P Q modules mode each walker keeps here is gates (AssignItem place assignments) of parts result e h =
    plain-keeps P Q modules mode each here is gates (AssignItem place assignments) of parts result e h
item-keeps P Q modules mode each walker keeps here is gates (GateItem place kind all) of parts result e h =
    plain-keeps P Q modules mode each here is gates (GateItem place kind all) of parts result e h
item-keeps P Q modules mode each walker keeps here is gates (InitialItem place body) of parts result e h = plain-keeps P Q modules mode each here is gates (InitialItem place body) of parts result e h
item-keeps P Q modules mode each walker keeps here is gates (AlwaysItem place body) of parts result e h = plain-keeps P Q modules mode each here is gates (AlwaysItem place body) of parts result e h

items-keep : (P : Part → Type 0) (Q : Entered → Type 0) (modules : List SourceModule) (mode : Mode) → HoldsOfEach P Q modules mode → (walker : Walker) → Keeps P Q walker → (here : Here) →
    IsHere Q modules mode here → (gates : ℕ) (items : List SourceItem) →
    AllHold (IsOf here.instance.inner) items → (parts result : List Part) → walked_items walker here gates items parts ≡ Ok result → AllHold P parts → AllHold P result
items-keep P Q modules mode each walker keeps here is gates [] of parts result e h = subst (AllHold P) (same_parts parts result (Ok parts) refl e) h
items-keep P Q modules mode each walker keeps here is gates (item ∷ rest) of parts result e h =
    let step = then_go-ok (walked_item walker here gates item parts) (walked_items walker here (gates + gates_in item) rest) result e in
    items-keep P Q modules mode each walker keeps here is (gates + gates_in item) rest of.1 step.0 result step.2
    (item-keeps P Q modules mode each walker keeps here is gates item of.0 parts step.0 step.1 h)

module-keeps : (P : Part → Type 0) (Q : Entered → Type 0) (modules : List SourceModule) (mode : Mode) → HoldsOfEach P Q modules mode → (walker : Walker) → Keeps P Q walker → (here : Here) →
    IsHere Q modules mode here → (parts result : List Part) →
    walked_module walker here here.instance.inner parts ≡ Ok result → AllHold P parts → AllHold P result
module-keeps P Q modules mode each walker keeps here is parts result e h =
    let m = here.instance.inner in
    let rest : List Part → Result (List Part) Refusal = walked_items walker here 0 (head_items m.heads ++ m.items) in
    let first = then_go-ok (walked_items walker here 0 (map ParameterItem m.parameters) parts)
    (λ behind. then_go (checked (not_port_faults m m.heads) behind) (walked_items walker here 0 (head_items m.heads ++ m.items))) result e in
    let ports = then_go-ok (checked (not_port_faults m m.heads) first.0) (walked_items walker here 0 (head_items m.heads ++ m.items)) result first.2 in
    let none = checked-ok (not_port_faults m m.heads) first.0 ports.0 ports.1 in
    let parameters = items-keep P Q modules mode each walker keeps here is 0 (map ParameterItem m.parameters) (parameters-of m) parts first.0 first.1 h in
    items-keep P Q modules mode each walker keeps here is 0 (head_items m.heads ++ m.items) (others-of m) ports.0 result ports.2 (subst (AllHold P) none.1 parameters)

walked-keeps : (P : Part → Type 0) (Q : Entered → Type 0) (modules : List SourceModule) (mode : Mode) → HoldsOfEach P Q modules mode → (levels : ℕ) → Keeps P Q (walked modules mode levels)
walked-keeps P Q modules mode each zero = λ instance q parts result e h. subst (AllHold P) (same_parts parts result (Ok parts) refl e) h
walked-keeps P Q modules mode each (suc levels) = λ instance q parts result e h.
    let step = then_go-ok (as_refusal (names instance.inner instance.given)) (λ scope. walked_module (walked modules mode levels)
    (record { modules = modules; mode = mode; instance = instance; scope = scope }) instance.inner parts) result e in
    module-keeps P Q modules mode each (walked modules mode levels) (walked-keeps P Q modules mode each levels) (record { modules = modules; mode = mode; instance = instance; scope = step.0 })
    (record { scope = as_refusal-ok (names instance.inner instance.given) step.0 step.1; entered = q; same_modules = refl; same_mode = refl }) parts result step.2 h

-- the top of a walk
abbrev pub top_entered : SourceModule → Entered
top_entered top = record { inner = top; given = []; path = []; depth = 0; joins = [] }

-- what holds of each part that an item or a connection gives holds of all parts of the walk
pub walk-holds : (P : Part → Type 0) (Q : Entered → Type 0) (modules : List SourceModule) (mode : Mode) → HoldsOfEach P Q modules mode → (top : SourceModule) → Q (top_entered top) →
    (parts : List Part) → walked_from modules mode top ≡ Ok parts →
    AllHold P parts
walk-holds P Q modules mode each top q parts e = walked-keeps P Q modules mode each (most_depth + 1) (top_entered top) q [] parts e tt
