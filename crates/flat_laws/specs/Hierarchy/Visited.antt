-- Each instance that a walk comes to is walked within it: nothing is wrong with its items, and their parts stand among those of the whole walk (IEEE 1364-2001, clause 12.1).
use Rattle.std.proofs.Common.{◌≡◌, ℕ, zero, suc, ◌+◌, ◌≤◌, true, List, [], ◌∷◌, ◌++◌, map, Option, Some, None, Result, Ok, refl, sym, ap, ◌∙◌, inl, inr, arith}
use Rattle.std.specs.Prelude.{slice_get, nat_lt}
use Rattle.std.proofs.lemmas.Bool.{cases_Bool, ltb-false}
use Rattle.std.proofs.lemmas.List.{append-nil, append_assoc}
use Rattle.vf_base.specs.Base.{SourcePlace}
use Rattle.v_tree.specs.Trees.{SourceConnection, SourceInstance, SourceItem, ParameterItem, PortItem, WireItem, RegItem, IntegerItem, AssignItem, GateItem, InstanceItem, InitialItem, AlwaysItem}
use Rattle.v_tree.specs.Trees.{SourceModule}
use Rattle.v_elab.specs.declared.Mode.{Mode}
use Rattle.v_names.specs.Faults.{Fault, TooDeep, fault_at}
use Rattle.v_names.specs.Names.{GivenParameter, names}
use Rattle.v_names.specs.Scopes.{Scope}
use Rattle.v_elab.specs.Refusals.{as_refusal, checked, then_go}
use Rattle.v_elab.specs.Connections.{most_depth, open_parameters, given_parameters, Child, instance_faults}
use Rattle.v_elab.specs.Parts.{Part}
use Rattle.v_elab.specs.Walk.{Entered, Here, gates_in, checked_item, added, Walker, child_of, entered, instance_parts, walked_instance, walked_instances, module_named, instance_item_faults}
use Rattle.v_elab.specs.Walk.{walked_instance_item, walked_item, walked_items, head_items, not_port_faults, walked_module, walked, walked_from}
use Rattle.flat_laws.specs.Lists.{same_some, at-append}
use Rattle.flat_laws.specs.Made.{then_go-ok}
use Rattle.flat_laws.specs.Hierarchy.Walks.{same_parts, checked-ok, as_refusal-ok, added-ok, instance-steps, IsOf, IsInstance}
use Rattle.flat_laws.specs.Hierarchy.Visits.{IsVisited, at_top, below}

-- Parts are added behind those before

-- some parts and others behind them
abbrev pub Grows : List Part → List Part → Type 0
Grows parts result = (more : List Part) × (parts ++ more ≡ result)

grows-same : (parts result : List Part) → parts ≡ result → Grows parts result
grows-same parts result e = ([], append-nil parts ∙ e)

pub grows-then : (parts middle result : List Part) → Grows parts middle → Grows middle result → Grows parts result
grows-then parts middle result g h = (g.0 ++ h.0, sym (append_assoc parts g.0 h.0) ∙ ap (λ l. l ++ h.0) g.1 ∙ h.1)

abbrev WalkerGrows : Walker → Type 0
WalkerGrows walker = (instance : Entered) (parts result : List Part) → walker instance parts ≡ Ok result → Grows parts result

instance-grows : (walker : Walker) → WalkerGrows walker → (here : Here) (inner : SourceModule) (given : List GivenParameter) (i : SourceInstance) (parts result : List Part) →
    walked_instance walker here inner given i parts ≡ Ok result → Grows parts result
instance-grows walker grows here inner given i parts result e =
    let more = instance_parts here inner given i in
    let step = instance-steps walker here inner given i parts result e in
    grows-then parts step.0 result (more, added-ok parts more step.0 step.1) (grows (entered here inner given i) step.0 result step.2)

instances-grow : (walker : Walker) → WalkerGrows walker → (here : Here) (inner : SourceModule) (given : List GivenParameter) (instances : List SourceInstance) (parts result : List Part) →
    walked_instances walker here inner given instances parts ≡ Ok result →
    Grows parts result
instances-grow walker grows here inner given [] parts result e = grows-same parts result (same_parts parts result (Ok parts) refl e)
instances-grow walker grows here inner given (i ∷ rest) parts result e =
    let step = then_go-ok (walked_instance walker here inner given i parts) (walked_instances walker here inner given rest) result e in
    grows-then parts step.0 result (instance-grows walker grows here inner given i parts step.0 step.1) (instances-grow walker grows here inner given rest step.0 result step.2)

instance_item-grows : (walker : Walker) → WalkerGrows walker → (here : Here) (found : Option SourceModule) (place : SourcePlace) (parameters : List SourceConnection)
    (instances : List SourceInstance) (parts result : List Part) →
    walked_instance_item walker here found place parameters instances parts ≡ Ok result → Grows parts result
instance_item-grows walker grows here None place parameters instances parts result e = absurd (cc)
instance_item-grows walker grows here (Some inner) place parameters instances parts result e =
    let step = then_go-ok (checked (instance_item_faults here inner parameters instances) (given_parameters here.scope (open_parameters inner) 0 parameters))
    (λ given. walked_instances walker here inner given instances parts) result e in
    instances-grow walker grows here inner step.0 instances parts result step.2

plain-grows : (here : Here) (gates : ℕ) (item : SourceItem) (parts result : List Part) → then_go (checked_item here gates item) (added parts) ≡ Ok result → Grows parts result
plain-grows here gates item parts result e = let step = then_go-ok (checked_item here gates item) (added parts) result e in (step.0, added-ok parts step.0 result step.2)

item-grows : (walker : Walker) → WalkerGrows walker → (here : Here) (gates : ℕ) (item : SourceItem) (parts result : List Part) → walked_item walker here gates item parts ≡ Ok result →
    Grows parts result
item-grows walker grows here gates (InstanceItem place module_name parameters instances) parts result e =
    instance_item-grows walker grows here (module_named here.modules module_name) place parameters instances parts result e
item-grows walker grows here gates (ParameterItem group) parts result e = plain-grows here gates (ParameterItem group) parts result e
item-grows walker grows here gates (PortItem group) parts result e = plain-grows here gates (PortItem group) parts result e
item-grows walker grows here gates (WireItem place signed range wires) parts result e = plain-grows here gates (WireItem place signed range wires) parts result e
item-grows walker grows here gates (RegItem place signed range regs) parts result e = plain-grows here gates (RegItem place signed range regs) parts result e
item-grows walker grows here gates (IntegerItem place regs) parts result e = plain-grows here gates (IntegerItem place regs) parts result e
item-grows walker grows here gates (AssignItem place assignments) parts result e = plain-grows here gates (AssignItem place assignments) parts result e
item-grows walker grows here gates (GateItem place kind all) parts result e = plain-grows here gates (GateItem place kind all) parts result e
item-grows walker grows here gates (InitialItem place body) parts result e = plain-grows here gates (InitialItem place body) parts result e
item-grows walker grows here gates (AlwaysItem place body) parts result e = plain-grows here gates (AlwaysItem place body) parts result e

items-grow : (walker : Walker) → WalkerGrows walker → (here : Here) (gates : ℕ) (items : List SourceItem) (parts result : List Part) → walked_items walker here gates items parts ≡ Ok result →
    Grows parts result
items-grow walker grows here gates [] parts result e = grows-same parts result (same_parts parts result (Ok parts) refl e)
items-grow walker grows here gates (item ∷ rest) parts result e =
    let step = then_go-ok (walked_item walker here gates item parts) (walked_items walker here (gates + gates_in item) rest) result e in
    grows-then parts step.0 result (item-grows walker grows here gates item parts step.0 step.1) (items-grow walker grows here (gates + gates_in item) rest step.0 result step.2)

-- a module's three steps
pub record ModuleSteps (walker : Walker) (here : Here) (m : SourceModule) (parts result : List Part) : Type 0 where
  pub behind : List Part
  pub parameters : walked_items walker here 0 (map ParameterItem m.parameters) parts ≡ Ok behind
  pub rest : walked_items walker here 0 (head_items m.heads ++ m.items) behind ≡ Ok result

pub module-steps : (walker : Walker) (here : Here) (m : SourceModule) (parts result : List Part) → walked_module walker here m parts ≡ Ok result → ModuleSteps walker here m parts result
module-steps walker here m parts result e =
    let first = then_go-ok (walked_items walker here 0 (map ParameterItem m.parameters) parts)
    (λ behind. then_go (checked (not_port_faults m m.heads) behind) (walked_items walker here 0 (head_items m.heads ++ m.items))) result e in
    let ports = then_go-ok (checked (not_port_faults m m.heads) first.0) (walked_items walker here 0 (head_items m.heads ++ m.items)) result first.2 in
    let none = checked-ok (not_port_faults m m.heads) first.0 ports.0 ports.1 in
    record { behind = first.0; parameters = first.1; rest = ap (walked_items walker here 0 (head_items m.heads ++ m.items)) none.1 ∙ ports.2 }

module-grows : (walker : Walker) → WalkerGrows walker → (here : Here) (m : SourceModule) (parts result : List Part) → walked_module walker here m parts ≡ Ok result → Grows parts result
module-grows walker grows here m parts result e =
    let s = module-steps walker here m parts result e in
    grows-then parts s.behind result (items-grow walker grows here 0 (map ParameterItem m.parameters) parts s.behind s.parameters)
    (items-grow walker grows here 0 (head_items m.heads ++ m.items) s.behind result s.rest)

-- a walk adds parts behind those before
pub walked-grows : (modules : List SourceModule) (mode : Mode) (levels : ℕ) → WalkerGrows (walked modules mode levels)
walked-grows modules mode zero = λ instance parts result e. grows-same parts result (same_parts parts result (Ok parts) refl e)
walked-grows modules mode (suc levels) = λ instance parts result e.
    let step = then_go-ok (as_refusal (names instance.inner instance.given)) (λ scope. walked_module (walked modules mode levels)
    (record { modules = modules; mode = mode; instance = instance; scope = scope }) instance.inner parts) result e in
    module-grows (walked modules mode levels) (walked-grows modules mode levels) (record { modules = modules; mode = mode; instance = instance; scope = step.0 }) instance.inner parts result step.2

-- Where an item and an instance are walked

-- an item is walked between some parts and others
pub record ItemAt (walker : Walker) (here : Here) (item : SourceItem) (result : List Part) : Type 0 where
  pub gates : ℕ
  pub before : List Part
  pub after : List Part
  pub is : walked_item walker here gates item before ≡ Ok after
  pub grows : Grows after result

items-at : (walker : Walker) → WalkerGrows walker → (here : Here) (gates : ℕ) (items : List SourceItem) (parts result : List Part) → walked_items walker here gates items parts ≡ Ok result →
    (k : ℕ) (item : SourceItem) → slice_get items k ≡ Some item →
    ItemAt walker here item result
items-at walker grows here gates [] parts result e k item at = absurd (cc)
items-at walker grows here gates (first ∷ rest) parts result e zero item at =
    let step = then_go-ok (walked_item walker here gates first parts) (walked_items walker here (gates + gates_in first) rest) result e in
    let same = same_some first item at in
    record {
      gates = gates;
      before = parts;
      after = step.0;
      is = ap (λ i. walked_item walker here gates i parts) (sym same) ∙ step.1;
      grows = items-grow walker grows here (gates + gates_in first) rest step.0 result step.2;
    }
items-at walker grows here gates (first ∷ rest) parts result e (suc k) item at =
    let step = then_go-ok (walked_item walker here gates first parts) (walked_items walker here (gates + gates_in first) rest) result e in
    items-at walker grows here (gates + gates_in first) rest step.0 result step.2 k item at

later-at : (walker : Walker) (here : Here) (item : SourceItem) (middle result : List Part) → Grows middle result → ItemAt walker here item middle → ItemAt walker here item result
later-at walker here item middle result g a = record { gates = a.gates; before = a.before; after = a.after; is = a.is; grows = grows-then a.after middle result a.grows g }

-- each item of a module is walked
pub module-at : (walker : Walker) → WalkerGrows walker → (here : Here) (m : SourceModule) (parts result : List Part) → walked_module walker here m parts ≡ Ok result → (item : SourceItem) →
    IsOf m item → ItemAt walker here item result
module-at walker grows here m parts result e item of =
    let s = module-steps walker here m parts result e in
    elim (at-append (map ParameterItem m.parameters) (head_items m.heads ++ m.items) of.0 item of.1) [
      | inl first ↦
          later-at walker here item s.behind result (items-grow walker grows here 0 (head_items m.heads ++ m.items) s.behind result s.rest)
          (items-at walker grows here 0 (map ParameterItem m.parameters) parts s.behind s.parameters of.0 item first.1)
      | inr second ↦ items-at walker grows here 0 (head_items m.heads ++ m.items) s.behind result s.rest second.0 item second.2
    ]

record InstanceAt (walker : Walker) (here : Here) (inner : SourceModule) (given : List GivenParameter) (i : SourceInstance) (result : List Part) : Type 0 where
  before : List Part
  after : List Part
  is : walked_instance walker here inner given i before ≡ Ok after
  grows : Grows after result

instances-at : (walker : Walker) → WalkerGrows walker → (here : Here) (inner : SourceModule) (given : List GivenParameter) (instances : List SourceInstance) (parts result : List Part) →
    walked_instances walker here inner given instances parts ≡ Ok result →
    (k : ℕ) (i : SourceInstance) → slice_get instances k ≡ Some i → InstanceAt walker here inner given i result
instances-at walker grows here inner given [] parts result e k i at = absurd (cc)
instances-at walker grows here inner given (first ∷ rest) parts result e zero i at =
    let step = then_go-ok (walked_instance walker here inner given first parts) (walked_instances walker here inner given rest) result e in
    let same = same_some first i at in
    record {
      before = parts;
      after = step.0;
      is = ap (λ j. walked_instance walker here inner given j parts) (sym same) ∙ step.1;
      grows = instances-grow walker grows here inner given rest step.0 result step.2;
    }
instances-at walker grows here inner given (first ∷ rest) parts result e (suc k) i at =
    let step = then_go-ok (walked_instance walker here inner given first parts) (walked_instances walker here inner given rest) result e in
    instances-at walker grows here inner given rest step.0 result step.2 k i at

found-at : (walker : Walker) → WalkerGrows walker → (here : Here) (found : Option SourceModule) (inner : SourceModule) (place : SourcePlace) (parameters : List SourceConnection)
    (instances : List SourceInstance) (given : List GivenParameter) →
    found ≡ Some inner → given_parameters here.scope (open_parameters inner) 0 parameters ≡ given → (parts result : List Part) →
    walked_instance_item walker here found place parameters instances parts ≡ Ok result → (k : ℕ) (i : SourceInstance) →
    slice_get instances k ≡ Some i → InstanceAt walker here inner given i result
found-at walker grows here found inner place parameters instances given is given_is parts result e k i at =
    let wanted = given_parameters here.scope (open_parameters inner) 0 parameters in
    let step = then_go-ok (checked (instance_item_faults here inner parameters instances) wanted) (λ all. walked_instances walker here inner all instances parts) result
    (ap (λ m. walked_instance_item walker here m place parameters instances parts) (sym is) ∙ e) in
    let none = checked-ok (instance_item_faults here inner parameters instances) wanted step.0 step.1 in
    instances-at walker grows here inner given instances parts result (ap (λ all. walked_instances walker here inner all instances parts) (sym given_is ∙ none.1) ∙ step.2) k i at

-- Instances that a walk comes to

deep-fault : (child : Child) (depth : ℕ) (i : SourceInstance) → nat_lt most_depth depth ≡ true → instance_faults child depth i ≡ fault_at i.place TooDeep ∷ []
deep-fault child depth i e = rw e

-- an instance that isn't refused stands at most as deep as an instance may
pub instance-depth : (child : Child) (depth : ℕ) (i : SourceInstance) → instance_faults child depth i ≡ [] → depth ≤ most_depth
instance-depth child depth i e =
    elim (cases_Bool (nat_lt most_depth depth)) [
      | inl deep ↦ let wrong : fault_at i.place TooDeep ∷ [] ≡ [] = sym (deep-fault child depth i deep) ∙ e in absurd (cc)
      | inr fits ↦ ltb-false most_depth depth fits
    ]

-- an instance is walked, and its parts stand among all
pub record IsWalkedIn (modules : List SourceModule) (mode : Mode) (instance : Entered) (parts : List Part) : Type 0 where
  pub levels : ℕ
  pub enough : instance.depth + levels ≡ most_depth
  pub before : List Part
  pub after : List Part
  pub is : walked modules mode (suc levels) instance before ≡ Ok after
  pub grows : Grows after parts

child-walked : (modules : List SourceModule) (mode : Mode) (levels : ℕ) (child : Entered) (before after parts : List Part) → child.depth + levels ≡ most_depth + 1 → child.depth ≤ most_depth →
    walked modules mode levels child before ≡ Ok after → Grows after parts →
    IsWalkedIn modules mode child parts
child-walked modules mode zero child before after parts enough low e g = absurd (omega (arith, enough, low))
child-walked modules mode (suc levels) child before after parts enough low e g = record { levels = levels; enough = omega (arith, enough); before = before; after = after; is = e; grows = g }

below-walked : (modules : List SourceModule) (mode : Mode) (parts : List Part) (here : Here) → names here.instance.inner here.instance.given ≡ Ok here.scope → here.modules ≡ modules →
    here.mode ≡ mode → IsWalkedIn modules mode here.instance parts →
    (inner : SourceModule) (given : List GivenParameter) (i : SourceInstance) → IsInstance here inner given i → IsWalkedIn modules mode (entered here inner given i) parts
below-walked modules mode parts here scope same_modules same_mode w inner given i of =
    let walker = walked modules mode w.levels in
    let grows = walked-grows modules mode w.levels in
    let instance = here.instance in
    let step = then_go-ok (as_refusal (names instance.inner instance.given)) (λ s. walked_module walker
    (record { modules = modules; mode = mode; instance = instance; scope = s }) instance.inner w.before) w.after w.is in
    let own : step.0 ≡ here.scope = same_answer step.0 here.scope (names instance.inner instance.given) (as_refusal-ok (names instance.inner instance.given) step.0 step.1) scope in
    let this : Here = record { modules = modules; mode = mode; instance = instance; scope = here.scope } in
    let is_here : this ≡ here = ap (λ m. record { modules = m; mode = mode; instance = instance; scope = here.scope }) (sym same_modules)
    ∙ ap (λ m. record { modules = here.modules; mode = m; instance = instance; scope = here.scope }) (sym same_mode) in
    let whole : walked_module walker here instance.inner w.before ≡ Ok w.after =
    ap (λ h. walked_module walker h instance.inner w.before) (sym is_here) ∙ ap (λ s. walked_module walker
    (record { modules = modules; mode = mode; instance = instance; scope = s }) instance.inner w.before) (sym own) ∙ step.2 in
    let item = module-at walker grows here instance.inner w.before w.after whole (InstanceItem of.place of.module_name of.parameters of.instances) of.is in
    let at = found-at walker grows here (module_named here.modules of.module_name) inner of.place of.parameters of.instances given of.named of.given_is item.before item.after item.is of.number i
    of.at in
    let first = instance-steps walker here inner given i at.before at.after at.is in
    let depth = instance-depth (child_of here inner given) (instance.depth + 1) i of.faultless in
    let enough = w.enough in
    child-walked modules mode w.levels (entered here inner given i) first.0 at.after parts (omega (arith, enough)) depth first.2
    (grows-then at.after item.after parts at.grows (grows-then item.after w.after parts item.grows w.grows))
  where
    same_answer : (one other : Scope) (found : Result Scope Fault) → found ≡ Ok one → found ≡ Ok other → one ≡ other
    same_answer one other found e d = cc

-- each instance that a walk comes to is walked within it
pub visited-walked : (modules : List SourceModule) (mode : Mode) (top : SourceModule) (parts : List Part) → walked_from modules mode top ≡ Ok parts → (instance : Entered) →
    IsVisited modules mode top instance → IsWalkedIn modules mode instance parts
visited-walked modules mode top parts e instance at_top = record { levels = most_depth; enough = refl; before = []; after = parts; is = e; grows = ([], append-nil parts) }
visited-walked modules mode top parts e instance (below here scope same_modules same_mode visited inner given i of) =
    below-walked modules mode parts here scope same_modules same_mode (visited-walked modules mode top parts e here.instance visited) inner given i of
