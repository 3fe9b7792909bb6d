-- Steps of the walk from instance to instance.
use Rattle.std.proofs.Common.{◌≡◌, ℕ, zero, suc, ◌-◌, ◌<◌, List, [], ◌∷◌, ◌++◌, Option, Some, None, option_map, Result, Ok, Err, map, refl, sym, ap, ◌∙◌, append_assoc, arith}
use Rattle.std.specs.Borrow.{Bor}
use Rattle.vf_base.specs.Base.{source_place}
use Rattle.vf_base.specs.declared.ids.Place.{Place}
use Rattle.v_tree.specs.Trees.{Identifier, SourcePorts, SourceHeads, PlainHeads, DeclaredHeads, SourceItem, PortItem, SourceModule}
use Rattle.v_tree.specs.Views.{item_of, module_of, connection_of, instance_of}
use Rattle.v_tree.specs.declared.item.Item.{Item}
use Rattle.v_tree.specs.declared.item.Item.TheVariants as items
use Rattle.v_tree.specs.declared.item.Module.{Module}
use Rattle.v_tree.specs.declared.item.Connection.{Connection}
use Rattle.v_tree.specs.declared.item.Instance.{Instance}
use Rattle.v_names.specs.Names.{GivenParameter, names}
use Rattle.v_names.specs.Scopes.{Scope}
use Rattle.v_names.specs.Faults.{Fault, UnknownName, fault_at}
use Rattle.v_names.specs.FaultViews.{fault_of}
use Rattle.v_elab.specs.declared.Mode.{Mode}
use Rattle.v_elab.specs.Refusals.{Faulty, as_refusal, then_go, checked}
use Rattle.std.proofs.lemmas.List.{map_push}
use Rattle.v_elab.specs.Parts.{Part, InstancePart}
use Rattle.elab_parts.specs.PartViews.{part_of, parts_of}
use Rattle.elab_parts.specs.declared.part.Part as code
use Rattle.elab_parts.specs.declared.part.Part.TheVariants as parts
use Rattle.v_elab.specs.Walk.{Here, Entered, Walker, walked, walked_module, walked_item, walked_items, walked_instance_item, not_port_faults, head_items, module_named}
use Rattle.module_scope.specs.declared.module_scope.NameFault.{NameFault}
use Rattle.module_scope.specs.declared.module_scope.NameFault.TheVariants as wrong
use Rattle.module_scope.specs.NameFaults.{IsNameFault}
use Rattle.elab_walk.specs.NameFaults.{of_name_fault}
use Rattle.elab_walk.specs.WalkFaults.{IsWalkFault}
use Rattle.elab_walk.specs.ModuleViews.{module_seen}
use Rattle.elab_walk.specs.Leaves.{plain_item}
use Rattle.elab_walk.proofs.Turns.{Answer, then-both}

-- the ports of a module's head, and then its items
groups-split : (walker : Walker) (h : Here) (groups : List SourcePorts) (rest : List SourceItem) (all : List Part) →
    walked_items walker h 0 (map PortItem groups ++ rest) all ≡ then_go (walked_items walker h 0 (map PortItem groups) all) (walked_items walker h 0 rest)
groups-split walker h [] rest all = refl
groups-split walker h (g ∷ groups) rest all =
    then-both (walked_item walker h 0 (PortItem g) all) (walked_items walker h 0 (map PortItem groups)) (walked_items walker h 0 rest) (walked_items walker h 0 (map PortItem groups ++ rest))
    (groups-split walker h groups rest)

pub heads-split : (walker : Walker) (h : Here) (heads : SourceHeads) (rest : List SourceItem) (all : List Part) →
    walked_items walker h 0 (head_items heads ++ rest) all ≡ then_go (walked_items walker h 0 (head_items heads) all) (walked_items walker h 0 rest)
heads-split walker h (PlainHeads names) rest all = refl
heads-split walker h (DeclaredHeads groups) rest all = groups-split walker h groups rest all

-- an instance whose names are right is walked with its scope
pub enter-is : (modules : List SourceModule) (mode : Mode) (levels : ℕ) (e : Entered) (m : SourceModule) (given : List GivenParameter) (scope : Scope) (before : List Part) → 0 < levels →
    m ≡ e.inner → given ≡ e.given → names m given ≡ Ok scope
    → walked modules mode levels e before ≡ walked_module (walked modules mode (levels - 1)) (record { modules = modules; mode = mode; instance = e; scope = scope }) e.inner before
enter-is modules mode zero e m given scope before some inner-is given-is named = absurd (omega arith)
enter-is modules mode (suc levels) e m given scope before some inner-is given-is named =
    let below : levels ≡ suc levels - 1 = omega arith in
    let right : names e.inner e.given ≡ Ok scope = rw (← inner-is, ← given-is) named in
    ap (λ (r : Result Scope Fault). then_go (as_refusal r) (λ (s : Scope). walked_module (walked modules mode levels)
    (record { modules = modules; mode = mode; instance = e; scope = s }) e.inner before)) right
    ∙ ap (λ (n : ℕ). walked_module (walked modules mode n) (record { modules = modules; mode = mode; instance = e; scope = scope }) e.inner before) below

-- an instance whose names are wrong
pub enter-wrong : (modules : List SourceModule) (mode : Mode) (levels : ℕ) (e : Entered) (m : SourceModule) (given : List GivenParameter) (fault : NameFault) (before : List Part) → 0 < levels →
    m ≡ e.inner → given ≡ e.given
    → IsNameFault (names m given) fault → IsWalkFault (walked modules mode levels e before) (of_name_fault fault)
enter-wrong modules mode zero e m given fault before some inner-is given-is named = absurd (omega arith)
enter-wrong modules mode (suc levels) e m given (wrong.Found found) before some inner-is given-is named =
    let why : names e.inner e.given ≡ Err (fault_of found) = rw (← inner-is, ← given-is) named in
    ap (λ (r : Result Scope Fault). then_go (as_refusal r) (λ (s : Scope). walked_module (walked modules mode levels)
    (record { modules = modules; mode = mode; instance = e; scope = s }) e.inner before)) why
enter-wrong modules mode (suc levels) e m given wrong.NoMemory before some inner-is given-is named = tt

pub enter-none : (modules : List SourceModule) (mode : Mode) (levels : ℕ) (e : Entered) (before : List Part) → levels ≡ 0 → walked modules mode levels e before ≡ Ok before
enter-none modules mode levels e before none = ap (λ (n : ℕ). walked modules mode n e before) none

-- an item that is no instance
pub item-plain : (walker : Walker) (h : Here) (gates : ℕ) (item : Item) (before : List Part)
    → ((place : Place) (name : Identifier) (parameters : List Connection) (instances : List Instance) → item ≡ items.Instance place name parameters instances → ⊥) →
    plain_item h gates (item_of item) before ≡ walked_item walker h gates (item_of item) before
item-plain walker h gates (items.Params group) before not-one = refl
item-plain walker h gates (items.Ports group) before not-one = refl
item-plain walker h gates (items.Wire place signed range wires) before not-one = refl
item-plain walker h gates (items.Reg place signed range regs) before not-one = refl
item-plain walker h gates (items.Integer place regs) before not-one = refl
item-plain walker h gates (items.Assign place assignments) before not-one = refl
item-plain walker h gates (items.Gate place kind gates-in) before not-one = refl
item-plain walker h gates (items.Instance place name parameters instances) before not-one = absurd (not-one place name parameters instances refl)
item-plain walker h gates (items.Initial place body) before not-one = refl
item-plain walker h gates (items.Always place body) before not-one = refl

-- instances of a module that there isn't, and of one that there is
pub item-unknown : (walker : Walker) (h : Here) (gates : ℕ) (item : Item) (place : Place) (name : Identifier) (parameters : List Connection) (instances : List Instance) (before : List Part)
    (found : Option (Bor Module))
    → item ≡ items.Instance place name parameters instances → option_map module_seen found ≡ module_named h.modules name → found ≡ None →
    walked_item walker h gates (item_of item) before ≡ Err (Faulty (fault_at (source_place place) UnknownName))
item-unknown walker h gates item place name parameters instances before found is named none =
    ap (λ (i : Item). walked_item walker h gates (item_of i) before) is
    ∙ ap (λ (m : Option SourceModule). walked_instance_item walker h m (source_place place) (map connection_of parameters) (map instance_of instances) before)
    (sym named ∙ ap (option_map module_seen) none)

pub item-known : (walker : Walker) (h : Here) (gates : ℕ) (item : Item) (place : Place) (name : Identifier) (parameters : List Connection) (instances : List Instance) (before : List Part)
    (found : Option (Bor Module)) (m : Bor Module)
    → item ≡ items.Instance place name parameters instances → option_map module_seen found ≡ module_named h.modules name → found ≡ Some m
    → walked_instance_item walker h (Some (module_of m.now)) (source_place place) (map connection_of parameters) (map instance_of instances) before ≡ walked_item walker h gates (item_of item) before
item-known walker h gates item place name parameters instances before found m is named some =
    ap (λ (m : Option SourceModule). walked_instance_item walker h m (source_place place) (map connection_of parameters) (map instance_of instances) before)
    (sym (ap (option_map module_seen) some) ∙ named)
    ∙ ap (λ (i : Item). walked_item walker h gates (item_of i) before) (sym is)

-- an instance and what its connections become are put behind the others
pub pushed-instance : (old mid : List code.Part) (all assigned : List Part) → mid ≡ old ++ parts.Instance ∷ [] → all ≡ parts_of mid ++ assigned → all ≡ parts_of old ++ (InstancePart ∷ assigned)
pushed-instance old mid all assigned one more =
    more ∙ ap (λ (ps : List code.Part). parts_of ps ++ assigned) one ∙ ap (λ (ps : List Part). ps ++ assigned) (map_push part_of old parts.Instance)
    ∙ append_assoc (parts_of old) (InstancePart ∷ []) assigned

-- what is left of a module behind the parameters of its head
abbrev pub behind_parameters : Walker → Here → SourceModule → List Part → Answer
behind_parameters walker h m behind = then_go (checked (not_port_faults m m.heads) behind) (walked_items walker h 0 (head_items m.heads ++ m.items))
