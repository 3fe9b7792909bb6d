-- The names that a module declares are tokens of its spelling, in the order of the text (IEEE 1364-2001, annexes A.1 to A.4).
use Rattle.std.proofs.Common.{◌≡◌, Bool, true, false, List, [], ◌∷◌, ◌++◌, map, Option, Some, None, refl, sym, ap, ◌∙◌, subst}
use Rattle.std.specs.Prelude.{flat_map}
use Rattle.std.proofs.lemmas.List.{map-append}
use Rattle.vf_base.specs.Base.{SourcePlace}
use Rattle.four_value.specs.declared.operator.GateKind.{GateKind}
use Rattle.v_tree.specs.Tokens.{SourceToken}
use Rattle.v_tree.specs.Trees.{NamedPlace, SourceRange, SourceParameter, SourceParameters, SourcePorts, SourceWire, SourceReg, SourceGate, SourceInstance, SourceItem, ParameterItem, PortItem}
use Rattle.v_tree.specs.Trees.{WireItem, RegItem, IntegerItem, AssignItem, GateItem, InstanceItem, InitialItem, AlwaysItem, SourceHeads, PlainHeads, DeclaredHeads, SourceModule}
use Rattle.v_readers.specs.declared.class.Class.{Class}
use Rattle.v_readers.specs.declared.class.Class.TheVariants as classes
use Rattle.v_readers.specs.Classes.{name_token, token_of}
use Rattle.v_readers.specs.Separated.{SpellsBehind, SpellsList}
use Rattle.v_names.specs.Names.{Bounds, IntegerBounds, DeclaredParameter, DeclaredPort, DeclaredNet, DeclaredGate, DeclaredInstance, Declaration, bounds_of, parameter_declarations}
use Rattle.v_names.specs.Names.{port_declarations, reg_declared, gate_declarations, item_declarations, head_declarations, declarations_of}
use Rattle.v_parse.specs.Spelling.{SpellsEach, SpellsNamed, SpellsParameter, SpellsParameters, SpellsGroup, parameter_word, SpellsParameterList, direction_word, SpellsPorts, SpellsHeads, SpellsWire}
use Rattle.v_parse.specs.Spelling.{SpellsReg, SpellsDeclared, gate_word, SpellsGateName, SpellsGate, SpellsInstance, SpellsItem, SpellsModule}
use Rattle.source_laws.specs.InOrder.{StandsIn, none-stand, first-stands, append-stands, back-stands, front-stands}

-- the token of a declared name
abbrev pub declared_token : Declaration → SourceToken
declared_token d = name_token d.name d.place

-- the names of the declarations stand among the tokens in this order
abbrev pub Declares : List Declaration → List SourceToken → Type 0
Declares ds ts = StandsIn (map declared_token ds) ts

both-declare : (ds more : List Declaration) (ts others : List SourceToken) → Declares ds ts → Declares more others → Declares (ds ++ more) (ts ++ others)
both-declare ds more ts others h d =
    subst (λ l. StandsIn l (ts ++ others)) (sym (map-append declared_token ds more)) (append-stands (map declared_token ds) (map declared_token more) ts others h d)

-- behind tokens of other things
behind-declares : (ds : List Declaration) (ts others : List SourceToken) → Declares ds others → Declares ds (ts ++ others)
behind-declares ds ts others h = back-stands (map declared_token ds) ts others h

before-declares : (ds : List Declaration) (ts others : List SourceToken) → Declares ds ts → Declares ds (ts ++ others)
before-declares ds ts others h = front-stands (map declared_token ds) ts others h

-- one name behind its token
name-declares : (d : Declaration) (ts : List SourceToken) → Declares (d ∷ []) (declared_token d ∷ ts)
name-declares d ts = first-stands (declared_token d) [] ts (none-stand ts)

-- Lists

list-behind-declares : {A : Type 0} (L : A → List SourceToken → Type 0) (separator : Class) (f : A → List Declaration) → ((x : A) (ts : List SourceToken) → L x ts → Declares (f x) ts) →
    (xs : List A) (ts : List SourceToken) → SpellsBehind L separator xs ts → Declares (flat_map f xs) ts
list-behind-declares L separator f each [] ts h = none-stand ts
list-behind-declares L separator f each (x ∷ xs) ts h =
    subst (Declares (f x ++ flat_map f xs)) (sym h.5)
    (behind-declares (f x ++ flat_map f xs) (token_of separator h.0 ∷ []) (h.1 ++ h.2) (both-declare (f x) (flat_map f xs) h.1 h.2 (each x h.1 h.3)
    (list-behind-declares L separator f each xs h.2 h.4)))

list-declares : {A : Type 0} (L : A → List SourceToken → Type 0) (separator : Class) (f : A → List Declaration) → ((x : A) (ts : List SourceToken) → L x ts → Declares (f x) ts) →
    (xs : List A) (ts : List SourceToken) → SpellsList L separator xs ts → Declares (flat_map f xs) ts
list-declares L separator f each [] ts h = none-stand ts
list-declares L separator f each (x ∷ xs) ts h =
    subst (Declares (f x ++ flat_map f xs)) (sym h.4) (both-declare (f x) (flat_map f xs) h.0 h.1 (each x h.0 h.2) (list-behind-declares L separator f each xs h.1 h.3))

each-declares : {A : Type 0} (L : A → List SourceToken → Type 0) (f : A → List Declaration) → ((x : A) (ts : List SourceToken) → L x ts → Declares (f x) ts) → (xs : List A) (ts : List SourceToken) →
    SpellsEach L xs ts → Declares (flat_map f xs) ts
each-declares L f each [] ts h = none-stand ts
each-declares L f each (x ∷ xs) ts h = subst (Declares (f x ++ flat_map f xs)) (sym h.4) (both-declare (f x) (flat_map f xs) h.0 h.1 (each x h.0 h.2) (each-declares L f each xs h.1 h.3))

-- elements of one name each
one_each : {A : Type 0} (f : A → Declaration) (xs : List A) → flat_map (λ x. f x ∷ []) xs ≡ map f xs
one_each f [] = refl
one_each f (x ∷ xs) = ap (λ l. f x ∷ l) (one_each f xs)

names-declare : {A : Type 0} (L : A → List SourceToken → Type 0) (separator : Class) (f : A → Declaration) → ((x : A) (ts : List SourceToken) → L x ts → Declares (f x ∷ []) ts) →
    (xs : List A) (ts : List SourceToken) → SpellsList L separator xs ts → Declares (map f xs) ts
names-declare L separator f each xs ts h = subst (λ l. Declares l ts) (one_each f xs) (list-declares L separator (λ x. f x ∷ []) each xs ts h)

-- Parameters

abbrev parameter_declared : SourceParameters → SourceParameter → Declaration
parameter_declared group p = record { name = p.name; place = p.place; declared = DeclaredParameter group.is_local group.signed (bounds_of group.range) p.value }

parameter-declares : (group : SourceParameters) (p : SourceParameter) (ts : List SourceToken) → SpellsParameter p ts → Declares (parameter_declared group p ∷ []) ts
parameter-declares group p ts h =
    subst (Declares (parameter_declared group p ∷ [])) (sym h.4) (name-declares (parameter_declared group p) (token_of classes.Assign h.1 ∷ h.2))

parameters-declare : (word : Class) (group : SourceParameters) (ts : List SourceToken) → SpellsParameters word group ts → Declares (parameter_declarations group) ts
parameters-declare word group ts h =
    let ds = parameter_declarations group in
    let listed : Declares ds h.2 = names-declare SpellsParameter classes.Comma (parameter_declared group) (parameter-declares group) group.parameters h.2 h.5 in
    subst (Declares ds) (sym h.6) (behind-declares ds (token_of word group.place ∷ h.0) (h.1 ++ h.2) (behind-declares ds h.1 h.2 listed))

parameter_list-declares : (groups : List SourceParameters) (ts : List SourceToken) → SpellsParameterList groups ts → Declares (flat_map parameter_declarations groups) ts
parameter_list-declares [] ts h = none-stand ts
parameter_list-declares (group ∷ groups) ts h =
    let ds = flat_map parameter_declarations (group ∷ groups) in
    let close = token_of classes.RightParen h.2 ∷ [] in
    let listed : Declares ds h.3 = list-declares SpellsGroup classes.Comma parameter_declarations (λ g ts d. parameters-declare classes.Parameter g ts d.1) (group ∷ groups) h.3 h.4 in
    subst (Declares ds) (sym h.5) (behind-declares ds (token_of classes.Hash h.0 ∷ token_of classes.LeftParen h.1 ∷ []) (h.3 ++ close) (before-declares ds h.3 close listed))

-- Ports

abbrev port_declared : SourcePorts → NamedPlace → Declaration
port_declared group n = record { name = n.name; place = n.place; declared = DeclaredPort group.direction group.is_reg group.signed (bounds_of group.range) None }

port-declares : (group : SourcePorts) (n : NamedPlace) (ts : List SourceToken) → SpellsNamed n ts → Declares (port_declared group n ∷ []) ts
port-declares group n ts h = subst (Declares (port_declared group n ∷ [])) (sym h.1) (name-declares (port_declared group n) [])

ports-declare : (group : SourcePorts) (ts : List SourceToken) → SpellsPorts group ts → Declares (port_declarations group) ts
ports-declare group ts h =
    let ds = port_declarations group in
    let listed : Declares ds h.3 = names-declare SpellsNamed classes.Comma (port_declared group) (port-declares group) group.names h.3 h.7 in
    subst (Declares ds) (sym h.8)
    (behind-declares ds (token_of (direction_word group.direction) group.place ∷ h.0) (h.1 ++ (h.2 ++ h.3)) (behind-declares ds h.1 (h.2 ++ h.3) (behind-declares ds h.2 h.3 listed)))

heads-declare : (heads : SourceHeads) (ts : List SourceToken) → SpellsHeads heads ts → Declares (head_declarations heads) ts
heads-declare (PlainHeads names) ts h = none-stand ts
heads-declare (DeclaredHeads groups) ts h =
    let ds = head_declarations (DeclaredHeads groups) in
    let close = token_of classes.RightParen h.1 ∷ [] in
    let listed : Declares ds h.2 = list-declares SpellsPorts classes.Comma port_declarations ports-declare groups h.2 h.3 in
    subst (Declares ds) (sym h.4) (behind-declares ds (token_of classes.LeftParen h.0 ∷ []) (h.2 ++ close) (before-declares ds h.2 close listed))

-- Items

-- a word, and elements of one name each
group-declares : {A : Type 0} (word : Class) (place : SourcePlace) (signed : Bool) (range : Option SourceRange) (L : A → List SourceToken → Type 0) (f : A → List Declaration) →
    ((x : A) (ts : List SourceToken) → L x ts → Declares (f x) ts) → (xs : List A) (ts : List SourceToken) → SpellsDeclared word place signed range L xs ts → Declares (flat_map f xs) ts
group-declares word place signed range L f each xs ts h =
    let ds = flat_map f xs in
    let end = token_of classes.Semicolon h.0 ∷ [] in
    let listed : Declares ds h.3 = list-declares L classes.Comma f each xs h.3 h.6 in
    subst (Declares ds) (sym h.7) (behind-declares ds (token_of word place ∷ h.1) (h.2 ++ (h.3 ++ end)) (behind-declares ds h.2 (h.3 ++ end) (before-declares ds h.3 end listed)))

abbrev wire_declared : Bool → Option SourceRange → SourceWire → Declaration
wire_declared signed range w = record { name = w.name; place = w.place; declared = DeclaredNet signed (bounds_of range) }

wire-declares : (signed : Bool) (range : Option SourceRange) (w : SourceWire) (ts : List SourceToken) → SpellsWire w ts → Declares (wire_declared signed range w ∷ []) ts
wire-declares signed range w ts h = subst (Declares (wire_declared signed range w ∷ [])) (sym h.3) (name-declares (wire_declared signed range w) h.1)

abbrev reg_declaration : Bool → Bounds → SourceReg → Declaration
reg_declaration signed bounds r = record { name = r.name; place = r.place; declared = reg_declared signed bounds r.content }

reg-declares : (signed : Bool) (bounds : Bounds) (r : SourceReg) (ts : List SourceToken) → SpellsReg r ts → Declares (reg_declaration signed bounds r ∷ []) ts
reg-declares signed bounds r ts h = subst (Declares (reg_declaration signed bounds r ∷ [])) (sym h.3) (name-declares (reg_declaration signed bounds r) h.1)

-- the declaration of a gate that has a name
abbrev gate_declaration : Option NamedPlace → List Declaration
gate_declaration None = []
gate_declaration (Some n) = record { name = n.name; place = n.place; declared = DeclaredGate } ∷ []

gate_name-declares : (name : Option NamedPlace) (ts : List SourceToken) → SpellsGateName name ts → Declares (gate_declaration name) ts
gate_name-declares None ts h = none-stand ts
gate_name-declares (Some n) ts h =
    let d : Declaration = record { name = n.name; place = n.place; declared = DeclaredGate } in
    subst (Declares (d ∷ [])) (sym h.1) (name-declares d [])

gate-declares : (kind : GateKind) (g : SourceGate) (ts : List SourceToken) → SpellsGate kind g ts → Declares (gate_declaration g.name) ts
gate-declares kind g ts h =
    let more = token_of classes.LeftParen h.1 ∷ (h.5 ++ token_of classes.Comma h.2 ∷ (h.6 ++ token_of classes.RightParen h.3 ∷ [])) in
    subst (Declares (gate_declaration g.name)) (sym h.10) (before-declares (gate_declaration g.name) h.4 more (gate_name-declares g.name h.4 h.7))

gate-front : (g : SourceGate) (name : Option NamedPlace) (gates : List SourceGate) → gate_declarations (record g { name = name } ∷ gates) ≡ gate_declaration name ++ gate_declarations gates
gate-front g None gates = refl
gate-front g (Some n) gates = refl

gates-named : (gates : List SourceGate) → flat_map (λ (g : SourceGate). gate_declaration g.name) gates ≡ gate_declarations gates
gates-named [] = refl
gates-named (g ∷ gates) = ap (λ l. gate_declaration g.name ++ l) (gates-named gates) ∙ sym (gate-front g g.name gates)

abbrev instance_declaration : SourceInstance → Declaration
instance_declaration i = record { name = i.name; place = i.place; declared = DeclaredInstance }

instance-declares : (i : SourceInstance) (ts : List SourceToken) → SpellsInstance i ts → Declares (instance_declaration i ∷ []) ts
instance-declares i ts h =
    subst (Declares (instance_declaration i ∷ [])) (sym h.5) (name-declares (instance_declaration i) (token_of classes.LeftParen h.1 ∷ (h.3 ++ token_of classes.RightParen h.2 ∷ [])))

item-declares : (item : SourceItem) (ts : List SourceToken) → SpellsItem item ts → Declares (item_declarations item) ts
item-declares (ParameterItem group) ts h =
    let ds = parameter_declarations group in
    subst (Declares ds) (sym h.3) (before-declares ds h.1 (token_of classes.Semicolon h.0 ∷ []) (parameters-declare (parameter_word group.is_local) group h.1 h.2))
item-declares (PortItem group) ts h =
    let ds = port_declarations group in
    subst (Declares ds) (sym h.3) (before-declares ds h.1 (token_of classes.Semicolon h.0 ∷ []) (ports-declare group h.1 h.2))
item-declares (WireItem place signed range wires) ts h =
    subst (λ l. Declares l ts) (one_each (wire_declared signed range) wires)
    (group-declares classes.Wire place signed range SpellsWire (λ w. wire_declared signed range w ∷ []) (wire-declares signed range) wires ts h)
item-declares (RegItem place signed range regs) ts h =
    subst (λ l. Declares l ts) (one_each (reg_declaration signed (bounds_of range)) regs)
    (group-declares classes.Reg place signed range SpellsReg (λ r. reg_declaration signed (bounds_of range) r ∷ []) (reg-declares signed (bounds_of range)) regs ts h)
item-declares (IntegerItem place regs) ts h =
    subst (λ l. Declares l ts) (one_each (reg_declaration true IntegerBounds) regs)
    (group-declares classes.Integer place false None SpellsReg (λ r. reg_declaration true IntegerBounds r ∷ []) (reg-declares true IntegerBounds) regs ts h)
item-declares (AssignItem place assignments) ts h = none-stand ts
item-declares (GateItem place kind gates) ts h =
    subst (λ l. Declares l ts) (gates-named gates) (group-declares (gate_word kind) place false None (SpellsGate kind) (λ (g : SourceGate). gate_declaration g.name) (gate-declares kind) gates ts h)
item-declares (InstanceItem place module_name parameters instances) ts h =
    let ds = item_declarations (InstanceItem place module_name parameters instances) in
    let end = token_of classes.Semicolon h.1 ∷ [] in
    let listed : Declares ds h.3 = names-declare SpellsInstance classes.Comma instance_declaration instance-declares instances h.3 h.5 in
    subst (Declares ds) (sym h.6) (behind-declares ds (name_token module_name place ∷ h.2) (h.3 ++ end) (before-declares ds h.3 end listed))
item-declares (InitialItem place body) ts h = none-stand ts
item-declares (AlwaysItem place body) ts h = none-stand ts

-- Modules

pub module-declares : (m : SourceModule) (ts : List SourceToken) → SpellsModule m ts → Declares (declarations_of m) ts
module-declares m ts h =
    let parameters = flat_map parameter_declarations m.parameters in
    let heads = head_declarations m.heads in
    let items = flat_map item_declarations m.items in
    let end = token_of classes.EndModule h.3 ∷ [] in
    let inner : Declares items (token_of classes.Semicolon h.2 ∷ (h.6 ++ end)) =
    behind-declares items (token_of classes.Semicolon h.2 ∷ []) (h.6 ++ end) (before-declares items h.6 end (each-declares SpellsItem item_declarations item-declares m.items h.6 h.9)) in
    let later : Declares (heads ++ items) (h.5 ++ token_of classes.Semicolon h.2 ∷ (h.6 ++ end)) =
    both-declare heads items h.5 (token_of classes.Semicolon h.2 ∷ (h.6 ++ end)) (heads-declare m.heads h.5 h.8) inner in
    let all : Declares (parameters ++ (heads ++ items)) (h.4 ++ (h.5 ++ token_of classes.Semicolon h.2 ∷ (h.6 ++ end))) =
    both-declare parameters (heads ++ items) h.4 (h.5 ++ token_of classes.Semicolon h.2 ∷ (h.6 ++ end)) (parameter_list-declares m.parameters h.4 h.7) later in
    subst (Declares (parameters ++ (heads ++ items))) (sym h.10)
    (behind-declares (parameters ++ (heads ++ items)) (token_of classes.Module h.1 ∷ name_token m.name m.place ∷ []) (h.4 ++ (h.5 ++ token_of classes.Semicolon h.2 ∷ (h.6 ++ end))) all)
