-- Reading items, modules and units is exact.
use Rattle.std.proofs.Common.{◌≡◌, ℕ, ◌<◌, ◌≤◌, Bool, true, false, List, [], ◌∷◌, ◌++◌, length, Option, Some, None, refl, sym, ◌∙◌, ap, subst, arith, append_assoc, length-append}
use Rattle.vf_base.specs.Base.{SourcePlace}
use Rattle.four_value.specs.declared.operator.GateKind.{GateKind}
use Rattle.four_value.specs.declared.operator.GateKind.TheVariants.{And, Nand, Or, Nor, Xor, Xnor, Buf, Not}
use Rattle.v_tree.specs.Tokens.{SourceToken}
use Rattle.v_tree.specs.declared.item.Direction.{Direction}
use Rattle.v_tree.specs.declared.item.Direction.TheVariants.{Input, Output}
use Rattle.v_tree.specs.Trees.{SourceItem, ParameterItem, PortItem, WireItem, RegItem, IntegerItem, AssignItem, GateItem, InstanceItem, InitialItem, AlwaysItem, SourceRange, SourceModule, SourceUnit}
use Rattle.v_readers.specs.declared.class.Class.{Class}
use Rattle.v_readers.specs.declared.class.Class.TheVariants as classes
use Rattle.v_readers.specs.Classes.{is_fixed, token_of, name_token}
use Rattle.v_readers.specs.Separated.{SpellsList}
use Rattle.v_readers.specs.Exact.{Language, Family, Exact, exact-bind, exact-under, exact-give}
use Rattle.v_readers.specs.Branches.{Some-of, Branch, branch, branch-wrong, exact-by_class, exact-after, exact-name, exact-end}
use Rattle.v_readers.specs.Repeat.{append-nil, Turn, TurnFits, exact-repeat}
use Rattle.v_readers.specs.SeparatedLaws.{EachFits, exact-separated}
use Rattle.v_stmt.specs.Spelling.{SpellsStatement}
use Rattle.v_stmt.specs.StatementExact.{statement-exact}
use Rattle.v_parse.specs.Spelling.{SpellsEach, parameter_word, SpellsParameters, SpellsWire, SpellsReg, SpellsAssignment, gate_word, SpellsGate, SpellsInstance, SpellsDeclared, SpellsItem}
use Rattle.v_parse.specs.Spelling.{SpellsModule, SpellsUnit}
use Rattle.v_parse.specs.Heights.{greatest, wire_height, reg_height, assignment_height, gate_height, instance_height, item_height, module_height, unit_height}
use Rattle.v_parse.specs.Items.{wire, reg, assignment, gate, inst, declared, parameter_item, port_item, wire_item, reg_item, integer_item, assign_item, gate_item, instance_item, initial_item}
use Rattle.v_parse.specs.Items.{always_item, item_by, item, items_by, items_turn, module_reader, modules_by, modules_turn, unit_reader}
use Rattle.v_parse.specs.DeclarationExact.{greatest-fits, greatest-append, signed-exact, width-exact, parameters-exact, parameter_list-exact, ports-exact, heads-exact, WireWithin, wire-exact}
use Rattle.v_parse.specs.DeclarationExact.{RegWithin, reg-exact}
use Rattle.v_parse.specs.ConnectionExact.{AssignmentWithin, assignment-exact, GateWithin, gate-exact, given-exact, InstanceWithin, inst-exact}

abbrev pub ItemWithin : ℕ → SourceItem → Type 0
ItemWithin k i = item_height i ≤ k

-- elements with commas between them, then a semicolon
abbrev pub SpellsToEnd : {A : Type 0} → Language A → Language (List A)
SpellsToEnd L xs ts = (end_place : SourcePlace) × (after : List SourceToken) × SpellsList L classes.Comma xs after × (ts ≡ after ++ token_of classes.Semicolon end_place ∷ [])

pub declared-exact : {C A : Type 0} (P : Family A) (k : ℕ) (L : Language A) (F : A → Type 0) → Exact C P k L F → Exact C (λ m. declared (P m)) k (SpellsToEnd L) (EachFits F)
unfolding declared
declared-exact P k L F exact =
    exact-bind (exact-separated P k L F classes.Comma refl exact) (λ xs after listing.
    exact-after classes.Semicolon refl (λ ending.
    exact-give xs (ending, after, listing, refl) (λ c. c.1)))

parameter_item-exact : {C : Type 0} (k : ℕ) (is_local : Bool) → Exact C (λ m. parameter_item m is_local) k SpellsItem (ItemWithin k)
unfolding parameter_item
parameter_item-exact k is_local =
    exact-bind (parameters-exact k is_local) (λ g before spelled.
    exact-after classes.Semicolon refl (λ ending.
    exact-give (ParameterItem g) (ending, before, subst (λ b. SpellsParameters (parameter_word b) g before) (sym spelled.0) spelled.1, refl) (λ c. c.1)))

port_item-exact : {C : Type 0} (k : ℕ) (direction : Direction) → Exact C (λ m. port_item m direction) k SpellsItem (ItemWithin k)
unfolding port_item
port_item-exact k direction =
    exact-bind (ports-exact k direction) (λ g before spelled.
    exact-after classes.Semicolon refl (λ ending.
    exact-give (PortItem g) (ending, before, spelled, refl) (λ c. c.1)))

wire_item-exact : {C : Type 0} (k : ℕ) → Exact C wire_item k SpellsItem (ItemWithin k)
unfolding wire_item
wire_item-exact k =
    exact-after classes.Wire refl (λ place.
    exact-bind signed-exact (λ s sign signing.
    exact-bind (width-exact k) (λ w width ranging.
    exact-bind (declared-exact wire k SpellsWire (WireWithin k) (wire-exact k)) (λ xs after listing.
    exact-give (WireItem place s w xs) (listing.0, sign, width, listing.1, signing, ranging, listing.2, ap (λ f. token_of classes.Wire place ∷ (sign ++ (width ++ f))) (append-nil after ∙ listing.3))
    (λ c. let all : greatest wire_height xs ≤ k = greatest-fits wire_height k xs c.1 in omega (arith, c.0.1))))))

reg_item-exact : {C : Type 0} (k : ℕ) → Exact C reg_item k SpellsItem (ItemWithin k)
unfolding reg_item
reg_item-exact k =
    exact-after classes.Reg refl (λ place.
    exact-bind signed-exact (λ s sign signing.
    exact-bind (width-exact k) (λ w width ranging.
    exact-bind (declared-exact reg k SpellsReg (RegWithin k) (reg-exact k)) (λ xs after listing.
    exact-give (RegItem place s w xs) (listing.0, sign, width, listing.1, signing, ranging, listing.2, ap (λ f. token_of classes.Reg place ∷ (sign ++ (width ++ f))) (append-nil after ∙ listing.3))
    (λ c. let all : greatest reg_height xs ≤ k = greatest-fits reg_height k xs c.1 in omega (arith, c.0.1))))))

integer_item-exact : {C : Type 0} (k : ℕ) → Exact C integer_item k SpellsItem (ItemWithin k)
unfolding integer_item
integer_item-exact k =
    exact-after classes.Integer refl (λ place.
    exact-bind (declared-exact reg k SpellsReg (RegWithin k) (reg-exact k)) (λ xs after listing.
    exact-give (IntegerItem place xs) (listing.0, [], [], listing.1, refl, refl, listing.2, ap (λ f. token_of classes.Integer place ∷ f) (append-nil after ∙ listing.3))
    (λ c. greatest-fits reg_height k xs c.1)))

assign_item-exact : {C : Type 0} (k : ℕ) → Exact C assign_item k SpellsItem (ItemWithin k)
unfolding assign_item
assign_item-exact k =
    exact-after classes.AssignWord refl (λ place.
    exact-bind (declared-exact assignment k SpellsAssignment (AssignmentWithin k) (assignment-exact k)) (λ xs after listing.
    exact-give (AssignItem place xs) (listing.0, [], [], listing.1, refl, refl, listing.2, ap (λ f. token_of classes.AssignWord place ∷ f) (append-nil after ∙ listing.3))
    (λ c. greatest-fits assignment_height k xs c.1)))

gate_word-fixed : (kind : GateKind) → is_fixed (gate_word kind) ≡ true
gate_word-fixed And = refl
gate_word-fixed Nand = refl
gate_word-fixed Or = refl
gate_word-fixed Nor = refl
gate_word-fixed Xor = refl
gate_word-fixed Xnor = refl
gate_word-fixed Buf = refl
gate_word-fixed Not = refl

gate_item-exact : {C : Type 0} (k : ℕ) (kind : GateKind) → Exact C (λ m. gate_item m kind) k SpellsItem (ItemWithin k)
unfolding gate_item
gate_item-exact k kind =
    exact-after (gate_word kind) (gate_word-fixed kind) (λ place.
    exact-bind (declared-exact (λ m. gate m kind) k (SpellsGate kind) (GateWithin k) (gate-exact k kind)) (λ xs after listing.
    exact-give (GateItem place kind xs) (listing.0, [], [], listing.1, refl, refl, listing.2, ap (λ f. token_of (gate_word kind) place ∷ f) (append-nil after ∙ listing.3))
    (λ c. greatest-fits gate_height k xs c.1)))

instance_item-exact : {C : Type 0} (k : ℕ) → Exact C instance_item k SpellsItem (ItemWithin k)
unfolding instance_item
instance_item-exact k =
    exact-bind exact-name (λ n front spelled.
    exact-bind (given-exact k) (λ cs before giving.
    exact-bind (declared-exact inst k SpellsInstance (InstanceWithin k) (inst-exact k)) (λ xs after listing.
    exact-give (InstanceItem n.1 n.0 cs xs)
    (spelled.0, listing.0, before, listing.1, giving, listing.2, ap (λ f. f ++ (before ++ (after ++ []))) spelled.1 ∙ ap (λ f. name_token n.0 n.1 ∷ (before ++ f)) (append-nil after ∙ listing.3))
    (λ c. let all : greatest instance_height xs ≤ k = greatest-fits instance_height k xs c.1 in omega (arith, c.0.1)))))

initial_item-exact : {C : Type 0} (k : ℕ) → Exact C initial_item k SpellsItem (ItemWithin k)
unfolding initial_item
initial_item-exact k =
    exact-after classes.Initial refl (λ place.
    exact-bind (statement-exact k) (λ s after spelled.
    exact-give (InitialItem place s) (after ++ [], subst (SpellsStatement s) (sym (append-nil after)) spelled, refl) (λ c. c.1)))

always_item-exact : {C : Type 0} (k : ℕ) → Exact C always_item k SpellsItem (ItemWithin k)
unfolding always_item
always_item-exact k =
    exact-after classes.Always refl (λ place.
    exact-bind (statement-exact k) (λ s after spelled.
    exact-give (AlwaysItem place s) (after ++ [], subst (SpellsStatement s) (sym (append-nil after)) spelled, refl) (λ c. c.1)))

pub item-exact : {C : Type 0} (k : ℕ) → Exact C item k SpellsItem (ItemWithin k)
unfolding item
item-exact {C} k = exact-by_class (λ m. item_by m) some each
  where
    some : Some-of C SpellsItem (ItemWithin k)
    some =
        let x = (initial_item-exact {C = Unit {0}} k).some tt in
        ((x.0, x.1, x.2), λ c. (x.0, x.1, x.2, x.3))

    each : (class : Option Class) → Branch C (λ m. item_by m class) k SpellsItem (ItemWithin k) class
    each (Some classes.Parameter) = branch (parameter_item-exact k false)
    each (Some classes.LocalParameter) = branch (parameter_item-exact k true)
    each (Some classes.Input) = branch (port_item-exact k Input)
    each (Some classes.Output) = branch (port_item-exact k Output)
    each (Some classes.Wire) = branch (wire_item-exact k)
    each (Some classes.Reg) = branch (reg_item-exact k)
    each (Some classes.Integer) = branch (integer_item-exact k)
    each (Some classes.AssignWord) = branch (assign_item-exact k)
    each (Some classes.AndWord) = branch (gate_item-exact k And)
    each (Some classes.NandWord) = branch (gate_item-exact k Nand)
    each (Some classes.OrWord) = branch (gate_item-exact k Or)
    each (Some classes.NorWord) = branch (gate_item-exact k Nor)
    each (Some classes.XorWord) = branch (gate_item-exact k Xor)
    each (Some classes.XnorWord) = branch (gate_item-exact k Xnor)
    each (Some classes.BufWord) = branch (gate_item-exact k Buf)
    each (Some classes.NotWord) = branch (gate_item-exact k Not)
    each (Some classes.Initial) = branch (initial_item-exact k)
    each (Some classes.Always) = branch (always_item-exact k)
    each (Some classes.Name) = branch (instance_item-exact k)
    each _ = branch-wrong some

-- Modules and units

pub each-append : {A : Type 0} (L : Language A) (xs : List A) (front : List SourceToken) (x : A) (inside : List SourceToken)
    → SpellsEach L xs front → L x inside → SpellsEach L (xs ++ x ∷ []) (front ++ (inside ++ []))
each-append L [] front x inside h s = (inside, [], s, refl, ap (λ f. f ++ (inside ++ [])) h)
each-append L (y ∷ xs) front x inside h s =
    (h.0, h.1 ++ (inside ++ []), h.2, each-append L xs h.1 x inside h.3 s, ap (λ f. f ++ (inside ++ [])) h.4 ∙ append_assoc h.0 h.1 (inside ++ []))

declared-tokens : {A : Type 0} (word : Class) (place : SourcePlace) (s : Bool) (w : Option SourceRange) (L : A → List SourceToken → Type 0) (xs : List A) (ts : List SourceToken)
    → SpellsDeclared word place s w L xs ts → 0 < length ts
declared-tokens word place s w L xs ts h = omega (arith, ap length h.7)

pub item-tokens : (i : SourceItem) (ts : List SourceToken) → SpellsItem i ts → 0 < length ts
item-tokens (ParameterItem g) ts h = omega (arith, ap length h.3, length-append h.1 (token_of classes.Semicolon h.0 ∷ []))
item-tokens (PortItem g) ts h = omega (arith, ap length h.3, length-append h.1 (token_of classes.Semicolon h.0 ∷ []))
item-tokens (WireItem place s w xs) ts h = declared-tokens classes.Wire place s w SpellsWire xs ts h
item-tokens (RegItem place s w xs) ts h = declared-tokens classes.Reg place s w SpellsReg xs ts h
item-tokens (IntegerItem place xs) ts h = declared-tokens classes.Integer place false None SpellsReg xs ts h
item-tokens (AssignItem place xs) ts h = declared-tokens classes.AssignWord place false None SpellsAssignment xs ts h
item-tokens (GateItem place kind xs) ts h = declared-tokens (gate_word kind) place false None (SpellsGate kind) xs ts h
item-tokens (InstanceItem place name cs xs) ts h = omega (arith, ap length h.6)
item-tokens (InitialItem place s) ts h = omega (arith, ap length h.2)
item-tokens (AlwaysItem place s) ts h = omega (arith, ap length h.2)

abbrev pub ItemsWithin : ℕ → List SourceItem → Type 0
ItemsWithin k is = greatest item_height is ≤ k

items_turn-exact : {C : Type 0} (k : ℕ) (is : List SourceItem) (front : List SourceToken) → SpellsEach SpellsItem is front
    → Exact (C × ItemsWithin k is) (λ m. items_turn m is) k (Turn (SpellsEach SpellsItem) is front) (TurnFits (ItemsWithin k))
items_turn-exact {C} k is front here = exact-by_class (λ m. items_by m is) ((None, [], refl), λ c. (None, [], refl, tt)) each
  where
    each : (class : Option Class) → Branch (C × ItemsWithin k is) (λ m. items_by m is class) k (Turn (SpellsEach SpellsItem) is front) (TurnFits (ItemsWithin k)) class
    each (Some classes.EndModule) = branch (exact-give None refl (λ c. tt))
    each _ = branch (exact-bind (item-exact k) (λ i inside spelled.
        exact-give (Some (is ++ i ∷ [])) (each-append SpellsItem is front i inside here spelled, subst (λ f. 0 < length f) (sym (append-nil inside)) (item-tokens i inside spelled))
        (λ c. greatest-append item_height k is i c.0.1 c.1)))

abbrev pub ModuleWithin : ℕ → SourceModule → Type 0
ModuleWithin k m = module_height m ≤ k

pub module-exact : {C : Type 0} (k : ℕ) → Exact C module_reader k SpellsModule (ModuleWithin k)
unfolding module_reader
module-exact {C} k =
    exact-after classes.Module refl (λ place.
    exact-bind exact-name (λ n naming spelled.
    exact-bind (parameter_list-exact k) (λ ps parameters listing.
    exact-bind (heads-exact k) (λ hs ports heading.
    exact-after classes.Semicolon refl (λ header.
    exact-bind (exact-under (λ c. (tt, omega arith)) (exact-repeat {C = Unit {0}} items_turn {N = SpellsEach SpellsItem} {G = ItemsWithin k} (items_turn-exact k) [] [] refl)) (λ is inside each.
    exact-after classes.EndModule refl (λ ending.
    exact-give (record { name = n.0; place = n.1; parameters = ps; heads = hs; items = is }) (
      spelled.0,
      place,
      header,
      ending,
      parameters,
      ports,
      inside,
      listing,
      heading,
      each,
      ap (λ f. token_of classes.Module place ∷ (f ++ (parameters ++ (ports ++ token_of classes.Semicolon header ∷ (inside ++ token_of classes.EndModule ending ∷ []))))) spelled.1,
    )
    (λ c. omega (arith, c.0.0.1, c.0.1, c.1)))))))))

abbrev pub ModulesWithin : ℕ → List SourceModule → Type 0
ModulesWithin k ms = greatest module_height ms ≤ k

pub module-tokens : (m : SourceModule) (ts : List SourceToken) → SpellsModule m ts → 0 < length ts
module-tokens m ts h = omega (arith, ap length h.10)

modules_turn-exact : {C : Type 0} (k : ℕ) (ms : List SourceModule) (front : List SourceToken) → SpellsEach SpellsModule ms front
    → Exact (C × ModulesWithin k ms) (λ m. modules_turn m ms) k (Turn (SpellsEach SpellsModule) ms front) (TurnFits (ModulesWithin k))
modules_turn-exact {C} k ms front here = exact-by_class (λ m. modules_by m ms) ((None, [], refl), λ c. (None, [], refl, tt)) each
  where
    each : (class : Option Class) → Branch (C × ModulesWithin k ms) (λ m. modules_by m ms class) k (Turn (SpellsEach SpellsModule) ms front) (TurnFits (ModulesWithin k)) class
    each None = branch (exact-give None refl (λ c. tt))
    each (Some class) = branch (exact-bind (module-exact k) (λ m inside spelled.
        exact-give (Some (ms ++ m ∷ [])) (each-append SpellsModule ms front m inside here spelled, subst (λ f. 0 < length f) (sym (append-nil inside)) (module-tokens m inside spelled))
        (λ c. greatest-append module_height k ms m c.0.1 c.1)))

abbrev pub UnitWithin : ℕ → SourceUnit → Type 0
UnitWithin k u = unit_height u ≤ k

pub unit-exact : {C : Type 0} (k : ℕ) → Exact C unit_reader k SpellsUnit (UnitWithin k)
unfolding unit_reader
unit-exact {C} k =
    exact-bind (exact-under (λ c. (tt, omega arith)) (exact-repeat {C = Unit {0}} modules_turn {N = SpellsEach SpellsModule} {G = ModulesWithin k} (modules_turn-exact k) [] [] refl))
    (λ ms inside each.
    exact-bind exact-end (λ x nothing empty.
    exact-give (record { modules = ms }) (subst (SpellsEach SpellsModule ms) (sym (ap (λ f. inside ++ (f ++ [])) empty ∙ append-nil inside)) each) (λ c. c.0.1)))
