-- Every spelled item, module and unit is read.
use Rattle.std.proofs.Common.{◌≡◌, ℕ, ◌<◌, ◌≤◌, Bool, true, false, List, [], ◌∷◌, ◌++◌, length, Option, Some, Ok, refl, sym, ◌∙◌, ap, arith, append_assoc, length-append, inl, inr}
use Rattle.std.proofs.lemmas.List.{append-nil}
use Rattle.vf_base.specs.Base.{SourcePlace}
use Rattle.four_value.specs.declared.operator.GateKind.{GateKind}
use Rattle.four_value.specs.declared.operator.GateKind.TheVariants.{And, Nand, Or, Nor, Xor, Xnor, Buf, Not}
use Rattle.v_tree.specs.Tokens.{SourceToken}
use Rattle.v_tree.specs.declared.item.Direction.{Direction}
use Rattle.v_tree.specs.declared.item.Direction.TheVariants.{Input, Output}
use Rattle.v_tree.specs.Trees.{SourceItem, ParameterItem, PortItem, WireItem, RegItem, IntegerItem, AssignItem, GateItem, InstanceItem, InitialItem, AlwaysItem, Identifier, SourceInstance}
use Rattle.v_tree.specs.Trees.{SourceHeads, PlainHeads, DeclaredHeads, SourceModule, SourceUnit}
use Rattle.v_readers.specs.declared.class.Class.{Class}
use Rattle.v_readers.specs.declared.class.Class.TheVariants as classes
use Rattle.v_readers.specs.Classes.{token_of, name_token, IsName}
use Rattle.v_readers.specs.Reading.{Reader, followed, give, next_class, repeat}
use Rattle.v_readers.specs.Separated.{SpellsList}
use Rattle.v_readers.specs.Exact.{Language}
use Rattle.v_readers.specs.SeparatedLaws.{EachFits}
use Rattle.v_readers.specs.Reads.{next-class, expect-reads, name-reads, turn-is, last-is, separated-reads}
use Rattle.v_stmt.specs.StatementReads.{statement-reads}
use Rattle.v_parse.specs.Spelling.{SpellsEach, parameter_word, direction_word, SpellsWire, SpellsReg, SpellsAssignment, gate_word, SpellsGate, SpellsInstance, SpellsItem, SpellsHeads, SpellsModule}
use Rattle.v_parse.specs.Spelling.{SpellsUnit}
use Rattle.v_parse.specs.Heights.{greatest, wire_height, reg_height, assignment_height, gate_height, instance_height, item_height, module_height, unit_height}
use Rattle.v_parse.specs.Items.{wire, reg, assignment, gate, inst, declared, parameter_item, port_item, wire_item, reg_item, integer_item, assign_item, gate_item, instance_item, initial_item}
use Rattle.v_parse.specs.Items.{always_item, item_by, item, items_by, items_turn, module_reader, modules_by, modules_turn, unit_reader}
use Rattle.v_parse.specs.DeclarationExact.{WireWithin, RegWithin}
use Rattle.v_parse.specs.ConnectionExact.{AssignmentWithin, GateWithin, InstanceWithin}
use Rattle.v_parse.specs.ItemExact.{item-tokens, module-tokens}
use Rattle.v_parse.specs.DeclarationReads.{Closes, not-class, each-fits, list-first, signs-read, parameters-reads, parameter_list-reads, ports-reads, heads-reads, wire-reads, wire-first, reg-reads}
use Rattle.v_parse.specs.DeclarationReads.{reg-first}
use Rattle.v_parse.specs.ConnectionReads.{assignment-reads, gate-reads, given-reads, inst-reads}

declared-reads : {A : Type 0} (P : Reader A) (L : Language A) (F : A → Type 0) → ((x : A) (ts rest : List SourceToken) → L x ts → F x → Closes (next_class rest) → P (ts ++ rest) ≡ Ok (x, rest))
    → (xs : List A) (ts : List SourceToken) (ending : SourcePlace) (rest : List SourceToken) → SpellsList L classes.Comma xs ts → EachFits F xs
    → declared P (ts ++ token_of classes.Semicolon ending ∷ rest) ≡ Ok (xs, rest)
unfolding declared
declared-reads P L F reads xs ts ending rest h fits =
    rw (separated-reads P L F Closes classes.Comma refl reads xs ts (token_of classes.Semicolon ending ∷ rest) h fits refl refl) refl

regrouped : (word : SourceToken) (a b c : List SourceToken) (ending : SourceToken) (rest : List SourceToken)
    → (word ∷ (a ++ (b ++ (c ++ ending ∷ [])))) ++ rest ≡ word ∷ (a ++ (b ++ (c ++ ending ∷ rest)))
regrouped word a b c ending rest =
    ap (λ f. word ∷ f) (append_assoc a (b ++ (c ++ ending ∷ [])) rest ∙ ap (λ f. a ++ f) (append_assoc b (c ++ ending ∷ []) rest ∙ ap (λ f. b ++ f) (append_assoc c (ending ∷ []) rest)))

-- What an item begins with

abbrev leads_item : Option Class → Bool
leads_item (Some classes.Parameter) = true
leads_item (Some classes.LocalParameter) = true
leads_item (Some classes.Input) = true
leads_item (Some classes.Output) = true
leads_item (Some classes.Wire) = true
leads_item (Some classes.Reg) = true
leads_item (Some classes.Integer) = true
leads_item (Some classes.AssignWord) = true
leads_item (Some classes.AndWord) = true
leads_item (Some classes.NandWord) = true
leads_item (Some classes.OrWord) = true
leads_item (Some classes.NorWord) = true
leads_item (Some classes.XorWord) = true
leads_item (Some classes.XnorWord) = true
leads_item (Some classes.BufWord) = true
leads_item (Some classes.NotWord) = true
leads_item (Some classes.Initial) = true
leads_item (Some classes.Always) = true
leads_item (Some classes.Name) = true
leads_item _ = false

gate-leads : (kind : GateKind) → leads_item (Some (gate_word kind)) ≡ true
gate-leads And = refl
gate-leads Nand = refl
gate-leads Or = refl
gate-leads Nor = refl
gate-leads Xor = refl
gate-leads Xnor = refl
gate-leads Buf = refl
gate-leads Not = refl

word-leads : (word : Class) (place : SourcePlace) (ts after rest : List SourceToken) → leads_item (Some word) ≡ true → ts ≡ token_of word place ∷ after → leads_item (next_class (ts ++ rest)) ≡ true
word-leads word place ts after rest l e = ap (λ f. leads_item (next_class (f ++ rest))) e ∙ ap leads_item (next-class word place (after ++ rest)) ∙ l

parameter-leads : (is_local : Bool) → leads_item (Some (parameter_word is_local)) ≡ true
parameter-leads true = refl
parameter-leads false = refl

direction-leads : (direction : Direction) → leads_item (Some (direction_word direction)) ≡ true
direction-leads Input = refl
direction-leads Output = refl

item-leads : (i : SourceItem) (ts rest : List SourceToken) → SpellsItem i ts → leads_item (next_class (ts ++ rest)) ≡ true
item-leads (ParameterItem g) ts rest h =
    word-leads (parameter_word g.is_local) g.place ts ((h.2.0 ++ (h.2.1 ++ h.2.2)) ++ token_of classes.Semicolon h.0 ∷ []) rest (parameter-leads g.is_local)
    (h.3 ∙ ap (λ f. f ++ token_of classes.Semicolon h.0 ∷ []) h.2.6)
item-leads (PortItem g) ts rest h =
    word-leads (direction_word g.direction) g.place ts ((h.2.0 ++ (h.2.1 ++ (h.2.2 ++ h.2.3))) ++ token_of classes.Semicolon h.0 ∷ []) rest (direction-leads g.direction)
    (h.3 ∙ ap (λ f. f ++ token_of classes.Semicolon h.0 ∷ []) h.2.8)
item-leads (WireItem place s w xs) ts rest h = word-leads classes.Wire place ts _ rest refl h.7
item-leads (RegItem place s w xs) ts rest h = word-leads classes.Reg place ts _ rest refl h.7
item-leads (IntegerItem place xs) ts rest h = word-leads classes.Integer place ts _ rest refl h.7
item-leads (AssignItem place xs) ts rest h = word-leads classes.AssignWord place ts _ rest refl h.7
item-leads (GateItem place kind xs) ts rest h = word-leads (gate_word kind) place ts _ rest (gate-leads kind) h.7
item-leads (InstanceItem place name cs xs) ts rest h = ap (λ f. leads_item (next_class (f ++ rest))) h.6 ∙ ap (λ (c : Class). leads_item (Some c)) h.0
item-leads (InitialItem place s) ts rest h = word-leads classes.Initial place ts h.0 rest refl h.2
item-leads (AlwaysItem place s) ts rest h = word-leads classes.Always place ts h.0 rest refl h.2

-- Items

parameter_by : (k : ℕ) (is_local : Bool) (tokens : List SourceToken) → item_by k (Some (parameter_word is_local)) tokens ≡ parameter_item k is_local tokens
parameter_by k true tokens = refl
parameter_by k false tokens = refl

port_by-word : (k : ℕ) (direction : Direction) (tokens : List SourceToken) → item_by k (Some (direction_word direction)) tokens ≡ port_item k direction tokens
port_by-word k Input tokens = refl
port_by-word k Output tokens = refl

gate_by : (k : ℕ) (kind : GateKind) (tokens : List SourceToken) → item_by k (Some (gate_word kind)) tokens ≡ gate_item k kind tokens
gate_by k And tokens = refl
gate_by k Nand tokens = refl
gate_by k Or tokens = refl
gate_by k Nor tokens = refl
gate_by k Xor tokens = refl
gate_by k Xnor tokens = refl
gate_by k Buf tokens = refl
gate_by k Not tokens = refl

-- an item that a word begins is read by the reader of that word
item-word : (k : ℕ) (word : Class) (place : SourcePlace) (ts tail rest : List SourceToken) → ts ++ rest ≡ token_of word place ∷ tail →
    item k (ts ++ rest) ≡ item_by k (Some word) (token_of word place ∷ tail)
unfolding item
item-word k word place ts tail rest e = ap (item k) e ∙ ap (λ c. item_by k c (token_of word place ∷ tail)) (next-class word place tail)

-- an item that a name begins is an instance
item-named : (k : ℕ) (place : SourcePlace) (name : Identifier) (ts tail rest : List SourceToken) → ts ++ rest ≡ name_token name place ∷ tail → IsName name
    → item k (ts ++ rest) ≡ instance_item k (name_token name place ∷ tail)
unfolding item
item-named k place name ts tail rest e is = ap (item k) e ∙ ap (λ (c : Class). item_by k (Some c) (name_token name place ∷ tail)) is

inst-first : (i : SourceInstance) (ts rest : List SourceToken) → SpellsInstance i ts → next_class (ts ++ rest) ≡ Some classes.Name
inst-first i ts rest h = ap (λ f. next_class (f ++ rest)) h.5 ∙ ap (λ (c : Class). Some c) h.0

pub item-reads : (k : ℕ) (i : SourceItem) (ts rest : List SourceToken) → SpellsItem i ts → item_height i ≤ k → (next_class rest ≡ Some classes.Else → ⊥) → item k (ts ++ rest) ≡ Ok (i, rest)
unfolding parameter_item port_item wire_item reg_item integer_item assign_item gate_item instance_item initial_item always_item
item-reads k (ParameterItem g) ts rest h low other =
    let ending = token_of classes.Semicolon h.0 ∷ rest in
    let read = parameters-reads k g h.1 ending h.2 low refl refl in
    item-word k (parameter_word g.is_local) g.place ts ((h.2.0 ++ (h.2.1 ++ h.2.2)) ++ ending) rest
    (ap (λ f. f ++ rest) (h.3 ∙ ap (λ f. f ++ token_of classes.Semicolon h.0 ∷ []) h.2.6)
    ∙ append_assoc (token_of (parameter_word g.is_local) g.place ∷ (h.2.0 ++ (h.2.1 ++ h.2.2))) (token_of classes.Semicolon h.0 ∷ []) rest)
    ∙ parameter_by k g.is_local (token_of (parameter_word g.is_local) g.place ∷ ((h.2.0 ++ (h.2.1 ++ h.2.2)) ++ ending))
    ∙ ap (λ f. parameter_item k g.is_local (f ++ ending)) (sym h.2.6)
    ∙ rw read refl
item-reads k (PortItem g) ts rest h low other =
    let ending = token_of classes.Semicolon h.0 ∷ rest in
    let read = ports-reads k g h.1 ending h.2 low refl refl in
    item-word k (direction_word g.direction) g.place ts ((h.2.0 ++ (h.2.1 ++ (h.2.2 ++ h.2.3))) ++ ending) rest
    (ap (λ f. f ++ rest) (h.3 ∙ ap (λ f. f ++ token_of classes.Semicolon h.0 ∷ []) h.2.8)
    ∙ append_assoc (token_of (direction_word g.direction) g.place ∷ (h.2.0 ++ (h.2.1 ++ (h.2.2 ++ h.2.3)))) (token_of classes.Semicolon h.0 ∷ []) rest)
    ∙ port_by-word k g.direction (token_of (direction_word g.direction) g.place ∷ ((h.2.0 ++ (h.2.1 ++ (h.2.2 ++ h.2.3))) ++ ending))
    ∙ ap (λ f. port_item k g.direction (f ++ ending)) (sym h.2.8)
    ∙ rw read refl
item-reads k (WireItem place s w xs) ts rest h low other =
    let ending = token_of classes.Semicolon h.0 ∷ rest in
    let signs = signs-read k s w h.1 h.2 (h.3 ++ ending) h.4 h.5 (omega (arith, low)) (list-first SpellsWire classes.Comma classes.Name wire-first xs h.3 ending h.6) in
    let all = declared-reads (wire k) SpellsWire (WireWithin k) (wire-reads k) xs h.3 h.0 rest h.6 (each-fits wire_height k xs (omega (arith, low))) in
    item-word k classes.Wire place ts (h.1 ++ (h.2 ++ (h.3 ++ ending))) rest
    (ap (λ f. f ++ rest) h.7 ∙ regrouped (token_of classes.Wire place) h.1 h.2 h.3 (token_of classes.Semicolon h.0) rest)
    ∙ rw (expect-reads classes.Wire place (h.1 ++ (h.2 ++ (h.3 ++ ending))), signs.0, signs.1, all) refl
item-reads k (RegItem place s w xs) ts rest h low other =
    let ending = token_of classes.Semicolon h.0 ∷ rest in
    let signs = signs-read k s w h.1 h.2 (h.3 ++ ending) h.4 h.5 (omega (arith, low)) (list-first SpellsReg classes.Comma classes.Name reg-first xs h.3 ending h.6) in
    let all = declared-reads (reg k) SpellsReg (RegWithin k) (reg-reads k) xs h.3 h.0 rest h.6 (each-fits reg_height k xs (omega (arith, low))) in
    item-word k classes.Reg place ts (h.1 ++ (h.2 ++ (h.3 ++ ending))) rest
    (ap (λ f. f ++ rest) h.7 ∙ regrouped (token_of classes.Reg place) h.1 h.2 h.3 (token_of classes.Semicolon h.0) rest)
    ∙ rw (expect-reads classes.Reg place (h.1 ++ (h.2 ++ (h.3 ++ ending))), signs.0, signs.1, all) refl
item-reads k (IntegerItem place xs) ts rest h low other =
    let ending = token_of classes.Semicolon h.0 ∷ rest in
    let all = declared-reads (reg k) SpellsReg (RegWithin k) (reg-reads k) xs h.3 h.0 rest h.6 (each-fits reg_height k xs low) in
    item-word k classes.Integer place ts (h.3 ++ ending) rest
    (ap (λ f. f ++ rest) h.7 ∙ regrouped (token_of classes.Integer place) h.1 h.2 h.3 (token_of classes.Semicolon h.0) rest
    ∙ ap (λ f. token_of classes.Integer place ∷ (f ++ (h.2 ++ (h.3 ++ ending)))) h.4 ∙ ap (λ f. token_of classes.Integer place ∷ (f ++ (h.3 ++ ending))) h.5)
    ∙ rw (expect-reads classes.Integer place (h.3 ++ ending), all) refl
item-reads k (AssignItem place xs) ts rest h low other =
    let ending = token_of classes.Semicolon h.0 ∷ rest in
    let all = declared-reads (assignment k) SpellsAssignment (AssignmentWithin k) (assignment-reads k) xs h.3 h.0 rest h.6 (each-fits assignment_height k xs low) in
    item-word k classes.AssignWord place ts (h.3 ++ ending) rest
    (ap (λ f. f ++ rest) h.7 ∙ regrouped (token_of classes.AssignWord place) h.1 h.2 h.3 (token_of classes.Semicolon h.0) rest
    ∙ ap (λ f. token_of classes.AssignWord place ∷ (f ++ (h.2 ++ (h.3 ++ ending)))) h.4 ∙ ap (λ f. token_of classes.AssignWord place ∷ (f ++ (h.3 ++ ending))) h.5)
    ∙ rw (expect-reads classes.AssignWord place (h.3 ++ ending), all) refl
item-reads k (GateItem place kind xs) ts rest h low other =
    let ending = token_of classes.Semicolon h.0 ∷ rest in
    let all = declared-reads (gate k kind) (SpellsGate kind) (GateWithin k) (gate-reads k kind) xs h.3 h.0 rest h.6 (each-fits gate_height k xs low) in
    item-word k (gate_word kind) place ts (h.3 ++ ending) rest
    (ap (λ f. f ++ rest) h.7 ∙ regrouped (token_of (gate_word kind) place) h.1 h.2 h.3 (token_of classes.Semicolon h.0) rest
    ∙ ap (λ f. token_of (gate_word kind) place ∷ (f ++ (h.2 ++ (h.3 ++ ending)))) h.4 ∙ ap (λ f. token_of (gate_word kind) place ∷ (f ++ (h.3 ++ ending))) h.5)
    ∙ gate_by k kind (token_of (gate_word kind) place ∷ (h.3 ++ ending))
    ∙ rw (expect-reads (gate_word kind) place (h.3 ++ ending), all) refl
item-reads k (InstanceItem place module_name cs xs) ts rest h low other =
    let ending = token_of classes.Semicolon h.1 ∷ rest in
    let giving = given-reads k cs h.2 (h.3 ++ ending) h.4 (omega (arith, low))
    (not-class classes.Name classes.Hash (next_class (h.3 ++ ending)) refl (list-first SpellsInstance classes.Comma classes.Name inst-first xs h.3 ending h.5)) in
    let all = declared-reads (inst k) SpellsInstance (InstanceWithin k) (inst-reads k) xs h.3 h.1 rest h.5 (each-fits instance_height k xs (omega (arith, low))) in
    item-named k place module_name ts (h.2 ++ (h.3 ++ ending)) rest
    (ap (λ f. f ++ rest) h.6 ∙ ap (λ f. name_token module_name place ∷ f) (append_assoc h.2 (h.3 ++ token_of classes.Semicolon h.1 ∷ []) rest
    ∙ ap (λ f. h.2 ++ f) (append_assoc h.3 (token_of classes.Semicolon h.1 ∷ []) rest))) h.0
    ∙ rw (name-reads module_name place (h.2 ++ (h.3 ++ ending)) h.0, giving, all) refl
item-reads k (InitialItem place s) ts rest h low other =
    item-word k classes.Initial place ts (h.0 ++ rest) rest (ap (λ f. f ++ rest) h.2)
    ∙ rw (expect-reads classes.Initial place (h.0 ++ rest), statement-reads k s h.0 rest h.1 low (λ u. other)) refl
item-reads k (AlwaysItem place s) ts rest h low other =
    item-word k classes.Always place ts (h.0 ++ rest) rest (ap (λ f. f ++ rest) h.2)
    ∙ rw (expect-reads classes.Always place (h.0 ++ rest), statement-reads k s h.0 rest h.1 low (λ u. other)) refl

-- Modules and units

not-item : (class : Option Class) (other : Class) → leads_item class ≡ true → leads_item (Some other) ≡ false → class ≡ Some other → ⊥
not-item class other l o e = let p : true ≡ false = sym l ∙ ap leads_item e ∙ o in cc

items_by-leads : (k : ℕ) (is : List SourceItem) (class : Option Class) (tokens : List SourceToken) → leads_item class ≡ true
    → items_by k is class tokens ≡ followed (item k tokens) (λ i. give (Some (is ++ i ∷ [])))
items_by-leads k is (Some classes.EndModule) tokens h = absurd (let p : false ≡ true = h in cc)
items_by-leads k is _ tokens h = refl

-- what stands behind an item is no `else`
items-not-else : (is : List SourceItem) (ts : List SourceToken) (ending : SourcePlace) (rest : List SourceToken) → SpellsEach SpellsItem is ts
    → next_class (ts ++ token_of classes.EndModule ending ∷ rest) ≡ Some classes.Else → ⊥
items-not-else [] ts ending rest h e =
    not-class classes.EndModule classes.Else (next_class (token_of classes.EndModule ending ∷ rest)) refl (next-class classes.EndModule ending rest)
    (sym (ap (λ f. next_class (f ++ token_of classes.EndModule ending ∷ rest)) h) ∙ e)
items-not-else (i ∷ is) ts ending rest h e =
    not-item (next_class (ts ++ token_of classes.EndModule ending ∷ rest)) classes.Else
    (ap (λ f. leads_item (next_class (f ++ token_of classes.EndModule ending ∷ rest))) h.4
    ∙ ap (λ f. leads_item (next_class f)) (append_assoc h.0 h.1 (token_of classes.EndModule ending ∷ rest)) ∙ item-leads i h.0 (h.1 ++ token_of classes.EndModule ending ∷ rest) h.2) refl e

shorter : (ts tail : List SourceToken) → 0 < length ts → length tail < length (ts ++ tail)
shorter ts tail h = omega (arith, h, length-append ts tail)

items-read : (k : ℕ) (is done : List SourceItem) (ts : List SourceToken) (ending : SourcePlace) (rest : List SourceToken) → SpellsEach SpellsItem is ts → greatest item_height is ≤ k
    → repeat (items_turn k) done (ts ++ token_of classes.EndModule ending ∷ rest) ≡ Ok (done ++ is, token_of classes.EndModule ending ∷ rest)
items-read k [] done ts ending rest h low =
    let tail = token_of classes.EndModule ending ∷ rest in
    ap (λ f. repeat (items_turn k) done (f ++ tail)) h
    ∙ last-is (items_turn k) done tail (ap (λ c. items_by k done c tail) (next-class classes.EndModule ending rest))
    ∙ ap (λ w. Ok (w, tail)) (sym (append-nil done))
items-read k (i ∷ is) done ts ending rest h low =
    let tail = h.1 ++ token_of classes.EndModule ending ∷ rest in
    let read = item-reads k i h.0 tail h.2 (omega (arith, low)) (items-not-else is h.1 ending rest h.3) in
    ap (λ f. repeat (items_turn k) done (f ++ token_of classes.EndModule ending ∷ rest)) h.4
    ∙ ap (repeat (items_turn k) done) (append_assoc h.0 h.1 (token_of classes.EndModule ending ∷ rest))
    ∙ turn-is (items_turn k) done (done ++ i ∷ []) (h.0 ++ tail) tail
    (items_by-leads k done (next_class (h.0 ++ tail)) (h.0 ++ tail) (item-leads i h.0 tail h.2) ∙ ap (λ w. followed w (λ i. give (Some (done ++ i ∷ [])))) read)
    (shorter h.0 tail (item-tokens i h.0 h.2))
    ∙ items-read k is (done ++ i ∷ []) h.1 ending rest h.3 (omega (arith, low))
    ∙ ap (λ w. Ok (w, token_of classes.EndModule ending ∷ rest)) (append_assoc done (i ∷ []) is)

heads-not-hash : (hs : SourceHeads) (ts : List SourceToken) (ending : SourcePlace) (rest : List SourceToken) → SpellsHeads hs ts →
    next_class (ts ++ token_of classes.Semicolon ending ∷ rest) ≡ Some classes.Hash → ⊥
heads-not-hash (PlainHeads []) ts ending rest (inl h) e =
    not-class classes.Semicolon classes.Hash (next_class (ts ++ token_of classes.Semicolon ending ∷ rest)) refl (ap (λ f. next_class (f ++ token_of classes.Semicolon ending ∷ rest)) h) e
heads-not-hash (PlainHeads []) ts ending rest (inr h) e =
    not-class classes.LeftParen classes.Hash (next_class (ts ++ token_of classes.Semicolon ending ∷ rest)) refl (ap (λ f. next_class (f ++ token_of classes.Semicolon ending ∷ rest)) h.4) e
heads-not-hash (PlainHeads (n ∷ names)) ts ending rest h e =
    not-class classes.LeftParen classes.Hash (next_class (ts ++ token_of classes.Semicolon ending ∷ rest)) refl (ap (λ f. next_class (f ++ token_of classes.Semicolon ending ∷ rest)) h.4) e
heads-not-hash (DeclaredHeads groups) ts ending rest h e =
    not-class classes.LeftParen classes.Hash (next_class (ts ++ token_of classes.Semicolon ending ∷ rest)) refl (ap (λ f. next_class (f ++ token_of classes.Semicolon ending ∷ rest)) h.4) e

pub module-reads : (k : ℕ) (m : SourceModule) (ts rest : List SourceToken) → SpellsModule m ts → module_height m ≤ k → module_reader k (ts ++ rest) ≡ Ok (m, rest)
unfolding module_reader
module-reads k m ts rest h low =
    let ending = token_of classes.EndModule h.3 ∷ rest in
    let inside = h.6 ++ ending in
    let header = token_of classes.Semicolon h.2 ∷ inside in
    let listing = parameter_list-reads k m.parameters h.4 (h.5 ++ header) h.7 (omega (arith, low)) (heads-not-hash m.heads h.5 h.2 inside h.8) in
    let heading = heads-reads k m.heads h.5 header h.8 (omega (arith, low)) (not-class classes.Semicolon classes.LeftParen (next_class header) refl refl) in
    let all = items-read k m.items [] h.6 h.3 rest h.9 (omega (arith, low)) in
    ap (λ f. module_reader k (f ++ rest)) h.10
    ∙ ap (λ f. module_reader k (token_of classes.Module h.1 ∷ name_token m.name m.place ∷ f))
    (append_assoc h.4 (h.5 ++ token_of classes.Semicolon h.2 ∷ (h.6 ++ token_of classes.EndModule h.3 ∷ [])) rest
    ∙ ap (λ f. h.4 ++ f) (append_assoc h.5 (token_of classes.Semicolon h.2 ∷ (h.6 ++ token_of classes.EndModule h.3 ∷ [])) rest
    ∙ ap (λ f. h.5 ++ token_of classes.Semicolon h.2 ∷ f) (append_assoc h.6 (token_of classes.EndModule h.3 ∷ []) rest)))
    ∙ rw (
      expect-reads classes.Module h.1 (name_token m.name m.place ∷ (h.4 ++ (h.5 ++ header))),
      name-reads m.name m.place (h.4 ++ (h.5 ++ header)) h.0,
      listing,
      heading,
      all,
      expect-reads classes.EndModule h.3 rest,
    ) refl

module-first : (m : SourceModule) (ts rest : List SourceToken) → SpellsModule m ts → next_class (ts ++ rest) ≡ Some classes.Module
module-first m ts rest h =
    ap (λ f. next_class (f ++ rest)) h.10
    ∙ next-class classes.Module h.1 ((name_token m.name m.place ∷ (h.4 ++ (h.5 ++ token_of classes.Semicolon h.2 ∷ (h.6 ++ token_of classes.EndModule h.3 ∷ [])))) ++ rest)

modules-read : (k : ℕ) (ms done : List SourceModule) (ts : List SourceToken) → SpellsEach SpellsModule ms ts → greatest module_height ms ≤ k → repeat (modules_turn k) done ts ≡ Ok (done ++ ms, [])
modules-read k [] done ts h low = ap (repeat (modules_turn k) done) h ∙ last-is (modules_turn k) done [] refl ∙ ap (λ w. Ok (w, [])) (sym (append-nil done))
modules-read k (m ∷ ms) done ts h low =
    let first : next_class (h.0 ++ h.1) ≡ Some classes.Module = module-first m h.0 h.1 h.2 in
    ap (repeat (modules_turn k) done) h.4
    ∙ turn-is (modules_turn k) done (done ++ m ∷ []) (h.0 ++ h.1) h.1
    (ap (λ c. modules_by k done c (h.0 ++ h.1)) first ∙ ap (λ w. followed w (λ m. give (Some (done ++ m ∷ [])))) (module-reads k m h.0 h.1 h.2 (omega (arith, low))))
    (shorter h.0 h.1 (module-tokens m h.0 h.2))
    ∙ modules-read k ms (done ++ m ∷ []) h.1 h.3 (omega (arith, low))
    ∙ ap (λ w. Ok (w, [])) (append_assoc done (m ∷ []) ms)

-- every spelled unit is read
pub unit-reads : (k : ℕ) (u : SourceUnit) (ts : List SourceToken) → SpellsUnit u ts → unit_height u ≤ k → unit_reader k ts ≡ Ok (u, [])
unfolding unit_reader
unit-reads k u ts h low = rw (modules-read k u.modules [] ts h low) refl
