-- No two sites of a design have one name: a bit's name is that of no other bit, and a terminal's name has digits behind its last `.`, where a bit's has none
-- (IEEE 1364-2001, clause 2.7 for names; that faults stand at bits and terminals is own).
use Rattle.std.proofs.Common.{◌≡◌, ℕ, zero, suc, ◌+◌, ◌<◌, ◌≤◌, ◌^◌, Bool, true, false, List, [], ◌∷◌, ◌++◌, map, Some, refl, sym, ap, ◌∙◌, subst, inl, inr, arith}
use Rattle.std.specs.Prelude.{◌≢◌, IsTrue, decimal, filter, get_or, slice_get}
use Rattle.std.proofs.lemmas.Bool.{cases_Bool, cases_lt, cond-true, cond-false}
use Rattle.vf_base.specs.Lists.{has, joined, map_numbered, AllHold}
use Rattle.v_design.specs.Expressions.{up_from}
use Rattle.v_design.specs.Designs.{FlatObject, FlatNode, FlatDesign, width_in, FaultSite, VariableBit, OutputBit, GateTerminal}
use Rattle.v_design.specs.Paths.{is_net, numbers_of, net_pieces}
use Rattle.v_design.specs.Sites.{bit_name, terminal_name, site_name, is_variable, bits_if, variable_sites, output_sites, terminal_count, terminal_sites, sites_of, SitesDiffer}
use Rattle.v_design.specs.declared.logic.ObjectKind.{ObjectKind}
use Rattle.v_design.specs.declared.logic.ObjectKind.TheVariants.{Var, Word, Net}
use Rattle.graph_order.specs.ListLaws.{AllHold-slice_get}
use Rattle.flat_laws.specs.Lists.{same_some, AllHold-from, at-filter}
use Rattle.flat_laws.specs.Numbered.{AllHold-each, AllHold-append, AllHold-filter, AllHold-map}
use Rattle.source_laws.specs.SitesApart.{AllApart, Across, apart-from, apart-at, apart-map, apart-append, AllHold-joined, apart-joined, apart-numbered, AllHold-numbered, AllHold-upwards}
use Rattle.source_laws.specs.SitesApart.{apart-upwards, differ-from}
use Rattle.source_laws.specs.GateNames.{GatesDiffer}
use Rattle.source_laws.specs.ObjectBits.{HasBits, object_bit, BitsDiffer, OwnBitsDiffer, BitsAreNamed, TellsBits}
use Rattle.source_laws.specs.Spelling.{bit-no-terminal, same-terminal}

-- what tells the sites of a design apart
pub record TellsSites (design : FlatDesign) : Type 0 where
  pub bits : TellsBits design
  pub gates : AllApart GatesDiffer design.nodes
  pub terminals : AllHold (λ (node : FlatNode). terminal_count node.kind < 2 ^ 64) design.nodes
  pub one_driver : (low high : ℕ) (node other : FlatNode) → slice_get design.nodes low ≡ Some node → slice_get design.nodes high ≡ Some other → low < high →
      (object : ℕ) → IsTrue (has node.outputs object) → has other.outputs object ≡ false

-- Lists

-- each of one list to each of another, by what holds of them
across-all : {A : Type 0} (P Q : A → Type 0) (R : A → A → Type 0) (xs ys : List A) → ((x y : A) → P x → Q y → R x y) → AllHold P xs → AllHold Q ys → Across R xs ys
across-all P Q R xs ys each h k = AllHold-each P (λ x. AllHold (R x) ys) xs (λ x is. AllHold-each Q (R x) ys (λ y is_y. each x y is is_y) k) h

across-append : {A : Type 0} (R : A → A → Type 0) (xs ys zs : List A) → Across R xs ys → Across R xs zs → Across R xs (ys ++ zs)
across-append R [] ys zs h k = tt
across-append R (x ∷ xs) ys zs h k = (AllHold-append (R x) ys zs h.0 k.0, across-append R xs ys zs h.1 k.1)

-- numbers that pass a test ascend
numbers-behind : (test : FlatObject → Bool) (number : ℕ) (objects : List FlatObject) → AllHold (λ n. number ≤ n) (numbers_of test number objects)
numbers-behind test number [] = tt
numbers-behind test number (object ∷ objects) =
    by_test (test object) (AllHold-each (λ n. number + 1 ≤ n) (λ n. number ≤ n) (numbers_of test (number + 1) objects) (λ n h. omega (arith, h)) (numbers-behind test (number + 1) objects))
  where
    by_test : (passes : Bool) → AllHold (λ n. number ≤ n) (numbers_of test (number + 1) objects) →
        AllHold (λ n. number ≤ n) (elim passes as (λ b. List ℕ) [ true ↦ number ∷ numbers_of test (number + 1) objects | false ↦ numbers_of test (number + 1) objects ])
    by_test true later = (omega arith, later)
    by_test false later = later

numbers-ascend : (test : FlatObject → Bool) (number : ℕ) (objects : List FlatObject) → AllApart (λ m n. m < n) (numbers_of test number objects)
numbers-ascend test number [] = tt
numbers-ascend test number (object ∷ objects) =
    by_test (test object) (AllHold-each (λ n. number + 1 ≤ n) (λ n. number < n) (numbers_of test (number + 1) objects) (λ n h. omega (arith, h)) (numbers-behind test (number + 1) objects))
    (numbers-ascend test (number + 1) objects)
  where
    by_test : (passes : Bool) → AllHold (λ n. number < n) (numbers_of test (number + 1) objects) → AllApart (λ m n. m < n) (numbers_of test (number + 1) objects) →
        AllApart (λ m n. m < n) (elim passes as (λ b. List ℕ) [ true ↦ number ∷ numbers_of test (number + 1) objects | false ↦ numbers_of test (number + 1) objects ])
    by_test true behind later = (behind, later)
    by_test false behind later = later

-- a number that passes is that of an object that does
record NumberOf (test : FlatObject → Bool) (objects : List FlatObject) (number n : ℕ) : Type 0 where
  place : ℕ
  object : FlatObject
  at : slice_get objects place ≡ Some object
  passes : test object ≡ true
  is : number + place ≡ n

numbers-at : (test : FlatObject → Bool) (number : ℕ) (objects : List FlatObject) → AllHold (NumberOf test objects number) (numbers_of test number objects)
numbers-at test number [] = tt
numbers-at test number (object ∷ objects) =
    by_test (test object) refl
    (AllHold-each (NumberOf test objects (number + 1)) (NumberOf test (object ∷ objects) number) (numbers_of test (number + 1) objects)
    (λ n h. let is = h.is in record { place = suc h.place; object = h.object; at = h.at; passes = h.passes; is = omega (arith, is) }) (numbers-at test (number + 1) objects))
  where
    by_test : (passes : Bool) → test object ≡ passes → AllHold (NumberOf test (object ∷ objects) number) (numbers_of test (number + 1) objects) →
        AllHold (NumberOf test (object ∷ objects) number) (elim passes as (λ b. List ℕ) [ true ↦ number ∷ numbers_of test (number + 1) objects | false ↦ numbers_of test (number + 1) objects ])
    by_test true e later = (record { place = 0; object = object; at = refl; passes = e; is = omega arith }, later)
    by_test false e later = later

apart-filter : {A : Type 0} (R : A → A → Type 0) (test : A → Bool) (xs : List A) → AllApart R xs → AllApart R (filter test xs)
apart-filter R test [] h = tt
apart-filter R test (x ∷ xs) h =
    elim (cases_Bool (test x)) [
      | inl passes ↦ subst (AllApart R) (sym (cond-true (test x) (x ∷ filter test xs) (filter test xs) passes)) (AllHold-filter (R x) test xs h.0, apart-filter R test xs h.1)
      | inr fails ↦ subst (AllApart R) (sym (cond-false (test x) (x ∷ filter test xs) (filter test xs) fails)) (apart-filter R test xs h.1)
    ]

-- Names of bits

variable-bits : (kind : ObjectKind) → is_variable kind ≡ true → HasBits kind
variable-bits Var e = tt
variable-bits Word e = absurd (cc)
variable-bits Net e = absurd (cc)

net-bits : (kind : ObjectKind) → is_net kind ≡ true → HasBits kind
net-bits Var e = absurd (cc)
net-bits Word e = absurd (cc)
net-bits Net e = tt

net-no-variable : (kind : ObjectKind) → is_variable kind ≡ true → is_net kind ≡ true → ⊥
net-no-variable Var v n = absurd (cc)
net-no-variable Word v n = absurd (cc)
net-no-variable Net v n = absurd (cc)

-- bits of two objects have two names
objects-differ : (design : FlatDesign) → TellsBits design → (i j : ℕ) (one other : FlatObject) → slice_get design.objects i ≡ Some one → slice_get design.objects j ≡ Some other → (i ≡ j → ⊥) →
    BitsDiffer one other
objects-differ design tells i j one other at_one at_other differ has_one has_other bit place low high e =
    elim (cases_lt i j) [
      | inl less ↦ apart-at BitsDiffer design.objects tells.apart i j one other at_one at_other less has_one has_other bit place low high e
      | inr more ↦
          let less : j < i = omega (arith, more, differ) in apart-at BitsDiffer design.objects tells.apart j i other one at_other at_one less has_other has_one place bit high low (sym e)
    ]

-- a text is the name of a bit of an object of a number, whose kind passes a test
record NamesBit (design : FlatDesign) (test : ObjectKind → Bool) (number : ℕ) (text : List ℕ) : Type 0 where
  object : FlatObject
  at : slice_get design.objects number ≡ Some object
  kind : test object.kind ≡ true
  has_bits : HasBits object.kind
  bit : ℕ
  low : bit < object.width
  is : object_bit object bit ≡ text

-- bits of objects of two numbers have two names
bits-differ : (design : FlatDesign) → TellsBits design → (test tests : ObjectKind → Bool) (i j : ℕ) → (i ≡ j → ⊥) → (one other : List ℕ) → NamesBit design test i one →
    NamesBit design tests j other → one ≢ other
bits-differ design tells test tests i j differ one other h k e = objects-differ design tells i j h.object k.object h.at k.at differ h.has_bits k.has_bits h.bit k.bit h.low k.low (h.is ∙ e ∙ sym k.is)

-- a variable is no net piece
variable-no-net : (design : FlatDesign) → TellsBits design → (i j : ℕ) (one other : List ℕ) → NamesBit design is_variable i one → NamesBit design is_net j other → one ≢ other
variable-no-net design tells i j one other h k =
    bits-differ design tells is_variable is_net i j
    (λ same.
    let is : h.object ≡ k.object = same_some h.object k.object (sym h.at ∙ ap (slice_get design.objects) same ∙ k.at) in
    net-no-variable k.object.kind (ap (λ (o : FlatObject). is_variable o.kind) (sym is) ∙ h.kind) k.kind) one other h k

-- Names of terminals

-- a text is the name of a terminal of a gate of a number
record NamesTerminal (design : FlatDesign) (number : ℕ) (text : List ℕ) : Type 0 where
  node : FlatNode
  at : slice_get design.nodes number ≡ Some node
  terminal : ℕ
  some : 1 ≤ terminal
  within : terminal ≤ terminal_count node.kind
  is : node.name ++ 46 ∷ decimal terminal ≡ text

terminal-small : (design : FlatDesign) → TellsSites design → (number : ℕ) (text : List ℕ) (h : NamesTerminal design number text) → h.terminal < 2 ^ 64
terminal-small design tells number text h =
    let most : terminal_count h.node.kind < 2 ^ 64 = AllHold-slice_get (λ (node : FlatNode). terminal_count node.kind < 2 ^ 64) design.nodes number h.node tells.terminals h.at in
    let within = h.within in
    omega (arith, most, within)

-- terminals of two gates have two names
terminals-differ : (design : FlatDesign) → TellsSites design → (i j : ℕ) → i < j → (one other : List ℕ) → NamesTerminal design i one → NamesTerminal design j other → one ≢ other
terminals-differ design tells i j less one other h k e =
    let same = same-terminal h.node.name k.node.name h.terminal k.terminal (terminal-small design tells i one h) (terminal-small design tells j other k) (h.is ∙ e ∙ sym k.is) in
    apart-at GatesDiffer design.nodes tells.gates i j h.node k.node h.at k.at less (omega (arith, h.some, h.within)) (omega (arith, k.some, k.within)) same.0

-- a bit's name is no terminal's
bit-not-terminal : (design : FlatDesign) → TellsSites design → (test : ObjectKind → Bool) (i j : ℕ) (one other : List ℕ) → NamesBit design test i one → NamesTerminal design j other → one ≢ other
bit-not-terminal design tells test i j one other h k e =
    let own = AllHold-slice_get (λ (object : FlatObject). OwnBitsDiffer object × BitsAreNamed object) design.objects i h.object tells.bits.own h.at in
    let named = own.1 h.has_bits h.bit h.low in
    bit-no-terminal named.name k.node.name named.named named.ranged named.index k.terminal named.small (terminal-small design tells j other k) (named.is ∙ h.is ∙ e ∙ sym k.is)

-- Sites

abbrev SiteApart : FlatDesign → FaultSite → FaultSite → Type 0
SiteApart design one other = site_name design one ≢ site_name design other

-- Bits of variables

abbrev SiteOfVariable : FlatDesign → ℕ → FaultSite → Type 0
SiteOfVariable design i site = NamesBit design is_variable i (site_name design site)

object-site : (design : FlatDesign) (i : ℕ) (object : FlatObject) → slice_get design.objects i ≡ Some object → (bit : ℕ) → object_bit object bit ≡ bit_name (slice_get design.objects i) bit
object-site design i object at bit = ap (λ o. bit_name o bit) (sym at)

variable-names : (design : FlatDesign) (i : ℕ) (object : FlatObject) → slice_get design.objects i ≡ Some object → AllHold (SiteOfVariable design i) (variable_sites i object)
variable-names design i object at = by_test (is_variable object.kind) refl
  where
    by_test : (test : Bool) → is_variable object.kind ≡ test → AllHold (SiteOfVariable design i) (bits_if test (VariableBit i) object.width)
    by_test true kind =
        AllHold-map (SiteOfVariable design i) (VariableBit i) (up_from 0 object.width)
        (AllHold-upwards (λ bit. SiteOfVariable design i (VariableBit i bit)) 0 object.width
        (λ bit low high. record { object = object; at = at; kind = kind; has_bits = variable-bits object.kind kind; bit = bit; low = omega (arith, high); is = object-site design i object at bit }))
    by_test false kind = tt

variables-apart : (design : FlatDesign) → TellsBits design → AllApart (SiteApart design) (joined (map_numbered variable_sites 0 design.objects))
variables-apart design tells =
    apart-numbered (SiteApart design) variable_sites design.objects (λ i object at. by_test i object at (is_variable object.kind) refl)
    (λ i j one other at_one at_other less.
    across-all (SiteOfVariable design i) (SiteOfVariable design j) (SiteApart design) (variable_sites i one) (variable_sites j other)
    (λ site next. bits-differ design tells is_variable is_variable i j (λ same. omega (arith, same, less)) (site_name design site) (site_name design next)) (variable-names design i one at_one)
    (variable-names design j other at_other))
  where
    by_test : (i : ℕ) (object : FlatObject) → slice_get design.objects i ≡ Some object → (test : Bool) → is_variable object.kind ≡ test →
        AllApart (SiteApart design) (bits_if test (VariableBit i) object.width)
    by_test i object at true kind =
        let own = AllHold-slice_get (λ (o : FlatObject). OwnBitsDiffer o × BitsAreNamed o) design.objects i object tells.own at in
        apart-map (SiteApart design) (VariableBit i) (up_from 0 object.width)
        (apart-upwards (λ bit place. SiteApart design (VariableBit i bit) (VariableBit i place)) 0 object.width
        (λ bit place low less high e. own.0 (variable-bits object.kind kind) bit place less (omega (arith, high))
        (object-site design i object at bit ∙ e ∙ sym (object-site design i object at place))))
    by_test i object at false kind = tt

-- Bits of outputs

-- a net piece that a node writes
record IsOutput (design : FlatDesign) (node : FlatNode) (number : ℕ) : Type 0 where
  object : FlatObject
  at : slice_get design.objects number ≡ Some object
  kind : is_net object.kind ≡ true
  written : has node.outputs number ≡ true

outputs-of : (design : FlatDesign) (node : FlatNode) → AllHold (IsOutput design node) (filter (has node.outputs) (net_pieces design))
outputs-of design node =
    AllHold-from (IsOutput design node) (filter (has node.outputs) (net_pieces design))
    (λ i number at.
    let r = at-filter (has node.outputs) (net_pieces design) i number at in
    let h = AllHold-slice_get (NumberOf (λ (object : FlatObject). is_net object.kind) design.objects 0) (net_pieces design) r.0 number
    (numbers-at (λ (object : FlatObject). is_net object.kind) 0 design.objects) r.1 in
    let is = h.is in
    let same : h.place ≡ number = omega (arith, is) in
    record { object = h.object; at = ap (slice_get design.objects) (sym same) ∙ h.at; kind = h.passes; written = r.2 })

width-there : (objects : List FlatObject) (i : ℕ) (object : FlatObject) → slice_get objects i ≡ Some object → get_or (map (λ (o : FlatObject). o.width) objects) i 0 ≡ object.width
width-there [] i object at = absurd (cc)
width-there (first ∷ objects) zero object at = ap (λ (o : FlatObject). o.width) (same_some first object at)
width-there (first ∷ objects) (suc i) object at = width-there objects i object at

abbrev bits_of_output : FlatDesign → ℕ → ℕ → List FaultSite
bits_of_output design i number = map (OutputBit i number) (up_from 0 (width_in design number))

abbrev SiteOfNet : FlatDesign → ℕ → FaultSite → Type 0
SiteOfNet design number site = NamesBit design is_net number (site_name design site)

output-names : (design : FlatDesign) (i number : ℕ) (node : FlatNode) → IsOutput design node number → AllHold (SiteOfNet design number) (bits_of_output design i number)
output-names design i number node h =
    let width = width-there design.objects number h.object h.at in
    AllHold-map (SiteOfNet design number) (OutputBit i number) (up_from 0 (width_in design number))
    (AllHold-upwards (λ bit. SiteOfNet design number (OutputBit i number bit)) 0 (width_in design number)
    (λ bit low high. record {
      object = h.object;
      at = h.at;
      kind = h.kind;
      has_bits = net-bits h.object.kind h.kind;
      bit = bit;
      low = omega (arith, high, width);
      is = object-site design number h.object h.at bit;
    }))

output-apart : (design : FlatDesign) → TellsBits design → (i number : ℕ) (node : FlatNode) → IsOutput design node number → AllApart (SiteApart design) (bits_of_output design i number)
output-apart design tells i number node h =
    let width = width-there design.objects number h.object h.at in
    let own = AllHold-slice_get (λ (o : FlatObject). OwnBitsDiffer o × BitsAreNamed o) design.objects number h.object tells.own h.at in
    apart-map (SiteApart design) (OutputBit i number) (up_from 0 (width_in design number))
    (apart-upwards (λ bit place. SiteApart design (OutputBit i number bit) (OutputBit i number place)) 0 (width_in design number)
    (λ bit place low less high e. own.0 (net-bits h.object.kind h.kind) bit place less (omega (arith, high, width))
    (object-site design number h.object h.at bit ∙ e ∙ sym (object-site design number h.object h.at place))))

-- the outputs of a node
node-apart : (design : FlatDesign) → TellsBits design → (i : ℕ) (node : FlatNode) → AllApart (SiteApart design) (output_sites design i node)
node-apart design tells i node =
    let numbers = filter (has node.outputs) (net_pieces design) in
    let bits = bits_of_output design i in
    let outputs = outputs-of design node in
    let ascending = apart-filter (λ m n. m < n) (has node.outputs) (net_pieces design) (numbers-ascend (λ (object : FlatObject). is_net object.kind) 0 design.objects) in
    apart-joined (SiteApart design) (map bits numbers)
    (AllHold-map (AllApart (SiteApart design)) bits numbers (AllHold-each (IsOutput design node) (λ number. AllApart (SiteApart design) (bits number)) numbers
    (λ number h. output-apart design tells i number node h) outputs))
    (apart-map (Across (SiteApart design)) bits numbers
    (apart-from (λ m n. Across (SiteApart design) (bits m) (bits n)) numbers
    (λ a b m n at_m at_n less.
    let order = apart-at (λ x y. x < y) numbers ascending a b m n at_m at_n less in
    across-all (SiteOfNet design m) (SiteOfNet design n) (SiteApart design) (bits m) (bits n)
    (λ site next. bits-differ design tells is_net is_net m n (λ same. omega (arith, same, order)) (site_name design site) (site_name design next))
    (output-names design i m node (AllHold-slice_get (IsOutput design node) numbers a m outputs at_m))
    (output-names design i n node (AllHold-slice_get (IsOutput design node) numbers b n outputs at_n)))))

-- a site at an output of a node
abbrev SiteOfOutput : FlatDesign → FlatNode → FaultSite → Type 0
SiteOfOutput design node site = (number : ℕ) × (has node.outputs number ≡ true) × SiteOfNet design number site

node-names : (design : FlatDesign) (i : ℕ) (node : FlatNode) → AllHold (SiteOfOutput design node) (output_sites design i node)
node-names design i node =
    let numbers = filter (has node.outputs) (net_pieces design) in
    let bits = bits_of_output design i in
    AllHold-joined (SiteOfOutput design node) (map bits numbers)
    (AllHold-map (AllHold (SiteOfOutput design node)) bits numbers
    (AllHold-each (IsOutput design node) (λ number. AllHold (SiteOfOutput design node) (bits number)) numbers
    (λ number h. AllHold-each (SiteOfNet design number) (SiteOfOutput design node) (bits number) (λ site is. (number, h.written, is)) (output-names design i number node h)) (outputs-of design node)))

outputs-apart : (design : FlatDesign) → TellsSites design → AllApart (SiteApart design) (joined (map_numbered (output_sites design) 0 design.nodes))
outputs-apart design tells =
    apart-numbered (SiteApart design) (output_sites design) design.nodes (λ i node at. node-apart design tells.bits i node)
    (λ i j node other at_node at_other less.
    across-all (SiteOfOutput design node) (SiteOfOutput design other) (SiteApart design) (output_sites design i node) (output_sites design j other)
    (λ site next h k.
    bits-differ design tells.bits is_net is_net h.0 k.0
    (λ same.
    let first : has other.outputs h.0 ≡ true = ap (has other.outputs) same ∙ k.1 in
    let second : has other.outputs h.0 ≡ false = tells.one_driver i j node other at_node at_other less h.0 h.1 in
    absurd (cc)) (site_name design site) (site_name design next) h.2 k.2) (node-names design i node) (node-names design j other))

-- Terminals

abbrev SiteOfGate : FlatDesign → ℕ → FaultSite → Type 0
SiteOfGate design i site = NamesTerminal design i (site_name design site)

node-site : (design : FlatDesign) (i : ℕ) (node : FlatNode) → slice_get design.nodes i ≡ Some node → (terminal : ℕ) →
    node.name ++ 46 ∷ decimal terminal ≡ terminal_name (slice_get design.nodes i) terminal
node-site design i node at terminal = ap (λ n. terminal_name n terminal) (sym at)

gate-names : (design : FlatDesign) (i : ℕ) (node : FlatNode) → slice_get design.nodes i ≡ Some node → AllHold (SiteOfGate design i) (terminal_sites i node)
gate-names design i node at =
    AllHold-map (SiteOfGate design i) (GateTerminal i) (up_from 1 (terminal_count node.kind))
    (AllHold-upwards (λ terminal. SiteOfGate design i (GateTerminal i terminal)) 1 (terminal_count node.kind)
    (λ terminal low high. record { node = node; at = at; terminal = terminal; some = low; within = omega (arith, high); is = node-site design i node at terminal }))

gate-apart : (design : FlatDesign) → TellsSites design → (i : ℕ) (node : FlatNode) → slice_get design.nodes i ≡ Some node → AllApart (SiteApart design) (terminal_sites i node)
gate-apart design tells i node at =
    let most : terminal_count node.kind < 2 ^ 64 = AllHold-slice_get (λ (n : FlatNode). terminal_count n.kind < 2 ^ 64) design.nodes i node tells.terminals at in
    apart-map (SiteApart design) (GateTerminal i) (up_from 1 (terminal_count node.kind))
    (apart-upwards (λ terminal number. SiteApart design (GateTerminal i terminal) (GateTerminal i number)) 1 (terminal_count node.kind)
    (λ terminal number low less high e.
    let same = same-terminal node.name node.name terminal number (omega (arith, most, less, high)) (omega (arith, most, high))
    (node-site design i node at terminal ∙ e ∙ sym (node-site design i node at number)) in
    omega (arith, same.1, less)))

terminals-apart : (design : FlatDesign) → TellsSites design → AllApart (SiteApart design) (joined (map_numbered terminal_sites 0 design.nodes))
terminals-apart design tells =
    apart-numbered (SiteApart design) terminal_sites design.nodes (gate-apart design tells)
    (λ i j node other at_node at_other less.
    across-all (SiteOfGate design i) (SiteOfGate design j) (SiteApart design) (terminal_sites i node) (terminal_sites j other)
    (λ site next. terminals-differ design tells i j less (site_name design site) (site_name design next)) (gate-names design i node at_node) (gate-names design j other at_other))

-- All sites

abbrev OfSomeVariable : FlatDesign → FaultSite → Type 0
OfSomeVariable design site = (i : ℕ) × SiteOfVariable design i site

abbrev OfSomeNet : FlatDesign → FaultSite → Type 0
OfSomeNet design site = (number : ℕ) × SiteOfNet design number site

abbrev OfSomeGate : FlatDesign → FaultSite → Type 0
OfSomeGate design site = (i : ℕ) × SiteOfGate design i site

-- no two sites have one name, where bits and gates are told apart and each net piece has one node at most
pub sites-differ : (design : FlatDesign) → TellsSites design → SitesDiffer design
sites-differ design tells =
    let variables = joined (map_numbered variable_sites 0 design.objects) in
    let outputs = joined (map_numbered (output_sites design) 0 design.nodes) in
    let terminals = joined (map_numbered terminal_sites 0 design.nodes) in
    let of_variables : AllHold (OfSomeVariable design) variables =
    AllHold-numbered (OfSomeVariable design) variable_sites design.objects (λ i object at.
    AllHold-each (SiteOfVariable design i) (OfSomeVariable design) (variable_sites i object) (λ site h. (i, h)) (variable-names design i object at)) in
    let of_nets : AllHold (OfSomeNet design) outputs =
    AllHold-numbered (OfSomeNet design) (output_sites design) design.nodes (λ i node at. AllHold-each (SiteOfOutput design node) (OfSomeNet design) (output_sites design i node)
    (λ site h. (h.0, h.2)) (node-names design i node)) in
    let of_gates : AllHold (OfSomeGate design) terminals =
    AllHold-numbered (OfSomeGate design) terminal_sites design.nodes (λ i node at. AllHold-each (SiteOfGate design i) (OfSomeGate design) (terminal_sites i node) (λ site h. (i, h))
    (gate-names design i node at)) in
    let nets_gates : Across (SiteApart design) outputs terminals =
    across-all (OfSomeNet design) (OfSomeGate design) (SiteApart design) outputs terminals
    (λ site next h k. bit-not-terminal design tells is_net h.0 k.0 (site_name design site) (site_name design next) h.1 k.1) of_nets of_gates in
    let variables_nets : Across (SiteApart design) variables outputs =
    across-all (OfSomeVariable design) (OfSomeNet design) (SiteApart design) variables outputs
    (λ site next h k. variable-no-net design tells.bits h.0 k.0 (site_name design site) (site_name design next) h.1 k.1) of_variables of_nets in
    let variables_gates : Across (SiteApart design) variables terminals =
    across-all (OfSomeVariable design) (OfSomeGate design) (SiteApart design) variables terminals
    (λ site next h k. bit-not-terminal design tells is_variable h.0 k.0 (site_name design site) (site_name design next) h.1 k.1) of_variables of_gates in
    differ-from (map (site_name design) (sites_of design))
    (apart-map (λ one other. one ≢ other) (site_name design) (sites_of design)
    (apart-append (SiteApart design) variables (outputs ++ terminals) (variables-apart design tells.bits)
    (apart-append (SiteApart design) outputs terminals (outputs-apart design tells) (terminals-apart design tells) nets_gates)
    (across-append (SiteApart design) variables outputs terminals variables_nets variables_gates)))
