-- The sites of a design: the object of a variable's bit is one that no node drives, and a node's site is of a node that is there.
use Rattle.std.proofs.Common.{◌≡◌, ℕ, zero, suc, ◌+◌, ◌<◌, Bool, true, false, List, [], ◌∷◌, ◌++◌, map, filter, length, get_or, refl, sym, ap, subst, ◌∙◌, arith, inl, inr}
use Rattle.std.specs.Prelude.{Some, slice_get, nat_eq, Contains}
use Rattle.std.specs.List.{list_any}
use Rattle.std.proofs.lemmas.Bool.{cases_Bool, ne_eqb, false≢true}
use Rattle.std.proofs.lemmas.Option.{slice_get_within}
use Rattle.vf_base.specs.Lists.{AllHold, has, joined, map_numbered}
use Rattle.v_design.specs.Designs.{FlatObject, FlatNode, FlatDesign, FaultSite, VariableBit, OutputBit, GateTerminal, width_in}
use Rattle.v_design.specs.Expressions.{up_from}
use Rattle.v_design.specs.Laws.{is_driven}
use Rattle.v_design.specs.Paths.{is_net, numbers_of, net_pieces}
use Rattle.v_design.specs.Sites.{is_variable, bits_if, variable_sites, output_sites, terminal_count, terminal_sites, sites_of}
use Rattle.v_design.specs.WellFormed.{KeepsRules, IsNodeOf}
use Rattle.v_design.specs.declared.logic.ObjectKind.{ObjectKind}
use Rattle.v_design.specs.declared.logic.ObjectKind.TheVariants.{Var, Word, Net}
use Rattle.graph_order.specs.ListLaws.{AllHold-has}
use Rattle.start_copy.proofs.Words.{both-false}

-- Objects that aren't net pieces

not-below : (test : FlatObject → Bool) (n x : ℕ) (objects : List FlatObject) → x < n → has (numbers_of test n objects) x ≡ false
not-below test n x [] low = refl
not-below test n x (object ∷ objects) low =
    elim (test object) as (λ b. has (elim b [ true ↦ n ∷ numbers_of test (n + 1) objects | false ↦ numbers_of test (n + 1) objects ]) x ≡ false) [
      | true ↦ both-false (nat_eq n x) (has (numbers_of test (n + 1) objects) x) (ne_eqb n x (λ same. omega arith)) (not-below test (n + 1) x objects (omega arith))
      | false ↦ not-below test (n + 1) x objects (omega arith)
    ]

not-tested : (test : FlatObject → Bool) (n k : ℕ) (objects : List FlatObject) (object : FlatObject) → slice_get objects k ≡ Some object → test object ≡ false →
    has (numbers_of test n objects) (n + k) ≡ false
not-tested test n k [] object at fails = cc
not-tested test n zero (o ∷ objects) object at fails =
    let same : o ≡ object = cc in
    let is : test o ≡ false = ap test same ∙ fails in
    subst (λ b. has (elim b [ true ↦ n ∷ numbers_of test (n + 1) objects | false ↦ numbers_of test (n + 1) objects ]) (n + zero) ≡ false) (sym is)
    (not-below test (n + 1) (n + zero) objects (omega arith))
not-tested test n (suc k) (o ∷ objects) object at fails =
    let same : (n + 1) + k ≡ n + suc k = omega arith in
    let rest : has (numbers_of test (n + 1) objects) (n + suc k) ≡ false =
    subst (λ m. has (numbers_of test (n + 1) objects) m ≡ false) same (not-tested test (n + 1) k objects object at fails) in
    elim (test o) as (λ b. has (elim b [ true ↦ n ∷ numbers_of test (n + 1) objects | false ↦ numbers_of test (n + 1) objects ]) (n + suc k) ≡ false) [
      | true ↦ both-false (nat_eq n (n + suc k)) (has (numbers_of test (n + 1) objects) (n + suc k)) (ne_eqb n (n + suc k) (λ e. omega arith)) rest
      | false ↦ rest
    ]

-- no node drives what is no net piece
not-driven : (design : FlatDesign) (object : ℕ) (nodes : List FlatNode) → AllHold (IsNodeOf design) nodes → has (net_pieces design) object ≡ false →
    list_any (λ (node : FlatNode). has node.outputs object) nodes ≡ false
not-driven design object [] rules none = refl
not-driven design object (node ∷ nodes) rules none =
    both-false (has node.outputs object) (list_any (λ (n : FlatNode). has n.outputs object) nodes)
    (elim (cases_Bool (has node.outputs object)) [
      | inl drives ↦ absurd (false≢true (sym none ∙ AllHold-has (λ x. has (net_pieces design) x ≡ true) node.outputs object rules.0.outputs_nets drives))
      | inr other ↦ other
    ])
    (not-driven design object nodes rules.1 none)

variable-kind : (kind : ObjectKind) → is_variable kind ≡ true → is_net kind ≡ false
variable-kind Var e = refl
variable-kind Word e = refl
variable-kind Net e = cc

-- All sites of a list pass a test

-- a site stands where the fault's law asks
abbrev pub SiteStands : FlatDesign → FaultSite → Type 0
SiteStands design (VariableBit object bit) = (object < length design.objects) × (is_driven design object ≡ false)
SiteStands design (OutputBit node object bit) = node < length design.nodes
SiteStands design (GateTerminal node terminal) = node < length design.nodes

hold-append : (P : FaultSite → Type 0) (xs ys : List FaultSite) → AllHold P xs → AllHold P ys → AllHold P (xs ++ ys)
hold-append P [] ys h k = k
hold-append P (x ∷ xs) ys h k = (h.0, hold-append P xs ys h.1 k)

hold-map : (P : FaultSite → Type 0) (site : ℕ → FaultSite) (numbers : List ℕ) → ((number : ℕ) → P (site number)) → AllHold P (map site numbers)
hold-map P site [] each = tt
hold-map P site (number ∷ numbers) each = (each number, hold-map P site numbers each)

hold-joined : (P : FaultSite → Type 0) (give : ℕ → List FaultSite) (numbers : List ℕ) → ((number : ℕ) → AllHold P (give number)) → AllHold P (joined (map give numbers))
hold-joined P give [] each = tt
hold-joined P give (number ∷ numbers) each = hold-append P (give number) (joined (map give numbers)) (each number) (hold-joined P give numbers each)

hold-numbered : {A : Type 0} (P : FaultSite → Type 0) (give : ℕ → A → List FaultSite) (from : ℕ) (xs : List A) →
    ((k : ℕ) (x : A) → slice_get xs k ≡ Some x → AllHold P (give (from + k) x)) → AllHold P (joined (map_numbered give from xs))
hold-numbered P give from [] each = tt
hold-numbered P give from (x ∷ xs) each =
    hold-append P (give from x) (joined (map_numbered give (from + 1) xs))
    (let same : from + 0 ≡ from = omega arith in subst (λ n. AllHold P (give n x)) same (each 0 x refl))
    (hold-numbered P give (from + 1) xs (λ k y at. (let same : from + suc k ≡ (from + 1) + k = omega arith in subst (λ n. AllHold P (give n y)) same (each (suc k) y at))))

hold-get : (P : FaultSite → Type 0) (xs : List FaultSite) (place : ℕ) (default : FaultSite) → AllHold P xs → place < length xs → P (get_or xs place default)
hold-get P [] place default h low = absurd (omega (arith, low))
hold-get P (x ∷ xs) zero default h low = h.0
hold-get P (x ∷ xs) (suc place) default h low = hold-get P xs place default h.1 (omega (arith, low))

-- The sites of a design

variables-stand : (design : FlatDesign) → KeepsRules design → (k : ℕ) (object : FlatObject) (b : Bool) → slice_get design.objects k ≡ Some object → is_variable object.kind ≡ b →
    AllHold (SiteStands design) (bits_if b (VariableBit (0 + k)) object.width)
variables-stand design rules k object true at is =
    let same : 0 + k ≡ k = omega arith in
    let low : k < length design.objects = slice_get_within design.objects k object at in
    let none : has (net_pieces design) (0 + k) ≡ false = not-tested (λ (o : FlatObject). is_net o.kind) 0 k design.objects object at (variable-kind object.kind is) in
    let stands : SiteStands design (VariableBit (0 + k) 0) = (omega arith, not-driven design (0 + k) design.nodes rules.nodes none) in
    hold-map (SiteStands design) (VariableBit (0 + k)) (up_from 0 object.width) (λ bit. stands)
variables-stand design rules k object false at is = tt

all-stand : (design : FlatDesign) → KeepsRules design → AllHold (SiteStands design) (sites_of design)
all-stand design rules =
    hold-append (SiteStands design) (joined (map_numbered variable_sites 0 design.objects))
    (joined (map_numbered (output_sites design) 0 design.nodes) ++ joined (map_numbered terminal_sites 0 design.nodes))
    (hold-numbered (SiteStands design) variable_sites 0 design.objects (λ k object at. variables-stand design rules k object (is_variable object.kind) at refl))
    (hold-append (SiteStands design) (joined (map_numbered (output_sites design) 0 design.nodes)) (joined (map_numbered terminal_sites 0 design.nodes))
    (hold-numbered (SiteStands design) (output_sites design) 0 design.nodes
    (λ k node at. (let low : 0 + k < length design.nodes = omega (arith, slice_get_within design.nodes k node at) in
    hold-joined (SiteStands design) (λ object. map (OutputBit (0 + k) object) (up_from 0 (width_in design object))) (filter (has node.outputs) (net_pieces design))
    (λ object. hold-map (SiteStands design) (OutputBit (0 + k) object) (up_from 0 (width_in design object)) (λ bit. low)))))
    (hold-numbered (SiteStands design) terminal_sites 0 design.nodes
    (λ k node at. (let low : 0 + k < length design.nodes = omega (arith, slice_get_within design.nodes k node at) in
    hold-map (SiteStands design) (GateTerminal (0 + k)) (up_from 1 (terminal_count node.kind)) (λ terminal. low)))))

pub site-stands : (design : FlatDesign) (site : FaultSite) → KeepsRules design → Contains (sites_of design) site → SiteStands design site
site-stands design site rules there = subst (SiteStands design) there.2 (hold-get (SiteStands design) (sites_of design) there.0 site (all-stand design rules) there.1)
