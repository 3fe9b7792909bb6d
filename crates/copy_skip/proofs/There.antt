-- Sites of a design, and objects of which something is kept.
use Rattle.std.proofs.Common.{◌≡◌, ◌≢◌, ℕ, zero, suc, ◌+◌, ◌<◌, ◌≤◌, List, [], ◌∷◌, ◌++◌, map, filter, length, get_or, Bool, true, false, refl, sym, ap, subst, ◌∙◌, inl, inr, arith}
use Rattle.std.specs.Prelude.{Option, Some, None, is_some, Contains}
use Rattle.std.proofs.lemmas.Bool.{cases_lt}
use Rattle.std.proofs.lemmas.List.{get_or_past}
use Rattle.four_value.specs.Values.{LogicValue}
use Rattle.vf_base.specs.Lists.{AllHold, has, joined, map_numbered}
use Rattle.v_design.specs.Assignments.{value_at}
use Rattle.v_design.specs.Designs.{FlatDesign, FlatNode, FaultSite, VariableBit, OutputBit, GateTerminal, width_in}
use Rattle.v_design.specs.Expressions.{up_from}
use Rattle.v_design.specs.Paths.{net_pieces}
use Rattle.v_design.specs.Sites.{is_variable, bits_if, variable_sites, output_sites, terminal_count, terminal_sites, sites_of}
use Rattle.v_design.specs.States.{State, found_or}
use Rattle.copy_laws.specs.Differences.{Differences, own_of, StandsFor, KeepsNothingEqual}
use Rattle.copy_state.specs.EntryLaws.{all-own}
use Rattle.copy_skip.specs.Limits.{SiteIsThere, AreThere}
use Rattle.copy_skip.specs.There.{SearchesBegin}

-- All sites of a list pass a test

hold-append : (P : FaultSite → Type 0) (xs ys : List FaultSite) → AllHold P xs → AllHold P ys → AllHold P (xs ++ ys)
hold-append P [] ys h k = k
hold-append P (x ∷ xs) ys h k = (h.0, hold-append P xs ys h.1 k)

hold-map : (P : FaultSite → Type 0) (site : ℕ → FaultSite) (numbers : List ℕ) → ((number : ℕ) → P (site number)) → AllHold P (map site numbers)
hold-map P site [] each = tt
hold-map P site (number ∷ numbers) each = (each number, hold-map P site numbers each)

hold-joined : (P : FaultSite → Type 0) (give : ℕ → List FaultSite) (numbers : List ℕ) → ((number : ℕ) → AllHold P (give number)) → AllHold P (joined (map give numbers))
hold-joined P give [] each = tt
hold-joined P give (number ∷ numbers) each = hold-append P (give number) (joined (map give numbers)) (each number) (hold-joined P give numbers each)

hold-numbered : {A : Type 0} (P : FaultSite → Type 0) (give : ℕ → A → List FaultSite) (from limit : ℕ) (xs : List A) → from + length xs ≤ limit →
    ((number : ℕ) (x : A) → number < limit → AllHold P (give number x)) → AllHold P (joined (map_numbered give from xs))
hold-numbered P give from limit [] fits each = tt
hold-numbered P give from limit (x ∷ xs) fits each =
    hold-append P (give from x) (joined (map_numbered give (from + 1) xs)) (each from x (omega (arith, fits))) (hold-numbered P give (from + 1) limit xs (omega (arith, fits)) each)

hold-get : (P : FaultSite → Type 0) (xs : List FaultSite) (place : ℕ) (default : FaultSite) → AllHold P xs → place < length xs → P (get_or xs place default)
hold-get P [] place default h low = absurd (omega (arith, low))
hold-get P (x ∷ xs) zero default h low = h.0
hold-get P (x ∷ xs) (suc place) default h low = hold-get P xs place default h.1 (omega (arith, low))

-- The sites of a design

bits-there : (design : FlatDesign) (b : Bool) (number width : ℕ) → number < length design.objects → AllHold (SiteIsThere design) (bits_if b (VariableBit number) width)
bits-there design true number width low = hold-map (SiteIsThere design) (VariableBit number) (up_from 0 width) (λ bit. low)
bits-there design false number width low = tt

outputs-there : (design : FlatDesign) (number : ℕ) (node : FlatNode) → number < length design.nodes → AllHold (SiteIsThere design) (output_sites design number node)
outputs-there design number node low =
    hold-joined (SiteIsThere design) (λ object. map (OutputBit number object) (up_from 0 (width_in design object))) (filter (has node.outputs) (net_pieces design))
    (λ object. hold-map (SiteIsThere design) (OutputBit number object) (up_from 0 (width_in design object)) (λ bit. low))

all-there : (design : FlatDesign) → AllHold (SiteIsThere design) (sites_of design)
all-there design =
    hold-append (SiteIsThere design) (joined (map_numbered variable_sites 0 design.objects))
    (joined (map_numbered (output_sites design) 0 design.nodes) ++ joined (map_numbered terminal_sites 0 design.nodes))
    (hold-numbered (SiteIsThere design) variable_sites 0 (length design.objects) design.objects (omega arith)
    (λ number object low. bits-there design (is_variable object.kind) number object.width low))
    (hold-append (SiteIsThere design) (joined (map_numbered (output_sites design) 0 design.nodes)) (joined (map_numbered terminal_sites 0 design.nodes))
    (hold-numbered (SiteIsThere design) (output_sites design) 0 (length design.nodes) design.nodes (omega arith) (λ number node low. outputs-there design number node low))
    (hold-numbered (SiteIsThere design) terminal_sites 0 (length design.nodes) design.nodes (omega arith)
    (λ number node low. hold-map (SiteIsThere design) (GateTerminal number) (up_from 1 (terminal_count node.kind)) (λ terminal. low))))

sites-there : (design : FlatDesign) (site : FaultSite) → Contains (sites_of design) site → SiteIsThere design site
sites-there design site there = subst (SiteIsThere design) there.2 (hold-get (SiteIsThere design) (sites_of design) there.0 site (all-there design) there.1)

-- Own values

values-there : (design : FlatDesign) (d : Differences) (good faulty : State) → length good.values ≡ length design.objects → StandsFor d good faulty → KeepsNothingEqual d good →
    AreThere design d.values
values-there design d good faulty count stands differ object own = elim (cases_lt object (length design.objects)) [
  | inl low ↦ low
  | inr past ↦ absurd (kept (own_of d.values object) refl own past)
]
  where
    kept : (found : Option LogicValue) → own_of d.values object ≡ found → is_some (own_of d.values object) ≡ true → length design.objects ≤ object → ⊥
    kept None is some past = let no : false ≡ true = sym (ap is_some is) ∙ some in cc
    kept (Some value) is some past =
        all-own (λ (entry : ℕ × LogicValue). entry.1 ≢ value_at good.values entry.0) object value d.values differ.values is
        (sym (stands.values object ∙ ap (found_or (value_at good.values object)) is)
        ∙ get_or_past faulty.values object [] (omega (arith, past, count, stands.value_count)) ∙ sym (get_or_past good.values object [] (omega (arith, past, count))))

pub searches_begin : SearchesBegin
searches_begin = record { sites = sites-there; values = values-there }
