-- Whether another part or a port writes an object, from the parts that write it (IEEE 1364-2001, clause 6.1; that names which are joined are one object is own).
use Rattle.std.proofs.Common.{◌≡◌, ℕ, ◌+◌, Bool, true, false, ◌&&◌, ◌||◌, List, [], ◌∷◌, ◌++◌, map, Option, Some, None, refl, sym, ap, ap₂, ◌∙◌}
use Rattle.std.specs.Prelude.{nat_eq, not}
use Rattle.std.specs.List.{list_any}
use Rattle.std.proofs.lemmas.Bool.{eqb-true}
use Rattle.v_tree.specs.Trees.{Identifier, same_name, has_name}
use Rattle.v_elab.specs.Parts.{Joining, Signal, Part}
use Rattle.v_elab.specs.Drivers.{outermost, signals_written, other_writes, is_output, joins_output, port_writes}
use Rattle.key_index.specs.Groups.{item_if, items_under}
use Rattle.elab_wires.specs.Keyed.{key-name, under-append, any-append}

-- the objects that a part of a number writes, by the names that they are at last joined into
abbrev pub keyed_writes : List Signal → ℕ → List Identifier → List (Identifier × ℕ)
keyed_writes signals number names = map (λ name. (outermost signals name, number)) names

-- the objects that parts write, from a number on, each with the part's number, ascending
abbrev pub all_writes : List Signal → ℕ → List Part → List (Identifier × ℕ)
all_writes signals number [] = []
all_writes signals number (part ∷ parts) = keyed_writes signals number (signals_written part) ++ all_writes signals (number + 1) parts

-- whether a number isn't one
abbrev pub is_other : ℕ → ℕ → Bool
is_other number k = not (nat_eq k number)

part-under : (signals : List Signal) (object : Identifier) (number n : ℕ) (names : List Identifier) →
    list_any (is_other number) (items_under (keyed_writes signals n names) object) ≡ (not (nat_eq n number) && list_any (λ name. same_name (outermost signals name) object) names)
part-under signals object number n [] = by_test (nat_eq n number)
  where
    by_test : (test : Bool) → false ≡ (not test && false)
    by_test true = refl
    by_test false = refl
part-under signals object number n (name ∷ names) =
    let others = items_under (keyed_writes signals n names) object in
    ap (λ t. list_any (is_other number) (item_if t n others)) (key-name object (outermost signals name))
    ∙ by_test (same_name (outermost signals name) object) (nat_eq n number) refl (part-under signals object number n names)
  where
    by_test : (here is : Bool) → nat_eq n number ≡ is →
        list_any (is_other number) (items_under (keyed_writes signals n names) object) ≡ (not (nat_eq n number) && list_any (λ m. same_name (outermost signals m) object) names) →
        list_any (is_other number) (item_if here n (items_under (keyed_writes signals n names) object)) ≡
        (not (nat_eq n number) && (here || list_any (λ m. same_name (outermost signals m) object) names))
    by_test false is e rest = rest
    by_test true true e rest = ap (λ t. not t || list_any (is_other number) (items_under (keyed_writes signals n names) object)) e
        ∙ (rest ∙ (ap (λ t. not t && list_any (λ m. same_name (outermost signals m) object) names) e ∙ ap (λ t. not t && true) (sym e)))
    by_test true false e rest = ap (λ t. not t || list_any (is_other number) (items_under (keyed_writes signals n names) object)) e ∙ ap (λ t. not t && true) (sym e)

-- a part other than one of a number writes an object exactly where another number stands under it
pub other-under : (signals : List Signal) (number : ℕ) (object : Identifier) (n : ℕ) (parts : List Part) →
    other_writes signals number object n parts ≡ list_any (is_other number) (items_under (all_writes signals n parts) object)
other-under signals number object n [] = refl
other-under signals number object n (part ∷ parts) =
    ap₂ (λ a b. a || b) (sym (part-under signals object number n (signals_written part))) (other-under signals number object (n + 1) parts)
    ∙ sym (any-append (is_other number) (items_under (keyed_writes signals n (signals_written part)) object) (items_under (all_writes signals (n + 1) parts) object))
    ∙ ap (list_any (is_other number)) (sym (under-append (keyed_writes signals n (signals_written part)) (all_writes signals (n + 1) parts) object))

-- the first number, and whether there is one that isn't the first, are enough
pub other-first : (k : ℕ) (ks : List ℕ) (number : ℕ) → list_any (is_other number) (k ∷ ks) ≡ (is_other number k || list_any (is_other k) ks)
other-first k ks number = by_test (nat_eq k number) refl
  where
    by_test : (is : Bool) → nat_eq k number ≡ is → (not is || list_any (is_other number) ks) ≡ (not is || list_any (is_other k) ks)
    by_test true e = ap (λ m. list_any (is_other m) ks) (sym (eqb-true k number e))
    by_test false e = refl

-- Ports that write

-- what a signal is joined into, where it is an output port
abbrev pub name_if : Bool → Identifier → List Identifier
name_if true name = name ∷ []
name_if false name = []

abbrev pub output_join : Option Joining → List Identifier
output_join None = []
output_join (Some joining) = name_if (is_output joining.direction) joining.into

-- the names that output ports are joined into, in the order of the walk
abbrev pub output_joins : List Signal → List Identifier
output_joins [] = []
output_joins (s ∷ signals) = output_join s.joined ++ output_joins signals

has-append : (names more : List Identifier) (name : Identifier) → has_name (names ++ more) name ≡ (has_name names name || has_name more name)
has-append [] more name = refl
has-append (n ∷ names) more name = by_test (same_name n name) (has-append names more name)
  where
    by_test : (t : Bool) → has_name (names ++ more) name ≡ (has_name names name || has_name more name) → (t || has_name (names ++ more) name) ≡ ((t || has_name names name) || has_name more name)
    by_test true e = refl
    by_test false e = e

join-has : (name : Identifier) (joined : Option Joining) → joins_output name joined ≡ has_name (output_join joined) name
join-has name None = refl
join-has name (Some joining) = by_test (is_output joining.direction)
  where
    only : (same : Bool) → same ≡ (same || false)
    only true = refl
    only false = refl

    by_test : (output : Bool) → (output && same_name joining.into name) ≡ has_name (name_if output joining.into) name
    by_test true = only (same_name joining.into name)
    by_test false = refl

pub port-has : (signals : List Signal) (name : Identifier) → port_writes signals name ≡ has_name (output_joins signals) name
port-has [] name = refl
port-has (s ∷ signals) name = ap₂ (λ a b. a || b) (join-has name s.joined) (port-has signals name) ∙ sym (has-append (output_join s.joined) (output_joins signals) name)
