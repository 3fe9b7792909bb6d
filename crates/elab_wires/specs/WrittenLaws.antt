-- Who writes an object, by the list of all that is written.
use Rattle.std.proofs.Common.{◌≡◌, ℕ, ◌+◌, Bool, true, false, ◌&&◌, ◌||◌, List, [], ◌∷◌, ◌++◌, Option, Some, None, refl, ap, ap₂, ◌∙◌}
use Rattle.std.specs.List.{list_any}
use Rattle.std.specs.Str.{bytes_eq}
use Rattle.v_tree.specs.Trees.{Identifier, same_name, has_name}
use Rattle.v_elab.specs.Parts.{Joining, Signal, Part}
use Rattle.v_elab.specs.Drivers.{signals_written, outermost, writes_object, other_writes, is_output, joins_output, port_writes}
use Rattle.key_index.specs.Groups.{item_if, items_under}
use Rattle.elab_wires.specs.Keyed.{key-name}
use Rattle.elab_wires.specs.WrittenNames.{written_by, written_from, objects_written, is_other, has_other_writer, into_if, output_into, output_names}

or-assoc : (a b c : Bool) → ((a || b) || c) ≡ (a || (b || c))
or-assoc true b c = refl
or-assoc false b c = refl

-- one name that is written
test-one : (number n : ℕ) (same : Bool) (found : List ℕ) → list_any (is_other number) (item_if same n found) ≡ ((is_other number n && same) || list_any (is_other number) found)
test-one number n true found = by (is_other number n)
  where
    by : (b : Bool) → (b || list_any (is_other number) found) ≡ ((b && true) || list_any (is_other number) found)
    by true = refl
    by false = refl
test-one number n false found = by (is_other number n)
  where
    by : (b : Bool) → list_any (is_other number) found ≡ ((b && false) || list_any (is_other number) found)
    by true = refl
    by false = refl

split : (a b c d : Bool) → ((a && b) || ((a && c) || d)) ≡ ((a && (b || c)) || d)
split true true c d = refl
split true false c d = refl
split false b c d = refl

none-written : (a d : Bool) → d ≡ ((a && false) || d)
none-written true d = refl
none-written false d = refl

-- the names that one part writes, in front of the others
names-first : (signals : List Signal) (number n : ℕ) (object : Identifier) (names : List Identifier) (rest : List (Identifier × ℕ))
    → has_other_writer (objects_written signals (written_by n names ++ rest)) number object
    ≡ ((is_other number n && list_any (λ name. same_name (outermost signals name) object) names) || has_other_writer (objects_written signals rest) number object)
names-first signals number n object [] rest = none-written (is_other number n) (has_other_writer (objects_written signals rest) number object)
names-first signals number n object (name ∷ names) rest =
    test-one number n (bytes_eq object (outermost signals name)) (items_under (objects_written signals (written_by n names ++ rest)) object)
    ∙ ap₂ (λ (b : Bool) (r : Bool). (is_other number n && b) || r) (key-name object (outermost signals name)) (names-first signals number n object names rest)
    ∙ split (is_other number n) (same_name (outermost signals name) object) (list_any (λ m. same_name (outermost signals m) object) names)
    (has_other_writer (objects_written signals rest) number object)

-- another part writes an object where it is so by the list of all that is written
pub other-written : (signals : List Signal) (number : ℕ) (object : Identifier) (n : ℕ) (parts : List Part) →
    has_other_writer (objects_written signals (written_from n parts)) number object ≡ other_writes signals number object n parts
other-written signals number object n [] = refl
other-written signals number object n (part ∷ parts) =
    names-first signals number n object (signals_written part) (written_from (n + 1) parts)
    ∙ ap (λ r. (is_other number n && writes_object signals object part) || r) (other-written signals number object (n + 1) parts)

-- a port writes a name where it is so by the list of what output ports are joined into
one-output : (name : Identifier) (joined : Option Joining) (names : List Identifier) → has_name (output_into joined ++ names) name ≡ (joins_output name joined || has_name names name)
one-output name None names = refl
one-output name (Some joining) names = by (is_output joining.direction)
  where
    by : (b : Bool) → has_name (into_if b joining.into ++ names) name ≡ ((b && same_name joining.into name) || has_name names name)
    by true = refl
    by false = refl

pub port-written : (signals : List Signal) (name : Identifier) → has_name (output_names signals) name ≡ port_writes signals name
port-written [] name = refl
port-written (signal ∷ signals) name = one-output name signal.joined (output_names signals) ∙ ap (λ r. joins_output name signal.joined || r) (port-written signals name)
