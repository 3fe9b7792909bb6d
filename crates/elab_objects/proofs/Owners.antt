-- The driving variables under the name of a signal, and turns of loops.
use Rattle.std.proofs.Common.{◌≡◌, ℕ, ◌+◌, ◌<◌, List, length, map, get_or, take, Option, Some, sym, ap, ◌∙◌}
use Rattle.std.specs.Prelude.{option_map}
use Rattle.std.specs.Borrow.{Bor}
use Rattle.std.proofs.lemmas.Option.{slice_get-map, slice_get-get_or}
use Rattle.vf_base.specs.Lists.{AllHold}
use Rattle.graph_order.specs.ListLaws.{AllHold-slice_get}
use Rattle.v_elab.specs.Parts as plain
use Rattle.key_index.specs.Groups.{items_under}
use Rattle.elab_parts.specs.PartViews.{part_of}
use Rattle.elab_parts.specs.declared.part.Part.{Part}
use Rattle.elab_parts.specs.declared.signal.Signal.{Signal}
use Rattle.elab_wires.specs.SignalTables.{signal_borrowed}
use Rattle.elab_wires.specs.Turns.{taken-more}
use Rattle.elab_wires.specs.Depths.{sooner}
use Rattle.elab_objects.specs.Driven.{driving_keyed, first_by_depth, first-more}
use Rattle.elab_objects.specs.Found.{variables-found}

-- the first by depth among those under a name
pub first-found : (driving : List (List ℕ × Bor Signal)) (name key : List ℕ) (variables : List (Bor Signal)) (found : Option (Bor Signal)) → key ≡ name → variables ≡ items_under driving key →
    option_map signal_borrowed found ≡ first_by_depth (map signal_borrowed variables) → option_map signal_borrowed found ≡ first_by_depth (items_under (map driving_keyed driving) name)
first-found driving name key variables found same under is =
    is ∙ ap first_by_depth (variables-found driving name key variables same under)

-- a fact of each part
pub part-holds : (P : plain.Part → Type 0) (parts : List Part) (i : ℕ) (x : Part) → AllHold P (map part_of parts) → i < length parts → x ≡ get_or parts i x → P (part_of x)
part-holds P parts i x all low is = AllHold-slice_get P (map part_of parts) i (part_of x) all
    (slice_get-map part_of parts i ∙ ap (option_map part_of) (slice_get-get_or parts i x low ∙ ap Some (sym is)))

-- one variable more
pub signals-turn : (signals : List (Bor Signal)) (i : ℕ) (x : Bor Signal) (first : Option (Bor Signal)) (one : Bor Signal) → i < length signals → x ≡ get_or signals i x →
    option_map signal_borrowed first ≡ first_by_depth (map signal_borrowed (take i signals)) →
    signal_borrowed one ≡ sooner (signal_borrowed x) (option_map signal_borrowed first) → Some (signal_borrowed one) ≡ first_by_depth (map signal_borrowed (take (i + 1) signals))
signals-turn signals i x first one low at had is =
    ap Some (is ∙ ap (sooner (signal_borrowed x)) had)
    ∙ (sym (first-more (map signal_borrowed (take i signals)) (signal_borrowed x)) ∙ ap first_by_depth (sym (taken-more signal_borrowed signals i x low at)))
