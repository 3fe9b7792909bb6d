-- The drives and the variables that are found under a name, as plain ones (nothing of the language).
use Rattle.std.proofs.Common.{◌≡◌, ℕ, Bool, true, false, List, [], ◌∷◌, map, refl, sym, ap, ◌∙◌}
use Rattle.std.specs.Borrow.{Bor}
use Rattle.std.specs.Str.{bytes_eq}
use Rattle.key_index.specs.Groups.{item_if, items_under}
use Rattle.elab_parts.specs.declared.signal.Signal.{Signal}
use Rattle.elab_wires.specs.SignalTables.{signal_borrowed}
use Rattle.elab_wires.specs.DriveViews.{object_drive_of, drive_keyed}
use Rattle.elab_wires.specs.declared.object_drive.ObjectDrive.{ObjectDrive}
use Rattle.elab_objects.specs.Driven.{driving_keyed}

pub viewed-under : {A B : Type 0} (view : A → B) (ps : List (List ℕ × A)) (key : List ℕ) → items_under (map (λ (p : List ℕ × A). (p.0, view p.1)) ps) key ≡ map view (items_under ps key)
viewed-under view [] key = refl
viewed-under {A} view (p ∷ ps) key = by_test (bytes_eq key p.0) (viewed-under view ps key)
  where
    by_test : (test : Bool) → items_under (map (λ (q : List ℕ × A). (q.0, view q.1)) ps) key ≡ map view (items_under ps key) →
        item_if test (view p.1) (items_under (map (λ (q : List ℕ × A). (q.0, view q.1)) ps) key) ≡ map view (item_if test p.1 (items_under ps key))
    by_test true e = ap (λ l. view p.1 ∷ l) e
    by_test false e = e

-- the variables under a name
pub variables-found : (driving : List (List ℕ × Bor Signal)) (name key : List ℕ) (variables : List (Bor Signal)) → key ≡ name → variables ≡ items_under driving key →
    map signal_borrowed variables ≡ items_under (map driving_keyed driving) name
variables-found driving name key variables same under = ap (map signal_borrowed) (under ∙ ap (items_under driving) same) ∙ sym (viewed-under signal_borrowed driving name)

-- the drives under a name
pub drives-found : (drives : List (List ℕ × ObjectDrive)) (name key : List ℕ) (selects : List ObjectDrive) → key ≡ name → selects ≡ items_under drives key →
    map object_drive_of selects ≡ items_under (map drive_keyed drives) name
drives-found drives name key selects same under = ap (map object_drive_of) (under ∙ ap (items_under drives) same) ∙ sym (viewed-under object_drive_of drives name)
