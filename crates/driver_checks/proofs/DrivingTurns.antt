-- Targets of blocks, and the variables that drive, one more at a time.
use Rattle.std.proofs.Common.{◌≡◌, ℕ, ◌+◌, ◌<◌, Bool, true, false, not, ◌&&◌, List, [], ◌∷◌, ◌++◌, length, get_or, take, map, filter, cond, Option, is_some, refl, sym, ap, ap₂, ◌∙◌, append-nil}
use Rattle.std.specs.Borrow.{Bor}
use Rattle.std.proofs.lemmas.List.{map_push, map-append}
use Rattle.std.proofs.lemmas.List.Elements.{filter-append}
use Rattle.key_index.specs.Places.{keys_of, key_from}
use Rattle.key_index.specs.Groups.{keyed_of}
use Rattle.key_index.specs.declared.grouped.Keyed.{Keyed}
use Rattle.v_tree.specs.Trees.{Identifier, has_name}
use Rattle.v_elab.specs.Parts as plain
use Rattle.v_elab.specs.Drivers.{outermost, signals_of, drives_some, drive_signals}
use Rattle.elab_wires.specs.Depths.{driving_if}
use Rattle.elab_parts.specs.PartViews.{drive_of, signal_of}
use Rattle.elab_parts.specs.BitLaws.{drives-none, drives-bits}
use Rattle.elab_parts.specs.declared.part.Drive.{Drive}
use Rattle.elab_parts.specs.declared.signal.Signal.{Signal}
use Rattle.elab_wires.specs.IndexLaws.{key-there}
use Rattle.elab_wires.specs.PartLists.{signals-append}
use Rattle.elab_objects.specs.Driven.{driving_keyed}
use Rattle.driver_checks.specs.Driving.{driving_listed, driving_besides}

-- Targets of blocks

abbrev name_of : plain.Drive → Identifier
name_of d = d.signal

pub no-target : (d : Drive) (old : List Identifier) → d.bits.width ≡ 0 → old ≡ old ++ drive_signals (drive_of d ∷ [])
no-target d old e = sym (append-nil old) ∙ ap (λ t. old ++ map name_of (cond t (drive_of d ∷ []) [])) (sym (drives-none d e))

pub one-target : (d : Drive) (old more : List (Bor Identifier)) (name : Bor Identifier) → (d.bits.width ≡ 0 → ⊥) → name.now ≡ d.signal → more ≡ old ++ name ∷ [] →
    keys_of more ≡ keys_of old ++ drive_signals (drive_of d ∷ [])
one-target d old more name e is pushed =
    ap keys_of pushed ∙ map_push (λ key. key.now) old name ∙ ap (λ n. keys_of old ++ n ∷ []) is
    ∙ ap (λ t. keys_of old ++ map name_of (cond t (drive_of d ∷ []) [])) (sym (drives-bits d e))

pub targets-append : (xs ys : List plain.Drive) → drive_signals (xs ++ ys) ≡ drive_signals xs ++ drive_signals ys
targets-append xs ys = ap (map name_of) (filter-append drives_some xs ys) ∙ map-append name_of (filter drives_some xs) (filter drives_some ys)

-- Variables that drive

-- a variable is no target where it has no place among them
pub no-place-among : (targets : List Identifier) (name : Identifier) (found : Option ℕ) (reg there : Bool) → reg ≡ true → found ≡ key_from targets name 0 → there ≡ is_some found →
    not there ≡ (reg && not (has_name targets name))
no-place-among targets name found reg there is e t =
    ap not (t ∙ ap is_some e ∙ key-there targets name) ∙ sym (ap (λ r. r && not (has_name targets name)) is)

pub not-driving : (signals : List plain.Signal) (targets : List Identifier) (s : plain.Signal) (old : List (Identifier × plain.Signal)) (driving : Bool) →
    driving ≡ (s.is_reg && not (has_name targets s.name)) → driving ≡ false →
    old ≡ old ++ driving_besides signals targets (s ∷ [])
not-driving signals targets s old driving is fails = sym (append-nil old) ∙ ap (λ t. old ++ driving_if t (outermost signals s.name) s []) (sym fails ∙ is)

pub one-driving : (signals : List plain.Signal) (targets : List Identifier) (s : Bor Signal) (old more : List (Keyed (Bor Signal))) (k : Keyed (Bor Signal)) (driving : Bool) →
    driving ≡ ((signal_of s.now).is_reg && not (has_name targets (signal_of s.now).name)) → driving ≡ true → k.key.now ≡ outermost signals (signal_of s.now).name → k.item ≡ s → more ≡ old ++ k ∷ [] →
    driving_listed more ≡ driving_listed old ++ driving_besides signals targets (signal_of s.now ∷ [])
one-driving signals targets s old more k driving is holds key item pushed =
    ap (map driving_keyed) (ap (map keyed_of) pushed ∙ map_push keyed_of old k) ∙ map_push driving_keyed (map keyed_of old) (keyed_of k)
    ∙ ap₂ (λ (name : Identifier) (variable : Bor Signal). driving_listed old ++ (name, signal_of variable.now) ∷ []) key item
    ∙ ap (λ t. driving_listed old ++ driving_if t (outermost signals (signal_of s.now).name) (signal_of s.now) []) (sym holds ∙ is)

besides-over : (signals : List plain.Signal) (targets : List Identifier) (xs ys : List plain.Signal) →
    driving_besides signals targets (xs ++ ys) ≡ driving_besides signals targets xs ++ driving_besides signals targets ys
besides-over signals targets [] ys = refl
besides-over signals targets (s ∷ xs) ys = by_test (s.is_reg && not (has_name targets s.name)) (besides-over signals targets xs ys)
  where
    by_test : (test : Bool) → driving_besides signals targets (xs ++ ys) ≡ driving_besides signals targets xs ++ driving_besides signals targets ys →
        driving_if test (outermost signals s.name) s (driving_besides signals targets (xs ++ ys)) ≡ driving_if test (outermost signals s.name) s (driving_besides signals targets xs)
        ++ driving_besides signals targets ys
    by_test true e = ap (λ rest. (outermost signals s.name, s) ∷ rest) e
    by_test false e = e

pub besides-append : (signals : List plain.Signal) (targets : List Identifier) (xs ys : List plain.Part) →
    driving_besides signals targets (signals_of (xs ++ ys)) ≡ driving_besides signals targets (signals_of xs) ++ driving_besides signals targets (signals_of ys)
besides-append signals targets xs ys = ap (driving_besides signals targets) (signals-append xs ys) ∙ besides-over signals targets (signals_of xs) (signals_of ys)
