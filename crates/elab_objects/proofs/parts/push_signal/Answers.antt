use Rattle.std.proofs.Common.{[], ◌∷◌, ◌++◌, map, sym, ap, ◌∙◌}
use Rattle.std.specs.Prelude.{option_map}
use Rattle.std.proofs.lemmas.List.{map_push}
use Rattle.v_ports.specs.Pieces.{second_driver}
use Rattle.v_elab.specs.Drivers.{run_of}
use Rattle.v_elab.specs.Objects as plain
use Rattle.key_index.specs.Groups.{items_under}
use Rattle.elab_parts.specs.PartViews.{signal_of}
use Rattle.elab_wires.specs.SignalTables.{signal_borrowed}
use Rattle.elab_wires.specs.DriveViews.{drive_keyed}
use Rattle.elab_objects.specs.ObjectViews.{held_of, held_objects}
use Rattle.elab_objects.specs.Driven.{driving_keyed, variable-is, net-is}
use Rattle.elab_objects.specs.Found.{drives-found}
use Rattle.elab_objects.proofs.Owners.{first-found}
use Rattle.elab_objects.proofs.parts.push_signal.Goals as goal

pub returns-in-Some : goal.returns-in-Some
returns-in-Some c =
    let name = c.args.signal.now.name in
    let found = first-found c.args.driving.now name c.as_bytes-name.result.now c.deref.result.now c.first_by_depth.result c.as_bytes-name.ensures
    (c.deref.ensures.value ∙ c.in_ok-variables.ensures) c.first_by_depth.ensures in
    let first = ap (option_map signal_borrowed) (sym c.in-Some.is) ∙ found in
    ap held_objects c.in_ok-push-in-Some.ensures.items
    ∙ (map_push held_of c.args.objects.now.items c.in_ok-object-in-Some.object
    ∙ (ap (λ o. held_objects c.args.objects.now.items ++ o ∷ []) c.in_ok-object-in-Some.ensures
    ∙ ap (λ l. held_objects c.args.objects.now.items ++ l)
    (variable-is (signal_of c.args.signal.now) (signal_of c.in-Some.first.now) (items_under (map drive_keyed c.args.drives.now) name) (items_under (map driving_keyed c.args.driving.now) name) first)))

pub push_net-requires : goal.push_net-requires
push_net-requires c =
    let name = c.args.signal.now.name in
    let found = first-found c.args.driving.now name c.as_bytes-name.result.now c.deref.result.now c.first_by_depth.result c.as_bytes-name.ensures
    (c.deref.ensures.value ∙ c.in_ok-variables.ensures) c.first_by_depth.ensures in
    let none = sym found ∙ ap (option_map signal_borrowed) c.in-None.is in
    let drives = drives-found c.args.drives.now name c.as_bytes-name.result.now c.deref-in-None.result.now c.as_bytes-name.ensures (c.deref-in-None.ensures.value ∙ c.in_ok-selects-in-None.ensures) in
    ap (λ ds. second_driver [] (map run_of ds)) drives ∙ c.requires none

pub returns : goal.returns
returns c =
    let name = c.args.signal.now.name in
    let found = first-found c.args.driving.now name c.as_bytes-name.result.now c.deref.result.now c.first_by_depth.result c.as_bytes-name.ensures
    (c.deref.ensures.value ∙ c.in_ok-variables.ensures) c.first_by_depth.ensures in
    let none = ap (option_map signal_borrowed) (sym c.in-None.is) ∙ found in
    let drives = drives-found c.args.drives.now name c.as_bytes-name.result.now c.deref-in-None.result.now c.as_bytes-name.ensures (c.deref-in-None.ensures.value ∙ c.in_ok-selects-in-None.ensures) in
    c.in_ok-push_net-in-None.ensures
    ∙ ap (λ l. held_objects c.args.objects.now.items ++ l)
    (ap (λ ds. plain.pieces_or_variable (signal_of c.args.signal.now) ds []) drives
    ∙ net-is (signal_of c.args.signal.now) (items_under (map drive_keyed c.args.drives.now) name) (items_under (map driving_keyed c.args.driving.now) name) none)
