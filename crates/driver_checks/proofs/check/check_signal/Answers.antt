use Rattle.std.proofs.Common.{map, sym, ap, ◌∙◌, subst}
use Rattle.std.proofs.lemmas.Result.{err_from_is_err_and}
use Rattle.v_elab.specs.Drivers.{refusal_of}
use Rattle.elab_parts.specs.PartViews.{signal_of}
use Rattle.elab_wires.specs.SignalTables.{signal_borrowed}
use Rattle.elab_wires.specs.DriveViews.{drive_keyed, object_drive_of}
use Rattle.elab_objects.specs.Driven.{driving_keyed}
use Rattle.elab_objects.specs.Found.{variables-found, drives-found}
use Rattle.driver_checks.specs.Seconds.{second_by_depth}
use Rattle.driver_checks.specs.TwoDrivers.{FaultGives}
use Rattle.driver_checks.proofs.CheckTurns.{second-found, selects-left}
use Rattle.driver_checks.proofs.check.check_signal.Goals as goal

pub returns-in-Some-clause-err : goal.returns-in-Some-clause-err
returns-in-Some-clause-err c =
    second-found (map drive_keyed c.args.drives.now) (map driving_keyed c.args.driving.now) (signal_of c.args.signal.now) (signal_of c.in-Some.second.now)
    (map signal_borrowed c.deref.result.now) _ c.in-Some.ensures
    (variables-found c.args.driving.now c.args.signal.now.name c.as_bytes-name.result.now c.deref.result.now c.as_bytes-name.ensures (c.deref.ensures.value ∙ c.in_ok-variables.ensures))
    c.join_place-place.ensures

pub returns-in_err-check_selects-clause-err : goal.returns-in_err-check_selects-clause-err
returns-in_err-check_selects-clause-err c =
    let p = err_from_is_err_and c.from_residual-in_err-check_selects.result c.from_residual-in_err-check_selects.ensures.1 in
    rw (p.1, p.2)
    (subst (λ r. FaultGives r c.in_err-check_selects.field-0.0)
    (sym
    (selects-left (map drive_keyed c.args.drives.now) (map driving_keyed c.args.driving.now) (signal_of c.args.signal.now) (map signal_borrowed c.deref-2.result.now)
    (map object_drive_of c.deref-3.result.now)
    (c.in_default.ensures ∙ ap (λ vs. second_by_depth (map signal_borrowed vs)) (c.deref.ensures.value ∙ sym c.deref-2.ensures.value))
    (variables-found c.args.driving.now c.args.signal.now.name c.as_bytes-name.result.now c.deref-2.result.now c.as_bytes-name.ensures (c.deref-2.ensures.value ∙ c.in_ok-variables.ensures))
    (drives-found c.args.drives.now c.args.signal.now.name c.as_bytes-name.result.now c.deref-3.result.now c.as_bytes-name.ensures (c.deref-3.ensures.value ∙ c.in_ok-selects.ensures))))
    c.in_err-check_selects.ensures.err)

pub returns-clause-ok : goal.returns-clause-ok
returns-clause-ok c =
    selects-left (map drive_keyed c.args.drives.now) (map driving_keyed c.args.driving.now) (signal_of c.args.signal.now) (map signal_borrowed c.deref-2.result.now)
    (map object_drive_of c.deref-3.result.now)
    (c.in_default.ensures ∙ ap (λ vs. second_by_depth (map signal_borrowed vs)) (c.deref.ensures.value ∙ sym c.deref-2.ensures.value))
    (variables-found c.args.driving.now c.args.signal.now.name c.as_bytes-name.result.now c.deref-2.result.now c.as_bytes-name.ensures (c.deref-2.ensures.value ∙ c.in_ok-variables.ensures))
    (drives-found c.args.drives.now c.args.signal.now.name c.as_bytes-name.result.now c.deref-3.result.now c.as_bytes-name.ensures (c.deref-3.ensures.value ∙ c.in_ok-selects.ensures))
    ∙ ap refusal_of c.in_ok-check_selects.ensures.ok
