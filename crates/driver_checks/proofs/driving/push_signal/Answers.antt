use Rattle.std.proofs.Common.{◌≡◌, true, false, refl, ap, ◌∙◌, rules}
use Rattle.v_elab.specs.Drivers.{outermost}
use Rattle.elab_parts.specs.PartViews.{signal_of}
use Rattle.driver_checks.specs.Driving.{driving_listed}
use Rattle.driver_checks.proofs.DrivingTurns.{not-driving, one-driving}
use Rattle.driver_checks.proofs.driving.push_signal.Goals as goal

pub returns-then-not-driving : goal.returns-then-not-driving
returns-then-not-driving c =
    let fails : c.is_driving-driving.result ≡ false = search rules in
    not-driving c.args.signals.now c.args.targets.now (signal_of c.args.signal.now) (driving_listed c.args.items.now.items) c.is_driving-driving.result c.is_driving-driving.ensures fails

pub returns : goal.returns
returns c =
    let holds : c.is_driving-driving.result ≡ true = search rules in
    one-driving c.args.signals.now c.args.targets.now _ c.args.items.now.items c.push.new.self.items _ c.is_driving-driving.result c.is_driving-driving.ensures holds
    (c.outermost.ensures ∙ ap (outermost c.args.signals.now) c.as_bytes.ensures) refl c.in_ok-push.ensures.items
