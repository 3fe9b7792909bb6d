use Rattle.std.proofs.Common.{◌≡◌, rules}
use Rattle.key_index.specs.Places.{keys_of}
use Rattle.driver_checks.proofs.DrivingTurns.{no-target, one-target}
use Rattle.driver_checks.proofs.driving.push_target.Goals as goal

pub returns-then-outside : goal.returns-then-outside
returns-then-outside c =
    let none : c.args.drive.now.bits.width ≡ 0 = search rules in
    no-target c.args.drive.now (keys_of c.args.names.now.items) none

pub returns : goal.returns
returns c =
    let some : c.args.drive.now.bits.width ≡ 0 → ⊥ = search rules in
    one-target c.args.drive.now c.args.names.now.items c.push.new.self.items c.as_bytes.result some c.as_bytes.ensures c.in_ok-push.ensures.items
