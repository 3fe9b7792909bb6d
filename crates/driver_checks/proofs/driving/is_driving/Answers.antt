use Rattle.std.proofs.Common.{◌≡◌, true, is_some, rules}
use Rattle.driver_checks.proofs.DrivingTurns.{no-place-among}
use Rattle.driver_checks.proofs.driving.is_driving.Goals as goal

pub returns-then-signal : goal.returns-then-signal
returns-then-signal c =
    let reg : c.args.signal.now.is_reg ≡ true = search rules in
    let there : c.is_some-target.result ≡ is_some c.first.result = search rules in
    no-place-among c.args.targets.now c.args.signal.now.name c.first.result c.args.signal.now.is_reg c.is_some-target.result reg (search rules) there
