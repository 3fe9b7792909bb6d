-- The strobes that are passed see the values.
use Rattle.std.proofs.Common.{refl, map, subst}
use Rattle.vf_base.specs.Base.{watched_bit}
use Rattle.cert_runs.specs.Asking.{IsAskedOf}
use Rattle.cert_runs.proofs.Showing.{sees-last}
use Rattle.cert_runs.proofs.Standing.{asked-watched}
use Rattle.cert_runs.proofs.asked_run.AskedRun.see_last.Goals as goal

pub keep_until-requires : goal.keep_until-requires
keep_until-requires c =
    let is = c.requires in
    asked-watched is.machine is.run c.args.self.now (map watched_bit c.in-Samples.watched.now) is.keeps (subst (IsAskedOf is.machine.design) c.in-Samples.is is.keeps.of_design).0

pub returns-in_ok-keep_until-in-Samples : goal.returns-in_ok-keep_until-in-Samples
returns-in_ok-keep_until-in-Samples c = sees-last c.args.self.now _ _ c.in-Samples.is (record { run = refl; search = refl }) c.in_ok-keep_until-in-Samples.ensures

pub returns-in-Conflict : goal.returns-in-Conflict
returns-in-Conflict c = sees-last c.args.self.now _ _ c.in-Conflict.is (record { run = refl; search = refl }) tt

pub returns-in-Nothing : goal.returns-in-Nothing
returns-in-Nothing c = sees-last c.args.self.now _ _ c.in-Nothing.is (record { run = refl; search = refl }) tt
