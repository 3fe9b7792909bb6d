-- The strobes before the line's time see where the run stands, and the line is followed.
use Rattle.std.proofs.Common.{refl, subst}
use Rattle.cert_text.specs.Views.{run_line_said}
use Rattle.cert_runs.specs.AskedRuns.{SeesBefore}
use Rattle.cert_runs.proofs.Showing.{asked-follows, still-run, still-low}
use Rattle.cert_runs.proofs.asked_run.AskedRun.follow.Goals as goal

pub follow-requires-clause-run : goal.follow-requires-clause-run
follow-requires-clause-run g c = still-run c.args.self.now c.see_before.new.self c.in_ok-see_before.ensures.same c.requires.run

pub follow-requires-clause-low : goal.follow-requires-clause-low
follow-requires-clause-low g c = still-low c.args.self.now c.see_before.new.self c.in_ok-see_before.ensures.same c.requires.low

pub returns : goal.returns
returns g c =
    asked-follows c.races_are_looked_for.ensures (run_line_said c.args.line) c.in_ok-went.went c.args.self.now c.see_before.new.self _
    (subst (λ t. SeesBefore t c.args.self.now c.see_before.new.self) c.slot_time.ensures c.in_ok-see_before.ensures) c.in_ok-went.ensures.goes c.in_ok-went.ensures.looks refl
