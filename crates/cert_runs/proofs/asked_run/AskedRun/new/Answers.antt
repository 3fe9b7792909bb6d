-- The run hasn't begun, and nothing is shown yet.
use Rattle.std.proofs.Common.{◌∙◌, None, Some, refl, sym, ap}
use Rattle.v_design.specs.Views.{machine_with}
use Rattle.cert_runs.proofs.Showing.{shown-none}
use Rattle.cert_runs.proofs.asked_run.AskedRun.new.Goals as goal

pub returns-clause-before : goal.returns-clause-before
returns-clause-before c = record {
  keeps = c.in_ok-run.ensures.before;
  race_is = c.in_ok-run.ensures.race ∙ c.claims_race.ensures;
  bound_is = c.requires.bound ∙ ap Some (sym c.in_ok-run.ensures.bound);
  of_design = c.requires.asked;
  shown = shown-none c.args.asked (machine_with c.args.design.now c.args.fault) c.new-2.result.items None c.new-2.ensures.items refl;
}
