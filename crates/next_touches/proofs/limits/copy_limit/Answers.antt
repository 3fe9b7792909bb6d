-- Own values, the site, and processes of which updates are kept, one after the other.
use Rattle.std.proofs.Common.{sym, subst, arith}
use Rattle.v_design.specs.Plain.{site_of}
use Rattle.copy_skip.proofs.Limited.{reads-lower}
use Rattle.trace_window.specs.Moments.{window_events}
use Rattle.next_touches.specs.Touches.{AreLeftBy, AreStepsBy}
use Rattle.next_touches.proofs.Untouched.{site-within}
use Rattle.next_touches.proofs.limits.copy_limit.Goals as goal

pub values_limit-values-requires-clause-known : goal.values_limit-values-requires-clause-known
values_limit-values-requires-clause-known g c κs within =
    subst (λ events. AreLeftBy g.N.World.design events c.take_up.new.table.objects.items)
    (λ i. window_events g.N.World.design g.N.World.plan (c.take_up.ensures.before i) (c.take_up.ensures.through i)) c.take_up.ensures.knows.objects

pub updates_limit-requires-clause-known : goal.updates_limit-requires-clause-known
updates_limit-requires-clause-known g c κs within =
    subst (λ events. AreStepsBy g.N.World.design events c.take_up.new.table.processes.items)
    (λ i. window_events g.N.World.design g.N.World.plan (c.take_up.ensures.before i) (c.take_up.ensures.through i)) c.take_up.ensures.knows.processes

pub returns-clause-alone : goal.returns-clause-alone
returns-clause-alone g c =
    let events = window_events g.N.World.design g.N.World.plan c.args.window.now.before c.args.window.now.through in
    let limit = c.updates_limit.result in
    let low = c.site_limit-site.ensures.low in
    let lower = c.updates_limit.ensures.low in
    record {
      values = λ object below own.
          reads-lower g.N.World.design events object c.args.first c.values_limit-values.result limit (omega (arith, low, lower)) (c.values_limit-values.ensures.alone object below own);
      site_alone =
          site-within g.N.World.design events (site_of c.args.fault.site) c.args.first c.site_limit-site.result c.args.first limit (omega arith) lower c.site_limit-site.ensures.alone;
      steps = c.updates_limit.ensures.steps;
    }

pub returns-clause-knows : goal.returns-clause-knows
returns-clause-knows g c = record {
  objects =
      subst (λ events. AreLeftBy g.N.World.design events c.values_limit-values.new.objects.items)
      (λ i. window_events g.N.World.design g.N.World.plan (sym c.take_up.ensures.before i) (sym c.take_up.ensures.through i)) c.values_limit-values.ensures.known;
  processes =
      subst (λ events. AreStepsBy g.N.World.design events c.updates_limit.new.processes.items)
      (λ i. window_events g.N.World.design g.N.World.plan (sym c.take_up.ensures.before i) (sym c.take_up.ensures.through i)) c.updates_limit.ensures.known;
}
