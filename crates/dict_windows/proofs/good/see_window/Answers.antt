-- A window more.
use Rattle.std.proofs.Common.{sym, subst, ◌∙◌}
use Rattle.v_design.specs.PlainDesigns.{plan_of}
use Rattle.v_design.specs.RulesHold.{plan_rules_hold}
use Rattle.v_design.specs.WellFormed.{IsPlan}
use Rattle.good_trace.specs.Traces.{WindowKept}
use Rattle.kept_shard.specs.window_strobes.Passed.{HasPassed}
use Rattle.kept_shard.specs.window_strobes.Strobes.{AreStrobesOf, passed_behind}
use Rattle.dict_windows.proofs.Seeing.{see-more}
use Rattle.dict_windows.proofs.good.see_window.Goals as goal

pub returns : goal.returns
returns g c =
    let through = c.window.ensures in
    let strobes =
    subst (λ (w : WindowKept). AreStrobesOf g.N.World.design g.N.World.plan w.before w.through c.in_ok-strobes.strobes) through c.in_ok-strobes.ensures.strobes in
    let behind =
    subst (λ (w : WindowKept). HasPassed g.N.World.design g.N.World.plan w.through (passed_behind c.in_ok-strobes.strobes)) through c.in_ok-strobes.ensures.behind in
    see-more g.N.World.design g.N.World.plan c.args.window.now.before c.args.window.now.through c.args.seen.now (record { samples = c.append.new.self; raced = c.is_raced-seen.result })
    c.in_ok-strobes.strobes (subst IsPlan (sym c.plan-plan.ensures.world) (plan_rules_hold (plan_of c.plan-plan.result.now) c.plan-plan.result.now.rules)) c.requires
    strobes (c.in_ok-strobes.ensures.before ∙ c.len.ensures ∙ c.args.seen.now.samples.ok.0) behind c.in_ok-append.ensures.items c.is_raced-seen.ensures
