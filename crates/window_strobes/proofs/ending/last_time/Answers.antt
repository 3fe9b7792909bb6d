-- The time, by how the window ends.
use Rattle.std.proofs.Common.{◌≡◌, ◌+◌, ◌-◌, ◌<◌, sym, ap, ◌∙◌, arith}
use Rattle.std.specs.Prelude.{slice_get}
use Rattle.vf_base.specs.Base.{reported_pair}
use Rattle.v_design.specs.Designs.{TestPlan}
use Rattle.copy_laws.specs.Windows.{good_slots}
use Rattle.window_strobes.proofs.Led.{opens, runs-through, races}
use Rattle.window_strobes.proofs.ending.last_time.Goals as goal

pub returns-in-Open : goal.returns-in-Open
returns-in-Open g c =
    opens c.good_run_goes_on.ensures c.windows_end.ensures g.N.World.design g.N.World.plan c.args.window.now.before c.args.window.now.through c.args.window.now.ending c.slot_time.result
    c.in-Open.ensures c.requires
    (λ number one is here.
    (let some : c.args.window.now.before < c.args.window.now.through = c.requires.window.some in
    let same : c.args.window.now.before + (c.slots-count.result - 1) ≡ number = omega (arith, some, is, c.slots-count.ensures) in
    c.slot_time.ensures one (ap (slice_get (good_slots g.N.World.design g.N.World.plan)) same ∙ here)))

pub returns-in-Through : goal.returns-in-Through
returns-in-Through g c =
    runs-through c.good_run_goes_on.ensures c.windows_end.ensures g.N.World.design g.N.World.plan c.args.window.now.before c.args.window.now.through c.args.window.now.ending
    c.plan-plan.result.now.end c.in-Through.ensures c.requires (sym (ap (λ (p : TestPlan). p.end) c.plan-plan.ensures.world))

pub returns-in-Raced : goal.returns-in-Raced
returns-in-Raced g c =
    races c.good_run_goes_on.ensures c.windows_end.ensures g.N.World.design g.N.World.plan c.args.window.now.before c.args.window.now.through c.args.window.now.ending
    (reported_pair c.in-Raced.pair) c.time_before.result c.in-Raced.ensures c.requires c.time_before.ensures
