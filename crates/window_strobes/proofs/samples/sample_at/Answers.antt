-- The sample is what the strobe sees.
use Rattle.std.proofs.Common.{◌+◌, map, refl, sym, ap, ◌∙◌}
use Rattle.vf_base.specs.Base.{watched_bit}
use Rattle.v_design.specs.Designs.{TestPlan}
use Rattle.v_design.specs.Grades.{samples}
use Rattle.between_slots.specs.Between.{state_through}
use Rattle.window_strobes.proofs.GoodStates.{seen-in}
use Rattle.window_strobes.proofs.samples.sample_at.Goals as goal

pub returns : goal.returns
returns g c = record {
  time_is = refl;
  bits_are =
      c.from_vec.ensures
      ∙ c.in_ok-bits.ensures
      ∙ ap (λ watched. samples (map watched_bit watched) (state_through g.N.World.design g.N.World.plan (c.args.window.now.before + c.args.slot)).values) c.as_slice.ensures
      ∙ ap (λ (p : TestPlan). samples p.watched (state_through g.N.World.design g.N.World.plan (c.args.window.now.before + c.args.slot)).values) (sym c.plan-plan.ensures.world)
      ∙ sym (seen-in g.N.World.design g.N.World.plan c.args.window.now.before c.args.window.now.through c.args.window.now.ending c.requires.known c.good_run_goes_on.ensures c.runs_stand.ensures
      c.requires.led.0 c.args.strobe c.args.slot c.requires.slot c.requires.led.2 c.requires.led.1);
}
