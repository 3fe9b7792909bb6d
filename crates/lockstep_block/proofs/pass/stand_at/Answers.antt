-- The runner comes into the state that is shown.
use Rattle.std.proofs.Common.{sym, ap, subst, ◌∙◌}
use Rattle.v_design.specs.Designs.{Machine, good_machine}
use Rattle.faulty_block.specs.block_events.Runners.{machine_of}
use Rattle.faulty_block.specs.lockstep_room.Rooms.{AreCounts}
use Rattle.lockstep_steps.specs.lockstep_slots.Places.{state_there}
use Rattle.faulty_block.specs.moment_shown.Shown.{Shows}
use Rattle.lockstep_block.proofs.Passed.{may-stand-at}
use Rattle.lockstep_block.proofs.pass.stand_at.Goals as goal

pub stand-requires-clause-design : goal.stand-requires-clause-design
stand-requires-clause-design g c = c.show-shown.ensures.design ∙ sym (ap (λ (m : Machine). m.design) c.requires.design)

pub stand-requires-clause-counts : goal.stand-requires-clause-counts
stand-requires-clause-counts g c = subst (λ (m : Machine). AreCounts m.design c.args.counts) (sym c.requires.design) c.requires.counts

pub stand-requires-clause-stands : goal.stand-requires-clause-stands
stand-requires-clause-stands g c =
    may-stand-at c.phases_fit.ensures g.N.World.design (machine_of c.args.runner.now).design (ap (λ (m : Machine). m.design) c.requires.design) g.N.World.plan c.requires.good.shown.in_order.rules
    c.codes-codes.result.now c.codes-codes.ensures.world c.args.time c.args.good.now (Shows c.show-shown.result) c.requires.good
    (c.show-shown.ensures.shows (state_there (good_machine g.N.World.design) c.requires.good.place) c.requires.good.shown.shows)

pub returns : goal.returns
unfolding may-stand-at
returns g c = λ of. record {
  whole = c.in_ok-stand.ensures.whole;
  machine_is = c.in_ok-stand.ensures.machine ∙ c.requires.design;
  state_is =
      c.in_ok-stand.ensures.state
      (may-stand-at c.phases_fit.ensures g.N.World.design (machine_of c.args.runner.now).design (ap (λ (m : Machine). m.design) c.requires.design) g.N.World.plan of.shown.in_order.rules
      c.codes-codes.result.now c.codes-codes.ensures.world c.args.time c.args.good.now (Shows c.show-shown.result) of
      (c.show-shown.ensures.shows (state_there (good_machine g.N.World.design) of.place) of.shown.shows));
  asked = of.asked;
  may = of.may;
}
