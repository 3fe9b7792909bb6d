-- The runner comes into the state that is shown behind the block.
use Rattle.std.proofs.Common.{map, sym, ap, subst, ◌∙◌}
use Rattle.vf_base.specs.Base.{object_number, process_number}
use Rattle.v_design.specs.Designs.{Machine, good_machine}
use Rattle.faulty_block.specs.lockstep_room.Rooms.{AreCounts}
use Rattle.lockstep_steps.specs.lockstep_slots.Places.{state_there, behind_events}
use Rattle.faulty_block.specs.moment_shown.Shown.{Shows}
use Rattle.lockstep_block.proofs.Passed.{PassLaws, behind-may, may-follow, may-stand}
use Rattle.lockstep_block.proofs.pass.follow_block.Goals as goal

pub follow-requires-clause-whole : goal.follow-requires-clause-whole
follow-requires-clause-whole g c = c.requires.here.beside.runs.whole

pub follow-requires-clause-design : goal.follow-requires-clause-design
follow-requires-clause-design g c = c.show-shown.ensures.design ∙ sym (ap (λ (m : Machine). m.design) c.requires.here.beside.runs.machine_is)

pub follow-requires-clause-counts : goal.follow-requires-clause-counts
follow-requires-clause-counts g c = subst (λ (m : Machine). AreCounts m.design c.args.counts) (sym c.requires.here.beside.runs.machine_is) c.requires.counts

pub follow-requires-clause-follows : goal.follow-requires-clause-follows
follow-requires-clause-follows g c =
    let of = c.requires.here in
    may-follow (record { times = c.own_runs.ensures.time; fit = c.phases_fit.ensures; moments = c.moments_stand.ensures }) g.N.World.design g.N.World.plan of.beside.behind_at.in_order.rules of.place
    of.block of.rest c.args.runner.now of.before c.args.behind.now of.beside c.codes-codes.result.now c.codes-codes.ensures.world (Shows c.show-shown.result)
    (c.show-shown.ensures.shows (state_there (good_machine g.N.World.design) (behind_events of.block of.rest of.place)) of.beside.behind_at.shows) (map object_number c.changed.result.now)
    (map process_number c.acted.result.now) c.lane_stepped.result c.changed.ensures c.acted.ensures c.lane_stepped.ensures

pub returns : goal.returns
unfolding may-follow may-stand
returns g c = λ of.
    let laws : PassLaws = record { times = c.own_runs.ensures.time; fit = c.phases_fit.ensures; moments = c.moments_stand.ensures } in
    let rules = of.beside.behind_at.in_order.rules in
    record {
      whole = c.in_ok-follow.ensures.whole;
      machine_is = c.in_ok-follow.ensures.machine ∙ of.beside.runs.machine_is;
      state_is =
          c.in_ok-follow.ensures.state
          (may-follow laws g.N.World.design g.N.World.plan rules of.place of.block of.rest c.args.runner.now of.before c.args.behind.now of.beside c.codes-codes.result.now
          c.codes-codes.ensures.world (Shows c.show-shown.result)
          (c.show-shown.ensures.shows (state_there (good_machine g.N.World.design) (behind_events of.block of.rest of.place)) of.beside.behind_at.shows) (map object_number c.changed.result.now)
          (map process_number c.acted.result.now) c.lane_stepped.result c.changed.ensures c.acted.ensures c.lane_stepped.ensures);
      asked = of.beside.runs.asked;
      may = behind-may laws g.N.World.design g.N.World.plan rules of.place of.block of.rest c.args.runner.now of.before c.args.behind.now of.beside;
    }
