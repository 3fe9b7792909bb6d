-- What is kept stands behind the window.
use Rattle.std.proofs.Common.{◌+◌, refl, sym, ap, subst}
use Rattle.v_design.specs.Designs.{Machine}
use Rattle.between_slots.specs.Between.{state_through}
use Rattle.copy_between.specs.Beside.{IsCopyOf}
use Rattle.copy_room.specs.machine.Standing.{state_kept}
use Rattle.window_strobes.specs.Strobes.{passed_behind}
use Rattle.copy_window.proofs.Keeping.{keeps-open}
use Rattle.copy_window.proofs.settle.keep_open.Goals as goal

pub stands_between-requires-clause-standing : goal.stands_between-requires-clause-standing
stands_between-requires-clause-standing g c = c.requires.stays.goes.at.at.standing

pub stands_between-requires-clause-between : goal.stands_between-requires-clause-between
stands_between-requires-clause-between g c = c.requires.stays.goes.at.at.stage

pub leave-requires-clause-standing : goal.leave-requires-clause-standing
leave-requires-clause-standing g c κs within = c.requires.stays.goes.at.at.standing

pub leave-requires-clause-between : goal.leave-requires-clause-between
leave-requires-clause-between g c κs within = c.requires.stays.goes.at.at.stage

pub leave-requires-clause-design : goal.leave-requires-clause-design
leave-requires-clause-design g c κs within = ap (λ (m : Machine). m.design) c.requires.stays.goes.at.at.same_machine

pub returns-clause-fault : goal.returns-clause-fault
returns-clause-fault g c =
    keeps-open c.runs_go_on.ensures c.strobed_faults_go_on.ensures c.codes_are_one.ensures.read c.codes-codes.result.now g.N.World.design g.N.World.plan (c.args.window.now.before + c.args.end)
    (passed_behind c.args.strobes.now) c.args.machine.now c.args.own.now _ c.codes-codes.ensures.world c.requires.stays
    (record {
      copy =
          subst (λ codes. IsCopyOf codes (state_through g.N.World.design g.N.World.plan (c.args.window.now.before + c.args.end)) (state_kept c.args.machine.now) c.leave.new.copy)
          (sym c.codes-codes.ensures.codes) c.in_ok-leave.ensures.copy;
      within = c.in_ok-leave.ensures.within;
      place = c.in_ok-leave.ensures.fault;
      between = c.stands_between.ensures;
      time_is = c.time-own.ensures;
      strobed_is = refl;
      end_is = refl;
    })

pub returns-clause-place : goal.returns-clause-place
returns-clause-place g c = record { number = c.in_ok-leave.ensures.fault; kind = refl }
