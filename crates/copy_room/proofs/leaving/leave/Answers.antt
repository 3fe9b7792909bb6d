-- What is kept stands for the room's state.
use Rattle.std.proofs.Common.{◌+◌, refl, ap, subst, ◌∙◌}
use Rattle.v_design.specs.Designs.{Machine}
use Rattle.copy_state.specs.Kept.{CopyKept}
use Rattle.between_slots.specs.Between.{state_through}
use Rattle.machine.specs.Standing.{StandsBetween, machine_kept, state_kept}
use Rattle.copy_room.proofs.Keeping.{left-copy, left-within}
use Rattle.copy_room.proofs.leaving.leave.Goals as goal

pub returns-clause-fault : goal.returns-clause-fault
returns-clause-fault g c = ap (λ (k : CopyKept). k.fault) c.in_ok-keep_processes.ensures.rest ∙ ap (λ (k : CopyKept). k.fault) c.in_ok-keep_values.ensures.rest

pub returns-clause-copy : goal.returns-clause-copy
returns-clause-copy g c =
    left-copy c.differences_stand.ensures c.args.setup.now.codes (machine_kept c.args.room.now) g.N.World.design
    (state_through g.N.World.design g.N.World.plan (c.args.window.now.before + c.args.slot)) (state_kept c.args.room.now) c.counts_of-counts.result.objects c.counts_of-counts.result.processes
    c.args.copy.now c.keep_values.new.copy c.keep_processes.new.copy c.counts_of-counts.ensures.codes c.requires.design c.rests_before.ensures.rests c.stands_between.ensures c.requires.within
    c.counts_of-counts.ensures.objects c.counts_of-counts.ensures.processes c.in_ok-keep_values.ensures.rest c.in_ok-keep_processes.ensures.rest c.in_ok-keep_values.ensures.kept
    c.in_ok-keep_processes.ensures.states c.in_ok-keep_processes.ensures.updates
    (record { values = c.ascending.ensures.values; states = c.ascending.ensures.states; updates = c.ascending.ensures.updates })

pub returns-clause-within : goal.returns-clause-within
returns-clause-within g c =
    left-within c.args.setup.now.codes g.N.World.design (state_through g.N.World.design g.N.World.plan (c.args.window.now.before + c.args.slot)) (state_kept c.args.room.now)
    c.keep_processes.new.copy c.rests_before.ensures.rests (returns-clause-copy g c)

pub returns-clause-again : goal.returns-clause-again
returns-clause-again g c = λ fault same. record {
  faulty = state_kept c.args.room.now;
  between = subst (λ (k : Machine). StandsBetween k (state_kept c.args.room.now)) same c.stands_between.ensures;
  time_is = refl;
  copy = returns-clause-copy g c;
}
