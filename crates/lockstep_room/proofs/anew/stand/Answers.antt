-- The state is the one that is shown.
use Rattle.std.proofs.Common.{length, subst, sym, ap, ◌∙◌, arith}
use Rattle.v_design.specs.Designs.{Machine}
use Rattle.v_design.specs.States.{State}
use Rattle.lockstep_exchange.specs.block_events.Runners.{machine_of, state_of}
use Rattle.lockstep_exchange.proofs.block_events.Nodes.{object-count}
use Rattle.lockstep_exchange.specs.Putting.{ValuesArePut, ProcessesArePut}
use Rattle.lockstep_room.specs.Rooms.{AreCounts, processes_below, values_below}
use Rattle.lockstep_room.proofs.Standing.{stands-values, stands-cleared}
use Rattle.lockstep_room.proofs.Followed.{stood}
use Rattle.lockstep_room.proofs.anew.stand.Goals as goal

pub stand_objects-requires-clause-stands : goal.stand_objects-requires-clause-stands
stand_objects-requires-clause-stands g c =
    let runner = c.args.runner.now in
    stands-cleared (machine_of runner).design (machine_of c.clear.new.self).design (ap (λ (m : Machine). m.design) c.clear.ensures.machine) (g.S.ShownState.shows c.args.good.now) c.args.time
    (state_of runner).values (state_of c.clear.new.self) c.requires.stands (object-count runner) c.clear.ensures.state

pub stand_objects-requires-clause-count : goal.stand_objects-requires-clause-count
stand_objects-requires-clause-count g c =
    let count = object-count c.args.runner.now in
    let same = ap (λ (s : State). length s.values) c.clear.ensures.state in
    omega (arith, count, same, c.requires.counts.objects)

pub stand_processes-requires-clause-design : goal.stand_processes-requires-clause-design
stand_processes-requires-clause-design g c =
    c.requires.design ∙ sym (ap (λ (m : Machine). m.design) (c.stand_objects.ensures.machine ∙ c.clear.ensures.machine))

pub stand_processes-requires-clause-stands : goal.stand_processes-requires-clause-stands
stand_processes-requires-clause-stands g c =
    let runner = c.args.runner.now in
    let shows = g.S.ShownState.shows c.args.good.now in
    let stands = stands-cleared (machine_of runner).design (machine_of c.clear.new.self).design (ap (λ (m : Machine). m.design) c.clear.ensures.machine) shows c.args.time
    (state_of runner).values (state_of c.clear.new.self) c.requires.stands (object-count runner) c.clear.ensures.state in
    stands-values (machine_of c.clear.new.self).design (machine_of c.stand_objects.new.runner).design (ap (λ (m : Machine). m.design) c.stand_objects.ensures.machine) shows
    (values_below c.args.counts.objects stands.good) (state_of c.clear.new.self) (state_of c.stand_objects.new.runner) stands (c.stand_objects.ensures.state stands)

pub stand_processes-requires-clause-counts : goal.stand_processes-requires-clause-counts
stand_processes-requires-clause-counts g c =
    subst (λ (m : Machine). AreCounts m.design c.args.counts) (sym (c.stand_objects.ensures.machine ∙ c.clear.ensures.machine)) c.requires.counts

pub returns-clause-machine : goal.returns-clause-machine
returns-clause-machine g c = c.in_ok-stand_processes.ensures.machine ∙ c.stand_objects.ensures.machine ∙ c.clear.ensures.machine

pub returns-clause-state : goal.returns-clause-state
unfolding stands-cleared stands-values
returns-clause-state g c = λ of.
    let runner = c.args.runner.now in
    let design = (machine_of runner).design in
    let shows = g.S.ShownState.shows c.args.good.now in
    let now = state_of c.clear.new.self in
    let middle = state_of c.stand_objects.new.runner in
    let new = state_of c.stand_processes.new.runner in
    let stands = stands-cleared design (machine_of c.clear.new.self).design (ap (λ (m : Machine). m.design) c.clear.ensures.machine) shows c.args.time (state_of runner).values now of
    (object-count runner) c.clear.ensures.state in
    let values = c.stand_objects.ensures.state stands in
    let later = stands-values (machine_of c.clear.new.self).design (machine_of c.stand_objects.new.runner).design (ap (λ (m : Machine). m.design) c.stand_objects.ensures.machine) shows
    (values_below c.args.counts.objects of.good) now middle stands values in
    stood c.differences_are_one.ensures design shows c.args.time (state_of runner).values now middle new of (object-count runner) c.clear.ensures.state
    (subst (λ n. ValuesArePut (values_below n of.good) now middle) c.requires.counts.objects values)
    (subst (λ n. ProcessesArePut (processes_below n of.good) middle new) c.requires.counts.processes (c.in_ok-stand_processes.ensures.state later))
