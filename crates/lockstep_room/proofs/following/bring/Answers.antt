-- What is named is as shown.
use Rattle.std.proofs.Common.{map, subst, sym, ap, ◌∙◌}
use Rattle.vf_base.specs.Base.{object_number, process_number}
use Rattle.v_design.specs.Designs.{Machine}
use Rattle.lockstep_exchange.specs.block_events.Runners.{machine_of, state_of}
use Rattle.lockstep_room.specs.Rooms.{AreCounts, processes_among, values_among}
use Rattle.lockstep_room.proofs.Standing.{stands-processes, stands-values}
use Rattle.lockstep_room.proofs.Followed.{brought}
use Rattle.lockstep_room.proofs.following.bring.Goals as goal

pub follow_processes-requires-clause-design : goal.follow_processes-requires-clause-design
follow_processes-requires-clause-design g c = c.requires.design ∙ sym (ap (λ (m : Machine). m.design) c.follow_objects.ensures.machine)

pub follow_processes-requires-clause-stands : goal.follow_processes-requires-clause-stands
follow_processes-requires-clause-stands g c =
    let stands = c.requires.stands in
    stands-values (machine_of c.args.runner.now).design (machine_of c.follow_objects.new.runner).design (ap (λ (m : Machine). m.design) c.follow_objects.ensures.machine)
    (g.S.ShownState.shows c.args.good.now) (values_among (map object_number c.args.objects.now) stands.good) (state_of c.args.runner.now) (state_of c.follow_objects.new.runner) stands
    (c.follow_objects.ensures.state stands)

pub follow_processes-requires-clause-counts : goal.follow_processes-requires-clause-counts
follow_processes-requires-clause-counts g c = subst (λ (m : Machine). AreCounts m.design c.args.counts) (sym c.follow_objects.ensures.machine) c.requires.counts

pub follow_lane-requires-clause-design : goal.follow_lane-requires-clause-design
follow_lane-requires-clause-design g c =
    c.requires.design ∙ sym (ap (λ (m : Machine). m.design) (c.in_ok-follow_processes.ensures.machine ∙ c.follow_objects.ensures.machine))

pub follow_lane-requires-clause-stands : goal.follow_lane-requires-clause-stands
unfolding stands-values
follow_lane-requires-clause-stands g c =
    let stands = c.requires.stands in
    let shows = g.S.ShownState.shows c.args.good.now in
    let middle = stands-values (machine_of c.args.runner.now).design (machine_of c.follow_objects.new.runner).design (ap (λ (m : Machine). m.design) c.follow_objects.ensures.machine) shows
    (values_among (map object_number c.args.objects.now) stands.good) (state_of c.args.runner.now) (state_of c.follow_objects.new.runner) stands (c.follow_objects.ensures.state stands) in
    stands-processes (machine_of c.follow_objects.new.runner).design (machine_of c.follow_processes.new.runner).design
    (ap (λ (m : Machine). m.design) c.in_ok-follow_processes.ensures.machine) shows (processes_among (map process_number c.args.processes.now) stands.good)
    (state_of c.follow_objects.new.runner) (state_of c.follow_processes.new.runner) middle (c.in_ok-follow_processes.ensures.state middle)

pub follow_lane-requires-clause-counts : goal.follow_lane-requires-clause-counts
follow_lane-requires-clause-counts g c =
    subst (λ (m : Machine). AreCounts m.design c.args.counts) (sym (c.in_ok-follow_processes.ensures.machine ∙ c.follow_objects.ensures.machine)) c.requires.counts

pub returns-clause-machine : goal.returns-clause-machine
returns-clause-machine g c = c.in_ok-follow_lane.ensures.machine ∙ c.in_ok-follow_processes.ensures.machine ∙ c.follow_objects.ensures.machine

pub returns-clause-state : goal.returns-clause-state
unfolding stands-processes stands-values
returns-clause-state g c = λ of.
    let now = state_of c.args.runner.now in
    let middle = state_of c.follow_objects.new.runner in
    let last = state_of c.follow_processes.new.runner in
    let shows = g.S.ShownState.shows c.args.good.now in
    let design = (machine_of c.args.runner.now).design in
    let objects = map object_number c.args.objects.now in
    let processes = map process_number c.args.processes.now in
    let values = c.follow_objects.ensures.state of in
    let stands = stands-values design (machine_of c.follow_objects.new.runner).design (ap (λ (m : Machine). m.design) c.follow_objects.ensures.machine) shows (values_among objects of.good) now middle of
    values in
    let own = c.in_ok-follow_processes.ensures.state stands in
    let later = stands-processes (machine_of c.follow_objects.new.runner).design (machine_of c.follow_processes.new.runner).design
    (ap (λ (m : Machine). m.design) c.in_ok-follow_processes.ensures.machine) shows (processes_among processes of.good) middle last stands own in
    brought objects processes c.args.lane of.good now middle last (state_of c.follow_lane.new.runner) values own (c.in_ok-follow_lane.ensures.state later)
