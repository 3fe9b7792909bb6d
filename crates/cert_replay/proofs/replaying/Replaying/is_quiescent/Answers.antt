-- A node, a lane or a process has an event, or none has.
use Rattle.std.proofs.Common.{false, true, not, ◌&&◌, refl, sym}
use Rattle.std.specs.Prelude.{Some, None, is_some}
use Rattle.vf_base.specs.Base.{node_number, process_number}
use Rattle.vf_base.specs.Lists.{first_place}
use Rattle.v_design.specs.States.{ProcessState, Evaluation, is_any, is_ready}
use Rattle.process_table.specs.Arranged.{table_of}
use Rattle.cert_replay.specs.declared.replaying.Replaying.{Replaying}
use Rattle.cert_replay.proofs.Going.{stays-on}
use Rattle.cert_replay.proofs.Turning.{and-false, or-true, quiet-told}
use Rattle.cert_replay.proofs.replaying.Replaying.is_quiescent.Goals as goal

pub first_lane-requires : goal.first_lane-requires
first_lane-requires c = record { kept = c.requires.keeps.amid.arranged }

pub first_ready-requires : goal.first_ready-requires
first_ready-requires c = record { kept = c.requires.keeps.amid.arranged }

pub returns-in-Some : goal.returns-in-Some
returns-in-Some c =
    let old = c.args.self.now in
    let mid : Replaying = record old { nets = c.least_node.new.self } in
    quiet-told old mid false (Some (Evaluation (node_number c.in-Some.field-0))) (first_place (λ (p : ProcessState). is_any p.lane) (table_of old.table).processes)
    (first_place (λ (p : ProcessState). is_ready p.activity) (table_of old.table).processes) c.in-Some.ensures.least refl refl (sym (and-false _)) (record { race = refl; bound = refl })
    (stays-on old mid c.least_node.ensures.machine c.least_node.ensures.values c.least_node.ensures.nodes refl)

pub returns-in-Some-first_lane : goal.returns-in-Some-first_lane
returns-in-Some-first_lane c =
    let old = c.args.self.now in
    let mid : Replaying = record old { nets = c.least_node.new.self } in
    let ready = first_place (λ (p : ProcessState). is_ready p.activity) (table_of old.table).processes in
    quiet-told old mid false None (Some (process_number c.in-Some-first_lane.field-0)) ready c.in-None.ensures.least (sym c.in-Some-first_lane.ensures) refl
    (sym (λ i. not (or-true (is_some ready) i) && true)) (record { race = refl; bound = refl })
    (stays-on old mid c.least_node.ensures.machine c.least_node.ensures.values c.least_node.ensures.nodes refl)

pub returns-in-Some-first_ready : goal.returns-in-Some-first_ready
returns-in-Some-first_ready c =
    let old = c.args.self.now in
    let mid : Replaying = record old { nets = c.least_node.new.self } in
    quiet-told old mid false None None (Some (process_number c.in-Some-first_ready.field-0)) c.in-None.ensures.least (sym c.in-None-first_lane.ensures) (sym c.in-Some-first_ready.ensures) refl
    (record { race = refl; bound = refl })
    (stays-on old mid c.least_node.ensures.machine c.least_node.ensures.values c.least_node.ensures.nodes refl)

pub returns-in-None-first_ready : goal.returns-in-None-first_ready
returns-in-None-first_ready c =
    let old = c.args.self.now in
    let mid : Replaying = record old { nets = c.least_node.new.self } in
    quiet-told old mid true None None None c.in-None.ensures.least (sym c.in-None-first_lane.ensures) (sym c.in-None-first_ready.ensures) refl (record { race = refl; bound = refl })
    (stays-on old mid c.least_node.ensures.machine c.least_node.ensures.values c.least_node.ensures.nodes refl)
