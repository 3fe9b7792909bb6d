-- The replay stands at the start, with all node events done.
use Rattle.std.proofs.Common.{◌≡◌, ◌∙◌, [], length, refl, sym, ap, subst}
use Rattle.std.proofs.lemmas.List.{length-map}
use Rattle.v_design.specs.Designs.{Machine}
use Rattle.v_design.specs.Plain.{process_of}
use Rattle.v_design.specs.PlainDesigns.{design_of}
use Rattle.v_design.specs.RulesHold.{rules_hold}
use Rattle.v_design.specs.Views.{machine_with}
use Rattle.v_design.specs.WellFormed.{KeepsRules}
use Rattle.race_laws.specs.Writes.{WritesStay}
use Rattle.v_design.specs.States.{start}
use Rattle.event_causes.specs.Causes.{AreCausesOf}
use Rattle.net_state.specs.States.{machine_in, AreNetsOf}
use Rattle.process_table.specs.Tables.{IsTableOf}
use Rattle.process_table.specs.Arranged.{IsKept, table_of}
use Rattle.cert_laws.specs.Replays.{Replay}
use Rattle.cert_replay.specs.declared.replaying.Replaying.{Replaying}
use Rattle.cert_replay.specs.Deeds.{Starts}
use Rattle.cert_replay.proofs.replaying.Replaying.begin.Goals as goal

-- a run at its start
abbrev started : Machine → Replay
started machine = record { begins = start machine; events = []; now = start machine; number = 1; steps = 0; moves = [] }

starts : WritesStay → (machine : Machine) (r : Replaying) → machine_in r.nets ≡ machine → AreNetsOf r.nets (start machine) → IsTableOf machine (start machine) (table_of r.table) → IsKept r.table →
    AreCausesOf machine [] r.record.phase.causes → design_of r.graph.now.design.now ≡ machine.design → Starts machine (start machine) r
starts stay machine r same nets table kept causes graph = record {
  both = record { machine_is = same; nets_are = nets; table_is = table };
  arranged = kept;
  earlier = [];
  causes = causes;
  graph_is = graph;
  writes =
      stay.at_start machine
      (subst (λ (m : Machine). KeepsRules m.design) same (rules_hold (design_of r.nets.objects.settle.graph.now.design.now) r.nets.objects.settle.graph.now.design.now.rules));
}

pub begin_slot-requires : goal.begin_slot-requires
begin_slot-requires c =
    let machine = machine_with c.args.design.now c.args.fault in
    record {
      machine = machine;
      begins = start machine;
      starts = starts c.writes_stay.ensures.stay machine _ c.in_ok-nets.ensures.machine c.in_ok-nets.ensures.begins (c.in_ok-table.ensures.does machine refl) c.in_ok-table.ensures.kept
          (c.in_ok-record.ensures machine (length-map c.args.design.now.processes process_of ∙ sym (ap length c.as_slice-processes.ensures))
          (sym (c.object_count.ensures.count ∙ c.object_count.ensures.all ∙ ap (λ (k : Machine). length k.design.objects) c.in_ok-nets.ensures.machine)))
          (ap design_of c.requires);
    }

pub settle-requires : goal.settle-requires
settle-requires c =
    let machine = machine_with c.args.design.now c.args.fault in
    record {
      machine = machine;
      replay = started machine;
      keeps = c.in_ok-begin_slot.ensures.begins machine (start machine) [] (starts c.writes_stay.ensures.stay machine _ c.in_ok-nets.ensures.machine c.in_ok-nets.ensures.begins
          (c.in_ok-table.ensures.does machine refl) c.in_ok-table.ensures.kept
          (c.in_ok-record.ensures machine (length-map c.args.design.now.processes process_of ∙ sym (ap length c.as_slice-processes.ensures))
          (sym (c.object_count.ensures.count ∙ c.object_count.ensures.all ∙ ap (λ (k : Machine). length k.design.objects) c.in_ok-nets.ensures.machine)))
          (ap design_of c.requires));
    }

pub returns-clause-begins : goal.returns-clause-begins
returns-clause-begins c =
    let machine = machine_with c.args.design.now c.args.fault in
    c.in_ok-settle.ensures.settles machine (started machine)
    (c.in_ok-begin_slot.ensures.begins machine (start machine) [] (starts c.writes_stay.ensures.stay machine _ c.in_ok-nets.ensures.machine c.in_ok-nets.ensures.begins
    (c.in_ok-table.ensures.does machine refl) c.in_ok-table.ensures.kept
    (c.in_ok-record.ensures machine (length-map c.args.design.now.processes process_of ∙ sym (ap length c.as_slice-processes.ensures))
    (sym (c.object_count.ensures.count ∙ c.object_count.ensures.all ∙ ap (λ (k : Machine). length k.design.objects) c.in_ok-nets.ensures.machine))) (ap design_of c.requires)))

pub returns-clause-race : goal.returns-clause-race
returns-clause-race c = c.in_ok-settle.ensures.same.race ∙ c.in_ok-begin_slot.ensures.same.race

pub returns-clause-bound : goal.returns-clause-bound
returns-clause-bound c = c.in_ok-settle.ensures.same.bound ∙ c.in_ok-begin_slot.ensures.same.bound
