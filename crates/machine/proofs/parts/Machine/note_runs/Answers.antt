-- No process is in a run yet.
use Rattle.std.proofs.Common.{◌∙◌, length, refl, sym, ap, subst}
use Rattle.std.proofs.lemmas.List.{length-map}
use Rattle.v_design.specs.Designs.{FlatDesign}
use Rattle.v_design.specs.Plain.{process_of}
use Rattle.run_record.specs.RunRecords.{runs_so_far, AreAtRest}
use Rattle.machine.proofs.parts.Machine.note_runs.Goals as goal

pub returns-clause-stays : goal.returns-clause-stays
returns-clause-stays c =
    let s = c.requires in
    record {
      machine_is = refl;
      state_is = refl;
      begins_is = refl;
      turn_is = refl;
      standing = record {
        table = s.table;
        design = s.design;
        graph = s.graph;
        values = s.values;
        earlier = s.earlier;
        causes = s.causes;
        quiet = s.quiet;
        nodes = s.nodes;
        no_turn = s.no_turn;
        begins = s.begins;
        reached = s.reached;
        rests = λ begins next on.
            subst (λ n. AreAtRest n (runs_so_far c.in_ok-runs.runs))
            (ap length c.as_slice-processes.ensures ∙ sym (length-map c.args.self.now.graph.now.design.now.processes process_of) ∙ ap (λ (d : FlatDesign). length d.processes) s.graph)
            c.in_ok-runs.ensures;
      };
    }
