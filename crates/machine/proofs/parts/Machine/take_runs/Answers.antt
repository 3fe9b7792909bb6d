-- The ends are taken, and the present runs stay.
use Rattle.std.proofs.Common.{length, refl, sym, subst}
use Rattle.run_record.specs.RunRecords.{AreAtRest}
use Rattle.machine.specs.Standing.{machine_kept}
use Rattle.machine.proofs.parts.Machine.take_runs.Goals as goal

pub returns-clause-stays : goal.returns-clause-stays
returns-clause-stays c =
    let s = c.requires.standing in
    record {
      machine_is = refl;
      state_is = refl;
      begins_is = refl;
      turn_is = refl;
      standing = record {
        table = s.table;
        design = s.design;
        graph = s.graph;
        values = s.values;
        earlier = s.earlier;
        causes = s.causes;
        quiet = s.quiet;
        nodes = s.nodes;
        no_turn = s.no_turn;
        begins = s.begins;
        reached = s.reached;
        rests = λ begins next on. subst (AreAtRest (length (machine_kept c.args.self.now).design.processes)) (sym c.take.ensures.stays) (s.rests begins next on);
      };
    }
