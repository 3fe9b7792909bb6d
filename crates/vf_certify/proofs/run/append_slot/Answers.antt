-- The slot that was run is the one whose log was written.
use Rattle.machine.specs.Standing.{machine_kept, first_turn}
use Rattle.machine_laws.specs.SlotLoop.{slot_from}
use Rattle.vf_certify.proofs.SlotsLeft.{next-is}
use Rattle.vf_certify.proofs.run.append_slot.Goals as goal

pub returns : goal.returns
returns g c =
    let old = c.args.machine.now in
    let n = next-is old c.args.time c.requires.next in
    let runs = c.in_ok-_end.ensures.slot n.0 n.1 in
    record {
      same_machine = c.in_ok-_end.ensures.machine;
      standing = c.in_ok-_end.ensures.standing;
      begins = n.0;
      begins_is = n.1;
      time_is = n.2;
      next_is = runs.next;
      adds = c.in_ok-append_slot_lines.ensures (machine_kept old) (first_turn old.stage) (slot_from (machine_kept old) n.0) runs.logged runs.log_time;
    }
