-- The phase begins with its number.
use Rattle.std.proofs.Common.{◌≡◌, ◌+◌, ap, length}
use Rattle.slot_record.proofs.SlotRecordLaws.{renumbered}
use Rattle.slot_record.proofs.record.SlotRecord.begin_phase.Goals as goal

pub returns : goal.returns
returns c = λ machine first before kind begins log had turn time held.
    let numbered : c.args.self.now.number + 1 ≡ length before + 1 = ap (λ n. n + 1) had.numbered in
    record {
      present = renumbered machine (c.args.self.now.number + 1) (length before + 1) begins _ numbered (c.in_ok-begin_phase.ensures machine had.earlier begins had.causes time held);
      logged = had.logged;
      race_is = had.race_is;
      numbered = numbered;
      turn_is = turn;
    }
