-- One hard strobe more.
use Rattle.vf_pick.proofs.Noting.{noted-more}
use Rattle.vf_pick.proofs.fault_index.note_fault.Goals as goal

pub times-preserved : goal.times-preserved
times-preserved c =
    noted-more c.args.strobes.now c.args.times.now c.args.fault c.times.time-index c.place_of-number.result c.args.occurrences.now.items c.times.occurrences.items
    c.push.new.self.items c.times-test.true c.requires.ascending
    c.place_of-number.ensures.within c.place_of-number.ensures.found c.times.invariant c.in_ok-push.ensures.items
