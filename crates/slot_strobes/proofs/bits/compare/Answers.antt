-- Each watched object is one of the design.
use Rattle.vf_base.specs.Base.{watched_bit}
use Rattle.lockstep_shards.specs.window_strobes.Watched.{IsObjectOf}
use Rattle.strobe_detect.proofs.Watches.{AllHold-at}
use Rattle.slot_strobes.proofs.bits.compare.Goals as goal

pub compare_bit-shown-requires-clause-place : goal.compare_bit-shown-requires-clause-place
compare_bit-shown-requires-clause-place g c κs within =
    AllHold-at (IsObjectOf g.N.World.design) watched_bit c.args.watched.now c.watched.place-index _ c.requires.watched c.watched-test.true
