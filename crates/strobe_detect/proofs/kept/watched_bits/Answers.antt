-- Each watched object has a value.
use Rattle.vf_base.specs.Base.{watched_bit}
use Rattle.strobe_detect.specs.Graders.{IsWatched}
use Rattle.strobe_detect.proofs.Watches.{AllHold-at}
use Rattle.strobe_detect.proofs.kept.watched_bits.Goals as goal

pub value-requires : goal.value-requires
value-requires g c =
    AllHold-at (IsWatched (g.A.Values.values c.args.machine.now)) watched_bit c.args.watched.now c.loop-place.place-index _ c.requires c.loop-place-test.true
