-- Each watched object has a value.
use Rattle.vf_base.specs.Base.{watched_bit}
use Rattle.strobe_detect.specs.Graders.{IsWatched}
use Rattle.strobe_detect.proofs.Watches.{AllHold-at}
use Rattle.strobe_detect.proofs.compare.compare.Goals as goal

pub value-requires : goal.value-requires
value-requires g c =
    AllHold-at (IsWatched (g.A.Values.values c.args.good.now)) watched_bit c.args.watched.now c.loop-place.place-index _ c.requires.good c.loop-place-test.true

pub value-requires-in-loop-place : goal.value-requires-in-loop-place
value-requires-in-loop-place g c =
    AllHold-at (IsWatched (g.B.Values.values c.args.faulty.now)) watched_bit c.args.watched.now c.loop-place.place-index _ c.requires.faulty c.loop-place-test.true
