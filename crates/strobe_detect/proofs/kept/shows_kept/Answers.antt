-- Each watched object has a value.
use Rattle.vf_base.specs.Base.{watched_bit}
use Rattle.strobe_detect.specs.Graders.{IsWatched}
use Rattle.strobe_detect.proofs.Watches.{AllHold-at}
use Rattle.strobe_detect.proofs.kept.shows_kept.Goals as goal

pub value-requires : goal.value-requires
value-requires g c =
    AllHold-at (IsWatched (g.B.Values.values c.args.machine.now)) watched_bit c.args.watched.now c.loop-number.number _ c.requires.watched c.loop-number-test.true
