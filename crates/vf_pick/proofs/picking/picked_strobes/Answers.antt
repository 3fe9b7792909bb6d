-- One picked strobe more.
use Rattle.pick_laws.specs.Kept.{kept_strobes}
use Rattle.vf_pick.specs.Faults.{lists_of}
use Rattle.vf_pick.specs.Picks.{StandsFor}
use Rattle.vf_pick.proofs.Rows.{stands-at, picked-more}
use Rattle.vf_pick.proofs.picking.picked_strobes.Goals as goal

pub picked_at-requires-clause-kept : goal.picked_at-requires-clause-kept
picked_at-requires-clause-kept c = stands-at c.args.strobes.now c.args.places.now
    (kept_strobes (lists_of c.args.hard.now) c.args.strobes.now) c.places.place-index c.places-test.true c.requires.kept.kept

pub places-preserved : goal.places-preserved
places-preserved c =
    picked-more (StandsFor c.args.hard.now (kept_strobes (lists_of c.args.hard.now) c.args.strobes.now))
    c.args.strobes.now c.args.places.now c.places.place-index c.places.picked.items c.push.new.self.items c.picked_at.result
    c.places-test.true c.places.invariant c.in_ok-push.ensures.items c.picked_at.ensures
