use Rattle.std.proofs.Common.{take}
use Rattle.std.specs.List.{AllZip}
use Rattle.pick_laws.specs.Kept.{kept_strobes}
use Rattle.vf_pick.specs.Faults.{lists_of}
use Rattle.vf_pick.specs.Picks.{StandsFor}
use Rattle.vf_pick.specs.Walks.{strobes_at}
use Rattle.vf_pick.proofs.picking.picked_strobes.Given as goal

abbrev pub invariant-places : goal.invariant-places
invariant-places l = AllZip (StandsFor l.hard (kept_strobes (lists_of l.hard) l.strobes)) (strobes_at l.strobes (take l.place-index l.places)) l.picked.items
