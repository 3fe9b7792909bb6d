-- The net pieces so far are unread.
use Rattle.std.proofs.Common.{◌≡◌, ℕ, true, map, take}
use Rattle.vf_base.specs.Base.{object_number}
use Rattle.vf_base.specs.Lists.{has}
use Rattle.v_design.specs.Paths.{net_pieces}
use Rattle.lockstep_filter.specs.Free.{IsUnreadNet}
use Rattle.phase_reach.specs.Phases.{noted_phase}
use Rattle.lockstep_filter.proofs.objects.reached_are_unread.Given as goal

abbrev pub invariant-objects : goal.invariant-objects
invariant-objects g l =
    (object : ℕ) → has (map object_number (take l.place l.reached)) object ≡ true → has (net_pieces g.N.World.design) object ≡ true →
    IsUnreadNet (noted_phase g.N.World.design g.N.World.plan l.window l.notes l.end) object
