-- The objects so far are free.
use Rattle.std.proofs.Common.{◌≡◌, ℕ, true, map, take}
use Rattle.vf_base.specs.Base.{object_number}
use Rattle.vf_base.specs.Lists.{has}
use Rattle.lockstep_filter.specs.Free.{IsFreeHere}
use Rattle.phase_reach.specs.Phases.{noted_phase}
use Rattle.lockstep_filter.proofs.objects.noted_are_free.Given as goal

abbrev pub invariant-objects : goal.invariant-objects
invariant-objects g l = record {
  design : l.late.design ≡ l.initial.late.design;
  free : (object : ℕ) → has (map object_number (take l.place l.noted)) object ≡ true → IsFreeHere (noted_phase g.N.World.design g.N.World.plan l.window l.notes l.end) object;
}
