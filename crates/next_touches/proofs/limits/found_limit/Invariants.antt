-- So far each object below the next one that is kept is left alone.
use Rattle.std.proofs.Common.{◌≡◌, ℕ, ◌≤◌, length}
use Rattle.std.specs.Prelude.{option_map}
use Rattle.vf_base.specs.Base.{object_number}
use Rattle.copy_state.specs.Entries.{first_from}
use Rattle.copy_state.specs.declared.entry.HeldValue.{HeldValue}
use Rattle.copy_skip.specs.Limits.{AreLeftAlone}
use Rattle.trace_window.specs.Moments.{window_events}
use Rattle.next_touches.specs.Touches.{AreLeftBy}
use Rattle.next_touches.proofs.Kept.{numbers_left}
use Rattle.next_touches.proofs.limits.found_limit.Given as goal

abbrev pub invariant-objects : goal.invariant-objects
invariant-objects g l = record {
  low : l.least ≤ l.limit;
  from : ℕ;
  next_is : option_map (λ (held : HeldValue). object_number held.object) l.next ≡ first_from from l.copy.values;
  alone : AreLeftAlone g.N.World.design (window_events g.N.World.design g.N.World.plan l.window.before l.window.through) l.copy.values from l.first l.least;
  known : AreLeftBy g.N.World.design (window_events g.N.World.design g.N.World.plan l.window.before l.window.through) l.objects.items;
}

abbrev pub decreases-objects : goal.decreases-objects
decreases-objects g l = numbers_left (length g.N.World.design.objects) (option_map (λ (held : HeldValue). object_number held.object) l.next)
