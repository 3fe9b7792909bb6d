use Rattle.std.proofs.Common.{◌≡◌, ℕ, ◌<◌, false, length, get_or}
use Rattle.v_design.specs.PlainDesigns.{design_of}
use Rattle.lockstep_waits.specs.Awaited.{is_awaited}
use Rattle.lockstep_waits.proofs.awaited.AwaitedObjects.new.Given as goal

abbrev pub invariant-objects : goal.invariant-objects
invariant-objects l = record {
  count : length l.flags.items ≡ length l.design.objects;
  flagged : (k : ℕ) → k < l.object → get_or l.flags.items k false ≡ is_awaited (design_of l.design) k;
}
