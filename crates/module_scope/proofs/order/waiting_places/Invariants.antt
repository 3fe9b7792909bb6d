use Rattle.module_scope.specs.Kept.{kept}
use Rattle.module_scope.specs.Below.{PlacesBelow}
use Rattle.module_scope.proofs.order.waiting_places.Given as goal

abbrev pub invariant-declared : goal.invariant-declared
invariant-declared l = PlacesBelow l.place (kept l.places)
