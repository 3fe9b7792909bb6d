use Rattle.module_scope.specs.Below.{AreBelow}
use Rattle.module_scope.proofs.order.+push_places.Given as goal

abbrev pub invariant-push_part_places-parts : goal.invariant-push_part_places-parts
invariant-push_part_places-parts l = AreBelow l.count l.needs.items
