use Rattle.std.proofs.Common.{ℕ, List}
use Rattle.module_scope.proofs.Maps.{kept-over}
use Rattle.module_scope.proofs.name_map.NameMap.put.Goals as goal
use Rattle.module_scope.proofs.name_map.NameMap.put.Goals.{in-Ok, in-Err}

pub returns : goal.returns
returns g c = elim c.match-insert.branch [
  | in-Ok w ↦ rw (w.result-is, ← c.self.view_is) (λ (other : List ℕ). kept-over c.self.inside.entries.entries _ c.args.name c.args.value w.in-Ok.ensures.updates.0 other)
  | in-Err w ↦ rw w.result-is tt
]
