use Rattle.std.proofs.Common.{ℕ, List}
use Rattle.v_names.proofs.Entries.{put-over}
use Rattle.v_names.proofs.scope.Scope.put.Goals as goal
use Rattle.v_names.proofs.scope.Scope.put.Goals.{in-Ok, in-Err}

pub returns : goal.returns
returns c = elim c.match-insert.branch [
  | in-Ok w ↦ rw (w.result-is, ← c.self.view_is) (λ (other : List ℕ). put-over c.self.inside.entries.entries _ c.args.name c.args.meaning w.in-Ok.ensures.updates.0 other)
  | in-Err w ↦ rw w.result-is tt
]
