use Rattle.std.proofs.Common.{◌∙◌}
use Rattle.object_waits.proofs.Firsts.{put-keys}
use Rattle.object_waits.proofs.object_list.ObjectList.put.Goals as goal
use Rattle.object_waits.proofs.object_list.ObjectList.put.Goals.{in-Ok, in-Err}

pub returns : goal.returns
returns c = elim c.match-insert.branch [
  | in-Ok w ↦ rw (w.result-is, ← c.self.view_is) (w.in-Ok.ensures.keys ∙ put-keys c.args.object.0 c.self.inside.objects.keys)
  | in-Err w ↦ rw w.result-is tt
]
