use Rattle.std.proofs.Common.{◌∙◌, ap, map}
use Rattle.v_comb.proofs.Tables.{put-names}
use Rattle.v_comb.proofs.name_table.NameTable.put.Goals as goal
use Rattle.v_comb.proofs.name_table.NameTable.put.Goals.{in-Ok, in-Err}

pub returns : goal.returns
returns c = elim c.match-insert.branch [
  | in-Ok w ↦ rw (w.result-is, ← c.self.view_is) (ap (map (λ k. k.now)) w.in-Ok.ensures.keys ∙ put-names c.self.inside.names.keys c.args.name)
  | in-Err w ↦ rw w.result-is tt
]
