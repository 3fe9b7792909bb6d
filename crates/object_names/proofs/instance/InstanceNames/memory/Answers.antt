use Rattle.std.proofs.Common.{◌++◌, ap, ◌∙◌}
use Rattle.object_names.proofs.Meanings.{instance-memory}
use Rattle.object_names.proofs.instance.InstanceNames.memory.Goals as goal

pub returns : goal.returns
returns c holders hold =
    c.in_ok-memory.ensures
    ∙ instance-memory holders c.args.self.now c.args.name.now c.as_bytes-2.result.now hold (c.as_bytes-2.ensures ∙ c.in_ok-whole.ensures ∙ ap (λ n. c.args.self.now.path.now ++ n) c.as_bytes.ensures)
