use Rattle.std.proofs.Common.{◌∙◌}
use Rattle.v_readers.specs.ClassLaws.{name-kind}
use Rattle.v_readers.proofs.leaves.name.Goals as goal

pub unreachable-requires : goal.unreachable-requires
unreachable-requires c = c.in_default.not-Word _ (c.kind.ensures ∙ name-kind c.in_ok-token.token.now.kind c.in_ok-token.ensures.class)
