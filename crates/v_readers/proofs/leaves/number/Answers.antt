use Rattle.std.proofs.Common.{◌∙◌}
use Rattle.v_readers.specs.ClassLaws.{number-kind}
use Rattle.v_readers.proofs.leaves.number.Goals as goal

pub unreachable-requires : goal.unreachable-requires
unreachable-requires c = c.in_default.not-Number _ _ (c.kind.ensures ∙ number-kind c.in_ok-token.token.now.kind c.in_ok-token.ensures.class)
