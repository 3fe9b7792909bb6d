-- A fault that is judged has no samples.
use Rattle.std.proofs.Common.{ap, sym, ◌∙◌}
use Rattle.std.proofs.lemmas.Bool.{true≢false}
use Rattle.fault_strobes.specs.Said.{keeps}
use Rattle.fault_strobes.specs.Shown.{said_of}
use Rattle.fault_strobes.specs.declared.strobed.Strobed.{Strobed}
use Rattle.copy_shard.proofs.copied.copied_strobed.Goals as goal

pub unreachable-requires : goal.unreachable-requires
unreachable-requires c = true≢false (sym (ap (λ (s : Strobed). keeps (said_of s)) c.in-Keeping.is) ∙ c.requires)

pub returns : goal.returns
returns c = sym (ap said_of c.in-Judging.is)
