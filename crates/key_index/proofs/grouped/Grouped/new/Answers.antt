use Rattle.std.proofs.Common.{map, ap, ◌∙◌}
use Rattle.key_index.specs.Groups.{keyed_of, key_of}
use Rattle.key_index.proofs.grouped.Grouped.new.Goals as goal

pub invariant_of-result : goal.invariant_of-result
invariant_of-result g c = c.in_ok-index.ensures ∙ c.in_ok-keys.ensures ∙ ap (λ items. map key_of (map keyed_of items)) c.deref.ensures.value
