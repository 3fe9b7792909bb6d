-- The list itself.
use Rattle.std.proofs.Common.{ap, map, ◌∙◌}
use Rattle.copy_state.specs.Listed.{entry_of}
use Rattle.copy_state.proofs.few_values.FewValues.listed.Goals as goal

pub returns : goal.returns
returns c = ap (map entry_of) c.as_slice.ensures ∙ c.self.view_is
