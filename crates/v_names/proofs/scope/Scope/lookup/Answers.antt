use Rattle.std.proofs.Common.{ap, ◌∙◌, option_map}
use Rattle.v_names.specs.Scopes.{looked_up}
use Rattle.v_names.specs.ScopeViews.{entry_of, names_listed}
use Rattle.v_names.proofs.Entries.{looked-up}
use Rattle.v_names.proofs.scope.Scope.lookup.Goals as goal

pub returns : goal.returns
returns c =
    rw (← c.self.view_is)
    (ap (option_map entry_of) (c.copied.ensures ∙ c.get.ensures.value) ∙ looked-up c.as_bytes.result.now c.self.inside.entries.entries
    ∙ ap (looked_up (names_listed c.self.inside.entries.entries)) c.as_bytes.ensures)
