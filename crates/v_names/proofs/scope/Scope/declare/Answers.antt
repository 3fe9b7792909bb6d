use Rattle.std.proofs.Common.{◌≡◌, ℕ, List, None, ap, ◌∙◌}
use Rattle.std.specs.Borrow.{Bor}
use Rattle.std.specs.Str.{bytes_eq}
use Rattle.indexmap.proofs.CallerLemmas.{insert_entry-new}
use Rattle.v_names.specs.Scopes.{looked_up}
use Rattle.v_names.specs.ScopeViews.{names_listed}
use Rattle.v_names.proofs.Entries.{not-there, listed-more}
use Rattle.v_names.proofs.scope.Scope.declare.Goals as goal
use Rattle.v_names.proofs.scope.Scope.declare.Goals.{in-Ok, in-Err}

pub returns : goal.returns
returns c =
    let entries = c.self.inside.entries.entries in
    let none : looked_up (names_listed entries) c.args.name.now ≡ None = ap (λ s. looked_up s c.args.name.now) c.self.view_is ∙ c.requires in
    elim c.match-insert.branch [
      | in-Ok w ↦
          rw (w.result-is, ← c.self.view_is)
          (ap names_listed
          (w.in-Ok.ensures.entries
          ∙ insert_entry-new (λ (k e : Bor (List ℕ)). bytes_eq k.now e.now) c.self.inside.entries c.args.name c.args.entry (not-there c.args.name.now entries none))
          ∙ listed-more entries c.args.name c.args.entry)
      | in-Err w ↦ rw w.result-is tt
    ]
