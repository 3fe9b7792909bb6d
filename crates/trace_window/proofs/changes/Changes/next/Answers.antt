use Rattle.std.proofs.Common.{◌<◌, map, sym, ap, subst, ◌∙◌}
use Rattle.vf_base.specs.Base.{object_number}
use Rattle.window_index.specs.Moments.{moments_of, IsFirstAtOrAfter}
use Rattle.trace_window.specs.Tables.{ChangesKept, occurrence_of}
use Rattle.trace_window.proofs.Finding.{change-occurrences}
use Rattle.trace_window.proofs.changes.Changes.next.Goals as goal

pub returns : goal.returns
returns c =
    let object = object_number c.args.object in
    subst (λ (k : ChangesKept). IsFirstAtOrAfter (moments_of (map occurrence_of k.writes) object) c.args.moment c.first_at_or_after.result) c.self.view_is
    (subst (λ l. IsFirstAtOrAfter l c.args.moment c.first_at_or_after.result)
    (c.self.invariant.moments_are.moments object (subst (λ (k : ChangesKept). object < k.count) (sym c.self.view_is) c.requires)
    ∙ ap (λ l. moments_of l object) (change-occurrences c.self.inside.changes.items))
    c.first_at_or_after.ensures)
