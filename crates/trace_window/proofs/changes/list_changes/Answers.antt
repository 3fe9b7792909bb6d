use Rattle.std.proofs.Common.{◌∷◌, ◌++◌, [], map, take, sym, ap, ◌∙◌}
use Rattle.std.proofs.lemmas.List.{take_all}
use Rattle.trace_window.specs.GatherLaws.{below-append}
use Rattle.trace_window.specs.Occurring.{below}
use Rattle.trace_window.specs.Tables.{at_moment, at_place, at_places}
use Rattle.trace_window.proofs.Finding.{at_moment-more, at_places-more}
use Rattle.trace_window.proofs.changes.list_changes.Goals as goal

pub changes-preserved : goal.changes-preserved
changes-preserved c = record {
  moments =
      c.in_ok-push_below.ensures ∙ ap (λ l. l ++ below c.args.objects (at_moment c.index-changes-place.result ∷ [])) c.changes.invariant.moments
      ∙ sym (below-append c.args.objects (map at_moment (take c.changes.place c.args.changes.now)) (at_moment c.index-changes-place.result ∷ []))
      ∙ ap (below c.args.objects) (sym (at_moment-more c.args.changes.now c.changes.place c.index-changes-place.result c.changes-test.true c.index-changes-place.is));
  places =
      c.in_ok-push_below-2.ensures ∙ ap (λ l. l ++ below c.args.objects (at_place c.changes.place c.index-changes-place.result ∷ [])) c.changes.invariant.places
      ∙ sym (below-append c.args.objects (at_places 0 (take c.changes.place c.args.changes.now)) (at_place c.changes.place c.index-changes-place.result ∷ []))
      ∙ ap (below c.args.objects) (sym (at_places-more c.args.changes.now c.changes.place c.index-changes-place.result c.changes-test.true c.index-changes-place.is));
}

pub returns-clause-moments : goal.returns-clause-moments
returns-clause-moments c = c.changes.invariant.moments ∙ ap (λ l. below c.args.objects (map at_moment l)) (take_all c.changes.place c.args.changes.now c.changes-test.false)

pub returns-clause-places : goal.returns-clause-places
returns-clause-places c = c.changes.invariant.places ∙ ap (λ l. below c.args.objects (at_places 0 l)) (take_all c.changes.place c.args.changes.now c.changes-test.false)
