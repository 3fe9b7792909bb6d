use Rattle.std.proofs.Common.{◌≡◌, ℕ, ◌++◌, List, [], map, append-nil, refl, sym, ap, ◌∙◌}
use Rattle.std.specs.Prelude.{Option}
use Rattle.causal_monitor.specs.Notes.{noted_access}
use Rattle.window_index.specs.declared.occurrence.Occurrence.{Occurrence}
use Rattle.trace_window.specs.Acted.{occurrence_at}
use Rattle.trace_window.specs.Occurring.{below}
use Rattle.trace_window.specs.Touched.{touches_in}
use Rattle.trace_window.specs.Writes.{written_of, writes_in}
use Rattle.trace_window.proofs.list.EventList.note_event.Goals as goal

-- one number more, if there is one
pushed : (old new : List Occurrence) (count moment : ℕ) (found own : Option ℕ) → new ≡ old ++ below count (occurrence_at moment found) → found ≡ own →
    new ≡ old ++ below count (occurrence_at moment own ++ [])
pushed old new count moment found own grown is = grown ∙ ap (λ l. old ++ below count l) (ap (occurrence_at moment) is ∙ sym (append-nil (occurrence_at moment own)))

pub returns : goal.returns
returns c = record {
  as_many = refl;
  moment = c.in_ok-next.ensures;
  changes =
      c.in_ok-push_writes.ensures ∙ ap (λ l. map written_of c.args.self.now.changes.items ++ l) (sym (append-nil (writes_in c.args.self.now.moment (map noted_access c.args.accesses.now))));
  touches = c.in_ok-push_touches.ensures ∙ ap (λ l. c.args.self.now.touches.items ++ below c.args.sizes.objects l) (sym (append-nil (touches_in c.args.self.now.moment (map noted_access c.args.accesses.now))));
  evaluations = pushed _ _ _ _ _ _ c.in_ok-push_number.ensures c.node_evaluated-node.ensures;
  steps = pushed _ _ _ _ _ _ c.in_ok-push_number-2.ensures c.process_stepped-process.ensures;
}
