use Rattle.std.proofs.Common.{◌≡◌, ◌<◌, List, map, length, sym, ap, subst, ◌∙◌, arith}
use Rattle.std.proofs.lemmas.List.{length-map}
use Rattle.vf_base.specs.Lists.{map_numbered}
use Rattle.std.specs.Prelude.{All}
use Rattle.std.specs.List.Sorted.{IsNonDecreasingBy}
use Rattle.std.proofs.lemmas.List.Elements.{All-map}
use Rattle.window_index.specs.declared.occurrence.Occurrence.{Occurrence}
use Rattle.window_index.specs.Moments.{moment_of, IsIndexOf}
use Rattle.process_code.specs.declared.state.RunEnd.{RunEnd}
use Rattle.window_runs.specs.Placed.{at_moment, at_places, placed}
use Rattle.window_runs.specs.RunsByProcess.{run_process, run_phase}
use Rattle.window_runs.proofs.Finding.{map-rises, places-again, places-rise, places-within}
use Rattle.window_runs.proofs.index.RunIndex.refill.Goals as goal

-- the listed runs at their places
renumbered : (read renewed listed : List Occurrence) (runs : List RunEnd) → read ≡ renewed → renewed ≡ map_numbered placed 0 listed → listed ≡ map (at_moment run_process run_phase) runs →
    read ≡ at_places run_process 0 runs
renumbered read renewed listed runs same put had = same ∙ put ∙ ap (map_numbered placed 0) had ∙ places-again run_process run_phase 0 runs

pub put_at_places-requires : goal.put_at_places-requires
put_at_places-requires c =
    let long = ap (λ (l : List Occurrence). length l) c.in_ok-list_phases.ensures in
    let mapped = length-map c.args.runs.now (at_moment run_process run_phase) in
    omega (arith, long, mapped)

pub refill-requires-clause-numbers : goal.refill-requires-clause-numbers
refill-requires-clause-numbers c =
    subst (λ (l : List Occurrence). All (λ (o : Occurrence). o.number < length c.args.self.now.phases) l) (sym (c.deref.ensures.value ∙ c.in_ok-list_phases.ensures))
    (All-map (λ (o : Occurrence). o.number < length c.args.self.now.phases) (at_moment run_process run_phase) c.args.runs.now c.requires.within)

pub refill-requires-clause-ascending : goal.refill-requires-clause-ascending
refill-requires-clause-ascending c =
    subst (λ (l : List Occurrence). IsNonDecreasingBy moment_of l) (sym (c.deref.ensures.value ∙ c.in_ok-list_phases.ensures))
    (map-rises (at_moment run_process run_phase) moment_of c.args.runs.now c.requires.rise)

pub refill-requires-2-clause-ascending : goal.refill-requires-2-clause-ascending
refill-requires-2-clause-ascending c =
    subst (λ (l : List Occurrence). IsNonDecreasingBy moment_of l) (sym (renumbered c.deref-2.result.now c.put_at_places.new.occurrences.items c.list_phases.new.occurrences.items c.args.runs.now c.deref-2.ensures.value
    c.put_at_places.ensures c.in_ok-list_phases.ensures)) (places-rise run_process c.args.runs.now)

pub refill-requires-2-clause-numbers : goal.refill-requires-2-clause-numbers
refill-requires-2-clause-numbers c =
    subst (λ n. All (λ (o : Occurrence). o.number < n) c.deref-2.result.now) (sym c.requires.same)
    (subst (λ (l : List Occurrence). All (λ (o : Occurrence). o.number < length c.args.self.now.phases) l) (sym (renumbered c.deref-2.result.now c.put_at_places.new.occurrences.items c.list_phases.new.occurrences.items c.args.runs.now c.deref-2.ensures.value
    c.put_at_places.ensures c.in_ok-list_phases.ensures))
    (places-within run_process (length c.args.self.now.phases) 0 c.args.runs.now c.requires.within))

pub returns : goal.returns
returns c = record {
  rise = c.requires.rise;
  phases_are = subst (λ l. IsIndexOf (length c.args.self.now.phases) l c.refill.new.self) (c.deref.ensures.value ∙ c.in_ok-list_phases.ensures) c.in_ok-refill.ensures.ok;
  places_are =
      subst (λ n. IsIndexOf n (at_places run_process 0 c.args.runs.now) c.refill-2.new.self) c.requires.same
      (subst (λ l. IsIndexOf (length c.args.self.now.places) l c.refill-2.new.self)
      (renumbered c.deref-2.result.now c.put_at_places.new.occurrences.items c.list_phases.new.occurrences.items c.args.runs.now c.deref-2.ensures.value c.put_at_places.ensures
      c.in_ok-list_phases.ensures) c.in_ok-refill-2.ensures.ok);
  latest_are = c.in_ok-list_latest.ensures;
}
