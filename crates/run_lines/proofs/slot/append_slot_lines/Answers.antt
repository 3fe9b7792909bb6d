-- One phase more is written, and at the end all are.
use Rattle.std.proofs.Common.{◌≡◌, ℕ, ◌+◌, ◌<◌, List, [], ◌∷◌, ◌++◌, map, length, get_or, drop, sym, ap, subst, ◌∙◌, append_assoc, append-nil}
use Rattle.std.proofs.lemmas.List.{drop_more, drop_all}
use Rattle.vf_base.specs.Lists.{AllHold}
use Rattle.v_design.specs.States.{Event}
use Rattle.causal_monitor.specs.declared.slot.Actor.{Actor}
use Rattle.slot_record.specs.Records.{event_of}
use Rattle.cert_text.specs.Fits.{RunFits}
use Rattle.cert_laws.specs.Written.{slot_lines}
use Rattle.run_lines.specs.Open.{lines_text, text-append, fits-append}
use Rattle.run_lines.specs.Slots.{phase_lines, phases_lines}
use Rattle.run_lines.proofs.SlotLines.{slot-lines}
use Rattle.run_lines.proofs.slot.append_slot_lines.Goals as goal

-- the events of some phases
abbrev events_in : List (List Actor) → List (List Event)
events_in phases = map (λ (actors : List Actor). map event_of actors) phases

-- the phase that is next stands before the others
module _ (time place : ℕ) (phases : List (List Actor)) (actors item : List Actor) (low : place < length phases) (is : item ≡ get_or phases place item) (same : actors ≡ item) where
  next-phase : phases_lines time place (events_in (actors ∷ drop (place + 1) phases)) ≡ phases_lines time place (events_in (drop place phases))
  next-phase = ap (λ l. phases_lines time place (events_in l)) (ap (λ x. x ∷ drop (place + 1) phases) (same ∙ is) ∙ sym (drop_more phases place item low))

  text-more : (out new all : List ℕ) → out ++ lines_text (phases_lines time place (events_in (drop place phases))) ≡ all → new ≡ out ++ lines_text (phase_lines time place (map event_of actors)) →
      new ++ lines_text (phases_lines time (place + 1) (events_in (drop (place + 1) phases))) ≡ all
  text-more out new all had added =
      let behind = phases_lines time (place + 1) (events_in (drop (place + 1) phases)) in
      let own = phase_lines time place (map event_of actors) in
      ap (λ l. l ++ lines_text behind) added ∙ append_assoc out (lines_text own) (lines_text behind) ∙ ap (λ l. out ++ l) (sym (text-append own behind))
      ∙ ap (λ l. out ++ lines_text l) next-phase ∙ had

  fits-more : AllHold RunFits (phase_lines time place (map event_of actors)) → AllHold RunFits (phases_lines time (place + 1) (events_in (drop (place + 1) phases))) →
      AllHold RunFits (phases_lines time place (events_in (drop place phases)))
  fits-more own behind =
      subst (AllHold RunFits) next-phase
      (fits-append (phase_lines time place (map event_of actors)) (phases_lines time (place + 1) (events_in (drop (place + 1) phases))) own behind)

pub phases-preserved : goal.phases-preserved
phases-preserved c =
    let time = c.args.log.now.time in
    let place = c.phases.place in
    let phases = c.as_slice-phases.result.now in
    record {
      text =
          text-more time place phases c.as_slice.result.now c.index-phases-place.result c.phases-test.true c.index-phases-place.is c.as_slice.ensures c.phases.out.items c.append_phase.new.out.items _
          c.phases.invariant.text c.in_ok-append_phase.ensures.text;
      fits =
          λ behind. c.phases.invariant.fits
          (fits-more time place phases c.as_slice.result.now c.index-phases-place.result c.phases-test.true c.index-phases-place.is c.as_slice.ensures c.in_ok-append_phase.ensures.fits behind);
    }

pub returns : goal.returns
returns c = λ machine first slot logged at.
    let time = c.args.log.now.time in
    let none : phases_lines time c.phases.place (events_in (drop c.phases.place c.as_slice-phases.result.now)) ≡ [] =
    ap (λ l. phases_lines time c.phases.place (events_in l)) (drop_all c.phases.place c.as_slice-phases.result.now c.phases-test.false) in
    let all : phases_lines time 0 (events_in c.args.log.now.actors) ≡ slot_lines slot = (λ i. phases_lines (at i) 0 (logged.actors_are i)) ∙ slot-lines machine slot in (
      sym (ap (λ l. c.phases.out.items ++ lines_text l) none ∙ append-nil c.phases.out.items) ∙ c.phases.invariant.text ∙ ap (λ l. c.args.out.now.items ++ lines_text l) all,
      subst (AllHold RunFits) all (c.phases.invariant.fits (subst (AllHold RunFits) (sym none) tt)),
    )
