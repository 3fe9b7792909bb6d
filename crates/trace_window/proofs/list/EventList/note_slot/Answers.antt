use Rattle.std.proofs.Common.{◌≡◌, ℕ, ◌<◌, ◌≤◌, ◌+◌, ◌∙◌, ◌++◌, List, length, get_or, map, take, sym, subst, arith}
use Rattle.std.specs.List.{AllZip}
use Rattle.std.proofs.lemmas.List.{take_all}
use Rattle.std.proofs.lemmas.Slice.Zip.{AllZip-long}
use Rattle.vf_base.specs.Lists.{joined}
use Rattle.causal_monitor.specs.Phases.{PhaseOfSlot}
use Rattle.causal_monitor.specs.declared.slot.Actor.{Actor}
use Rattle.v_design.specs.Accesses.{ObjectAccess}
use Rattle.v_design.specs.States.{Event}
use Rattle.slot_record.specs.Records.{event_of}
use Rattle.trace_window.specs.declared.list.EventList.{EventList}
use Rattle.trace_window.specs.declared.sizes.Sizes.{Sizes}
use Rattle.trace_window.specs.Gathered.{Gathers}
use Rattle.trace_window.specs.Listed.{phase_accesses, HasActors}
use Rattle.trace_window.specs.GatherLaws.{Gathers-none, Gathers-more}
use Rattle.trace_window.proofs.Gathering.{slot_accesses-more, slot_events-more, zip-at}
use Rattle.trace_window.proofs.list.EventList.note_slot.Goals as goal

-- in each event of each phase somebody acts
zipped : (phases others : List PhaseOfSlot) (actors own : List (List Actor)) → phases ≡ others → actors ≡ own → AllZip HasActors others own → AllZip HasActors phases actors
zipped phases others actors own same also all = subst (λ p. AllZip HasActors p actors) (sym same) (subst (λ a. AllZip HasActors others a) (sym also) all)

as-many : (phases : List PhaseOfSlot) (actors : List (List Actor)) → AllZip HasActors phases actors → length actors ≡ length phases
as-many phases actors all = AllZip-long HasActors phases actors all

-- one phase more
one-more : (sizes : Sizes) (phases : List PhaseOfSlot) (actors : List (List Actor)) (i : ℕ) (phase : PhaseOfSlot) (own read : List Actor) (old between new : EventList) →
    AllZip HasActors phases actors → i < length phases → phase ≡ get_or phases i phase → own ≡ get_or actors i own → read ≡ own →
    Gathers sizes (joined (map phase_accesses (take i phases))) (joined (map (λ (a : List Actor). map event_of a) (take i actors))) old between →
    Gathers sizes (phase_accesses phase) (map event_of read) between new →
    Gathers sizes (joined (map phase_accesses (take (i + 1) phases))) (joined (map (λ (a : List Actor). map event_of a) (take (i + 1) actors))) old new
one-more sizes phases actors i phase own read old between new all low at here same had grown =
    let long = as-many phases actors all in
    subst (λ (l : List (List ObjectAccess)). Gathers sizes l (joined (map (λ (a : List Actor). map event_of a) (take (i + 1) actors))) old new) (sym (slot_accesses-more phases i phase low at))
    (subst (λ (l : List Event). Gathers sizes (joined (map phase_accesses (take i phases)) ++ phase_accesses phase) l old new) (sym (slot_events-more actors i own (omega (arith, long, low)) here))
    (Gathers-more sizes (joined (map phase_accesses (take i phases))) (phase_accesses phase) (joined (map (λ (a : List Actor). map event_of a) (take i actors))) (map event_of own) old between new had
    (subst (λ a. Gathers sizes (phase_accesses phase) (map event_of a) between new) same grown)))

-- all phases
all-noted : (sizes : Sizes) (phases others : List PhaseOfSlot) (actors own : List (List Actor)) (i : ℕ) (old new : EventList) → phases ≡ others → actors ≡ own → AllZip HasActors phases actors →
    length phases ≤ i → Gathers sizes (joined (map phase_accesses (take i phases))) (joined (map (λ (a : List Actor). map event_of a) (take i actors))) old new →
    Gathers sizes (joined (map phase_accesses others)) (joined (map (λ (a : List Actor). map event_of a) own)) old new
all-noted sizes phases others actors own i old new same also all past had =
    let long = as-many phases actors all in
    subst (λ p. Gathers sizes (joined (map phase_accesses p)) (joined (map (λ (a : List Actor). map event_of a) own)) old new) (take_all i phases past ∙ same)
    (subst (λ l. Gathers sizes (joined (map phase_accesses (take i phases))) (joined (map (λ (a : List Actor). map event_of a) l)) old new) (take_all i actors (omega (arith, long, past)) ∙ also) had)

pub phases-init : goal.phases-init
phases-init c = Gathers-none c.args.sizes c.args.self.now

pub bounds-actors-number : goal.bounds-actors-number
bounds-actors-number c =
    let long = as-many c.as_slice-phases.result.now c.as_slice-actors.result.now
    (zipped c.as_slice-phases.result.now c.args.log.now.phases c.as_slice-actors.result.now c.args.log.now.actors c.as_slice-phases.ensures c.as_slice-actors.ensures c.requires) in
    omega (arith, long, c.phases-test.true)

pub note_phase-requires : goal.note_phase-requires
note_phase-requires c =
    subst (HasActors c.index-phases-number.result) (sym c.as_slice.ensures)
    (zip-at HasActors c.as_slice-phases.result.now c.as_slice-actors.result.now c.phases.number c.index-phases-number.result c.index-actors-number.result
    (zipped c.as_slice-phases.result.now c.args.log.now.phases c.as_slice-actors.result.now c.args.log.now.actors c.as_slice-phases.ensures c.as_slice-actors.ensures c.requires)
    c.phases-test.true c.index-phases-number.is c.index-actors-number.is)

pub phases-preserved : goal.phases-preserved
phases-preserved c =
    one-more c.args.sizes c.as_slice-phases.result.now c.as_slice-actors.result.now c.phases.number c.index-phases-number.result c.index-actors-number.result c.as_slice.result.now c.args.self.now
    c.phases.self c.note_phase.new.self
    (zipped c.as_slice-phases.result.now c.args.log.now.phases c.as_slice-actors.result.now c.args.log.now.actors c.as_slice-phases.ensures c.as_slice-actors.ensures c.requires)
    c.phases-test.true c.index-phases-number.is c.index-actors-number.is c.as_slice.ensures c.phases.invariant c.in_ok-note_phase.ensures

pub returns : goal.returns
returns c =
    all-noted c.args.sizes c.as_slice-phases.result.now c.args.log.now.phases c.as_slice-actors.result.now c.args.log.now.actors c.phases.number c.args.self.now c.phases.self
    c.as_slice-phases.ensures c.as_slice-actors.ensures
    (zipped c.as_slice-phases.result.now c.args.log.now.phases c.as_slice-actors.result.now c.args.log.now.actors c.as_slice-phases.ensures c.as_slice-actors.ensures c.requires)
    c.phases-test.false c.phases.invariant
