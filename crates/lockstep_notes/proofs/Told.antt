-- Likes in the good machine's block.
use Rattle.std.proofs.Common.{◌≡◌, ℕ, zero, suc, ◌+◌, ◌-◌, ◌<◌, ◌≤◌, List, [], ◌∷◌, ◌++◌, map, length, drop, Bool, true, false, refl, sym, ap, subst, ◌∙◌, inl, inr, arith, append_assoc}
use Rattle.std.specs.Prelude.{◌⊎◌, Option, Some, None, slice_get}
use Rattle.std.proofs.lemmas.Bool.{eqb-true, eq-eqb}
use Rattle.vf_base.specs.Lists.{joined}
use Rattle.vf_base.specs.Base.{object_number}
use Rattle.vf_base.specs.declared.finding.AccessKind.{AccessKind}
use Rattle.vf_base.specs.declared.finding.AccessKind.TheVariants.{Read, Await}
use Rattle.v_design.specs.Trees.{Entry}
use Rattle.v_design.specs.Designs.{FlatDesign, Machine, TestPlan, good_machine}
use Rattle.v_design.specs.States.{State, Event, Step, LaneStep, Evaluation, NetUpdate, after, some_in, process_at}
use Rattle.v_design.specs.Runs.{happened}
use Rattle.v_design.specs.Plain.{entry_of}
use Rattle.v_design.specs.declared.tree.WaitEntry.{WaitEntry}
use Rattle.v_design.specs.Accesses.{Reading, Awaiting, waiting_entries}
use Rattle.v_design.specs.PhaseLogs.{is_step_of, is_lane_of, log_of}
use Rattle.copy_laws.specs.Filter.{IsIn}
use Rattle.process_code.specs.Points.{activity_of}
use Rattle.process_code.specs.declared.code.Code.{Code}
use Rattle.process_code.specs.declared.state.ProcState.{ProcState}
use Rattle.run_ends.specs.RunEnds.{IsCodeAt, AreCodesOf}
use Rattle.good_trace.specs.RunsKept.{Stands}
use Rattle.trace_window.specs.Acted.{process_stepped, is_number, stepped_at}
use Rattle.trace_window.specs.Moments.{Seen as SeenEvent, seen_from, phase_seen, window_events}
use Rattle.block_filter.specs.Blocks.{all_accesses}
use Rattle.block_changes.specs.Changes.{steps_process, steps_lane}
use Rattle.causal_monitor.specs.Notes.{entry_on, act_of}
use Rattle.causal_monitor.specs.declared.noted.Noted.{Noted}
use Rattle.causal_monitor.specs.declared.noted.WaitEdge.{WaitEdge}
use Rattle.block_told.specs.Tells.{Seen, noted_seen}
use Rattle.lockstep_waits.specs.Begun.{WaitsBehind, BeginsToWait, LastWaitsAreBegun}
use Rattle.window_tests.specs.Between.{SomeMoment, read_at}
use Rattle.window_tests.specs.Stretches.{StretchesAreTold}
use Rattle.lockstep_race.specs.Reads.{ReadsObject}
use Rattle.window_tests.specs.lockstep_slots.Places.{Place, state_there}
use Rattle.window_tests.specs.window_places.Windows.{seen_left, IsAtMoment}
use Rattle.race_notes.proofs.Noted.{or-left, or-right}
use Rattle.lockstep_notes.specs.Likes.{LikeSeen, IsBlockBetween, HasLikeBetween, IsWaiting}

-- A step of a process in a block

get-dropped : {A : Type 0} (xs : List A) (first number : ℕ) → slice_get (drop first xs) number ≡ slice_get xs (first + number)
get-dropped xs zero number = let z : number ≡ 0 + number = omega arith in ap (slice_get xs) z
get-dropped [] (suc first) number = refl
get-dropped (x ∷ xs) (suc first) number = let z : suc (first + number) ≡ suc first + number = omega arith in get-dropped xs first number ∙ ap (slice_get (x ∷ xs)) z

-- whether the event of a number, if there is one, is a step of a process or of its lane
abbrev steps_here : ℕ → Option SeenEvent → Bool
steps_here process found = elim found as (λ _. Bool) [ None ↦ false | Some seen ↦ is_number process (process_stepped seen.event) ]

step-is : (process : ℕ) (event : Event) → is_number process (process_stepped event) ≡ true → (is_step_of process event ≡ true) ⊎ (is_lane_of process event ≡ true)
step-is process (Step number) e = inl (eq-eqb process number (sym (eqb-true number process e)))
step-is process (LaneStep number) e = inr (eq-eqb process number (sym (eqb-true number process e)))
step-is process (Evaluation node) e = cc
step-is process (NetUpdate node) e = cc

in-block : (machine : Machine) (state : State) (events : List Event) (rest : List SeenEvent) (process number : ℕ) → number < length events →
    steps_here process (slice_get (seen_from machine state events ++ rest) number) ≡ true → (steps_process events process ≡ true) ⊎ (steps_lane events process ≡ true)
in-block machine state [] rest process number low e = absurd (omega (arith, low))
in-block machine state (event ∷ events) rest process zero low e = elim (step-is process event e) [
  | inl s ↦ inl (or-left (is_step_of process event) (steps_process events process) s)
  | inr l ↦ inr (or-left (is_lane_of process event) (steps_lane events process) l)
]
in-block machine state (event ∷ events) rest process (suc number) low e =
    elim (in-block machine (after machine state event) events rest process number (omega (arith, low)) e) [
      | inl s ↦ inl (or-right (is_step_of process event) (steps_process events process) s)
      | inr l ↦ inr (or-right (is_lane_of process event) (steps_lane events process) l)
    ]

seen-joined : (machine : Machine) (state : State) (first more : List Event) (rest : List SeenEvent) →
    (others : List SeenEvent) × (seen_from machine state (first ++ more) ++ rest ≡ seen_from machine state first ++ others)
seen-joined machine state [] more rest = (seen_from machine state more ++ rest, refl)
seen-joined machine state (event ∷ first) more rest =
    let r = seen-joined machine (after machine state event) first more rest in (r.0, ap (λ l. record { before = state; event = event } ∷ l) r.1)

-- behind a moment the window has the events of the block, and others
block-there : (design : FlatDesign) (plan : TestPlan) (begins ends first : ℕ) (place : Place) (ones more : List Event) → IsAtMoment design plan begins ends first place →
    place.left ≡ ones ++ more →
    (others : List SeenEvent) × (drop first (window_events design plan begins ends) ≡ seen_from (good_machine design) (state_there (good_machine design) place) ones ++ others)
block-there design plan begins ends first place ones more at left =
    let machine = good_machine design in
    let there = state_there machine place in
    let later = joined (map (phase_seen machine) place.later) in
    let r = seen-joined machine there ones more (later ++ at.others) in (
      r.0,
      at.seen_are ∙ append_assoc (seen_from machine there place.left) later at.others ∙ ap (λ l. seen_from machine there l ++ (later ++ at.others)) left ∙ r.1,
    )

stepped : (design : FlatDesign) (plan : TestPlan) (begins ends first end process : ℕ) (lane : Bool) (shows : State → Type 0) (place : Place) (ones more : List Event) →
    IsBlockBetween design plan begins ends first end lane shows place ones more → lane ≡ false → SomeMoment (stepped_at (window_events design plan begins ends) process) first end →
    steps_process ones process ≡ true
stepped design plan begins ends first end process lane shows place ones more is none at =
    elim (in-block (good_machine design) (state_there (good_machine design) place) ones block.0 process number low here) [
      | inl s ↦ s
      | inr l ↦ absurd (let z : true ≡ false = sym l ∙ is.no_lane none process in cc)
    ]
  where
    block : (others : List SeenEvent) × (drop first (window_events design plan begins ends) ≡ seen_from (good_machine design) (state_there (good_machine design) place) ones ++ others)
    block = block-there design plan begins ends first place ones more is.at is.left

    number : ℕ
    number = at.moment - first

    low : number < length ones
    low = let since = at.since in let before = at.before in let end_is = is.end_is in omega (arith, since, before, end_is)

    here : steps_here process (slice_get (seen_from (good_machine design) (state_there (good_machine design) place) ones ++ block.0) number) ≡ true
    here =
        let since = at.since in
        let back : first + number ≡ at.moment = omega (arith, since) in
        ap (λ l. steps_here process (slice_get l number)) (sym block.1) ∙ ap (steps_here process) (get-dropped (window_events design plan begins ends) first number)
        ∙ ap (λ n. steps_here process (slice_get (window_events design plan begins ends) n)) back ∙ at.passes

-- The state that is shown of a process waits on what its code tells

pub in-mapped : {A B : Type 0} (f : A → B) (x : A) (xs : List A) → IsIn x xs → IsIn (f x) (map f xs)
in-mapped f x [] there = absurd there
in-mapped f x (y ∷ xs) (inl e) = inl (ap f e)
in-mapped f x (y ∷ xs) (inr there) = inr (in-mapped f x xs there)

pub waiting : (design shown : FlatDesign) (shows : State → Type 0) (process : ℕ) (codes : List Code) (code : Code) (own : ProcState) (entries : List WaitEntry) (entry : Entry) →
    AreCodesOf design codes → slice_get codes process ≡ Some code → ((state : State) → shows state → Stands shown process (process_at state process).activity own) →
    map entry_of entries ≡ waiting_entries (activity_of code own) → IsIn entry (map entry_of entries) → shown ≡ design → (state : State) → shows state →
    IsIn entry (waiting_entries (process_at state process).activity)
waiting design shown shows process codes code own entries entry are at stand entries_are is_in same state is =
    let code_at = subst (λ (d : FlatDesign). IsCodeAt d process code) (sym same) (are.each process code at) in
    subst (IsIn entry) (entries_are ∙ ap waiting_entries ((stand state is).does code code_at)) is_in

-- Accesses as they are told

abbrev act-seen : Noted → AccessKind → Seen
act-seen noted kind = record {
  object = object_number noted.access.object;
  act = act_of kind noted.old noted.new (entry_on (object_number noted.access.object) noted.entry);
}

entry-object : (object : ℕ) (edge : Option WaitEdge) → (entry_on object edge).object ≡ object
entry-object object None = refl
entry-object object (Some edge) = refl

abbrev read-of : ℕ → Seen
read-of object = record { object = object; act = Reading }

abbrev wait-on : ℕ → Entry → Seen
wait-on object entry = record { object = object; act = Awaiting entry }

-- a read
pub read-seen : (noted : Noted) → noted.access.kind ≡ Read → read-of (object_number noted.access.object) ≡ noted_seen noted
read-seen noted kind_is = ap (act-seen noted) (sym kind_is)

-- the beginning of a wait
pub wait-seen : (noted : Noted) → noted.access.kind ≡ Await →
    wait-on (entry_on (object_number noted.access.object) noted.entry).object (entry_on (object_number noted.access.object) noted.entry) ≡ noted_seen noted
wait-seen noted kind_is =
    let object = object_number noted.access.object in
    ap (λ (o : ℕ). wait-on o (entry_on object noted.entry)) (entry-object object noted.entry) ∙ ap (act-seen noted) (sym kind_is)

-- Likes

pub read-like : StretchesAreTold → (design : FlatDesign) (plan : TestPlan) (begins ends first end : ℕ) (lane : Bool) (shown : FlatDesign) (shows : State → Type 0) (object : ℕ) →
    SomeMoment (read_at (good_machine design) (window_events design plan begins ends) object) first end →
    HasLikeBetween design plan begins ends first end lane shown shows (record { object = object; act = Reading })
read-like law design plan begins ends first end lane shown shows object at place ones more same is =
    let reads = law.reads design plan begins ends first place ones object (record { at = is.at; more = more; left = is.left })
    (subst (SomeMoment (read_at (good_machine design) (window_events design plan begins ends) object) first) is.end_is at) in
    record { one = reads.access; is_in = reads.is_in; object_is = reads.object_is; act_is = reads.reads }

pub wait-like : LastWaitsAreBegun → (design : FlatDesign) (plan : TestPlan) (begins ends first end : ℕ) (lane : Bool) (shown : FlatDesign) (shows : State → Type 0) (process : ℕ) (entry : Entry) →
    lane ≡ false → IsWaiting design (window_events design plan begins ends) first end shown shows process entry →
    HasLikeBetween design plan begins ends first end lane shown shows (record { object = entry.object; act = Awaiting entry })
wait-like law design plan begins ends first end lane shown shows process entry none waiting place ones more same is =
    let machine = good_machine design in
    let there = state_there machine place in
    let begun = law machine there ones process entry (record {
      steps = stepped design plan begins ends first end process lane shows place ones more is none waiting.stepped;
      waits = waiting.waits same (happened machine there ones) is.shown;
    }) in
    record { one = begun.access; is_in = begun.is_in; object_is = begun.object_is; act_is = begun.act }
