-- A run beside one without conflict: what a part of it has done stands for events of the other, and each part of the state is as that run has it.
use Rattle.std.proofs.Common.{◌≡◌, ℕ, zero, suc, ◌<◌, List, [], ◌∷◌, Bool, true, false, refl, sym, ap, subst, ◌∙◌, ◌⊎◌, inl, inr, arith}
use Rattle.std.specs.Prelude.{◌≢◌, Option, Some, None, slice_get}
use Rattle.vf_base.specs.Lists.{has}
use Rattle.v_design.specs.Designs.{Machine}
use Rattle.v_design.specs.Assignments.{ValueUpdate, value_at}
use Rattle.v_design.specs.Processes.{Activity}
use Rattle.v_design.specs.States.{State, LaterUpdate, Event, Step, LaneStep, found_or, is_process_event, process_at, some_entry}
use Rattle.v_design.specs.Accesses.{waiting_entries}
use Rattle.v_design.specs.PhaseLogs.{may_cause, cause_of, is_lane_of}
use Rattle.order_laws.proofs.Notes.{new_notes}
use Rattle.v_design.specs.Laws.{same_event, places_of}
use Rattle.order_laws.proofs.MayCause.{activity_at}
use Rattle.order_laws.proofs.PathLaws.{reached}
use Rattle.order_laws.proofs.QuietNets.{event_changes, run_changes}
use Rattle.order_laws.proofs.RunStates.{first_of, state_at, at_next, bare, noted, accesses_before, cause_before, cause_found, cause_is, cause_none, none_caused}
use Rattle.order_laws.proofs.Woken.{changed_entry, woken_by, woken_after, touches_process, touches-how, wakes-touches}
use Rattle.order_laws.proofs.Cells.{Cell, below_or_same, Stays}
use Rattle.order_laws.proofs.Runs.{IsRun, follows_at, changes_there, same_there}
use Rattle.order_laws.proofs.FreeRuns.{wild_in, activity-stays}
use Rattle.order_laws.proofs.DoneChanges.{done_reach}

-- What touches the parts of a state

abbrev pub on_event : (Event → Bool) → Option Event → Bool
on_event test None = false
on_event test (Some event) = test event

-- whether the event at a place touches a process's activity
abbrev pub process_there : Machine → State → List Event → ℕ → ℕ → Bool
process_there machine state first p place = on_event (touches_process machine p (state_at machine state first place)) (slice_get first place)

abbrev pub lane_there : List Event → ℕ → ℕ → Bool
lane_there first p place = on_event (is_lane_of p) (slice_get first place)

-- what a process does, its later updates, and what caused its next step
pub record ProcessPart : Type 0 where
  pub activity : Activity
  pub later : List LaterUpdate
  pub cause : Option ℕ

pub record LanePart : Type 0 where
  pub lane : List ValueUpdate
  pub cause : Option ℕ

abbrev pub process_part : Machine → State → List Event → ℕ → ℕ → ProcessPart
process_part machine state first p place = record {
  activity = activity_at (state_at machine state first place) p;
  later = (process_at (state_at machine state first place) p).later;
  cause = cause_before machine state first place (Step p);
}

abbrev pub lane_part : Machine → State → List Event → ℕ → ℕ → LanePart
lane_part machine state first p place = record { lane = (process_at (state_at machine state first place) p).lane; cause = cause_before machine state first place (LaneStep p) }

-- the event of the other run that an event stands for
abbrev pub through : (ℕ → Option ℕ) → Option ℕ → Option ℕ
through matched None = None
through matched (Some j) = matched j

abbrev pub part_through : Machine → State → List Event → (ℕ → Option ℕ) → ℕ → ℕ → ProcessPart
part_through machine state events matched p place = record {
  activity = activity_at (state_at machine state events place) p;
  later = (process_at (state_at machine state events place) p).later;
  cause = through matched (cause_before machine state events place (Step p));
}

abbrev pub lane_through : Machine → State → List Event → (ℕ → Option ℕ) → ℕ → ℕ → LanePart
lane_through machine state events matched p place = record {
  lane = (process_at (state_at machine state events place) p).lane;
  cause = through matched (cause_before machine state events place (LaneStep p));
}

-- causes of two events: neither has one, or one stands for the other
abbrev pub CauseSame : (ℕ → Option ℕ) → Option ℕ → Option ℕ → Type 0
CauseSame matched one other = ((one ≡ None) × (other ≡ None)) ⊎ ((j : ℕ) × (c : ℕ) × (one ≡ Some j) × (other ≡ Some c) × (matched j ≡ Some c))

-- an event that stands for one of the other run
pub record Paired (machine : Machine) (state : State) (first events : List Event) (matched : ℕ → Option ℕ) (j i : ℕ) : Type 0 where
  pub event : Event
  pub stands : slice_get events j ≡ Some event
  pub first_stands : slice_get first i ≡ Some event
  pub accesses : accesses_before machine state events j event ≡ accesses_before machine state first i event
  pub process : (noted machine state events j event).process ≡ (noted machine state first i event).process
  pub line : (noted machine state events j event).line ≡ (noted machine state first i event).line
  pub cause : CauseSame matched (cause_before machine state events j event) (cause_before machine state first i event)
  pub changes : (object : ℕ) → wild_in machine state first object ≡ false → changes_there machine state events object j ≡ changes_there machine state first object i

-- an event that stands for none: one of a node that changes nothing but wild nets, and ends no wait
pub record Silent (machine : Machine) (state : State) (first events : List Event) (j : ℕ) (event : Event) : Type 0 where
  pub of_node : is_process_event event ≡ false
  pub changes : (object : ℕ) → wild_in machine state first object ≡ false → changes_there machine state events object j ≡ false
  pub processes : (p : ℕ) → touches_process machine p (state_at machine state events j) event ≡ false
  pub reaches : (object : ℕ) → reached machine.design (event_changes machine (state_at machine state events j) event) object ≡ 0

-- the places of the one run stand for those of the other
abbrev pub Maps : (ℕ → Option ℕ) → List ℕ → List ℕ → Type 0
Maps matched [] [] = Unit {0}
Maps matched [] (i ∷ is) = ⊥
Maps matched (j ∷ js) [] = ⊥
Maps matched (j ∷ js) (i ∷ is) = (matched j ≡ Some i) × Maps matched js is

abbrev pub step_there : List Event → Event → ℕ → Bool
step_there first event place = on_event (same_event event) (slice_get first place)

abbrev pub steps_to : List Event → Event → ℕ → List ℕ
steps_to first event place = places_of event 0 (first_of place first)

-- the steps of one kind that were taken are the first ones of the other run
pub record History (first events : List Event) (n : ℕ) (matched : ℕ → Option ℕ) (done : List ℕ) (event : Event) : Type 0 where
  pub steps : List ℕ
  pub maps : Maps matched (steps_to events event n) steps
  pub cell : Cell (step_there first event) (steps_to first event) done steps

pub record Compared (machine : Machine) (state : State) (first events : List Event) (n : ℕ) (matched : ℕ → Option ℕ) (done : List ℕ) : Type 0 where
  pub bound : (j i : ℕ) → matched j ≡ Some i → j < n
  pub pairs : (j i : ℕ) → matched j ≡ Some i → Paired machine state first events matched j i
  pub found : (i : ℕ) → has done i ≡ true → (j : ℕ) × (matched j ≡ Some i)
  pub listed : (j i : ℕ) → matched j ≡ Some i → has done i ≡ true
  pub single : (j l i : ℕ) → matched j ≡ Some i → matched l ≡ Some i → j ≡ l
  pub silent : (j : ℕ) (event : Event) → j < n → matched j ≡ None → slice_get events j ≡ Some event → Silent machine state first events j event
  pub values : (object : ℕ) → wild_in machine state first object ≡ false →
      Cell (changes_there machine state first object) (λ k. value_at (state_at machine state first k).values object) done (value_at (state_at machine state events n).values object)
  pub processes : (p : ℕ) → Cell (process_there machine state first p) (process_part machine state first p) done (part_through machine state events matched p n)
  pub lanes : (p : ℕ) → Cell (lane_there first p) (lane_part machine state first p) done (lane_through machine state events matched p n)
  pub reach : (object : ℕ) → reached machine.design (run_changes machine state (first_of n events)) object ≡ done_reach machine state done first object
  pub histories : (event : Event) → is_process_event event ≡ true → History first events n matched done event

-- What isn't touched stays

first_of-past : {A : Type 0} (xs : List A) (k : ℕ) → slice_get xs k ≡ None → first_of (suc k) xs ≡ first_of k xs
first_of-past [] zero e = refl
first_of-past [] (suc k) e = refl
first_of-past (x ∷ xs) zero e = cc
first_of-past (x ∷ xs) (suc k) e = ap (λ ys. x ∷ ys) (first_of-past xs k e)

pub cause_past : (machine : Machine) (state : State) (events : List Event) (k : ℕ) (later : Event) → slice_get events k ≡ None →
    cause_before machine state events (suc k) later ≡ cause_before machine state events k later
cause_past machine state events k later e = ap (λ es. cause_of machine (new_notes machine [] state es) later) (first_of-past events k e)

-- the cause so far is the last event that may cause
pub cause_touched : (machine : Machine) (state : State) (events : List Event) (k : ℕ) (event later : Event) → slice_get events k ≡ Some event →
    may_cause machine later (bare (state_at machine state events k) event) ≡ true → cause_before machine state events (suc k) later ≡ Some k
cause_touched machine state events k event later e m =
    cause_is machine state events (suc k) later k
    (record { event = event; earlier = omega arith; stands = e; may = m; latest = λ l other a b f. absurd (omega (arith, a, b)) })

pub cause_untouched : (machine : Machine) (state : State) (events : List Event) (k : ℕ) (event later : Event) → slice_get events k ≡ Some event →
    may_cause machine later (bare (state_at machine state events k) event) ≡ false → cause_before machine state events (suc k) later ≡ cause_before machine state events k later
cause_untouched machine state events k event later e m = go (cause_before machine state events k later) refl
  where
    here : (l : ℕ) (other : Event) → l ≡ k → slice_get events l ≡ Some other → may_cause machine later (bare (state_at machine state events l) other) ≡ false
    here l other same f =
        subst (λ n. may_cause machine later (bare (state_at machine state events n) other) ≡ false) (sym same)
        (subst (λ ev. may_cause machine later (bare (state_at machine state events k) ev) ≡ false) (ap (found_or event) (sym e ∙ ap (slice_get events) (sym same) ∙ f)) m)

    go : (found : Option ℕ) → cause_before machine state events k later ≡ found → cause_before machine state events (suc k) later ≡ found
    go None c =
        cause_none machine state events (suc k) later
        (λ l other b f. elim (below_or_same l k b) [
          | inl low ↦ none_caused machine state events k later c l other low f
          | inr same ↦ here l other same f
        ])
    go (Some j) c =
        let r = cause_found machine state events k later j c in
        cause_is machine state events (suc k) later j
        (record {
          event = r.event;
          earlier = (let b : j < k = r.earlier in omega (arith, b));
          stands = r.stands;
          may = r.may;
          latest = λ l other a b f. elim (below_or_same l k b) [
            | inl low ↦ r.latest l other a low f
            | inr same ↦ here l other same f
          ];
        })

pub process_stays : (machine : Machine) (state : State) (first : List Event) (p : ℕ) → IsRun machine state first → Stays (process_there machine state first p) (process_part machine state first p)
process_stays machine state first p r k f = λ i. record { activity = both.0 i; later = both.1 i; cause = cause (slice_get first k) refl i }
  where
    told : (event : Event) → slice_get first k ≡ Some event → touches_process machine p (state_at machine state first k) event ≡ false
    told event e = sym (ap (on_event (touches_process machine p (state_at machine state first k))) e) ∙ f

    both : (activity_at (state_at machine state first (suc k)) p ≡ activity_at (state_at machine state first k) p)
        × ((process_at (state_at machine state first (suc k)) p).later ≡ (process_at (state_at machine state first k) p).later)
    both = activity-stays machine state first p k r told

    cause : (found : Option Event) → slice_get first k ≡ found → cause_before machine state first (suc k) (Step p) ≡ cause_before machine state first k (Step p)
    cause None e = cause_past machine state first k (Step p) e
    cause (Some event) e = cause_untouched machine state first k event (Step p) e (told event e)

pub value_stays : (machine : Machine) (state : State) (first : List Event) (object : ℕ) → Stays (changes_there machine state first object)
    (λ k. value_at (state_at machine state first k).values object)
value_stays machine state first object k f = same_there machine state first object k f

-- Touches by place

pub there-how : (machine : Machine) (state : State) (first : List Event) (p k : ℕ) → IsRun machine state first → process_there machine state first p k ≡ true →
    (event : Event) × (slice_get first k ≡ Some event)
    × ((event ≡ Step p) ⊎ ((Step p ≢ event) × (some_entry (changed_entry (state_at machine state first k) (state_at machine state first (suc k)))
    (waiting_entries (activity_at (state_at machine state first k) p)) ≡ true)))
there-how machine state first p k r t = go (slice_get first k) refl t
  where
    go : (found : Option Event) → slice_get first k ≡ found → on_event (touches_process machine p (state_at machine state first k)) found ≡ true →
        (event : Event) × (slice_get first k ≡ Some event)
        × ((event ≡ Step p) ⊎ ((Step p ≢ event) × (some_entry (changed_entry (state_at machine state first k) (state_at machine state first (suc k)))
        (waiting_entries (activity_at (state_at machine state first k) p)) ≡ true)))
    go None e h = cc
    go (Some event) e h = (
      event,
      e,
      elim (touches-how machine p (state_at machine state first k) event r.rules (follows_at machine state first k r) h) [
        | inl own ↦ inl own
        | inr wakes ↦ inr (
          wakes.0,
          ap (λ t. some_entry (changed_entry (state_at machine state first k) t) (waiting_entries (activity_at (state_at machine state first k) p)))
              (at_next machine state first k event e) ∙ wakes.1,
        )
      ],
    )

pub wakes_there : (machine : Machine) (state : State) (first : List Event) (p k : ℕ) (event : Event) → IsRun machine state first → slice_get first k ≡ Some event → Step p ≢ event →
    some_entry (changed_entry (state_at machine state first k) (state_at machine state first (suc k))) (waiting_entries (activity_at (state_at machine state first k) p)) ≡ true →
    process_there machine state first p k ≡ true
wakes_there machine state first p k event r e d s =
    ap (on_event (touches_process machine p (state_at machine state first k))) e
    ∙ wakes-touches machine p (state_at machine state first k) event r.rules (follows_at machine state first k r) d
    (ap (λ t. some_entry (changed_entry (state_at machine state first k) t) (waiting_entries (activity_at (state_at machine state first k) p))) (sym (at_next machine state first k event e)) ∙ s)

pub woken_at : (machine : Machine) (state : State) (events : List Event) (p k : ℕ) (event : Event) → IsRun machine state events → slice_get events k ≡ Some event → Step p ≢ event →
    activity_at (state_at machine state events (suc k)) p ≡ woken_by (changed_entry (state_at machine state events k) (state_at machine state events (suc k)))
    (activity_at (state_at machine state events k) p)
woken_at machine state events p k event r e d =
    ap (λ t. activity_at t p) (at_next machine state events k event e)
    ∙ woken_after machine (state_at machine state events k) event p r.rules (follows_at machine state events k r) d
    ∙ ap (λ t. woken_by (changed_entry (state_at machine state events k) t) (activity_at (state_at machine state events k) p)) (sym (at_next machine state events k event e))
