-- Where an event meets its like in a run without conflict, the run that takes it goes on beside that one.
use Rattle.std.proofs.Common.{◌≡◌, ℕ, zero, suc, ◌+◌, ◌<◌, ◌≤◌, List, [], ◌∷◌, ◌++◌, Bool, true, false, refl, sym, ap, subst, ◌∙◌, ◌⊎◌, inl, inr, arith}
use Rattle.std.specs.Prelude.{◌≢◌, Option, Some, None, slice_get, nat_eq}
use Rattle.std.proofs.lemmas.Bool.{eqb-true, eq-eqb}
use Rattle.vf_base.specs.Lists.{has}
use Rattle.v_design.specs.Designs.{Machine}
use Rattle.v_design.specs.Assignments.{value_at}
use Rattle.v_design.specs.States.{State, Event, Step, LaneStep, Evaluation, NetUpdate, found_or, is_process_event, process_at, some_entry}
use Rattle.v_design.specs.Accesses.{waiting_entries}
use Rattle.v_design.specs.Logs.{changes_of}
use Rattle.v_design.specs.PhaseLogs.{log_of, may_cause, is_lane_of}
use Rattle.v_design.specs.Laws.{same_event, place_if, places_of}
use Rattle.order_laws.proofs.MayCause.{activity_at}
use Rattle.order_laws.proofs.PathLaws.{decided, true-false, or-either, or-second, has-self, reached}
use Rattle.order_laws.proofs.NetStates.{other_number}
use Rattle.order_laws.proofs.QuietNets.{event_changes, run_changes}
use Rattle.order_laws.proofs.CleanNets.{same-changes}
use Rattle.order_laws.proofs.RunStates.{first_of, state_at, at_next, bare, noted, accesses_before, cause_before, cause_found}
use Rattle.order_laws.proofs.Woken.{changed_entry, woken_by, woken_by-none, touches_process, touches-how, step_touches, step_or_not, later_after, lane_after_other}
use Rattle.order_laws.proofs.Cells.{Cell, le_or, below_or_same, Stays, IsNext, InOrder, in_order, moved_on, kept}
use Rattle.order_laws.proofs.Runs.{IsRun, follows_at, changes_there, same_there}
use Rattle.order_laws.proofs.FreeRuns.{IsFree, wild_in, IsOpen}
use Rattle.order_laws.proofs.DoneChanges.{done_reach, done_more, run_more}
use Rattle.order_laws.proofs.Comparison.{on_event, process_there, lane_there, ProcessPart, process_part, lane_part, through, part_through, lane_through, CauseSame, Paired, Maps, step_there}
use Rattle.order_laws.proofs.Comparison.{steps_to, History, Compared, cause_touched, cause_untouched, there-how, wakes_there, woken_at}
use Rattle.order_laws.proofs.WaitsAlike.{SameTests, waits_alike, tests-same}

-- One event more that stands for another

abbrev pub pick : Bool → Option ℕ → Option ℕ → Option ℕ
pick true x y = x
pick false x y = y

abbrev pub extended : (ℕ → Option ℕ) → ℕ → Option ℕ → ℕ → Option ℕ
extended matched n x j = pick (nat_eq j n) x (matched j)

pub ext_here : (matched : ℕ → Option ℕ) (n : ℕ) (x : Option ℕ) → extended matched n x n ≡ x
ext_here matched n x = ap (λ b. pick b x (matched n)) (eq-eqb n n refl)

pub ext_below : (matched : ℕ → Option ℕ) (n : ℕ) (x : Option ℕ) (j : ℕ) → j < n → extended matched n x j ≡ matched j
ext_below matched n x j h = elim (decided (nat_eq j n)) [
  | inl same ↦ (let z : j ≡ n = eqb-true j n same in absurd (omega (arith, z, h)))
  | inr other ↦ ap (λ b. pick b x (matched j)) other
]

pub ext_cases : (matched : ℕ → Option ℕ) (n : ℕ) (x y : Option ℕ) (j : ℕ) → extended matched n x j ≡ y → ((j ≡ n) × (x ≡ y)) ⊎ ((j ≢ n) × (matched j ≡ y))
ext_cases matched n x y j e = elim (decided (nat_eq j n)) [
  | inl same ↦ inl (eqb-true j n same, sym (ap (λ b. pick b x (matched j)) same) ∙ e)
  | inr other ↦ inr (other_number j n other, sym (ap (λ b. pick b x (matched j)) other) ∙ e)
]

some_eq : {A : Type 0} (x y : A) → Some x ≡ Some y → x ≡ y
some_eq x y e = ap (found_or x) e

none_some : {A B : Type 0} (x : A) → None ≡ Some x → B
none_some x e = cc

-- causes are before the place
through-ext : (machine : Machine) (state : State) (events : List Event) (matched : ℕ → Option ℕ) (n : ℕ) (x : Option ℕ) (later : Event) (found : Option ℕ) →
    cause_before machine state events n later ≡ found →
    through (extended matched n x) found ≡ through matched found
through-ext machine state events matched n x later None e = refl
through-ext machine state events matched n x later (Some j) e = ext_below matched n x j (cause_found machine state events n later j e).earlier

pub kept-cause : (machine : Machine) (state : State) (events : List Event) (matched : ℕ → Option ℕ) (n : ℕ) (x : Option ℕ) (event later : Event) → slice_get events n ≡ Some event →
    may_cause machine later (bare (state_at machine state events n) event) ≡ false → through (extended matched n x) (cause_before machine state events (suc n) later) ≡ through matched
    (cause_before machine state events n later)
kept-cause machine state events matched n x event later e m =
    ap (through (extended matched n x)) (cause_untouched machine state events n event later e m) ∙ through-ext machine state events matched n x later (cause_before machine state events n later) refl

touched-cause : (machine : Machine) (state : State) (events : List Event) (matched : ℕ → Option ℕ) (n : ℕ) (x : Option ℕ) (event later : Event) → slice_get events n ≡ Some event →
    may_cause machine later (bare (state_at machine state events n) event) ≡ true → through (extended matched n x) (cause_before machine state events (suc n) later) ≡ x
touched-cause machine state events matched n x event later e m = ap (through (extended matched n x)) (cause_touched machine state events n event later e m) ∙ ext_here matched n x

-- Steps of one kind, one more

append-nothing : {A : Type 0} (xs : List A) → xs ++ [] ≡ xs
append-nothing [] = refl
append-nothing (x ∷ xs) = ap (λ ys. x ∷ ys) (append-nothing xs)

place_if-append : (b : Bool) (k : ℕ) (xs ys : List ℕ) → place_if b k (xs ++ ys) ≡ place_if b k xs ++ ys
place_if-append true k xs ys = refl
place_if-append false k xs ys = refl

places-more : (event : Event) (start : ℕ) (events : List Event) (k : ℕ) (other : Event) → slice_get events k ≡ Some other →
    places_of event start (first_of (suc k) events) ≡ places_of event start (first_of k events) ++ place_if (same_event event other) (start + k) []
places-more event start [] k other e = cc
places-more event start (x ∷ events) zero other e = λ i. place_if (same_event event (found_or x (e i))) (plus i) []
  where
    plus : start ≡ start + 0
    plus = omega arith
places-more event start (x ∷ events) (suc k) other e =
    ap (place_if (same_event event x) start) (places-more event (start + 1) events k other e
    ∙ ap (λ m. places_of event (start + 1) (first_of k events) ++ place_if (same_event event other) m []) (let z : start + 1 + k ≡ start + suc k = omega arith in z))
    ∙ place_if-append (same_event event x) start (places_of event (start + 1) (first_of k events)) (place_if (same_event event other) (start + suc k) [])

pub steps-more : (events : List Event) (event : Event) (k : ℕ) (other : Event) → slice_get events k ≡ Some other → same_event event other ≡ true →
    steps_to events event (suc k) ≡ steps_to events event k ++ k ∷ []
steps-more events event k other e s =
    places-more event 0 events k other e ∙ ap (λ b. steps_to events event k ++ place_if b (0 + k) []) s ∙ ap (λ m. steps_to events event k ++ m ∷ []) (let z : 0 + k ≡ k = omega arith in z)

pub steps-same : (events : List Event) (event : Event) (k : ℕ) (other : Event) → slice_get events k ≡ Some other → same_event event other ≡ false →
    steps_to events event (suc k) ≡ steps_to events event k
steps-same events event k other e s = places-more event 0 events k other e ∙ ap (λ b. steps_to events event k ++ place_if b (0 + k) []) s ∙ append-nothing (steps_to events event k)

first_of-past : {A : Type 0} (xs : List A) (k : ℕ) → slice_get xs k ≡ None → first_of (suc k) xs ≡ first_of k xs
first_of-past [] zero e = refl
first_of-past [] (suc k) e = refl
first_of-past (x ∷ xs) zero e = cc
first_of-past (x ∷ xs) (suc k) e = ap (λ ys. x ∷ ys) (first_of-past xs k e)

pub steps_stay : (first : List Event) (event : Event) → Stays (step_there first event) (steps_to first event)
steps_stay first event k f = go (slice_get first k) refl
  where
    go : (found : Option Event) → slice_get first k ≡ found → steps_to first event (suc k) ≡ steps_to first event k
    go None e = ap (places_of event 0) (first_of-past first k e)
    go (Some other) e = steps-same first event k other e (sym (ap (on_event (same_event event)) e) ∙ f)

maps-more : (matched : ℕ → Option ℕ) (js is : List ℕ) (j i : ℕ) → Maps matched js is → matched j ≡ Some i → Maps matched (js ++ j ∷ []) (is ++ i ∷ [])
maps-more matched [] [] j i h e = (e, tt)
maps-more matched [] (x ∷ is) j i h e = absurd h
maps-more matched (y ∷ js) [] j i h e = absurd h
maps-more matched (y ∷ js) (x ∷ is) j i h e = (h.0, maps-more matched js is j i h.1 e)

pub maps-ext : (matched other : ℕ → Option ℕ) (js is : List ℕ) → ((j i : ℕ) → matched j ≡ Some i → other j ≡ Some i) → Maps matched js is → Maps other js is
maps-ext matched other [] [] h m = tt
maps-ext matched other [] (i ∷ is) h m = m
maps-ext matched other (j ∷ js) [] h m = m
maps-ext matched other (j ∷ js) (i ∷ is) h m = (h j i m.0, maps-ext matched other js is h m.1)

-- the events that are the same step
pub same_step : (event other : Event) → same_event event other ≡ true → other ≡ event
same_step (Step p) (Step q) h = ap Step (sym (eqb-true p q h))
same_step (Step p) (LaneStep q) h = cc
same_step (Step p) (Evaluation q) h = cc
same_step (Step p) (NetUpdate q) h = cc
same_step (LaneStep p) (Step q) h = cc
same_step (LaneStep p) (LaneStep q) h = ap LaneStep (sym (eqb-true p q h))
same_step (LaneStep p) (Evaluation q) h = cc
same_step (LaneStep p) (NetUpdate q) h = cc
same_step (Evaluation p) (Step q) h = cc
same_step (Evaluation p) (LaneStep q) h = cc
same_step (Evaluation p) (Evaluation q) h = ap Evaluation (sym (eqb-true p q h))
same_step (Evaluation p) (NetUpdate q) h = cc
same_step (NetUpdate p) (Step q) h = cc
same_step (NetUpdate p) (LaneStep q) h = cc
same_step (NetUpdate p) (Evaluation q) h = cc
same_step (NetUpdate p) (NetUpdate q) h = ap NetUpdate (sym (eqb-true p q h))

lane_or_not : (p : ℕ) (event : Event) → (event ≡ LaneStep p) ⊎ ((LaneStep p ≢ event) × (is_lane_of p event ≡ false))
lane_or_not p (LaneStep q) = elim (decided (nat_eq p q)) [
  | inl e ↦ inl (ap LaneStep (sym (eqb-true p q e)))
  | inr e ↦ inr ((λ same. true-false (nat_eq p q) (eq-eqb p q (ap number_of same)) e), e)
]
  where
    number_of : Event → ℕ
    number_of (Step n) = n
    number_of (LaneStep n) = n
    number_of (Evaluation n) = n
    number_of (NetUpdate n) = n
lane_or_not p (Step q) = inr ((λ e. cc), refl)
lane_or_not p (Evaluation n) = inr ((λ e. cc), refl)
lane_or_not p (NetUpdate n) = inr ((λ e. cc), refl)

-- what is touched with a part is in its order
sub_order : {X : Type 0} (touches touches' : ℕ → Bool) (content : ℕ → X) (done : List ℕ) (x : X) (i : ℕ) → (c : Cell touches content done x) → IsNext touches content c.place x i → has done i ≡ false →
    ((k : ℕ) → touches' k ≡ true → touches k ≡ true) → InOrder touches' done i
sub_order touches touches' content done x i c n h sub = record {
  before = λ k t low. elim (le_or c.place k) [
    | inl le ↦ true-false (touches k) (sub k t) (n.between k le low)
    | inr lt ↦ c.known k (sub k t) lt
  ];
  after = λ k t high d. let a : k < c.place = c.before k (sub k t) d in let b : c.place ≤ i = n.reaches in omega (arith, a, b, high);
  open_still = h;
}

-- How an object fares at two events: it changes at neither, or alike at both
abbrev pub ChangesAlike : (machine : Machine) (state : State) (first events : List Event) (n i object place : ℕ) → Type 0
ChangesAlike machine state first events n i object place =
    ((changes_there machine state events object n ≡ false) × (changes_there machine state first object i ≡ false))
    ⊎ ((changes_there machine state events object n ≡ true) × (changes_there machine state first object i ≡ true)
    × (value_at (state_at machine state events (suc n)).values object ≡ value_at (state_at machine state first (suc i)).values object)
    × IsNext (changes_there machine state first object) (λ k. value_at (state_at machine state first k).values object) place (value_at (state_at machine state events n).values object) i)

pub record Meets (machine : Machine) (state : State) (first events : List Event) (n : ℕ) (matched : ℕ → Option ℕ) (done : List ℕ) (c : Compared machine state first events n matched done) (i : ℕ)
    (event : Event) : Type 0 where
  pub stands : slice_get events n ≡ Some event
  pub first_stands : slice_get first i ≡ Some event
  pub opens : IsOpen (log_of machine state first) done i
  pub tests : SameTests (state_at machine state events n) (state_at machine state events (suc n)) (state_at machine state first i) (state_at machine state first (suc i))
  pub values : (object : ℕ) (tame : wild_in machine state first object ≡ false) → ChangesAlike machine state first events n i object (c.values object tame).place
  pub own : (p : ℕ) → event ≡ Step p →
      IsNext (process_there machine state first p) (process_part machine state first p) (c.processes p).place (part_through machine state events matched p n) i
      × (activity_at (state_at machine state events (suc n)) p ≡ activity_at (state_at machine state first (suc i)) p)
      × ((process_at (state_at machine state events (suc n)) p).later ≡ (process_at (state_at machine state first (suc i)) p).later)
  pub own_lane : (p : ℕ) → event ≡ LaneStep p →
      IsNext (lane_there first p) (lane_part machine state first p) (c.lanes p).place (lane_through machine state events matched p n) i
      × ((process_at (state_at machine state events (suc n)) p).lane ≡ (process_at (state_at machine state first (suc i)) p).lane)
  pub accesses : accesses_before machine state events n event ≡ accesses_before machine state first i event
  pub process : (noted machine state events n event).process ≡ (noted machine state first i event).process
  pub line : (noted machine state events n event).line ≡ (noted machine state first i event).line
  pub cause : CauseSame matched (cause_before machine state events n event) (cause_before machine state first i event)

module _ (machine : Machine) (state : State) (first events : List Event) (n : ℕ) (matched : ℕ → Option ℕ) (done : List ℕ) (i : ℕ) (event : Event)
    (r : IsFree machine state first) (run : IsRun machine state events) (c : Compared machine state first events n matched done) (m : Meets machine state first events n matched done c i event) where
  next-matched : ℕ → Option ℕ
  next-matched = extended matched n (Some i)

  ext_old : (j k : ℕ) → matched j ≡ Some k → extended matched n (Some i) j ≡ Some k
  ext_old j k e = ext_below matched n (Some i) j (c.bound j k e) ∙ e

  cause-ext : (one other : Option ℕ) → CauseSame matched one other → CauseSame (extended matched n (Some i)) one other
  cause-ext one other (inl none) = inl none
  cause-ext one other (inr s) = inr (s.0, s.1, s.2, s.3, ext_old s.0 s.1 s.4)

  pair-ext : (j k : ℕ) → Paired machine state first events matched j k → Paired machine state first events (extended matched n (Some i)) j k
  pair-ext j k p = record {
    event = p.event;
    stands = p.stands;
    first_stands = p.first_stands;
    accesses = p.accesses;
    process = p.process;
    line = p.line;
    cause = cause-ext (cause_before machine state events j p.event) (cause_before machine state first k p.event) p.cause;
    changes = p.changes;
  }

  new-pair : Paired machine state first events (extended matched n (Some i)) n i
  new-pair = record {
    event = event;
    stands = m.stands;
    first_stands = m.first_stands;
    accesses = m.accesses;
    process = m.process;
    line = m.line;
    cause = cause-ext (cause_before machine state events n event) (cause_before machine state first i event) m.cause;
    changes = λ object tame. elim (m.values object tame) [ inl none ↦ none.0 ∙ sym none.1 | inr both ↦ both.0 ∙ sym both.1 ];
  }

  new-value : (object : ℕ) → wild_in machine state first object ≡ false →
      Cell (changes_there machine state first object) (λ k. value_at (state_at machine state first k).values object) (i ∷ done) (value_at (state_at machine state events (suc n)).values object)
  new-value object tame = elim (m.values object tame) [
    | inl none ↦
        kept (changes_there machine state first object) (λ k. value_at (state_at machine state first k).values object) done (value_at (state_at machine state events n).values object) _ i
        (c.values object tame) none.1
        (same_there machine state events object n none.0)
    | inr both ↦
        moved_on (changes_there machine state first object) (λ k. value_at (state_at machine state first k).values object) done (value_at (state_at machine state events n).values object) _ i
        (c.values object tame) both.3 both.2
  ]

  later-here : (p : ℕ) → Step p ≢ event → (process_at (state_at machine state events (suc n)) p).later ≡ (process_at (state_at machine state events n) p).later
  later-here p d = ap (λ s. (process_at s p).later) (at_next machine state events n event m.stands) ∙ later_after machine (state_at machine state events n) event p d

  later-there : (p : ℕ) → Step p ≢ event → (process_at (state_at machine state first (suc i)) p).later ≡ (process_at (state_at machine state first i) p).later
  later-there p d = ap (λ s. (process_at s p).later) (at_next machine state first i event m.first_stands) ∙ later_after machine (state_at machine state first i) event p d

  touched-here : (p : ℕ) → process_there machine state events p n ≡ true → may_cause machine (Step p) (bare (state_at machine state events n) event) ≡ true
  touched-here p t = sym (ap (on_event (touches_process machine p (state_at machine state events n))) m.stands) ∙ t

  untouched-here : (p : ℕ) → Step p ≢ event → some_entry (changed_entry (state_at machine state events n) (state_at machine state events (suc n)))
      (waiting_entries (activity_at (state_at machine state events n) p)) ≡ false →
      may_cause machine (Step p) (bare (state_at machine state events n) event) ≡ false
  untouched-here p d s = elim (decided (touches_process machine p (state_at machine state events n) event)) [
    | inr f ↦ f
    | inl t ↦ elim (touches-how machine p (state_at machine state events n) event run.rules (follows_at machine state events n run) t) [
      | inl own ↦ absurd (d (sym own))
      | inr wakes ↦
          true-false (some_entry (changed_entry (state_at machine state events n) (state_at machine state events (suc n))) (waiting_entries (activity_at (state_at machine state events n) p)))
          (ap (λ u. some_entry (changed_entry (state_at machine state events n) u) (waiting_entries (activity_at (state_at machine state events n) p)))
          (at_next machine state events n event m.stands) ∙ wakes.1) s
    ]
  ]

  new-process : (p : ℕ) → Cell (process_there machine state first p) (process_part machine state first p) (i ∷ done) (part_through machine state events (extended matched n (Some i)) p (suc n))
  new-process p = elim (step_or_not p event) [
    | inl own ↦
        (let o = m.own p own in
        moved_on (process_there machine state first p) (process_part machine state first p) done (part_through machine state events matched p n) _ i (c.processes p) o.0
        (λ k. record {
          activity = o.1 k;
          later = o.2 k;
          cause = (touched-cause machine state events matched n (Some i) event (Step p) m.stands
              (subst (λ ev. may_cause machine (Step p) (bare (state_at machine state events n) ev) ≡ true) (sym own) (step_touches machine p (state_at machine state events n)))
              ∙ sym (cause_touched machine state first i event (Step p) m.first_stands
              (subst (λ ev. may_cause machine (Step p) (bare (state_at machine state first i) ev) ≡ true) (sym own) (step_touches machine p (state_at machine state first i))))) k;
        }))
    | inr d ↦ elim (waits_alike machine state first events n matched done i p event r m.opens m.first_stands d (c.processes p) m.tests) [
      | inl woken ↦ moved d woken.0 woken.1
      | inr quiet ↦
          kept (process_there machine state first p) (process_part machine state first p) done (part_through machine state events matched p n) _ i (c.processes p) quiet.1
          (λ k. record {
            activity = (woken_at machine state events p n event run m.stands d
                ∙ woken_by-none (changed_entry (state_at machine state events n) (state_at machine state events (suc n))) (activity_at (state_at machine state events n) p) quiet.0) k;
            later = later-here p d k;
            cause = kept-cause machine state events matched n (Some i) event (Step p) m.stands (untouched-here p d quiet.0) k;
          })
    ]
  ]
    where
      moved : (d : Step p ≢ event) → IsNext (process_there machine state first p) (process_part machine state first p) (c.processes p).place (part_through machine state events matched p n) i →
          process_there machine state first p i ≡ true →
          Cell (process_there machine state first p) (process_part machine state first p) (i ∷ done) (part_through machine state events (extended matched n (Some i)) p (suc n))
      moved d next t =
          let act : activity_at (state_at machine state events n) p ≡ activity_at (state_at machine state first i) p = ap (λ (x : ProcessPart). x.activity) next.now in
          let s : some_entry (changed_entry (state_at machine state first i) (state_at machine state first (suc i))) (waiting_entries (activity_at (state_at machine state first i) p)) ≡ true =
          elim (there-how machine state first p i r.run t).2 [
            | inl own ↦ absurd (d (sym own ∙ some_eq _ _ (sym (there-how machine state first p i r.run t).1 ∙ m.first_stands)))
            | inr wakes ↦ wakes.1
          ] in
          let s' : some_entry (changed_entry (state_at machine state events n) (state_at machine state events (suc n))) (waiting_entries (activity_at (state_at machine state events n) p)) ≡ true =
          tests-same (changed_entry (state_at machine state events n) (state_at machine state events (suc n))) (changed_entry (state_at machine state first i) (state_at machine state first (suc i)))
          (waiting_entries (activity_at (state_at machine state events n) p)) m.tests
          ∙ ap (λ a. some_entry (changed_entry (state_at machine state first i) (state_at machine state first (suc i))) (waiting_entries a)) act ∙ s in
          moved_on (process_there machine state first p) (process_part machine state first p) done (part_through machine state events matched p n) _ i (c.processes p) next
          (λ k. record {
            activity = (woken_at machine state events p n event run m.stands d
                ∙ (λ l. woken_by (λ entry. m.tests entry l) (act l))
                ∙ sym (woken_at machine state first p i event r.run m.first_stands d)) k;
            later = (later-here p d ∙ ap (λ (x : ProcessPart). x.later) next.now ∙ sym (later-there p d)) k;
            cause = (touched-cause machine state events matched n (Some i) event (Step p) m.stands (touched-here p (wakes_there machine state events p n event run m.stands d s'))
                ∙ sym (cause_touched machine state first i event (Step p) m.first_stands (sym (ap (on_event (touches_process machine p (state_at machine state first i))) m.first_stands) ∙ t))) k;
          })

  new-lane : (p : ℕ) → Cell (lane_there first p) (lane_part machine state first p) (i ∷ done) (lane_through machine state events (extended matched n (Some i)) p (suc n))
  new-lane p = elim (lane_or_not p event) [
    | inl own ↦
        (let o = m.own_lane p own in
        moved_on (lane_there first p) (lane_part machine state first p) done (lane_through machine state events matched p n) _ i (c.lanes p) o.0
        (λ k. record {
          lane = o.1 k;
          cause = (touched-cause machine state events matched n (Some i) event (LaneStep p) m.stands (mine own (state_at machine state events n))
              ∙ sym (cause_touched machine state first i event (LaneStep p) m.first_stands (mine own (state_at machine state first i)))) k;
        }))
    | inr d ↦
        kept (lane_there first p) (lane_part machine state first p) done (lane_through machine state events matched p n) _ i (c.lanes p) (ap (on_event (is_lane_of p)) m.first_stands ∙ d.1)
        (λ k. record {
          lane = (ap (λ s. (process_at s p).lane) (at_next machine state events n event m.stands) ∙ lane_after_other machine (state_at machine state events n) event p d.0) k;
          cause = kept-cause machine state events matched n (Some i) event (LaneStep p) m.stands d.1 k;
        })
  ]
    where
      mine : event ≡ LaneStep p → (s : State) → may_cause machine (LaneStep p) (bare s event) ≡ true
      mine own s = subst (λ ev. may_cause machine (LaneStep p) (bare s ev) ≡ true) (sym own) (eq-eqb p p refl)

  new-reach : (object : ℕ) → reached machine.design (run_changes machine state (first_of (suc n) events)) object ≡ done_reach machine state (i ∷ done) first object
  new-reach object =
      run_more machine state events n event object m.stands
      ∙ (λ k. c.reach object k + reached machine.design (same k) object)
      ∙ sym (done_more machine state done 0 i first event object (ap (has done) zero-plus ∙ m.opens.open_still) m.first_stands)
      ∙ ap (λ x. done_reach machine state (x ∷ done) first object) zero-plus
    where
      zero-plus : 0 + i ≡ i
      zero-plus = omega arith

      same : event_changes machine (state_at machine state events n) event ≡ event_changes machine (state_at machine state first i) event
      same =
          sym (same-changes machine (state_at machine state events n) event (noted machine state events n event).process (noted machine state events n event).line)
          ∙ ap (changes_of machine.design) m.accesses
          ∙ same-changes machine (state_at machine state first i) event (noted machine state first i event).process (noted machine state first i event).line

  new-history : (other : Event) → is_process_event other ≡ true → History first events (suc n) (extended matched n (Some i)) (i ∷ done) other
  new-history other h = elim (decided (same_event other event)) [
    | inl same ↦ (let x = next same in record {
      steps = (c.histories other h).steps ++ i ∷ [];
      maps = subst (λ js. Maps (extended matched n (Some i)) js ((c.histories other h).steps ++ i ∷ [])) (sym (steps-more events other n event m.stands same))
          (maps-more (extended matched n (Some i)) (steps_to events other n) (c.histories other h).steps n i
          (maps-ext matched (extended matched n (Some i)) (steps_to events other n) (c.histories other h).steps ext_old (c.histories other h).maps) (ext_here matched n (Some i)));
      cell = moved_on (step_there first other) (steps_to first other) done (c.histories other h).steps _ i (c.histories other h).cell x
          (ap (λ ks. ks ++ i ∷ []) x.now ∙ sym (steps-more first other i event m.first_stands same));
    })
    | inr apart ↦ record {
      steps = (c.histories other h).steps;
      maps = subst (λ js. Maps (extended matched n (Some i)) js (c.histories other h).steps) (sym (steps-same events other n event m.stands apart))
          (maps-ext matched (extended matched n (Some i)) (steps_to events other n) (c.histories other h).steps ext_old (c.histories other h).maps);
      cell = kept (step_there first other) (steps_to first other) done (c.histories other h).steps _ i (c.histories other h).cell (ap (on_event (same_event other)) m.first_stands ∙ apart) refl;
    }
  ]
    where
      told : (k : ℕ) → step_there first other k ≡ true → slice_get first k ≡ Some other
      told k t = go (slice_get first k) refl t
        where
          go : (found : Option Event) → slice_get first k ≡ found → on_event (same_event other) found ≡ true → slice_get first k ≡ Some other
          go None e s = cc
          go (Some x) e s = e ∙ ap Some (same_step other x s)

      ordered : (ev : Event) → is_process_event ev ≡ true → other ≡ ev → event ≡ ev → InOrder (step_there first other) done i
      ordered (Step p) hp is e =
          sub_order (process_there machine state first p) (step_there first other) (process_part machine state first p) done (part_through machine state events matched p n) i (c.processes p)
          (m.own p e).0 m.opens.open_still
          (λ k t. ap (on_event (touches_process machine p (state_at machine state first k))) (told k t ∙ ap Some is) ∙ step_touches machine p (state_at machine state first k))
      ordered (LaneStep p) hp is e =
          sub_order (lane_there first p) (step_there first other) (lane_part machine state first p) done (lane_through machine state events matched p n) i (c.lanes p)
          (m.own_lane p e).0 m.opens.open_still
          (λ k t. ap (on_event (is_lane_of p)) (told k t ∙ ap Some is) ∙ eq-eqb p p refl)
      ordered (Evaluation k) hp is e = cc
      ordered (NetUpdate k) hp is e = cc

      next : same_event other event ≡ true → IsNext (step_there first other) (steps_to first other) (c.histories other h).cell.place (c.histories other h).steps i
      next same =
          (in_order (step_there first other) (steps_to first other) done (c.histories other h).steps i (steps_stay first other) (c.histories other h).cell
          (ordered other h refl (same_step other event same))).1
          (ap (on_event (same_event other)) m.first_stands ∙ same)

  -- so it goes on
  pub met : Compared machine state first events (suc n) (extended matched n (Some i)) (i ∷ done)
  met = record {
    bound = λ j k e. elim (ext_cases matched n (Some i) (Some k) j e) [
      | inl here ↦ (let z : j ≡ n = here.0 in omega (arith, z))
      | inr old ↦ (let b : j < n = c.bound j k old.1 in omega (arith, b))
    ];
    pairs = λ j k e. elim (ext_cases matched n (Some i) (Some k) j e) [
      | inl here ↦
          subst (λ x. Paired machine state first events (extended matched n (Some i)) x k) (sym here.0)
          (subst (λ x. Paired machine state first events (extended matched n (Some i)) n x) (some_eq i k here.1) new-pair)
      | inr old ↦ pair-ext j k (c.pairs j k old.1)
    ];
    found = λ k h. elim (or-either (nat_eq i k) (has done k) h) [
      | inl same ↦ (n, ext_here matched n (Some i) ∙ ap Some (eqb-true i k same))
      | inr old ↦ (let f = c.found k old in (f.0, ext_old f.0 k f.1))
    ];
    listed = λ j k e. elim (ext_cases matched n (Some i) (Some k) j e) [
      | inl here ↦ subst (λ x. has (i ∷ done) x ≡ true) (some_eq i k here.1) (has-self i done)
      | inr old ↦ or-second (nat_eq i k) (has done k) (c.listed j k old.1)
    ];
    single = λ j l k e f. elim (ext_cases matched n (Some i) (Some k) j e) [
      | inl here ↦ elim (ext_cases matched n (Some i) (Some k) l f) [
        | inl here' ↦ here.0 ∙ sym here'.0
        | inr old ↦ true-false (has done i) (subst (λ x. has done x ≡ true) (sym (some_eq i k here.1)) (c.listed l k old.1)) m.opens.open_still
      ]
      | inr old ↦ elim (ext_cases matched n (Some i) (Some k) l f) [
        | inl here ↦ true-false (has done i) (subst (λ x. has done x ≡ true) (sym (some_eq i k here.1)) (c.listed j k old.1)) m.opens.open_still
        | inr old' ↦ c.single j l k old.1 old'.1
      ]
    ];
    silent = λ j ev b e f. elim (ext_cases matched n (Some i) None j e) [
      | inl here ↦ none_some i (sym here.1)
      | inr old ↦ c.silent j ev (elim (below_or_same j n b) [ inl low ↦ low | inr same ↦ absurd (old.0 same) ]) old.1 f
    ];
    values = new-value;
    processes = new-process;
    lanes = new-lane;
    reach = new-reach;
    histories = new-history;
  }
