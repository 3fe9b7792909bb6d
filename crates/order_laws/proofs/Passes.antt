-- An event of a node that changes nothing but wild nets passes unseen beside a run without conflict.
use Rattle.std.proofs.Common.{◌≡◌, ℕ, suc, ◌+◌, ◌<◌, List, true, false, refl, sym, ap, subst, ◌∙◌, inl, inr, arith}
use Rattle.std.specs.Prelude.{◌≢◌, Option, Some, None, slice_get}
use Rattle.v_design.specs.Designs.{Machine}
use Rattle.v_design.specs.Assignments.{value_at}
use Rattle.v_design.specs.States.{State, Event, Step, LaneStep, Evaluation, NetUpdate, found_or, is_process_event, process_at}
use Rattle.v_design.specs.PhaseLogs.{is_lane_of}
use Rattle.v_design.specs.Laws.{same_event}
use Rattle.order_laws.proofs.MayCause.{activity_at}
use Rattle.order_laws.proofs.PathLaws.{decided, true-false, reached}
use Rattle.order_laws.proofs.QuietNets.{event_changes, run_changes}
use Rattle.order_laws.proofs.RunStates.{first_of, state_at, at_next, cause_before}
use Rattle.order_laws.proofs.Woken.{untouched_process, lane_after_other}
use Rattle.order_laws.proofs.Cells.{below_or_same, unseen}
use Rattle.order_laws.proofs.Runs.{IsRun, follows_at, changes_there, same_there}
use Rattle.order_laws.proofs.DoneChanges.{done_reach, run_more}
use Rattle.order_laws.proofs.Comparison.{process_there, lane_there, process_part, lane_part, part_through, lane_through, CauseSame, Paired, Silent, Maps, steps_to, Compared}
use Rattle.order_laws.proofs.Meets.{extended, ext_below, ext_cases, kept-cause, steps-same, maps-ext, same_step}

module _ (machine : Machine) (state : State) (first events : List Event) (n : ℕ) (matched : ℕ → Option ℕ) (done : List ℕ) (event : Event)
    (run : IsRun machine state events) (c : Compared machine state first events n matched done) (e : slice_get events n ≡ Some event) (s : Silent machine state first events n event) where
  none_some : {A B : Type 0} (x : A) → None ≡ Some x → B
  none_some x e = cc

  old : (j k : ℕ) → matched j ≡ Some k → extended matched n None j ≡ Some k
  old j k h = ext_below matched n None j (c.bound j k h) ∙ h

  still : (j k : ℕ) → extended matched n None j ≡ Some k → matched j ≡ Some k
  still j k h = elim (ext_cases matched n None (Some k) j h) [ inl here ↦ none_some k here.1 | inr there ↦ there.1 ]

  cause-ext : (one other : Option ℕ) → CauseSame matched one other → CauseSame (extended matched n None) one other
  cause-ext one other (inl none) = inl none
  cause-ext one other (inr x) = inr (x.0, x.1, x.2, x.3, old x.0 x.1 x.4)

  pair-ext : (j k : ℕ) → Paired machine state first events matched j k → Paired machine state first events (extended matched n None) j k
  pair-ext j k p = record {
    event = p.event;
    stands = p.stands;
    first_stands = p.first_stands;
    accesses = p.accesses;
    process = p.process;
    line = p.line;
    cause = cause-ext (cause_before machine state events j p.event) (cause_before machine state first k p.event) p.cause;
    changes = p.changes;
  }

  not_step : (other ev : Event) → is_process_event other ≡ true → is_process_event ev ≡ false → same_event other ev ≡ false
  not_step other ev p q = elim (decided (same_event other ev)) [
    | inl same ↦ true-false (is_process_event ev) (ap is_process_event (same_step other ev same) ∙ p) q
    | inr apart ↦ apart
  ]

  no-lane : (p : ℕ) (ev : Event) → is_process_event ev ≡ false → (LaneStep p ≢ ev) × (is_lane_of p ev ≡ false)
  no-lane p (Step q) h = cc
  no-lane p (LaneStep q) h = cc
  no-lane p (Evaluation k) h = ((λ x. cc), refl)
  no-lane p (NetUpdate k) h = ((λ x. cc), refl)

  pub passed : Compared machine state first events (suc n) (extended matched n None) done
  passed = record {
    bound = λ j k h. let b : j < n = c.bound j k (still j k h) in omega (arith, b);
    pairs = λ j k h. pair-ext j k (c.pairs j k (still j k h));
    found = λ k h. let f = c.found k h in (f.0, old f.0 k f.1);
    listed = λ j k h. c.listed j k (still j k h);
    single = λ j l k h g. c.single j l k (still j k h) (still l k g);
    silent = λ j ev b h f. elim (ext_cases matched n None None j h) [
      | inl here ↦
          subst (λ x. Silent machine state first events x ev) (sym here.0)
          (subst (λ x. Silent machine state first events n x) (ap (found_or event) (sym e ∙ ap (slice_get events) (sym here.0) ∙ f)) s)
      | inr there ↦ c.silent j ev (elim (below_or_same j n b) [ inl low ↦ low | inr same ↦ absurd (there.0 same) ]) there.1 f
    ];
    values = λ object tame.
        unseen (changes_there machine state first object) (λ k. value_at (state_at machine state first k).values object) done (value_at (state_at machine state events n).values object) _
        (c.values object tame)
        (same_there machine state events object n (s.changes object tame));
    processes = λ p.
        let u = untouched_process machine p (state_at machine state events n) event run.rules (follows_at machine state events n run) (s.processes p) in
        unseen (process_there machine state first p) (process_part machine state first p) done (part_through machine state events matched p n) _ (c.processes p)
        (λ k. record {
          activity = (ap (λ t. activity_at t p) (at_next machine state events n event e) ∙ u.1) k;
          later = (ap (λ t. (process_at t p).later) (at_next machine state events n event e) ∙ u.2) k;
          cause = kept-cause machine state events matched n None event (Step p) e (s.processes p) k;
        });
    lanes = λ p.
        unseen (lane_there first p) (lane_part machine state first p) done (lane_through machine state events matched p n) _ (c.lanes p)
        (λ k. record {
          lane = (ap (λ t. (process_at t p).lane) (at_next machine state events n event e) ∙ lane_after_other machine (state_at machine state events n) event p (no-lane p event s.of_node).0) k;
          cause = kept-cause machine state events matched n None event (LaneStep p) e (no-lane p event s.of_node).1 k;
        });
    reach = λ object.
        let a : reached machine.design (run_changes machine state (first_of (suc n) events)) object
        ≡ reached machine.design (run_changes machine state (first_of n events)) object + reached machine.design (event_changes machine (state_at machine state events n) event) object =
        run_more machine state events n event object e in
        let b : reached machine.design (run_changes machine state (first_of n events)) object ≡ done_reach machine state done first object = c.reach object in
        let z : reached machine.design (event_changes machine (state_at machine state events n) event) object ≡ 0 = s.reaches object in
        omega (arith, a, b, z);
    histories = λ other h. record {
      steps = (c.histories other h).steps;
      maps = subst (λ js. Maps (extended matched n None) js (c.histories other h).steps) (sym (steps-same events other n event e (not_step other event h s.of_node)))
          (maps-ext matched (extended matched n None) (steps_to events other n) (c.histories other h).steps old (c.histories other h).maps);
      cell = (c.histories other h).cell;
    };
  }
