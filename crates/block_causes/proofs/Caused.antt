-- The causes of a stretch stand in it: what has work, or was made ready, was so by an event of the stretch.
use Rattle.std.proofs.Common.{◌≡◌, ℕ, zero, suc, ◌+◌, ◌<◌, List, [], ◌∷◌, ◌++◌, length, Bool, true, false, ◌&&◌, ◌||◌, refl, sym, ap, subst, ◌∙◌, ◌⊎◌, inl, inr, arith}
use Rattle.std.specs.Prelude.{Some, None, slice_get, is_some}
use Rattle.std.proofs.lemmas.Bool.{eq-eqb, cases_Bool, and_parts}
use Rattle.vf_base.specs.Lists.{AllHold}
use Rattle.v_design.specs.Designs.{FlatNode, Machine}
use Rattle.v_design.specs.States.{State, NodeState, Event, Step, LaneStep, Evaluation, NetUpdate, after, possible, process_at, node_at}
use Rattle.v_design.specs.States.{found_or, idle_node, is_ready, has_work, some_in, is_process_event}
use Rattle.v_design.specs.Runs.{least_work, work_of, happened, all_possible}
use Rattle.v_design.specs.PhaseLogs.{NotedEvent, is_step_of, ends_wait, changes_one, changes_input, may_cause, note_of}
use Rattle.v_design.specs.WellFormed.{KeepsRules}
use Rattle.v_design.specs.Laws.{IsStateOf}
use Rattle.block_filter.specs.Blocks.{HasCause, HasCauseIfNode, AllLaterHold}
use Rattle.block_causes.specs.Caused.{IsFromRest, IsFollowing, StretchesAreCaused, BlocksAreCaused}
use Rattle.order_laws.proofs.PathLaws.{true-false, or-second}
use Rattle.order_laws.proofs.NetStates.{all_idle}
use Rattle.order_laws.proofs.Notes.{new_notes, noted_events-new}
use Rattle.order_laws.proofs.RunStates.{some_below}
use Rattle.order_laws.proofs.SettledNets.{Follows, Everywhere, follows-begins, follows-run}
use Rattle.order_laws.proofs.NodeRests.{rest_on_inputs}
use Rattle.order_laws.proofs.WritersStay.{AreClear, NotNet, writers_clear}
use Rattle.order_laws.proofs.PhasesGoOn.{clear-run, state-run}
use Rattle.block_filter.proofs.Places.{is_some-last}
use Rattle.block_causes.proofs.Worked.{node_rests, process_waited}

-- Lists

some_in-push : {A : Type 0} (test : A → Bool) (xs : List A) (x : A) → some_in test (xs ++ x ∷ []) ≡ (some_in test xs || test x)
some_in-push test [] x = only (test x)
  where
    only : (b : Bool) → (b || false) ≡ b
    only true = refl
    only false = refl
some_in-push test (y ∷ xs) x = ap (λ b. test y || b) (some_in-push test xs x) ∙ assoc (test y) (some_in test xs) (test x)
  where
    assoc : (a b c : Bool) → (a || (b || c)) ≡ ((a || b) || c)
    assoc true b c = refl
    assoc false b c = refl

or-first : (b c : Bool) → b ≡ true → (b || c) ≡ true
or-first true c e = refl
or-first false c e = cc

pushed : {A : Type 0} (test : A → Bool) (xs : List A) (x : A) → some_in test xs ≡ true → some_in test (xs ++ x ∷ []) ≡ true
pushed test xs x e = some_in-push test xs x ∙ or-first (some_in test xs) (test x) e

pushed-last : {A : Type 0} (test : A → Bool) (xs : List A) (x : A) → test x ≡ true → some_in test (xs ++ x ∷ []) ≡ true
pushed-last test xs x e = some_in-push test xs x ∙ or-second (some_in test xs) (test x) e

-- no node has work
no-work : (start : ℕ) (xs : List NodeState) → work_of start xs ≡ None → some_in has_work xs ≡ false
no-work start [] e = refl
no-work start (x ∷ xs) e = go x.marked (is_some x.pending) e (λ f. no-work (start + 1) xs f)
  where
    go : (a b : Bool) → least_work start a b (work_of (start + 1) xs) ≡ None → (work_of (start + 1) xs ≡ None → some_in has_work xs ≡ false) → ((a || b) || some_in has_work xs) ≡ false
    go true b f rest = cc
    go false true f rest = cc
    go false false f rest = rest f

-- What has work

-- what is known of a state in a run
record IsState (machine : Machine) (state : State) : Type 0 where
  rules : KeepsRules machine.design
  fits : IsStateOf machine state
  clear : AreClear (NotNet machine) state
  follows : Follows machine Everywhere state

state-after : (machine : Machine) (state : State) (event : Event) → IsState machine state → IsState machine (after machine state event)
state-after machine state event s = record {
  rules = s.rules;
  fits = state-run machine state (event ∷ []) s.fits;
  clear = clear-run machine state (event ∷ []) s.rules s.clear;
  follows = follows-run machine state (event ∷ []) s.rules (rest_on_inputs machine s.rules) s.clear s.follows;
}

-- where a stretch has come to: each node with work has a changed input there, and each process that is ready was so at the beginning or was made so there
record HasCome (machine : Machine) (begins : State) (noted : List NotedEvent) (state : State) : Type 0 where
  nodes : (number : ℕ) (node : FlatNode) → slice_get machine.design.nodes number ≡ Some node → has_work (node_at state number) ≡ true →
      some_in (λ (note : NotedEvent). changes_input machine (Some node) note) noted ≡ true
  processes : (process : ℕ) → is_ready (process_at state process).activity ≡ true →
      (is_ready (process_at begins process).activity ≡ true) ⊎ (some_in (λ (note : NotedEvent). may_cause machine (Step process) note) noted ≡ true)

come-on : (machine : Machine) (begins : State) (noted : List NotedEvent) (state : State) (event : Event) → IsState machine state → possible state event ≡ true →
    HasCome machine begins noted state → HasCome machine begins (noted ++ note_of machine noted state event ∷ []) (after machine state event)
come-on machine begins noted state event s p h = record {
  nodes = λ number node e work. elim (cases_Bool (has_work (node_at state number))) [
    | inl busy ↦ pushed (λ (note : NotedEvent). changes_input machine (Some node) note) noted (note_of machine noted state event) (h.nodes number node e busy)
    | inr idle ↦ elim (cases_Bool (changes_one state (after machine state event) node.inputs)) [
      | inl changes ↦ pushed-last (λ (note : NotedEvent). changes_input machine (Some node) note) noted (note_of machine noted state event) changes
      | inr stays ↦ true-false (has_work (node_at (after machine state event) number)) work (node_rests machine state event number node s.rules s.follows p e stays idle)
    ]
  ];
  processes = λ process ready. elim (cases_Bool (is_ready (process_at state process).activity)) [
    | inl before ↦ elim (h.processes process before) [
      | inl first ↦ inl first
      | inr there ↦ inr (pushed (λ (note : NotedEvent). may_cause machine (Step process) note) noted (note_of machine noted state event) there)
    ]
    | inr other ↦ inr
        (pushed-last (λ (note : NotedEvent). may_cause machine (Step process) note) noted (note_of machine noted state event)
        (or-second (is_step_of process event) (ends_wait machine process (note_of machine noted state event))
        (λ i. process_waited machine state event process s.rules s.follows p other ready i && ready i)))
  ];
}

-- Node events

is-there : (xs : List NodeState) (number : ℕ) → has_work (found_or idle_node (slice_get xs number)) ≡ true → number < length xs
is-there [] number e = cc
is-there (x ∷ xs) zero e = omega arith
is-there (x ∷ xs) (suc number) e = let r : number < length xs = is-there xs number e in omega (arith, r)

-- a node with work has its text, and an event that changed an input
node-caused : (machine : Machine) (begins : State) (noted : List NotedEvent) (state : State) (number : ℕ) → IsState machine state → HasCome machine begins noted state →
    has_work (node_at state number) ≡ true → some_in (λ (note : NotedEvent). changes_input machine (slice_get machine.design.nodes number) note) noted ≡ true
node-caused machine begins noted state number s h work =
    let b : number < length state.nodes = is-there state.nodes number work in
    let l : length state.nodes ≡ length machine.design.nodes = s.fits.nodes in
    let n = some_below machine.design.nodes number (omega (arith, b, l)) in
    ap (λ found. some_in (λ (note : NotedEvent). changes_input machine found note) noted) n.1 ∙ h.nodes number n.0 n.1 work

event-caused : (machine : Machine) (begins : State) (noted : List NotedEvent) (state : State) (event : Event) → IsState machine state → HasCome machine begins noted state →
    possible state event ≡ true → (is_process_event event || some_in (λ (note : NotedEvent). may_cause machine event note) noted) ≡ true
event-caused machine begins noted state (Step process) s h p = refl
event-caused machine begins noted state (LaneStep process) s h p = refl
event-caused machine begins noted state (Evaluation number) s h p =
    node-caused machine begins noted state number s h (or-first (node_at state number).marked (is_some (node_at state number).pending) p)
event-caused machine begins noted state (NetUpdate number) s h p =
    node-caused machine begins noted state number s h (or-second (node_at state number).marked (is_some (node_at state number).pending) p)

-- Stretches

stretch-caused : (machine : Machine) (begins : State) (noted : List NotedEvent) (state : State) (events : List Event) → IsState machine state → HasCome machine begins noted state →
    all_possible machine state events ≡ true → AllHold HasCauseIfNode (new_notes machine noted state events)
stretch-caused machine begins noted state [] s h p = tt
stretch-caused machine begins noted state (event ∷ events) s h p =
    let both : (possible state event ≡ true) × (all_possible machine (after machine state event) events ≡ true) =
    and_parts (possible state event) (all_possible machine (after machine state event) events) p in (
      ap (λ b. is_process_event event || b) (is_some-last (λ (note : NotedEvent). may_cause machine event note) noted) ∙ event-caused machine begins noted state event s h both.0,
      stretch-caused machine begins (noted ++ note_of machine noted state event ∷ []) (after machine state event) events (state-after machine state event s)
          (come-on machine begins noted state event s both.0 h) both.1,
    )

possible-append : (machine : Machine) (state : State) (us ws : List Event) → all_possible machine state (us ++ ws) ≡ true → all_possible machine (happened machine state us) ws ≡ true
possible-append machine state [] ws p = p
possible-append machine state (u ∷ us) ws p =
    possible-append machine (after machine state u) us ws (and_parts (possible state u) (all_possible machine (after machine state u) (us ++ ws)) p).1

begins-state : (machine : Machine) (begins : State) (before events : List Event) → IsFromRest machine begins before events → IsState machine (happened machine begins before)
begins-state machine begins before events r = record {
  rules = r.rules;
  fits = state-run machine begins before r.asked.fits;
  clear = clear-run machine begins before r.rules (writers_clear machine begins r.asked.writers);
  follows = follows-run machine begins before r.rules (rest_on_inputs machine r.rules) (writers_clear machine begins r.asked.writers) (follows-begins machine begins r.asked);
}

begins-come : (machine : Machine) (state : State) → work_of 0 state.nodes ≡ None → HasCome machine state [] state
begins-come machine state rests = record {
  nodes = λ number node e work. true-false (has_work (node_at state number)) work (all_idle state.nodes (no-work 0 state.nodes rests) number);
  processes = λ process ready. inl ready;
}

pub stretches_are_caused : StretchesAreCaused
stretches_are_caused machine begins before events r =
    subst (AllHold HasCauseIfNode) (sym (noted_events-new machine (happened machine begins before) events))
    (stretch-caused machine (happened machine begins before) [] (happened machine begins before) events (begins-state machine begins before events r)
    (begins-come machine (happened machine begins before) r.rests) (possible-append machine begins before events r.possible))

-- Blocks

-- an event that follows the first one has its cause behind it
following-caused : (machine : Machine) (begins : State) (noted : List NotedEvent) (state : State) (first event : Event) → IsState machine state → HasCome machine begins noted state →
    ((later : Event) → may_cause machine later (note_of machine [] begins first) ≡ true → some_in (λ (note : NotedEvent). may_cause machine later note) noted ≡ true) →
    IsFollowing begins first event → possible state event ≡ true → some_in (λ (note : NotedEvent). may_cause machine event note) noted ≡ true
following-caused machine begins noted state first (Step process) s h here (inl same) p =
    here (Step process)
    (subst (λ ev. may_cause machine (Step process) (note_of machine [] begins ev) ≡ true) (sym same)
    (or-first (is_step_of process (Step process)) (ends_wait machine process (note_of machine [] begins (Step process))) (eq-eqb process process refl)))
following-caused machine begins noted state first (Step process) s h here (inr other) p = elim (h.processes process p) [
  | inl ready ↦ true-false (is_ready (process_at begins process).activity) ready other
  | inr there ↦ there
]
following-caused machine begins noted state first (LaneStep process) s h here same p =
    here (LaneStep process) (subst (λ ev. may_cause machine (LaneStep process) (note_of machine [] begins ev) ≡ true) (sym same) (eq-eqb process process refl))
following-caused machine begins noted state first (Evaluation number) s h here follows p =
    node-caused machine begins noted state number s h (or-first (node_at state number).marked (is_some (node_at state number).pending) p)
following-caused machine begins noted state first (NetUpdate number) s h here follows p =
    node-caused machine begins noted state number s h (or-second (node_at state number).marked (is_some (node_at state number).pending) p)

block-caused : (machine : Machine) (begins : State) (noted : List NotedEvent) (state : State) (first : Event) (events : List Event) → IsState machine state →
    HasCome machine begins noted state →
    ((later : Event) → may_cause machine later (note_of machine [] begins first) ≡ true → some_in (λ (note : NotedEvent). may_cause machine later note) noted ≡ true) →
    AllHold (IsFollowing begins first) events → all_possible machine state events ≡ true → AllHold HasCause (new_notes machine noted state events)
block-caused machine begins noted state first [] s h here follows p = tt
block-caused machine begins noted state first (event ∷ events) s h here follows p =
    let both : (possible state event ≡ true) × (all_possible machine (after machine state event) events ≡ true) =
    and_parts (possible state event) (all_possible machine (after machine state event) events) p in (
      is_some-last (λ (note : NotedEvent). may_cause machine event note) noted ∙ following-caused machine begins noted state first event s h here follows.0 both.0,
      block-caused machine begins (noted ++ note_of machine noted state event ∷ []) (after machine state event) first events (state-after machine state event s)
          (come-on machine begins noted state event s both.0 h)
          (λ later may. pushed (λ (note : NotedEvent). may_cause machine later note) noted (note_of machine noted state event) (here later may)) follows.1 both.1,
    )

pub blocks_are_caused : BlocksAreCaused
blocks_are_caused machine begins before first events r follows =
    let state : State = happened machine begins before in
    let s : IsState machine (happened machine begins before) = begins-state machine begins before (first ∷ events) r in
    let p : all_possible machine (happened machine begins before) (first ∷ events) ≡ true = possible-append machine begins before (first ∷ events) r.possible in
    let both : (possible (happened machine begins before) first ≡ true) × (all_possible machine (after machine (happened machine begins before) first) events ≡ true) =
    and_parts (possible (happened machine begins before) first) (all_possible machine (after machine (happened machine begins before) first) events) p in
    subst (AllLaterHold HasCause) (sym (noted_events-new machine (happened machine begins before) (first ∷ events)))
    (block-caused machine (happened machine begins before) (note_of machine [] (happened machine begins before) first ∷ []) (after machine (happened machine begins before) first) first events
    (state-after machine (happened machine begins before) first s)
    (come-on machine (happened machine begins before) [] (happened machine begins before) first s both.0 (begins-come machine (happened machine begins before) r.rests))
    (λ later may. or-first (may_cause machine later (note_of machine [] (happened machine begins before) first)) false may) follows both.1)
