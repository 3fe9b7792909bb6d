-- Which steps of a phase end a run.
use Rattle.std.proofs.Common.{◌≡◌, ℕ, ◌<◌, ◌≤◌, List, [], ◌∷◌, ◌++◌, Bool, true, false, refl, sym, ap, subst, ◌∙◌, inl, inr, arith}
use Rattle.std.specs.Prelude.{Some, None, nat_eq, nat_le}
use Rattle.std.proofs.lemmas.Bool.{cases_lt, cases_eq, eq-eqb, ne_eqb, le-leb, lt-leb}
use Rattle.std.proofs.lemmas.List.{append-nil, append_assoc}
use Rattle.v_design.specs.Designs.{Machine}
use Rattle.v_design.specs.States.{State, ProcessState, Event, Step, LaneStep, Evaluation, NetUpdate, after, process_at, is_ready, is_any, step_of}
use Rattle.v_design.specs.Runs.{first_event, happened, work_of}
use Rattle.v_design.specs.PhaseLogs.{is_step_of}
use Rattle.copy_laws.specs.Beside.{AreFirst}
use Rattle.machine_laws.specs.SlotLoop.{NoNodeWorks, first_lane, first_ready}
use Rattle.phase_blocks.specs.Blocks.{run_goes_on}
use Rattle.phase_blocks.proofs.Lists.{true-false, happened-append, first-behind}
use Rattle.phase_blocks.proofs.Taken.{takes-step, takes-lane, takes-node, ready-first, ready-none-below, lane-first, lane-none, least-ready}
use Rattle.phase_blocks.proofs.Stopping.{stopped-nodes, stopped-other, stopped-own}
use Rattle.order_laws.proofs.Woken.{lane_after_other}
use Rattle.phase_blocks.proofs.Going.{RunLaws, goes-own, goes-other}
use Rattle.boundary_laws.specs.Ends.{further_step, steps_further, StepsTellEnds}

-- A step that leaves its process ready

-- a later step of a process that isn't greater
further-low : (p q : ℕ) (later : Bool) → q ≤ p → (nat_eq p q ≡ false → later ≡ true) → further_step p q later ≡ true
further-low p q later low rest = go (nat_eq p q) refl
  where
    go : (b : Bool) → nat_eq p q ≡ b → elim b as (λ _. Bool) [ true ↦ true | false ↦ elim (nat_le p q) as (λ _. Bool) [ true ↦ false | false ↦ later ] ] ≡ true
    go true e = refl
    go false e = elim (cases_eq p q) [
      | inl same ↦ true-false (nat_eq p q) (eq-eqb p q same) e
      | inr other ↦ ap (λ (b : Bool). elim b as (λ _. Bool) [ true ↦ false | false ↦ later ]) (lt-leb p q (omega (arith, other, low))) ∙ rest e
    ]

abbrev GoesFurther : Machine → State → ℕ → List Event → List Event → Type 0
GoesFurther machine begins p done rest =
    run_goes_on machine begins done p ≡ true → AreFirst machine (happened machine begins done) rest → run_goes_on machine begins (done ++ rest) p ≡ false → steps_further p rest ≡ true

goes-further : RunLaws → (machine : Machine) (begins : State) (p : ℕ) (done rest : List Event) → GoesFurther machine begins p done rest
goes-further laws machine begins p done [] goes first stops =
    true-false (run_goes_on machine begins done p) goes (ap (λ l. run_goes_on machine begins l p) (sym (append-nil done)) ∙ stops)
goes-further laws machine begins p done (event ∷ rest) goes first stops = go event first.0 (later (goes-further laws machine begins p (done ++ event ∷ []) rest))
  where
    state : State
    state = happened machine begins done

    later : GoesFurther machine begins p (done ++ event ∷ []) rest → is_step_of p event ≡ false → steps_further p rest ≡ true
    later more other =
        more (goes-other laws machine begins done event p other ∙ goes) (subst (λ s. AreFirst machine s rest) (sym (happened-append machine begins done (event ∷ []))) first.1)
        (ap (λ l. run_goes_on machine begins l p) (append_assoc done (event ∷ []) rest) ∙ stops)

    go : (event : Event) → first_event state ≡ Some event → (is_step_of p event ≡ false → steps_further p rest ≡ true) → steps_further p (event ∷ rest) ≡ true
    go (Step q) e more = further-low p q (steps_further p rest) (least-ready state q p (takes-step state q e).2 (laws.ready machine p begins done goes)) more
    go (LaneStep q) e more = more refl
    go (Evaluation number) e more = more refl
    go (NetUpdate number) e more = more refl

-- A step that doesn't

further-high : (p q : ℕ) (later : Bool) → p < q → further_step p q later ≡ false
further-high p q later high =
    ap (λ (b : Bool). elim b as (λ _. Bool) [ true ↦ true | false ↦ elim (nat_le p q) as (λ _. Bool) [ true ↦ false | false ↦ later ] ]) (ne_eqb p q (λ same. absurd (omega (arith, same, high))))
    ∙ ap (λ (b : Bool). elim b as (λ _. Bool) [ true ↦ false | false ↦ later ]) (le-leb p q (omega (arith, high)))

stops-there : (machine : Machine) (state : State) (p : ℕ) (behind : List Event) → first_event state ≡ Some (Step p) → is_ready (step_of machine state p).next ≡ false →
    AreFirst machine (after machine state (Step p)) behind → steps_further p behind ≡ false
stops-there machine state p [] e stops first = refl
stops-there machine state p (event ∷ behind) e stops first = go event first.0
  where
    next : State
    next = after machine state (Step p)

    taken : NoNodeWorks state × (first_lane state ≡ None) × (first_ready state ≡ Some p)
    taken = takes-step state p e

    nodes : NoNodeWorks next
    nodes = ap (λ ns. work_of 0 ns) (stopped-nodes machine state p stops) ∙ taken.0

    below : (q : ℕ) → q ≤ p → is_ready (process_at next q).activity ≡ false
    below q h = elim (cases_eq q p) [
      | inl same ↦ subst (λ n. is_ready (process_at next n).activity ≡ false) (sym same) (stopped-own machine state p stops)
      | inr other ↦
          ap (λ (s : ProcessState). is_ready s.activity) (stopped-other machine state p q (λ same. other (sym same)) stops)
          ∙ ready-none-below state p q taken.2 (omega (arith, other, h))
    ]

    go : (event : Event) → first_event next ≡ Some event → steps_further p (event ∷ behind) ≡ false
    go (Step q) f = elim (cases_lt p q) [
      | inl high ↦ further-high p q (steps_further p behind) high
      | inr low ↦ true-false (is_ready (process_at next q).activity) (ready-first next q (takes-step next q f).2) (below q (omega (arith, low)))
    ]
    go (LaneStep q) f =
        true-false (is_any (process_at next q).lane) (lane-first next q (takes-lane next q f).1) (ap is_any (lane_after_other machine state (Step p) q (λ e. cc)) ∙ lane-none state q taken.1)
    go (Evaluation number) f = absurd (takes-node next (Evaluation number) refl f nodes)
    go (NetUpdate number) f = absurd (takes-node next (NetUpdate number) refl f nodes)

pub steps_tell_ends : RunLaws → StepsTellEnds
steps_tell_ends laws machine begins before p behind first between = go (is_ready (step_of machine state p).next) refl
  where
    state : State
    state = happened machine begins before

    behind-first : AreFirst machine state (Step p ∷ behind)
    behind-first = first-behind machine begins before (Step p ∷ behind) first

    go : (b : Bool) → is_ready (step_of machine state p).next ≡ b → b ≡ steps_further p behind
    go true r =
        sym (goes-further laws machine begins p (before ++ Step p ∷ []) behind (goes-own laws machine begins before p ∙ r)
        (subst (λ s. AreFirst machine s behind) (sym (happened-append machine begins before (Step p ∷ []))) behind-first.1)
        (ap (λ l. run_goes_on machine begins l p) (append_assoc before (Step p ∷ []) behind) ∙ between.runs p))
    go false r = sym (stops-there machine state p behind behind-first.0 r behind-first.1)
