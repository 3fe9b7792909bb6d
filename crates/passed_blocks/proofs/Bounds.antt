-- Who acts in a block is one of the design's processes (processes by IEEE 1364-2001, clause 9).
use Rattle.std.proofs.Common.{◌≡◌, ℕ, zero, suc, ◌<◌, Bool, true, false, ◌&&◌, ◌||◌, List, [], ◌∷◌, length, get_or, refl, sym, ap, subst, ◌∙◌, inl, inr, arith}
use Rattle.std.specs.Prelude.{Some, nat_eq}
use Rattle.std.specs.List.{All}
use Rattle.std.proofs.lemmas.Bool.{cases_lt, eq-eqb, eqb-true}
use Rattle.vf_base.specs.Lists.{has}
use Rattle.v_design.specs.Accesses.{is_waiting}
use Rattle.v_design.specs.Designs.{Machine}
use Rattle.v_design.specs.PhaseLogs.{is_step_of, is_lane_of}
use Rattle.v_design.specs.Runs.{first_event}
use Rattle.v_design.specs.States.{State, Event, Step, LaneStep, Evaluation, NetUpdate, after, process_at, is_ready, is_any}
use Rattle.copy_laws.specs.Beside.{AreFirst}
use Rattle.copy_laws.specs.Moves.{ChangesOnly}
use Rattle.copy_laws.specs.QuietPhases.{ends_its_wait}
use Rattle.block_changes.specs.Changes.{EventsChangeParts, parts_changed, ends_wait_of, steps_process, steps_lane}
use Rattle.phase_blocks.proofs.Taken.{takes-step, takes-lane, ready-first, lane-first}
use Rattle.shown_blocks.proofs.Behind.{past-idle}

-- Who acts is there

pub ready-low : (state : State) (p : ℕ) → is_ready (process_at state p).activity ≡ true → p < length state.processes
ready-low state p ready = elim (cases_lt p (length state.processes)) [
  | inl low ↦ low
  | inr high ↦ let z : false ≡ true = ap (λ s. is_ready s.activity) (sym (past-idle state p high)) ∙ ready in cc
]

pub lane-low : (state : State) (p : ℕ) → is_any (process_at state p).lane ≡ true → p < length state.processes
lane-low state p some = elim (cases_lt p (length state.processes)) [
  | inl low ↦ low
  | inr high ↦ let z : false ≡ true = ap (λ s. is_any s.lane) (sym (past-idle state p high)) ∙ some in cc
]

waiting-low : (state : State) (p : ℕ) → is_waiting (process_at state p).activity ≡ true → p < length state.processes
waiting-low state p waits = elim (cases_lt p (length state.processes)) [
  | inl low ↦ low
  | inr high ↦ let z : false ≡ true = ap (λ s. is_waiting s.activity) (sym (past-idle state p high)) ∙ waits in cc
]

and-left : (a b : Bool) → (a && b) ≡ true → a ≡ true
and-left true b e = refl
and-left false b e = cc

-- a step of a process in the first order
step-low : (state : State) (event : Event) (p : ℕ) → first_event state ≡ Some event → is_step_of p event ≡ true → p < length state.processes
step-low state (Step q) p first own = ready-low state p (subst (λ n. is_ready (process_at state n).activity ≡ true) (sym (eqb-true p q own)) (ready-first state q (takes-step state q first).2))
step-low state (LaneStep q) p first own = cc
step-low state (Evaluation n) p first own = cc
step-low state (NetUpdate n) p first own = cc

lane-step-low : (state : State) (event : Event) (p : ℕ) → first_event state ≡ Some event → is_lane_of p event ≡ true → p < length state.processes
lane-step-low state (LaneStep q) p first own = lane-low state p (subst (λ n. is_any (process_at state n).lane ≡ true) (sym (eqb-true p q own)) (lane-first state q (takes-lane state q first).1))
lane-step-low state (Step q) p first own = cc
lane-step-low state (Evaluation n) p first own = cc
lane-step-low state (NetUpdate n) p first own = cc

pub acted-low : EventsChangeParts → (machine : Machine) (state : State) (events : List Event) (count p : ℕ) → AreFirst machine state events → length state.nodes ≡ length machine.design.nodes →
    length state.processes ≡ count → (steps_process events p || ends_wait_of machine state events p) ≡ true → p < count
acted-low law machine state [] count p first nodes processes acts = cc
acted-low law machine state (event ∷ events) count p first nodes processes acts =
    go (is_step_of p event) refl (ends_its_wait machine state event p) refl acts
    (acted-low law machine (after machine state event) events count p first.1 (changes.node_count ∙ nodes) (changes.process_count ∙ processes))
  where
    changes : ChangesOnly (parts_changed machine state (event ∷ [])) state (after machine state event)
    changes = law machine state (event ∷ []) nodes

    left : (a b : Bool) → ((false || a) || (false || b)) ≡ true → (a || b) ≡ true
    left a b e = e

    go : (s : Bool) → is_step_of p event ≡ s → (w : Bool) → ends_its_wait machine state event p ≡ w →
        ((is_step_of p event || steps_process events p) || (ends_its_wait machine state event p || ends_wait_of machine (after machine state event) events p)) ≡ true →
        ((steps_process events p || ends_wait_of machine (after machine state event) events p) ≡ true → p < count) → p < count
    go true s w wakes e rest = let low : p < length state.processes = step-low state event p first.0 s in omega (arith, low, processes)
    go false s true wakes e rest =
        let low : p < length state.processes =
        waiting-low state p (and-left (is_waiting (process_at state p).activity) (is_ready (process_at (after machine state event) p).activity) wakes) in
        omega (arith, low, processes)
    go false s false wakes e rest =
        rest (sym (λ i. (s i || steps_process events p) || (wakes i || ends_wait_of machine (after machine state event) events p)) ∙ e)

pub lanes-low : EventsChangeParts → (machine : Machine) (state : State) (events : List Event) (count p : ℕ) → AreFirst machine state events → length state.nodes ≡ length machine.design.nodes →
    length state.processes ≡ count → steps_lane events p ≡ true → p < count
lanes-low law machine state [] count p first nodes processes acts = cc
lanes-low law machine state (event ∷ events) count p first nodes processes acts =
    go (is_lane_of p event) refl acts (lanes-low law machine (after machine state event) events count p first.1 (changes.node_count ∙ nodes) (changes.process_count ∙ processes))
  where
    changes : ChangesOnly (parts_changed machine state (event ∷ [])) state (after machine state event)
    changes = law machine state (event ∷ []) nodes

    go : (b : Bool) → is_lane_of p event ≡ b → (is_lane_of p event || steps_lane events p) ≡ true → (steps_lane events p ≡ true → p < count) → p < count
    go true s e rest = let low : p < length state.processes = lane-step-low state event p first.0 s in omega (arith, low, processes)
    go false s e rest = rest (sym (ap (λ b. b || steps_lane events p) s) ∙ e)

-- all of those that a list has
pub all-low : (count : ℕ) (xs : List ℕ) → ((p : ℕ) → has xs p ≡ true → p < count) → All (λ p. p < count) xs
all-low count xs each k d low = each (get_or xs k d) (there xs k low)
  where
    there : (ys : List ℕ) (n : ℕ) → n < length ys → has ys (get_or ys n d) ≡ true
    there [] n less = absurd (omega (arith, less))
    there (y ∷ ys) zero less = ap (λ b. b || has ys y) (eq-eqb y y refl)
    there (y ∷ ys) (suc n) less = or-right (nat_eq y (get_or ys n d)) (has ys (get_or ys n d)) (there ys n (omega (arith, less)))
      where
        or-right : (a b : Bool) → b ≡ true → (a || b) ≡ true
        or-right true b e = refl
        or-right false b e = e
