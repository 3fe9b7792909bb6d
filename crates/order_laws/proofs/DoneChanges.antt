-- What the changes of those events of a run that are done reach, beside what all its changes reach.
use Rattle.std.proofs.Common.{◌≡◌, ℕ, zero, suc, ◌+◌, ◌<◌, ◌≤◌, List, [], ◌∷◌, Bool, true, false, ◌||◌, refl, sym, ap, ◌∙◌, ◌⊎◌, inl, inr, arith}
use Rattle.std.specs.Prelude.{Some, slice_get}
use Rattle.vf_base.specs.Lists.{has}
use Rattle.v_design.specs.Designs.{Machine}
use Rattle.v_design.specs.States.{State, Event, after, found_or}
use Rattle.order_laws.proofs.PathLaws.{chosen, reached, reached-append, has-self}
use Rattle.order_laws.proofs.QuietNets.{event_changes, run_changes}
use Rattle.order_laws.proofs.NetStates.{number_other}
use Rattle.order_laws.proofs.RunStates.{first_of, state_at}

-- the paths to an object from the changes of the events that are done, numbered from a place on
abbrev pub done_from : Machine → State → List ℕ → ℕ → List Event → ℕ → ℕ
done_from machine state done start [] object = 0
done_from machine state done start (event ∷ events) object =
    chosen (has done start) (reached machine.design (event_changes machine state event) object) + done_from machine (after machine state event) done (suc start) events object

abbrev pub done_reach : Machine → State → List ℕ → List Event → ℕ → ℕ
done_reach machine state done events object = done_from machine state done 0 events object

chosen-most : (b : Bool) (n : ℕ) → chosen b n ≤ n
chosen-most true n = omega arith
chosen-most false n = omega arith

run-step : (machine : Machine) (state : State) (event : Event) (events : List Event) (object : ℕ) →
    reached machine.design (run_changes machine state (event ∷ events)) object ≡ reached machine.design (event_changes machine state event) object + reached machine.design
    (run_changes machine (after machine state event) events) object
run-step machine state event events object = reached-append machine.design (event_changes machine state event) (run_changes machine (after machine state event) events) object

pub done_most : (machine : Machine) (state : State) (done : List ℕ) (start : ℕ) (events : List Event) (object : ℕ) →
    done_from machine state done start events object ≤ reached machine.design (run_changes machine state events) object
done_most machine state done start [] object = omega arith
done_most machine state done start (event ∷ events) object =
    let a : chosen (has done start) (reached machine.design (event_changes machine state event) object) ≤ reached machine.design (event_changes machine state event) object =
    chosen-most (has done start) (reached machine.design (event_changes machine state event) object) in
    let b : done_from machine (after machine state event) done (suc start) events object ≤ reached machine.design (run_changes machine (after machine state event) events) object =
    done_most machine (after machine state event) done (suc start) events object in
    let s : reached machine.design (run_changes machine state (event ∷ events)) object ≡ reached machine.design (event_changes machine state event) object + reached machine.design
    (run_changes machine (after machine state event) events) object = run-step machine state event events object in
    omega (arith, a, b, s)

pub done_nothing : (machine : Machine) (state : State) (start : ℕ) (events : List Event) (object : ℕ) → done_from machine state [] start events object ≡ 0
done_nothing machine state start [] object = refl
done_nothing machine state start (event ∷ events) object =
    let z : done_from machine (after machine state event) [] (suc start) events object ≡ 0 = done_nothing machine (after machine state event) (suc start) events object in omega (arith, z)

-- an event before the numbered ones changes nothing
done-early : (machine : Machine) (state : State) (done : List ℕ) (i start : ℕ) (events : List Event) (object : ℕ) → i < start →
    done_from machine state (i ∷ done) start events object ≡ done_from machine state done start events object
done-early machine state done i start [] object h = refl
done-early machine state done i start (event ∷ events) object h =
    (λ k. chosen (number_other i start (λ e. omega (arith, e, h)) k || has done start) (reached machine.design (event_changes machine state event) object) + done-early machine
    (after machine state event) done i (suc start) events object (omega (arith, h)) k)

-- one event more
pub done_more : (machine : Machine) (state : State) (done : List ℕ) (start k : ℕ) (events : List Event) (event : Event) (object : ℕ) → has done (start + k) ≡ false → slice_get events k ≡ Some event →
    done_from machine state ((start + k) ∷ done) start events object ≡ done_from machine state done start events object + reached machine.design
    (event_changes machine (state_at machine state events k) event) object
done_more machine state done start k [] event object h e = cc
done_more machine state done start zero (first ∷ events) event object h e =
    let weight : ℕ = reached machine.design (event_changes machine state first) object in
    let at : start + 0 ≡ start = omega arith in
    let same : reached machine.design (event_changes machine state event) object ≡ reached machine.design (event_changes machine state first) object =
    ap (λ ev. reached machine.design (event_changes machine state ev) object) (sym (ap (found_or first) e)) in
    let now : chosen (has ((start + 0) ∷ done) start) (reached machine.design (event_changes machine state first) object) ≡ reached machine.design (event_changes machine state first) object =
    ap (λ n. chosen (has (n ∷ done) start) (reached machine.design (event_changes machine state first) object)) at
    ∙ ap (λ b. chosen b (reached machine.design (event_changes machine state first) object)) (has-self start done) in
    let then : chosen (has done start) (reached machine.design (event_changes machine state first) object) ≡ 0 =
    ap (λ b. chosen b (reached machine.design (event_changes machine state first) object)) (ap (has done) (sym at) ∙ h) in
    let rest : done_from machine (after machine state first) ((start + 0) ∷ done) (suc start) events object ≡ done_from machine (after machine state first) done (suc start) events object =
    done-early machine (after machine state first) done (start + 0) (suc start) events object (omega arith) in
    omega (arith, same, now, then, rest)
done_more machine state done start (suc k) (first ∷ events) event object h e =
    let at : start + suc k ≡ suc start + k = omega arith in
    let here : chosen (has ((start + suc k) ∷ done) start) (reached machine.design (event_changes machine state first) object) ≡ chosen (has done start)
    (reached machine.design (event_changes machine state first) object) =
    ap (λ b. chosen (b || has done start) (reached machine.design (event_changes machine state first) object)) (number_other (start + suc k) start (λ z. omega (arith, z))) in
    let rest : done_from machine (after machine state first) ((start + suc k) ∷ done) (suc start) events object ≡ done_from machine (after machine state first) done (suc start) events object
    + reached machine.design (event_changes machine (state_at machine (after machine state first) events k) event) object =
    ap (λ n. done_from machine (after machine state first) (n ∷ done) (suc start) events object) at
    ∙ done_more machine (after machine state first) done (suc start) k events event object (ap (has done) (sym at) ∙ h) e in
    omega (arith, here, rest)

-- where each event is done or reaches nothing
pub done_all : (machine : Machine) (state : State) (done : List ℕ) (start : ℕ) (events : List Event) (object : ℕ) →
    ((k : ℕ) (event : Event) → slice_get events k ≡ Some event → (has done (start + k) ≡ true) ⊎ (reached machine.design (event_changes machine (state_at machine state events k) event) object ≡ 0)) →
    done_from machine state done start events object ≡ reached machine.design (run_changes machine state events) object
done_all machine state done start [] object h = refl
done_all machine state done start (event ∷ events) object h =
    let a : chosen (has done start) (reached machine.design (event_changes machine state event) object) ≡ reached machine.design (event_changes machine state event) object =
    whole (has done start) (reached machine.design (event_changes machine state event) object)
    (elim (h 0 event refl) [ inl d ↦ inl (ap (has done) (let z : start ≡ start + 0 = omega arith in z) ∙ d) | inr z ↦ inr z ]) in
    let b : done_from machine (after machine state event) done (suc start) events object ≡ reached machine.design (run_changes machine (after machine state event) events) object =
    done_all machine (after machine state event) done (suc start) events object
    (λ k ev e. elim (h (suc k) ev e) [ inl d ↦ inl (ap (has done) (let z : suc start + k ≡ start + suc k = omega arith in z) ∙ d) | inr z ↦ inr z ]) in
    let s : reached machine.design (run_changes machine state (event ∷ events)) object ≡ reached machine.design (event_changes machine state event) object + reached machine.design
    (run_changes machine (after machine state event) events) object = run-step machine state event events object in
    omega (arith, a, b, s)
  where
    whole : (b : Bool) (n : ℕ) → (b ≡ true) ⊎ (n ≡ 0) → chosen b n ≡ n
    whole true n q = refl
    whole false n (inl q) = cc
    whole false n (inr q) = sym q

-- where those that are done reach nothing
pub done_none : (machine : Machine) (state : State) (done : List ℕ) (start : ℕ) (events : List Event) (object : ℕ) →
    ((k : ℕ) (event : Event) → slice_get events k ≡ Some event → has done (start + k) ≡ true → reached machine.design (event_changes machine (state_at machine state events k) event) object ≡ 0) →
    done_from machine state done start events object ≡ 0
done_none machine state done start [] object h = refl
done_none machine state done start (event ∷ events) object h =
    let a : chosen (has done start) (reached machine.design (event_changes machine state event) object) ≡ 0 =
    none (has done start) (reached machine.design (event_changes machine state event) object) (λ d. h 0 event refl (ap (has done) (let z : start + 0 ≡ start = omega arith in z) ∙ d)) in
    let b : done_from machine (after machine state event) done (suc start) events object ≡ 0 =
    done_none machine (after machine state event) done (suc start) events object (λ k ev e d. h (suc k) ev e (ap (has done) (let z : start + suc k ≡ suc start + k = omega arith in z) ∙ d)) in
    omega (arith, a, b)
  where
    none : (b : Bool) (n : ℕ) → (b ≡ true → n ≡ 0) → chosen b n ≡ 0
    none true n q = q refl
    none false n q = refl

-- one event more in a run
pub run_more : (machine : Machine) (state : State) (events : List Event) (n : ℕ) (event : Event) (object : ℕ) → slice_get events n ≡ Some event →
    reached machine.design (run_changes machine state (first_of (suc n) events)) object
    ≡ reached machine.design (run_changes machine state (first_of n events)) object + reached machine.design (event_changes machine (state_at machine state events n) event) object
run_more machine state [] n event object e = cc
run_more machine state (first ∷ events) zero event object e =
    let s : reached machine.design (run_changes machine state (first ∷ first_of 0 events)) object ≡ reached machine.design (event_changes machine state first) object + reached machine.design
    (run_changes machine (after machine state first) (first_of 0 events)) object =
    run-step machine state first (first_of 0 events) object in
    let z : reached machine.design (run_changes machine (after machine state first) (first_of 0 events)) object ≡ 0 = refl in
    let y : reached machine.design (run_changes machine state (first_of 0 (first ∷ events))) object ≡ 0 = refl in
    let same : reached machine.design (event_changes machine state event) object ≡ reached machine.design (event_changes machine state first) object =
    ap (λ ev. reached machine.design (event_changes machine state ev) object) (sym (ap (found_or first) e)) in
    omega (arith, s, z, y, same)
run_more machine state (first ∷ events) (suc n) event object e =
    let s : reached machine.design (run_changes machine state (first ∷ first_of (suc n) events)) object
    ≡ reached machine.design (event_changes machine state first) object + reached machine.design (run_changes machine (after machine state first) (first_of (suc n) events)) object =
    run-step machine state first (first_of (suc n) events) object in
    let t : reached machine.design (run_changes machine state (first ∷ first_of n events)) object
    ≡ reached machine.design (event_changes machine state first) object + reached machine.design (run_changes machine (after machine state first) (first_of n events)) object =
    run-step machine state first (first_of n events) object in
    let r : reached machine.design (run_changes machine (after machine state first) (first_of (suc n) events)) object
    ≡ reached machine.design (run_changes machine (after machine state first) (first_of n events)) object + reached machine.design
    (event_changes machine (state_at machine (after machine state first) events n) event) object =
    run_more machine (after machine state first) events n event object e in
    omega (arith, s, t, r)
