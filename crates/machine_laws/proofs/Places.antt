-- The least node, lane and process, and what it means that there is none.
use Rattle.std.proofs.Common.{◌≡◌, ℕ, zero, suc, ◌+◌, ◌<◌, List, [], ◌∷◌, Bool, true, false, not, ◌&&◌, ◌||◌, refl, ap, subst, ◌∙◌, arith}
use Rattle.std.specs.Prelude.{Option, Some, None, slice_get, is_some}
use Rattle.four_value.specs.Values.{LogicValue}
use Rattle.vf_base.specs.Lists.{first_place, earlier_place, change_at}
use Rattle.v_design.specs.States.{State, ProcessState, NodeState, Event, Evaluation, NetUpdate, found_or, idle_node, has_event, has_work, some_in, is_ready, is_any, is_quiescent}
use Rattle.v_design.specs.Runs.{least_work, work_of}
use Rattle.machine_laws.specs.SlotLoop.{IsIdle, first_lane, first_ready}

pub some_is : {A : Type 0} (x y : A) → Some x ≡ Some y → x ≡ y
some_is x y e = ap (found_or x) e

-- Places

-- what stands at the first place that passes a test passes it
pub placed : {A : Type 0} (test : A → Bool) (default : A) (xs : List A) (n : ℕ) → first_place test xs ≡ Some n → test (found_or default (slice_get xs n)) ≡ true
placed test default [] n e = cc
placed test default (x ∷ xs) n e = go (test x) (first_place test xs) refl refl e (λ m f. placed test default xs m f)
  where
    go : (b : Bool) (o : Option ℕ) → test x ≡ b → first_place test xs ≡ o → earlier_place b o ≡ Some n → ((m : ℕ) → first_place test xs ≡ Some m → test (found_or default (slice_get xs m)) ≡ true) →
        test (found_or default (slice_get (x ∷ xs) n)) ≡ true
    go true o t f h rest = subst (λ k. test (found_or default (slice_get (x ∷ xs) k)) ≡ true) (some_is 0 n h) t
    go false None t f h rest = cc
    go false (Some m) t f h rest =
        subst (λ k. test (found_or default (slice_get (x ∷ xs) k)) ≡ true) (let z : suc m ≡ m + 1 = omega arith in z ∙ some_is (m + 1) n h) (rest m f)

-- where there is no such place no element passes the test
none-placed : {A : Type 0} (test : A → Bool) (xs : List A) → first_place test xs ≡ None → some_in test xs ≡ false
none-placed test [] e = refl
none-placed test (x ∷ xs) e = go (test x) (first_place test xs) e (none-placed test xs)
  where
    go : (b : Bool) (o : Option ℕ) → earlier_place b o ≡ None → (o ≡ None → some_in test xs ≡ false) → (b || some_in test xs) ≡ false
    go true o h rest = cc
    go false None h rest = rest refl
    go false (Some m) h rest = cc

-- where there is one some element passes the test, and each weaker one
some-placed : {A : Type 0} (test weaker : A → Bool) (xs : List A) (n : ℕ) → ((x : A) → test x ≡ true → weaker x ≡ true) → first_place test xs ≡ Some n → some_in weaker xs ≡ true
some-placed test weaker [] n h e = cc
some-placed test weaker (x ∷ xs) n h e = go (test x) (first_place test xs) refl refl e (λ m f. some-placed test weaker xs m h f)
  where
    or-true : (b : Bool) → (b || true) ≡ true
    or-true true = refl
    or-true false = refl

    go : (b : Bool) (o : Option ℕ) → test x ≡ b → first_place test xs ≡ o → earlier_place b o ≡ Some n → ((m : ℕ) → first_place test xs ≡ Some m → some_in weaker xs ≡ true) →
        (weaker x || some_in weaker xs) ≡ true
    go true o t f k rest = ap (λ b. b || some_in weaker xs) (h x t)
    go false None t f k rest = cc
    go false (Some m) t f k rest = ap (λ b. weaker x || b) (rest m f) ∙ or-true (weaker x)

-- Nodes

abbrev Evaluates : ℕ → List NodeState → ℕ → Type 0
Evaluates start xs n = work_of start xs ≡ Some (Evaluation (start + n))

-- where the least node with work isn't the first one, that has none
later-works : (start : ℕ) (x : NodeState) (xs : List NodeState) (n : ℕ) → Evaluates start (x ∷ xs) (suc n) → (x.marked ≡ false) × (is_some x.pending ≡ false) × Evaluates (start + 1) xs n
later-works start x xs n e = go x.marked (is_some x.pending) refl refl e
  where
    go : (a b : Bool) → x.marked ≡ a → is_some x.pending ≡ b → least_work start a b (work_of (start + 1) xs) ≡ Some (Evaluation (start + suc n)) →
        (x.marked ≡ false) × (is_some x.pending ≡ false) × Evaluates (start + 1) xs n
    go true b i j f = let z : start ≡ start + suc n = cc in absurd (omega (arith, z))
    go false true i j f = cc
    go false false i j f = (i, j, f ∙ ap (λ k. Some (Evaluation k)) (let z : start + suc n ≡ start + 1 + n = omega arith in z))

-- nodes from a number on have work of no lesser number
from-later : (start : ℕ) (xs : List NodeState) (n : ℕ) → n < start → work_of start xs ≡ Some (Evaluation n) → ⊥
from-later start [] n low e = cc
from-later start (x ∷ xs) n low e = go x.marked (is_some x.pending) e (λ f. from-later (start + 1) xs n (omega (arith, low)) f)
  where
    go : (a b : Bool) → least_work start a b (work_of (start + 1) xs) ≡ Some (Evaluation n) → (work_of (start + 1) xs ≡ Some (Evaluation n) → ⊥) → ⊥
    go true b f rest = let z : start ≡ n = cc in absurd (omega (arith, z, low))
    go false true f rest = cc
    go false false f rest = rest f

-- it is to be evaluated
pub to-evaluate : (start : ℕ) (xs : List NodeState) (n : ℕ) → Evaluates start xs n → (found_or idle_node (slice_get xs n)).marked ≡ true
to-evaluate start [] n e = cc
to-evaluate start (x ∷ xs) zero e = go x.marked (is_some x.pending) refl e
  where
    go : (a b : Bool) → x.marked ≡ a → least_work start a b (work_of (start + 1) xs) ≡ Some (Evaluation (start + 0)) → x.marked ≡ true
    go true b i f = i
    go false true i f = cc
    go false false i f = absurd (from-later (start + 1) xs (start + 0) (omega arith) f)
to-evaluate start (x ∷ xs) (suc n) e = to-evaluate (start + 1) xs n (later-works start x xs n e).2

-- once it is evaluated it is the least with work, and is to be updated
pub updates : (start : ℕ) (xs : List NodeState) (n : ℕ) (values : List LogicValue) → Evaluates start xs n →
    work_of start (change_at xs n (λ old. record { marked = false; pending = Some values })) ≡ Some (NetUpdate (start + n))
updates start [] n values e = cc
updates start (x ∷ xs) zero values e = let z : start ≡ start + 0 = omega arith in ap (λ k. Some (NetUpdate k)) z
updates start (x ∷ xs) (suc n) values e =
    let l = later-works start x xs n e in
    (λ i. least_work start (l.0 i) (l.1 i) (work_of (start + 1) (change_at xs n (λ old. record { marked = false; pending = Some values }))))
    ∙ updates (start + 1) xs n values l.2 ∙ ap (λ k. Some (NetUpdate k)) (let z : start + 1 + n ≡ start + suc n = omega arith in z)

-- its update is pending
pub pends : (start : ℕ) (xs : List NodeState) (n : ℕ) (values : List LogicValue) → Evaluates start xs n →
    is_some (found_or idle_node (slice_get (change_at xs n (λ old. record { marked = false; pending = Some values })) n)).pending ≡ true
pends start [] n values e = cc
pends start (x ∷ xs) zero values e = refl
pends start (x ∷ xs) (suc n) values e = pends (start + 1) xs n values (later-works start x xs n e).2

none-has-work : (start : ℕ) (xs : List NodeState) → work_of start xs ≡ None → some_in has_work xs ≡ false
none-has-work start [] e = refl
none-has-work start (x ∷ xs) e = go x.marked (is_some x.pending) e (none-has-work (start + 1) xs)
  where
    go : (a b : Bool) → least_work start a b (work_of (start + 1) xs) ≡ None → (work_of (start + 1) xs ≡ None → some_in has_work xs ≡ false) → ((a || b) || some_in has_work xs) ≡ false
    go true b f rest = cc
    go false true f rest = cc
    go false false f rest = rest f

-- States

-- where there is no work, no lane and no ready process, no event is possible
both-none : (xs : List ProcessState) → some_in (λ (p : ProcessState). is_any p.lane) xs ≡ false → some_in (λ (p : ProcessState). is_ready p.activity) xs ≡ false → some_in has_event xs ≡ false
both-none [] a b = refl
both-none (x ∷ xs) a b =
    let l = neither (is_any x.lane) (some_in (λ (p : ProcessState). is_any p.lane) xs) a in
    let r = neither (is_ready x.activity) (some_in (λ (p : ProcessState). is_ready p.activity) xs) b in
    λ i. (r.0 i || l.0 i) || both-none xs l.1 r.1 i
  where
    neither : (a b : Bool) → (a || b) ≡ false → (a ≡ false) × (b ≡ false)
    neither true b e = cc
    neither false b e = (refl, e)

pub idle-quiet : (state : State) → IsIdle state → is_quiescent state ≡ true
idle-quiet state h =
    λ i. not (both-none state.processes (none-placed (λ (p : ProcessState). is_any p.lane) state.processes h.1) (none-placed (λ (p : ProcessState). is_ready p.activity) state.processes h.2) i)
    && not (none-has-work 0 state.nodes h.0 i)

-- where there is work, a lane or a ready process, the state isn't quiescent
quiet-not : (a b : Bool) → (not a && not b) ≡ true → (a ≡ false) × (b ≡ false)
quiet-not true b e = cc
quiet-not false true e = cc
quiet-not false false e = (refl, refl)

pub busy-lane : (state : State) (n : ℕ) → first_lane state ≡ Some n → is_quiescent state ≡ true → ⊥
busy-lane state n e q =
    let busy : some_in has_event state.processes ≡ true = some-placed (λ (p : ProcessState). is_any p.lane) has_event state.processes n (λ p t. or-right (is_ready p.activity) (is_any p.lane) t) e in
    let quiet : some_in has_event state.processes ≡ false = (quiet-not (some_in has_event state.processes) (some_in has_work state.nodes) q).0 in
    cc
  where
    or-right : (a b : Bool) → b ≡ true → (a || b) ≡ true
    or-right true b e = refl
    or-right false b e = e

pub busy-step : (state : State) (n : ℕ) → first_ready state ≡ Some n → is_quiescent state ≡ true → ⊥
busy-step state n e q =
    let busy : some_in has_event state.processes ≡ true = some-placed (λ (p : ProcessState). is_ready p.activity) has_event state.processes n (λ p t. ap (λ b. b || is_any p.lane) t) e in
    let quiet : some_in has_event state.processes ≡ false = (quiet-not (some_in has_event state.processes) (some_in has_work state.nodes) q).0 in
    cc

pub busy-node : (state : State) (event : Event) → work_of 0 state.nodes ≡ Some event → is_quiescent state ≡ true → ⊥
busy-node state event e q =
    let none : work_of 0 state.nodes ≡ None = idle-none 0 state.nodes (quiet-not (some_in has_event state.processes) (some_in has_work state.nodes) q).1 in
    cc
  where
    idle-none : (start : ℕ) (xs : List NodeState) → some_in has_work xs ≡ false → work_of start xs ≡ None
    idle-none start [] h = refl
    idle-none start (x ∷ xs) h = go x.marked (is_some x.pending) h (idle-none (start + 1) xs)
      where
        go : (a b : Bool) → ((a || b) || some_in has_work xs) ≡ false → (some_in has_work xs ≡ false → work_of (start + 1) xs ≡ None) → least_work start a b (work_of (start + 1) xs) ≡ None
        go true b f rest = cc
        go false true f rest = cc
        go false false f rest = rest f
