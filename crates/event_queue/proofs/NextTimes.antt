-- The least time at which something comes.
use Rattle.std.proofs.Common.{◌≡◌, ℕ, ◌≤◌, Bool, true, false, ◌||◌, List, [], ◌∷◌, Option, Some, None, refl, sym, ◌∙◌, ap, arith, nat_cmp, subst, min, ⊎_elim}
use Rattle.std.specs.Option.{option_map, is_some}
use Rattle.std.specs.BTreeMap.{BTreeMap, get}
use Rattle.std.proofs.lemmas.Bool.{eq-eqb, eqb-true, true≢false, or_cases, or_left, or_right, cases_lt}
use Rattle.v_design.specs.States.{LaterUpdate, is_any, some_in, least_of, due_time}
use Rattle.vf_base.specs.declared.ids.ProcId.{ProcId}
use Rattle.v_design.specs.declared.plan.Update.{Update}
use Rattle.event_queue.specs.declared.held.Holding.{Holding}
use Rattle.event_queue.specs.declared.held.Holding.TheVariants.{Free, Asleep, Postponed}
use Rattle.event_queue.specs.Queues.{HeldProcess, wake_time, next_time}
use Rattle.event_queue.specs.Arranged.{wakes_at, is_at, listed_in, IsArranged, IsFirstTime}
use Rattle.event_queue.proofs.Releases.{processes_where-is_any, lanes_from-is_any}

-- the least number that passes a test, if some does
abbrev pub IsLeast : (ℕ → Bool) → Option ℕ → Type 0
IsLeast test None = (t : ℕ) → test t ≡ false
IsLeast test (Some m) = (test m ≡ true) × ((t : ℕ) → test t ≡ true → m ≤ t)

-- there is one such answer
pub IsLeast-unique : (test : ℕ → Bool) (a b : Option ℕ) → IsLeast test a → IsLeast test b → a ≡ b
IsLeast-unique test None None h k = refl
IsLeast-unique test None (Some n) h k = absurd (true≢false (sym k.0 ∙ h n))
IsLeast-unique test (Some m) None h k = absurd (true≢false (sym h.0 ∙ k m))
IsLeast-unique test (Some m) (Some n) h k =
    let up : m ≤ n = h.1 n k.0 in
    let down : n ≤ m = k.1 m h.0 in
    let same : m ≡ n = omega arith in ap Some same

-- for tests that agree
pub IsLeast-same : (test other : ℕ → Bool) (a : Option ℕ) → ((t : ℕ) → test t ≡ other t) → IsLeast test a → IsLeast other a
IsLeast-same test other None same h = λ t. sym (same t) ∙ h t
IsLeast-same test other (Some m) same h = (sym (same m) ∙ h.0, λ t e. h.1 t (same t ∙ e))

-- of either test
pub IsLeast-either : (test other : ℕ → Bool) (a b : Option ℕ) → IsLeast test a → IsLeast other b → IsLeast (λ t. test t || other t) (least_of a b)
IsLeast-either test other None None h k = λ t. ap (λ b. b || other t) (h t) ∙ k t
IsLeast-either test other None (Some n) h k = (or_right (test n) (other n) k.0, λ t e. k.1 t (sym (ap (λ b. b || other t) (h t)) ∙ e))
IsLeast-either test other (Some m) None h k =
    (or_left (test m) (other m) h.0, λ t e. ⊎_elim (λ y. h.1 t y) (λ z. absurd (true≢false (sym z ∙ k t))) (or_cases (test t) (other t) e))
IsLeast-either test other (Some m) (Some n) h k =
    let Passes : ℕ → Type 0 = λ t. (test t || other t) ≡ true in
    let passes : Passes (min m n) =
    ⊎_elim
    (λ less. let e : m ≡ min m n = omega arith in subst Passes e (or_left (test m) (other m) h.0))
    (λ more. let e : n ≡ min m n = omega arith in subst Passes e (or_right (test n) (other n) k.0))
    (cases_lt m n) in
    let least : (t : ℕ) → Passes t → min m n ≤ t = λ t e.
    ⊎_elim (λ y. let below : m ≤ t = h.1 t y in omega arith) (λ z. let below : n ≤ t = k.1 t z in omega arith) (or_cases (test t) (other t) e) in
    (passes, least)

-- when a process wakes
IsLeast-wake : (holding : Holding) → IsLeast (λ t. wakes_at t holding) (wake_time holding)
IsLeast-wake Free = λ t. refl
IsLeast-wake (Asleep time) = (eq-eqb time time refl, λ t e. let same : time ≡ t = eqb-true time t e in omega arith)
IsLeast-wake Postponed = λ t. refl

-- when an update is due
IsLeast-due : (later : List LaterUpdate) → IsLeast (λ t. some_in (is_at t) later) (due_time later)
IsLeast-due [] = λ t. refl
IsLeast-due (l ∷ later) =
    IsLeast-either (λ t. is_at t l) (λ t. some_in (is_at t) later) (Some l.time) (due_time later)
    (eq-eqb l.time l.time refl, λ t e. let same : l.time ≡ t = eqb-true l.time t e in omega arith) (IsLeast-due later)

-- whether something of a process comes at a time
abbrev pub comes_at : ℕ → HeldProcess → Bool
comes_at t held = wakes_at t held.holding || some_in (is_at t) held.later

-- when something comes
pub IsLeast-next_time : (held : List HeldProcess) → IsLeast (λ t. some_in (comes_at t) held) (next_time held)
IsLeast-next_time [] = λ t. refl
IsLeast-next_time (h ∷ held) =
    IsLeast-either (λ t. comes_at t h) (λ t. some_in (comes_at t) held) (least_of (wake_time h.holding) (due_time h.later)) (next_time held)
    (IsLeast-either (λ t. wakes_at t h.holding) (λ t. some_in (is_at t) h.later) (wake_time h.holding) (due_time h.later) (IsLeast-wake h.holding) (IsLeast-due h.later))
    (IsLeast-next_time held)

-- two tests of a list at once
some_in-either : {A : Type 0} (p q : A → Bool) (xs : List A) → (some_in p xs || some_in q xs) ≡ some_in (λ x. p x || q x) xs
some_in-either p q [] = refl
some_in-either p q (x ∷ xs) = exchange (p x) (q x) (some_in p xs) (some_in q xs) ∙ ap (λ b. (p x || q x) || b) (some_in-either p q xs)
  where
    exchange : (a b c d : Bool) → ((a || c) || (b || d)) ≡ ((a || b) || (c || d))
    exchange true b c d = refl
    exchange false true true d = refl
    exchange false true false d = refl
    exchange false false c d = refl

-- the first time of a map is the least at which it has something
pub IsLeast-first_time : {A : Type 0} (m : BTreeMap ℕ A) (first : Option ℕ) → IsFirstTime m first → IsLeast (λ t. is_some (get nat_cmp m t)) first
IsLeast-first_time m None h = λ t. ap is_some (h t)
IsLeast-first_time m (Some first) h = h

-- a list that a map has isn't empty
is_some-listed_in : {A : Type 0} (xs : List A) → is_some (listed_in xs) ≡ is_any xs
is_some-listed_in [] = refl
is_some-listed_in (x ∷ xs) = refl

-- whether there is an image
is_some-option_map : {A B : Type 0} (f : A → B) (o : Option A) → is_some (option_map f o) ≡ is_some o
is_some-option_map f None = refl
is_some-option_map f (Some x) = refl

-- the lesser of the first times is when something comes
pub next_time-arranged : (held : List HeldProcess) (postponed : List ProcId) (sleepers : BTreeMap ℕ (List ProcId)) (lanes : BTreeMap ℕ (List (ProcId × List Update)))
    → IsArranged held postponed sleepers lanes → (wakes due : Option ℕ) → IsFirstTime sleepers wakes → IsFirstTime lanes due → least_of wakes due ≡ next_time held
next_time-arranged held postponed sleepers lanes a wakes due w d =
    let waking : (t : ℕ) → is_some (get nat_cmp sleepers t) ≡ some_in (λ (h : HeldProcess). wakes_at t h.holding) held = λ t.
    ap is_some (a.sleepers_are t) ∙ (is_some-listed_in _ ∙ processes_where-is_any (wakes_at t) held) in
    let falling_due : (t : ℕ) → is_some (get nat_cmp lanes t) ≡ some_in (λ (h : HeldProcess). some_in (is_at t) h.later) held = λ t.
    sym (is_some-option_map _ (get nat_cmp lanes t)) ∙ (ap is_some (a.lanes_are t) ∙ (is_some-listed_in _ ∙ lanes_from-is_any t 0 held)) in
    let either = IsLeast-either (λ t. is_some (get nat_cmp sleepers t)) (λ t. is_some (get nat_cmp lanes t)) wakes due (IsLeast-first_time sleepers wakes w) (IsLeast-first_time lanes due d) in
    let same : (t : ℕ) → (is_some (get nat_cmp sleepers t) || is_some (get nat_cmp lanes t)) ≡ some_in (comes_at t) held = λ t.
    ap (λ b. b || is_some (get nat_cmp lanes t)) (waking t)
    ∙ (ap (λ b. some_in (λ (h : HeldProcess). wakes_at t h.holding) held || b) (falling_due t)
    ∙ some_in-either (λ (h : HeldProcess). wakes_at t h.holding) (λ (h : HeldProcess). some_in (is_at t) h.later) held) in
    IsLeast-unique (λ t. some_in (comes_at t) held) (least_of wakes due) (next_time held) (IsLeast-same _ _ _ same either) (IsLeast-next_time held)
