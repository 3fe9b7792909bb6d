-- Laws on the orders of events: they are those of the ancestors in a forest whose parents have lesser numbers (nothing of the language).
use Rattle.std.proofs.Common.{◌≡◌, ℕ, zero, suc, ◌<◌, ◌≤◌, Bool, true, false, List, [], ◌∷◌, length, get_or, Option, Some, None, refl, ap, sym, subst, ◌∙◌, arith, inl, inr}
use Rattle.std.specs.Prelude.{nat_eq, ◌||◌}
use Rattle.std.specs.Option.{ForSome}
use Rattle.std.proofs.lemmas.Bool.{ne_eqb, eq-eqb, cases_eq}
use Rattle.std.proofs.lemmas.List.{get_or_read}
use Rattle.vf_base.specs.Lists.{has}
use Rattle.v_design.specs.Logs.{LoggedPhase, cause_at, causes_from, orders}
use Rattle.causal_monitor.specs.Phases.{CausesComeBefore}
use Rattle.causal_monitor.specs.Orders.{AreJumps}

-- whether one event is among those that are reached from another, if there is one
abbrev pub reached : LoggedPhase → Option ℕ → ℕ → Bool
reached log start event = has (causes_from (length log.events) log start) event

none_from : (log : LoggedPhase) (depth : ℕ) (start : Option ℕ) → ForSome start (λ n. n < 0) → causes_from depth log start ≡ []
none_from log depth None h = refl
none_from log depth (Some n) h = absurd (let less = h n refl in omega arith)

-- enough steps are enough
same_causes : (log : LoggedPhase) → CausesComeBefore log → (d e : ℕ) (start : Option ℕ) → ForSome start (λ n. n ≤ d) → ForSome start (λ n. n ≤ e) →
    causes_from d log start ≡ causes_from e log start
same_causes log before d e None h k = refl
same_causes log before zero zero (Some n) h k = refl
same_causes log before zero (suc e) (Some n) h k =
    ap (λ l. n ∷ l) (sym (none_from log e (cause_at log n) (λ c is. let less = before n c is in let low = h n refl in omega arith)))
same_causes log before (suc d) zero (Some n) h k =
    ap (λ l. n ∷ l) (none_from log d (cause_at log n) (λ c is. let less = before n c is in let low = k n refl in omega arith))
same_causes log before (suc d) (suc e) (Some n) h k =
    ap (λ l. n ∷ l)
    (same_causes log before d e (cause_at log n) (λ c is. let less = before n c is in let low = h n refl in omega arith) (λ c is. let less = before n c is in let low = k n refl in omega arith))

-- an event is ordered by itself and by what orders its cause
pub orders-step : (log : LoggedPhase) → CausesComeBefore log → (first second : ℕ) → second ≤ length log.events →
    orders log first second ≡ (nat_eq second first || reached log (cause_at log second) first)
orders-step log before first second low =
    ap (λ l. has l first)
    (same_causes log before (length log.events) (suc (length log.events)) (Some second) (λ n e. let same : second ≡ n = some_is second n e in omega arith)
    (λ n e. let same : second ≡ n = some_is second n e in omega arith))
  where
    some_is : (m n : ℕ) → Some m ≡ Some n → m ≡ n
    some_is m n e = cc

-- an event orders itself
pub orders-same : (log : LoggedPhase) → CausesComeBefore log → (event : ℕ) → event ≤ length log.events → orders log event event ≡ true
orders-same log before event low = orders-step log before event event low ∙ ap (λ b. b || reached log (cause_at log event) event) (eq-eqb event event refl)

-- another one is ordered by what orders its cause
orders-other : (log : LoggedPhase) → CausesComeBefore log → (first second : ℕ) → second ≤ length log.events → (second ≡ first → ⊥) →
    orders log first second ≡ reached log (cause_at log second) first
orders-other log before first second low other = orders-step log before first second low ∙ ap (λ b. b || reached log (cause_at log second) first) (ne_eqb second first other)

-- an event without a cause is ordered by itself alone
pub orders-root : (log : LoggedPhase) → CausesComeBefore log → (first second : ℕ) → second ≤ length log.events → (second ≡ first → ⊥) → cause_at log second ≡ None →
    orders log first second ≡ false
orders-root log before first second low other root = orders-other log before first second low other ∙ ap (λ start. reached log start first) root

-- an event with a cause
pub orders-cause : (log : LoggedPhase) → CausesComeBefore log → (first second cause : ℕ) → second ≤ length log.events → (second ≡ first → ⊥) → cause_at log second ≡ Some cause →
    orders log first second ≡ orders log first cause
orders-cause log before first second cause low other is = orders-other log before first second low other ∙ ap (λ start. reached log start first) is

-- the cause orders
pub orders-parent : (log : LoggedPhase) → CausesComeBefore log → (first second cause : ℕ) → second ≤ length log.events → cause_at log second ≡ Some cause → orders log first cause ≡ true →
    orders log first second ≡ true
orders-parent log before first second cause low is ordered =
    elim (cases_eq second first) [
      | inl same ↦ subst (λ n. orders log n second ≡ true) same (orders-same log before second low)
      | inr other ↦ orders-cause log before first second cause low other is ∙ ordered
    ]

false_true : (b : Bool) → b ≡ false → b ≡ true → ⊥
false_true b e f = cc

le_step : (log : LoggedPhase) → CausesComeBefore log → (n : ℕ) →
    ((first second : ℕ) → second < n → second ≤ length log.events → orders log first second ≡ true → first ≤ second) →
    (first second : ℕ) → second ≤ n → second ≤ length log.events → (second ≡ first → ⊥) → (start : Option ℕ) → cause_at log second ≡ start → reached log start first ≡ true → first ≤ second
le_step log before n less first second low within other None is e = absurd (false_true _ refl e)
le_step log before n less first second low within other (Some cause) is e =
    let earlier : cause < second = before second cause is in
    let le : first ≤ cause = less first cause (omega arith) (omega arith) e in omega arith

le_below : (log : LoggedPhase) → CausesComeBefore log → (n first second : ℕ) → second < n → second ≤ length log.events → orders log first second ≡ true → first ≤ second
le_below log before zero first second low within e = absurd (omega arith)
le_below log before (suc n) first second low within e =
    elim (cases_eq second first) [
      | inl same ↦ omega arith
      | inr other ↦
          le_step log before n (le_below log before n) first second (omega arith) within other (cause_at log second) refl
          (sym (orders-other log before first second within other) ∙ e)
    ]

-- what orders an event comes no later
pub orders_le : (log : LoggedPhase) → CausesComeBefore log → (first second : ℕ) → second ≤ length log.events → orders log first second ≡ true → first ≤ second
orders_le log before first second within e = le_below log before (suc second) first second (omega arith) within e

-- a later event isn't among those that order
pub orders_later : (log : LoggedPhase) → CausesComeBefore log → (first second : ℕ) → second ≤ length log.events → second < first → orders log first second ≡ false
orders_later log before first second within later = by_value (orders log first second) refl
  where
    by_value : (b : Bool) → orders log first second ≡ b → orders log first second ≡ false
    by_value true e = absurd (let le = orders_le log before first second within e in omega arith)
    by_value false e = e

through_step : (log : LoggedPhase) → CausesComeBefore log → (n first middle : ℕ) → first ≤ middle →
    ((second : ℕ) → second < n → second ≤ length log.events → orders log middle second ≡ true → orders log first second ≡ orders log first middle) →
    (second : ℕ) → second ≤ n → second ≤ length log.events → (second ≡ middle → ⊥) → (start : Option ℕ) → cause_at log second ≡ start → reached log start middle ≡ true →
    orders log first second ≡ orders log first middle
through_step log before n first middle le less second low within other None is e = absurd (false_true _ refl e)
through_step log before n first middle le less second low within other (Some cause) is e =
    let earlier : cause < second = before second cause is in
    let no_later : middle ≤ cause = orders_le log before middle cause (omega arith) e in
    orders-cause log before first second cause within (λ same. omega arith) is ∙ less cause (omega arith) (omega arith) e

through_below : (log : LoggedPhase) → CausesComeBefore log → (n first middle second : ℕ) → first ≤ middle → second < n → second ≤ length log.events →
    orders log middle second ≡ true → orders log first second ≡ orders log first middle
through_below log before zero first middle second le low within e = absurd (omega arith)
through_below log before (suc n) first middle second le low within e =
    elim (cases_eq second middle) [
      | inl same ↦ ap (orders log first) same
      | inr other ↦
          through_step log before n first middle le (λ s low' within' e'. through_below log before n first middle s le low' within' e') second (omega arith) within other (cause_at log second) refl
          (sym (orders-other log before middle second within other) ∙ e)
    ]

-- what orders an event in the middle is what orders the later one, among those that come no later than the middle
pub orders_through : (log : LoggedPhase) → CausesComeBefore log → (first middle second : ℕ) → first ≤ middle → second ≤ length log.events → orders log middle second ≡ true →
    orders log first second ≡ orders log first middle
orders_through log before first middle second le within e = through_below log before (suc second) first middle second le (omega arith) within e

-- orders go on
pub orders_trans : (log : LoggedPhase) → CausesComeBefore log → (first middle second : ℕ) → second ≤ length log.events → orders log first middle ≡ true → orders log middle second ≡ true →
    orders log first second ≡ true
orders_trans log before first middle second within e f =
    let low : middle ≤ second = orders_le log before middle second within f in
    orders_through log before first middle second (orders_le log before first middle (omega arith) e) within f ∙ e

-- Jumps

-- what is read at a jump's place orders the event there
pub jump_orders : (log : LoggedPhase) (jumps : List ℕ) → AreJumps log jumps → (event jump : ℕ) → event < length jumps → jump ≡ get_or jumps event jump → orders log jump event ≡ true
jump_orders log jumps are event jump within is = subst (λ j. orders log j event ≡ true) (sym (get_or_read jumps event jump within is 0)) (are event within)

-- and comes no later
pub jump_le : (log : LoggedPhase) → CausesComeBefore log → (jumps : List ℕ) → AreJumps log jumps → (event jump : ℕ) → event < length jumps → event ≤ length log.events →
    jump ≡ get_or jumps event jump →
    jump ≤ event
jump_le log before jumps are event jump within low is = orders_le log before jump event low (jump_orders log jumps are event jump within is)
