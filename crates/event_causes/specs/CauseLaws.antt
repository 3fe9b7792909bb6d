-- Laws on what tells the causes of a phase's events (nothing of the language).
use Rattle.std.proofs.Common.{◌≡◌, ℕ, zero, suc, ◌+◌, ◌-◌, ◌<◌, ◌≤◌, max, Bool, true, false, List, [], ◌∷◌, ◌++◌, map, length, get_or, set, refl, ap, sym, subst, ◌∙◌, arith, inl, inr, replicate}
use Rattle.std.specs.Prelude.{not, ◌&&◌, ◌||◌, cond, Option, Some, None, nat_eq, nat_lt, slice_get}
use Rattle.std.proofs.lemmas.List.{length-append, map_push, length_push, get_or-set_same, get_or-set_other, length-set, length-map, get_or-replicate, length-replicate}
use Rattle.std.proofs.lemmas.Bool.{ne_eqb, eq-eqb, cases_eq, cases_lt, lt-ltb, le-ltb}
use Rattle.four_value.specs.Values.{LogicValue, same_value}
use Rattle.four_value.specs.ValueLaws.{same_value-refl}
use Rattle.vf_base.specs.Lists.{has, last_place, later_place, AllHold}
use Rattle.v_design.specs.Designs.{FlatNode, Machine}
use Rattle.v_design.specs.Assignments.{value_at}
use Rattle.v_design.specs.Processes.{Activity, Ready, Waiting, Asleep, Postponed, Done}
use Rattle.v_design.specs.States.{State, Event, Step, LaneStep, Evaluation, NetUpdate, after, evaluated, process_at, is_ready}
use Rattle.v_design.specs.Accesses.{is_waiting}
use Rattle.v_design.specs.PhaseLogs.{NotedEvent, state_after, changes_one, changes_input, may_cause, cause_of, noted_at, writer_process, writer_line, note_of}
use Rattle.graph_order.specs.ListLaws.{now_has, still_has}
use Rattle.event_causes.specs.Causes.{place_within, IsLatest, greatest_number, EventWriter, noted_writer, cause_writer, changes_among, AreCausesOf, Tells, IsWriterOf, Marks, Marked, Begins}
use Rattle.event_causes.specs.Causes.{SameSizes, writer_of}
use Rattle.event_causes.specs.declared.causes.Causes.{Causes}
use Rattle.event_causes.specs.declared.causes.Writer.{Writer}
use Rattle.vf_base.specs.declared.ids.ObjectId.{ObjectId}
use Rattle.vf_base.specs.Base.{object_number}
use Rattle.std.specs.List.{All}

-- The latest of two

-- the later of two places, each of which may be missing
abbrev pub later_of : Option ℕ → Option ℕ → Option ℕ
later_of None other = other
later_of (Some place) None = Some place
later_of (Some place) (Some other) = Some (max place other)

place_below : (base number : ℕ) → number < base → place_within base number ≡ None
place_below base number h = ap (λ b. cond b None (Some (number - base))) (lt-ltb number base h)

place_at : (base number : ℕ) → base ≤ number → place_within base number ≡ Some (number - base)
place_at base number h = ap (λ b. cond b None (Some (number - base))) (le-ltb number base h)

-- the greater of two numbers is the later of two events
place_of_max : (base one other : ℕ) → place_within base (max one other) ≡ later_of (place_within base one) (place_within base other)
place_of_max base one other =
    elim (cases_lt one base) [
      | inl a ↦
          elim (cases_lt other base) [
            | inl b ↦ place_below base (max one other) (omega arith) ∙ sym (ap (λ p. later_of p (place_within base other)) (place_below base one a) ∙ place_below base other b)
            | inr b ↦
                place_at base (max one other) (omega arith) ∙ ap Some (let e : max one other - base ≡ other - base = omega arith in e)
                ∙ sym (ap (λ p. later_of p (place_within base other)) (place_below base one a) ∙ place_at base other b)
          ]
      | inr a ↦
          elim (cases_lt other base) [
            | inl b ↦
                place_at base (max one other) (omega arith) ∙ ap Some (let e : max one other - base ≡ one - base = omega arith in e)
                ∙ sym (ap (λ p. later_of p (place_within base other)) (place_at base one a) ∙ ap (later_of (Some (one - base))) (place_below base other b))
            | inr b ↦
                place_at base (max one other) (omega arith) ∙ ap Some (let e : max one other - base ≡ max (one - base) (other - base) = omega arith in e)
                ∙ sym (ap (λ p. later_of p (place_within base other)) (place_at base one a) ∙ ap (later_of (Some (one - base))) (place_at base other b))
          ]
    ]

later-either : (a b : Bool) (m n : Option ℕ) → later_place (a || b) (later_of m n) ≡ later_of (later_place a m) (later_place b n)
later-either true true None None = refl
later-either true false None None = refl
later-either false true None None = refl
later-either false false None None = refl
later-either true true None (Some n) = ap Some (let e : n + 1 ≡ max 0 (n + 1) = omega arith in e)
later-either true false None (Some n) = ap Some (let e : n + 1 ≡ max 0 (n + 1) = omega arith in e)
later-either false true None (Some n) = refl
later-either false false None (Some n) = refl
later-either true true (Some m) None = ap Some (let e : m + 1 ≡ max (m + 1) 0 = omega arith in e)
later-either true false (Some m) None = refl
later-either false true (Some m) None = ap Some (let e : m + 1 ≡ max (m + 1) 0 = omega arith in e)
later-either false false (Some m) None = refl
later-either true true (Some m) (Some n) = ap Some (let e : max m n + 1 ≡ max (m + 1) (n + 1) = omega arith in e)
later-either true false (Some m) (Some n) = ap Some (let e : max m n + 1 ≡ max (m + 1) (n + 1) = omega arith in e)
later-either false true (Some m) (Some n) = ap Some (let e : max m n + 1 ≡ max (m + 1) (n + 1) = omega arith in e)
later-either false false (Some m) (Some n) = ap Some (let e : max m n + 1 ≡ max (m + 1) (n + 1) = omega arith in e)

-- the last that passes one of two tests
last_place-or : {A : Type 0} (f g : A → Bool) (xs : List A) → last_place (λ x. f x || g x) xs ≡ later_of (last_place f xs) (last_place g xs)
last_place-or f g [] = refl
last_place-or f g (x ∷ xs) = ap (later_place (f x || g x)) (last_place-or f g xs) ∙ later-either (f x) (g x) (last_place f xs) (last_place g xs)

last_place-never : {A : Type 0} (xs : List A) → last_place (λ x. false) xs ≡ None
last_place-never [] = refl
last_place-never (x ∷ xs) = ap (later_place false) (last_place-never xs)

later-there : (b : Bool) (n : ℕ) → later_place b (Some n) ≡ Some (suc n)
later-there true n = ap Some (let e : n + 1 ≡ suc n = omega arith in e)
later-there false n = ap Some (let e : n + 1 ≡ suc n = omega arith in e)

-- one more at the end
last_place-push : {A : Type 0} (test : A → Bool) (xs : List A) (x : A) → last_place test (xs ++ x ∷ []) ≡ cond (test x) (Some (length xs)) (last_place test xs)
last_place-push test [] x = go (test x)
  where
    go : (b : Bool) → later_place b None ≡ cond b (Some 0) None
    go true = refl
    go false = refl
last_place-push test (y ∷ ys) x = ap (later_place (test y)) (last_place-push test ys x) ∙ go (test x)
  where
    go : (b : Bool) → later_place (test y) (cond b (Some (length ys)) (last_place test ys)) ≡ cond b (Some (suc (length ys))) (later_place (test y) (last_place test ys))
    go true = later-there (test y) (length ys)
    go false = refl

-- The latest event

-- one more event: where it passes the test, its number is that of the latest
pub IsLatest-more : (base next : ℕ) (test : NotedEvent → Bool) (earlier : List NotedEvent) (number : ℕ) (noted : NotedEvent) (b : Bool) → IsLatest base next test earlier number →
    next ≡ base + length earlier → b ≡ test noted →
    IsLatest base (next + 1) test (earlier ++ noted ∷ []) (cond b next number)
IsLatest-more base next test earlier number noted true had counted is = record {
  below = omega arith;
  tells = place_at base next (omega arith) ∙ ap Some (let e : next - base ≡ length earlier = omega arith in e)
      ∙ sym (last_place-push test earlier noted ∙ ap (λ b. cond b (Some (length earlier)) (last_place test earlier)) (sym is));
}
IsLatest-more base next test earlier number noted false had counted is = record {
  below = let low : number < next = had.below in omega arith;
  tells = had.tells ∙ sym (last_place-push test earlier noted ∙ ap (λ b. cond b (Some (length earlier)) (last_place test earlier)) (sym is));
}

-- no event of a phase that begins
pub IsLatest-none : (base next : ℕ) (test : NotedEvent → Bool) (earlier : List NotedEvent) (number : ℕ) → IsLatest base next test earlier number → IsLatest next next test [] number
IsLatest-none base next test earlier number had = record { below = had.below; tells = place_below next number had.below }

-- before all events
pub IsLatest-zero : (test : NotedEvent → Bool) (number : ℕ) → number ≡ 0 → IsLatest 1 1 test [] number
IsLatest-zero test number zeroth = record { below = omega arith; tells = place_below 1 number (omega arith) }

-- Tables

pub Marks-none : (number : ℕ) (old : List ℕ) → Marks [] number old old
Marks-none number old = record { same_length = refl; each = λ place h. refl }

-- one more place
pub Marks-more : (places : List ℕ) (number : ℕ) (old new : List ℕ) (x : ℕ) → Marks places number old new → x < length new → Marks (places ++ x ∷ []) number old (set new x number)
Marks-more places number old new x had within = record {
  same_length = length-set new x number ∙ had.same_length;
  each = λ o h.
      elim (cases_eq o x) [
        | inl same ↦
            ap (λ j. get_or (set new x number) j 0) same ∙ get_or-set_same new x number 0 within
            ∙ sym (ap (λ j. cond (has (places ++ x ∷ []) j) number (get_or old o 0)) same ∙ ap (λ b. cond b number (get_or old o 0)) (now_has places x))
        | inr other ↦
            get_or-set_other new x o number 0 other ∙ had.each o (omega (arith, length-set new x number))
            ∙ ap (λ b. cond b number (get_or old o 0)) (sym (still_has places x o other))
      ];
}

-- one place, and then others
pub Marks-first : (x : ℕ) (places : List ℕ) (number : ℕ) (old new : List ℕ) → x < length old → Marks places number (set old x number) new → Marks (x ∷ places) number old new
Marks-first x places number old new within had = record {
  same_length = had.same_length ∙ length-set old x number;
  each = λ o h.
      had.each o h
      ∙ elim (cases_eq o x) [
        | inl same ↦
            ap (cond (has places o) number) (ap (λ j. get_or (set old x number) j 0) same ∙ get_or-set_same old x number 0 within)
            ∙ either (has places o) ∙ sym (ap (λ b. cond (b || has places o) number (get_or old o 0)) (eq-eqb x o (sym same)))
        | inr other ↦
            ap (cond (has places o) number) (get_or-set_other old x o number 0 other)
            ∙ sym (ap (λ b. cond (b || has places o) number (get_or old o 0)) (ne_eqb x o (λ e. other (sym e))))
      ];
}
  where
    either : (b : Bool) → cond b number number ≡ number
    either true = refl
    either false = refl

-- The causes

-- before all events
pub AreCausesOf-start : (machine : Machine) (causes : Causes) → causes.base ≡ 1 → causes.next ≡ 1 → causes.writers.items ≡ [] →
    causes.steps.items ≡ replicate (length machine.design.processes) 0 → causes.lanes.items ≡ replicate (length machine.design.processes) 0 →
    causes.changes.items ≡ replicate (length machine.design.objects) 0 →
    AreCausesOf machine [] causes
AreCausesOf-start machine causes base next writers steps lanes changes =
    let zero-at : (table : List ℕ) (count i : ℕ) → table ≡ replicate count 0 → i < length table → get_or table i 0 ≡ 0 =
    λ table count i is low. ap (λ t. get_or t i 0) is ∙ get_or-replicate {A = ℕ} count i 0 0 (let long : length table ≡ count = ap length is ∙ length-replicate {A = ℕ} count 0 in omega arith) in
    let latest : (test : NotedEvent → Bool) (number : ℕ) → number ≡ 0 → IsLatest causes.base causes.next test [] number =
    λ test number e. subst (λ b. IsLatest b causes.next test [] number) (sym base) (subst (λ n. IsLatest 1 n test [] number) (sym next) (IsLatest-zero test number e)) in
    record {
      processes = ap length steps ∙ length-replicate {A = ℕ} (length machine.design.processes) 0;
      lane_processes = ap length lanes ∙ length-replicate {A = ℕ} (length machine.design.processes) 0;
      objects = ap length changes ∙ length-replicate {A = ℕ} (length machine.design.objects) 0;
      some = omega arith;
      counted = omega arith;
      steps = λ process h. latest (may_cause machine (Step process)) _ (zero-at causes.steps.items (length machine.design.processes) process steps h);
      lanes = λ process h. latest (may_cause machine (LaneStep process)) _ (zero-at causes.lanes.items (length machine.design.processes) process lanes h);
      changes = λ object h. latest (changes_among machine (object ∷ [])) _ (zero-at causes.changes.items (length machine.design.objects) object changes h);
      writers = ap (map _) writers;
    }

-- a phase that begins
pub AreCausesOf-phase : (machine : Machine) (earlier : List NotedEvent) (old new : Causes) → AreCausesOf machine earlier old → new.base ≡ old.next → new.next ≡ old.next → new.writers.items ≡ [] →
    new.steps.items ≡ old.steps.items → new.lanes.items ≡ old.lanes.items → new.changes.items ≡ old.changes.items → AreCausesOf machine [] new
AreCausesOf-phase machine earlier old new had base next writers steps lanes changes =
    let latest : (test : NotedEvent → Bool) (number : ℕ) → IsLatest old.base old.next test earlier number → IsLatest new.base new.next test [] number =
    λ test number h. subst (λ b. IsLatest b new.next test [] number) (sym base) (subst (λ n. IsLatest old.next n test [] number) (sym next) (IsLatest-none old.base old.next test earlier number h)) in
    record {
      processes = ap length steps ∙ had.processes;
      lane_processes = ap length lanes ∙ had.lane_processes;
      objects = ap length changes ∙ had.objects;
      some = omega (arith, had.some, had.counted);
      counted = omega arith;
      steps = λ process h. latest (may_cause machine (Step process)) _
          (subst (λ t. IsLatest old.base old.next (may_cause machine (Step process)) earlier (get_or t process 0)) (sym steps)
          (had.steps process (let e : length new.steps.items ≡ length old.steps.items = ap length steps in omega arith)));
      lanes = λ process h. latest (may_cause machine (LaneStep process)) _
          (subst (λ t. IsLatest old.base old.next (may_cause machine (LaneStep process)) earlier (get_or t process 0)) (sym lanes)
          (had.lanes process (let e : length new.lanes.items ≡ length old.lanes.items = ap length lanes in omega arith)));
      changes = λ object h. latest (changes_among machine (object ∷ [])) _
          (subst (λ t. IsLatest old.base old.next (changes_among machine (object ∷ [])) earlier (get_or t object 0)) (sym changes)
          (had.changes object (let e : length new.changes.items ≡ length old.changes.items = ap length changes in omega arith)));
      writers = ap (map _) writers;
    }

-- one event more, of which the marks say what it may cause
pub AreCausesOf-more : (machine : Machine) (earlier : List NotedEvent) (noted : NotedEvent) (stepped laned changed : List ℕ) (old new : Causes) → AreCausesOf machine earlier old →
    Marked stepped laned changed (noted_writer noted) old new →
    ((process : ℕ) → process < length machine.design.processes → has stepped process ≡ may_cause machine (Step process) noted) →
    ((process : ℕ) → process < length machine.design.processes → has laned process ≡ may_cause machine (LaneStep process) noted) →
    ((object : ℕ) → object < length machine.design.objects → has changed object ≡ changes_among machine (object ∷ []) noted) →
    AreCausesOf machine (earlier ++ noted ∷ []) new
AreCausesOf-more machine earlier noted stepped laned changed old new had marked step lane change =
    let latest : (test : NotedEvent → Bool) (number : ℕ) (b : Bool) → IsLatest old.base old.next test earlier number → b ≡ test noted →
    IsLatest new.base new.next test (earlier ++ noted ∷ []) (cond b old.next number) =
    λ test number b h is.
    subst (λ m. IsLatest m new.next test (earlier ++ noted ∷ []) (cond b old.next number)) (sym marked.base)
    (subst (λ n. IsLatest old.base n test (earlier ++ noted ∷ []) (cond b old.next number)) (sym marked.next) (IsLatest-more old.base old.next test earlier number noted b h had.counted is)) in
    let long_steps : length new.steps.items ≡ length old.steps.items = marked.steps.same_length in
    let long_lanes : length new.lanes.items ≡ length old.lanes.items = marked.lanes.same_length in
    let long_changes : length new.changes.items ≡ length old.changes.items = marked.changes.same_length in
    record {
      processes = long_steps ∙ had.processes;
      lane_processes = long_lanes ∙ had.lane_processes;
      objects = long_changes ∙ had.objects;
      some = omega (arith, had.some, marked.base);
      counted = omega (arith, had.counted, marked.base, marked.next, length_push earlier noted);
      steps = λ process h.
          subst (IsLatest new.base new.next (may_cause machine (Step process)) (earlier ++ noted ∷ [])) (sym (marked.steps.each process h))
          (latest (may_cause machine (Step process)) (get_or old.steps.items process 0) (has stepped process) (had.steps process (omega arith)) (step process (omega (arith, had.processes))));
      lanes = λ process h.
          subst (IsLatest new.base new.next (may_cause machine (LaneStep process)) (earlier ++ noted ∷ [])) (sym (marked.lanes.each process h))
          (latest (may_cause machine (LaneStep process)) (get_or old.lanes.items process 0) (has laned process) (had.lanes process (omega arith)) (lane process (omega (arith, had.lane_processes))));
      changes = λ object h.
          subst (IsLatest new.base new.next (changes_among machine (object ∷ [])) (earlier ++ noted ∷ [])) (sym (marked.changes.each object h))
          (latest (changes_among machine (object ∷ [])) (get_or old.changes.items object 0) (has changed object) (had.changes object (omega arith)) (change object (omega (arith, had.objects))));
      writers = marked.writers ∙ ap (λ w. w ++ noted_writer noted ∷ []) had.writers ∙ sym (map_push noted_writer earlier noted);
    }

-- Each kind of event

nat_eq-swap : (m n : ℕ) → nat_eq m n ≡ nat_eq n m
nat_eq-swap m n = elim (cases_eq m n) [ inl same ↦ eq-eqb m n same ∙ sym (eq-eqb n m (sym same)) | inr other ↦ ne_eqb m n other ∙ sym (ne_eqb n m (λ e. other (sym e))) ]

or-false : (b : Bool) → b ≡ (b || false)
or-false true = refl
or-false false = refl

writer-is : (machine : Machine) (earlier : List NotedEvent) (state : State) (event : Event) (writer : EventWriter) → IsWriterOf machine earlier state event writer →
    writer ≡ noted_writer (note_of machine earlier state event)
writer-is machine earlier state event writer is = λ i. record { process = is.process i; line = is.line i }

changes-told : (machine : Machine) (earlier : List NotedEvent) (state : State) (event : Event) (changed ended : List ℕ) → Tells machine state event changed ended → (object : ℕ) →
    object < length machine.design.objects →
    has changed object ≡ changes_among machine (object ∷ []) (note_of machine earlier state event)
changes-told machine earlier state event changed ended tells object low = tells.objects object low ∙ or-false _

-- a step of a process
pub notes-step : (machine : Machine) (earlier : List NotedEvent) (state : State) (process : ℕ) (writer : EventWriter) (changed ended : List ℕ) (old new : Causes) → AreCausesOf machine earlier old →
    Tells machine state (Step process) changed ended → IsWriterOf machine earlier state (Step process) writer → Marked (process ∷ ended) [] changed writer old new →
    AreCausesOf machine (earlier ++ note_of machine earlier state (Step process) ∷ []) new
notes-step machine earlier state process writer changed ended old new had tells is marked =
    AreCausesOf-more machine earlier (note_of machine earlier state (Step process)) (process ∷ ended) [] changed old new had
    (subst (λ w. Marked (process ∷ ended) [] changed w old new) (writer-is machine earlier state (Step process) writer is) marked)
    (λ p low. ap (λ b. nat_eq process p || b) (tells.waits p low) ∙ ap (λ b. b || (is_waiting (process_at state p).activity && is_ready (process_at (after machine state (Step process)) p).activity))
    (nat_eq-swap process p))
    (λ p low. refl) (changes-told machine earlier state (Step process) changed ended tells)

-- a step of a lane
pub notes-lane : (machine : Machine) (earlier : List NotedEvent) (state : State) (process : ℕ) (writer : EventWriter) (changed ended : List ℕ) (old new : Causes) → AreCausesOf machine earlier old →
    Tells machine state (LaneStep process) changed ended → IsWriterOf machine earlier state (LaneStep process) writer → Marked ended (process ∷ []) changed writer old new →
    AreCausesOf machine (earlier ++ note_of machine earlier state (LaneStep process) ∷ []) new
notes-lane machine earlier state process writer changed ended old new had tells is marked =
    AreCausesOf-more machine earlier (note_of machine earlier state (LaneStep process)) ended (process ∷ []) changed old new had
    (subst (λ w. Marked ended (process ∷ []) changed w old new) (writer-is machine earlier state (LaneStep process) writer is) marked)
    tells.waits (λ p low. sym (or-false (nat_eq process p)) ∙ nat_eq-swap process p) (changes-told machine earlier state (LaneStep process) changed ended tells)

-- an update of a node's nets
pub notes-update : (machine : Machine) (earlier : List NotedEvent) (state : State) (node : ℕ) (writer : EventWriter) (changed ended : List ℕ) (old new : Causes) → AreCausesOf machine earlier old →
    Tells machine state (NetUpdate node) changed ended → IsWriterOf machine earlier state (NetUpdate node) writer → Marked ended [] changed writer old new →
    AreCausesOf machine (earlier ++ note_of machine earlier state (NetUpdate node) ∷ []) new
notes-update machine earlier state node writer changed ended old new had tells is marked =
    AreCausesOf-more machine earlier (note_of machine earlier state (NetUpdate node)) ended [] changed old new had
    (subst (λ w. Marked ended [] changed w old new) (writer-is machine earlier state (NetUpdate node) writer is) marked)
    tells.waits (λ p low. refl) (changes-told machine earlier state (NetUpdate node) changed ended tells)

-- the cause of a node's event is the latest change of one of its inputs
pub node-cause : (machine : Machine) (earlier : List NotedEvent) (number : ℕ) (node : FlatNode) → slice_get machine.design.nodes number ≡ Some node →
    (last_place (changes_among machine node.inputs) earlier ≡ cause_of machine earlier (Evaluation number))
    × (last_place (changes_among machine node.inputs) earlier ≡ cause_of machine earlier (NetUpdate number))
node-cause machine earlier number node is =
    (sym (ap (λ found. last_place (changes_input machine found) earlier) is), sym (ap (λ found. last_place (changes_input machine found) earlier) is))

-- an evaluation of a node keeps each object's value
evaluation-keeps : (machine : Machine) (state : State) (node : ℕ) (found : Option FlatNode) (object : ℕ) →
    false ≡ not (same_value (value_at state.values object) (value_at (evaluated machine node found state).values object))
evaluation-keeps machine state node None object = sym (ap not (same_value-refl (value_at state.values object)))
evaluation-keeps machine state node (Some n) object = sym (ap not (same_value-refl (value_at state.values object)))

-- the update of a node's nets that comes after its evaluation has the cause of the evaluation
pub evaluation-cause : (machine : Machine) (earlier : List NotedEvent) (state : State) (number : ℕ) (node : FlatNode) → slice_get machine.design.nodes number ≡ Some node →
    cause_of machine (earlier ++ note_of machine earlier state (Evaluation number) ∷ []) (NetUpdate number) ≡ cause_of machine earlier (Evaluation number)
evaluation-cause machine earlier state number node is =
    sym (node-cause machine (earlier ++ note_of machine earlier state (Evaluation number) ∷ []) number node is).1
    ∙ last_place-push (changes_among machine node.inputs) earlier (note_of machine earlier state (Evaluation number))
    ∙ ap (λ b. cond b (Some (length earlier)) (last_place (changes_among machine node.inputs) earlier)) (keeps node.inputs)
    ∙ (node-cause machine earlier number node is).0
  where
    keeps : (objects : List ℕ) → changes_among machine objects (note_of machine earlier state (Evaluation number)) ≡ false
    keeps [] = refl
    keeps (object ∷ objects) = λ i. sym (evaluation-keeps machine state number (slice_get machine.design.nodes number) object) i || keeps objects i

-- an evaluation of a node changes nothing and ends no wait
evaluation-tells : (machine : Machine) (state : State) (node : ℕ) → Tells machine state (Evaluation node) [] []
evaluation-tells machine state node = record {
  objects = λ object h. evaluation-keeps machine state node (slice_get machine.design.nodes node) object;
  waits = λ process h. waits (slice_get machine.design.nodes node) process;
}
  where
    idle : (activity : Activity) → false ≡ (is_waiting activity && is_ready activity)
    idle (Ready tasks operands) = refl
    idle (Waiting place entries tasks) = refl
    idle (Asleep time tasks) = refl
    idle (Postponed tasks) = refl
    idle Done = refl

    waits : (found : Option FlatNode) (process : ℕ) → false ≡ (is_waiting (process_at state process).activity && is_ready (process_at (evaluated machine node found state) process).activity)
    waits None process = idle (process_at state process).activity
    waits (Some n) process = idle (process_at state process).activity

-- an evaluation
pub notes-evaluation : (machine : Machine) (earlier : List NotedEvent) (state : State) (node : ℕ) (writer : EventWriter) (old new : Causes) → AreCausesOf machine earlier old →
    IsWriterOf machine earlier state (Evaluation node) writer → Marked [] [] [] writer old new → AreCausesOf machine (earlier ++ note_of machine earlier state (Evaluation node) ∷ []) new
notes-evaluation machine earlier state node writer old new had is marked =
    let tells = evaluation-tells machine state node in
    AreCausesOf-more machine earlier (note_of machine earlier state (Evaluation node)) [] [] [] old new had
    (subst (λ w. Marked [] [] [] w old new) (writer-is machine earlier state (Evaluation node) writer is) marked)
    tells.waits (λ p low. refl) (changes-told machine earlier state (Evaluation node) [] [] tells)

-- Writers

-- the writer that is kept of a cause
pub kept-writer : (earlier : List NotedEvent) (writers : List EventWriter) (place : ℕ) (default : EventWriter) → writers ≡ map noted_writer earlier → place < length writers →
    get_or writers place default ≡ cause_writer (slice_get earlier place)
kept-writer earlier writers place default same low =
    ap (λ w. get_or w place default) same ∙ at-place earlier place (let long : length writers ≡ length (map noted_writer earlier) = ap length same in omega (arith, length-map earlier noted_writer))
  where
    at-place : (earlier : List NotedEvent) (place : ℕ) → place < length earlier → get_or (map noted_writer earlier) place default ≡ cause_writer (slice_get earlier place)
    at-place [] place low = absurd (omega arith)
    at-place (noted ∷ earlier) zero low = refl
    at-place (noted ∷ earlier) (suc place) low = at-place earlier place (omega arith)

-- an evaluation follows the writer of its cause
pub evaluation-writer : (machine : Machine) (earlier : List NotedEvent) (state : State) (node : ℕ) (cause : Option ℕ) (writer : EventWriter) → cause ≡ cause_of machine earlier (Evaluation node) →
    writer ≡ cause_writer (noted_at earlier cause) → IsWriterOf machine earlier state (Evaluation node) writer
evaluation-writer machine earlier state node cause writer same is =
    let told : writer ≡ cause_writer (noted_at earlier (cause_of machine earlier (Evaluation node))) = is ∙ ap (λ c. cause_writer (noted_at earlier c)) same in
    record {
      process = ap (λ (w : EventWriter). w.process) told ∙ process (noted_at earlier (cause_of machine earlier (Evaluation node)));
      line = ap (λ (w : EventWriter). w.line) told ∙ line (noted_at earlier (cause_of machine earlier (Evaluation node)));
    }
  where
    process : (noted : Option NotedEvent) → (cause_writer noted).process ≡ writer_process (Evaluation node) noted
    process None = refl
    process (Some noted) = refl

    line : (noted : Option NotedEvent) → (cause_writer noted).line ≡ writer_line machine state (Evaluation node) noted
    line None = refl
    line (Some noted) = refl

-- an update of nets follows the writer of its cause
pub update-writer : (machine : Machine) (earlier : List NotedEvent) (state : State) (node : ℕ) (cause : Option ℕ) (writer : EventWriter) → cause ≡ cause_of machine earlier (NetUpdate node) →
    writer ≡ cause_writer (noted_at earlier cause) → IsWriterOf machine earlier state (NetUpdate node) writer
update-writer machine earlier state node cause writer same is =
    let told : writer ≡ cause_writer (noted_at earlier (cause_of machine earlier (NetUpdate node))) = is ∙ ap (λ c. cause_writer (noted_at earlier c)) same in
    record {
      process = ap (λ (w : EventWriter). w.process) told ∙ process (noted_at earlier (cause_of machine earlier (NetUpdate node)));
      line = ap (λ (w : EventWriter). w.line) told ∙ line (noted_at earlier (cause_of machine earlier (NetUpdate node)));
    }
  where
    process : (noted : Option NotedEvent) → (cause_writer noted).process ≡ writer_process (NetUpdate node) noted
    process None = refl
    process (Some noted) = refl

    line : (noted : Option NotedEvent) → (cause_writer noted).line ≡ writer_line machine state (NetUpdate node) noted
    line None = refl
    line (Some noted) = refl

-- Causes

-- the cause of a process's step
pub step-cause : (machine : Machine) (earlier : List NotedEvent) (causes : Causes) (process : ℕ) → AreCausesOf machine earlier causes → process < length causes.steps.items →
    place_within causes.base (get_or causes.steps.items process 0) ≡ cause_of machine earlier (Step process)
step-cause machine earlier causes process had low = (had.steps process low).tells

-- the cause of a lane's step
pub lane-cause : (machine : Machine) (earlier : List NotedEvent) (causes : Causes) (process : ℕ) → AreCausesOf machine earlier causes → process < length causes.lanes.items →
    place_within causes.base (get_or causes.lanes.items process 0) ≡ cause_of machine earlier (LaneStep process)
lane-cause machine earlier causes process had low = (had.lanes process low).tells

-- the latest event that changed one of some objects
pub latest-change : (machine : Machine) (earlier : List NotedEvent) (causes : Causes) (objects : List ℕ) → AreCausesOf machine earlier causes →
    AllHold (λ object. object < length causes.changes.items) objects →
    place_within causes.base (greatest_number causes.changes.items objects) ≡ last_place (changes_among machine objects) earlier
latest-change machine earlier causes [] had low = place_below causes.base 0 (omega (arith, had.some)) ∙ sym (last_place-never earlier)
latest-change machine earlier causes (object ∷ objects) had low =
    place_of_max causes.base (get_or causes.changes.items object 0) (greatest_number causes.changes.items objects)
    ∙ ap (λ p. later_of p (place_within causes.base (greatest_number causes.changes.items objects)))
    ((had.changes object low.0).tells ∙ ap (λ t. last_place t earlier) (λ i noted. sym
    (or-false (not (same_value (value_at noted.before.values object) (value_at (state_after machine noted).values object)))) i))
    ∙ ap (later_of (last_place (λ noted. not (same_value (value_at noted.before.values object) (value_at (state_after machine noted).values object))) earlier))
    (latest-change machine earlier causes objects had low.1)
    ∙ sym (last_place-or (λ (noted : NotedEvent). not (same_value (value_at noted.before.values object) (value_at (state_after machine noted).values object))) (changes_among machine objects) earlier)

-- From the code's lists

-- a fact of the number of each object
pub all-numbers : (P : ℕ → Type 0) (objects : List ObjectId) → All (λ object. P (object_number object)) objects → AllHold P (map object_number objects)
all-numbers P [] h = tt
all-numbers P (object ∷ objects) h = (h 0 object (omega arith), all-numbers P objects (λ k d low. h (suc k) d (omega arith)))

-- an event that begins, and the places that get its number
pub marked-by : (stepped laned changed : List ℕ) (writer : Writer) (number : ℕ) (old mid new : Causes) → Begins writer number old mid → new.base ≡ mid.base → new.next ≡ mid.next →
    new.writers.items ≡ mid.writers.items →
    Marks stepped number mid.steps.items new.steps.items → Marks laned number mid.lanes.items new.lanes.items → Marks changed number mid.changes.items new.changes.items →
    Marked stepped laned changed (writer_of writer) old new
marked-by stepped laned changed writer number old mid new begins base next writers steps lanes changes =
    let moved : (places from to : List ℕ) (before : List ℕ) → from ≡ before → Marks places number from to → Marks places old.next before to =
    λ places from to before same marks. subst (λ n. Marks places n before to) begins.number_is (subst (λ f. Marks places number f to) same marks) in
    record {
      base = base ∙ begins.base;
      next = next ∙ begins.next;
      steps = moved stepped mid.steps.items new.steps.items old.steps.items begins.steps steps;
      lanes = moved laned mid.lanes.items new.lanes.items old.lanes.items begins.lanes lanes;
      changes = moved changed mid.changes.items new.changes.items old.changes.items begins.changes changes;
      writers = ap (map writer_of) (writers ∙ begins.writers) ∙ map_push writer_of old.writers.items writer;
    }

-- the sizes of the tables stay
pub sizes-kept : (stepped laned changed : List ℕ) (number : ℕ) (writer : Writer) (old mid new : Causes) → Begins writer number old mid → Marks stepped number mid.steps.items new.steps.items →
    Marks laned number mid.lanes.items new.lanes.items →
    Marks changed number mid.changes.items new.changes.items → SameSizes old new
sizes-kept stepped laned changed number writer old mid new begins steps lanes changes = record {
  steps = steps.same_length ∙ ap length begins.steps;
  lanes = lanes.same_length ∙ ap length begins.lanes;
  changes = changes.same_length ∙ ap length begins.changes;
}
