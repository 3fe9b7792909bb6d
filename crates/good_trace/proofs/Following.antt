-- What the events of a window lead to.
use Rattle.std.proofs.Common.{◌≡◌, ℕ, suc, ◌+◌, ◌-◌, ◌<◌, ◌≤◌, List, [], map, length, get_or, sym, ap, subst, ◌∙◌, arith}
use Rattle.std.specs.Prelude.{Option}
use Rattle.std.proofs.lemmas.List.{ext_get_or}
use Rattle.std.proofs.lemmas.Option.{slice_get_within}
use Rattle.four_value.specs.Values.{LogicValue}
use Rattle.v_design.specs.Designs.{FlatDesign, TestPlan, good_machine}
use Rattle.v_design.specs.Assignments.{value_at}
use Rattle.copy_laws.specs.Windows.{WindowEnd, IsWindow, good_slots}
use Rattle.window_index.specs.Moments.{moments_of, IsFirstAtOrAfter}
use Rattle.trace_window.specs.Acted.{evaluated_at, stepped_at}
use Rattle.trace_window.specs.ActedLaws.{first-evaluation, first-step}
use Rattle.trace_window.specs.Moments.{window_events, values_through, values_before, window_values}
use Rattle.trace_window.specs.Tables.{occurrence_of}
use Rattle.trace_window.specs.Touched.{touched_at, written_at, IsFirstFrom}
use Rattle.trace_window.specs.TouchLaws.{listed-length, first-touch, first-write}
use Rattle.trace_window.specs.ValueLaws.{ValuesFollow, window-follow, follow-count, values_before-end, values-are}
use Rattle.trace_window.specs.Writes.{latest, writes_from}
use Rattle.good_trace.specs.declared.events.Events.{Events}
use Rattle.good_trace.specs.Events.{AreWindowEvents}

-- a window ends within the good first run
pub ends-within : (design : FlatDesign) (plan : TestPlan) (begins ends : ℕ) (ending : WindowEnd) → IsWindow design plan begins ends ending → (begins ≤ ends) × (ends ≤ length (good_slots design plan))
ends-within design plan begins ends ending window =
    let some : begins < ends = window.some in
    let last : ends ≡ suc (ends - 1) = omega arith in
    let low : ends - 1 < length (good_slots design plan) = slice_get_within (good_slots design plan) (ends - 1) window.last (window.stands (ends - 1) last) in
    (omega arith, omega arith)

-- the values of a window follow each other
follows : (design : FlatDesign) (plan : TestPlan) (before through : ℕ) (values : List LogicValue) (events : Events) (ending : WindowEnd) → IsWindow design plan before through ending →
    AreWindowEvents design plan before through values events →
    ValuesFollow (good_machine design) values (window_events design plan before through) (values_through design plan through)
follows design plan before through values events ending window are =
    let within = ends-within design plan before through ending window in
    subst (λ v. ValuesFollow (good_machine design) v (window_events design plan before through) (values_through design plan through)) (sym are.values_are)
    (window-follow design plan before through within.0 within.1)

-- what an object holds before a moment
pub value-is : (design : FlatDesign) (plan : TestPlan) (before through : ℕ) (values : List LogicValue) (events : Events) (ending : WindowEnd) → IsWindow design plan before through ending →
    AreWindowEvents design plan before through values events →
    (object moment : ℕ) → object < length design.objects →
    latest (value_at values object) object moment events.changes.writes ≡ value_at (window_values design plan before through moment) object
value-is design plan before through values events ending window are object moment low =
    ap (λ w. latest (value_at values object) object moment w) are.events_are.changes_are
    ∙ (let e : moment ≡ 0 + moment = omega arith in ap (λ n. latest (value_at values object) object n (writes_from 0 are.accesses)) e)
    ∙ sym (values-are (good_machine design) are.rules (window_events design plan before through) are.accesses are.listed values (values_through design plan through)
    (follows design plan before through values events ending window are) object (omega (arith, low, are.values_count)) 0 moment)

-- how many events there are
pub count-is : (design : FlatDesign) (plan : TestPlan) (before through : ℕ) (values : List LogicValue) (events : Events) → AreWindowEvents design plan before through values events →
    events.count ≡ length (window_events design plan before through)
count-is design plan before through values events are = are.events_are.count ∙ listed-length (good_machine design) (window_events design plan before through) are.accesses are.listed

-- what the objects hold behind the last event
pub later-is : (design : FlatDesign) (plan : TestPlan) (before through : ℕ) (values : List LogicValue) (events : Events) (ending : WindowEnd) (later : List LogicValue) →
    IsWindow design plan before through ending →
    AreWindowEvents design plan before through values events → length later ≡ length values →
    ((object : ℕ) → object < length values → get_or later object [] ≡ latest (get_or values object []) object events.count events.changes.writes) → later ≡ values_through design plan through
later-is design plan before through values events ending later window are count each =
    ext_get_or [] later (values_through design plan through) (count ∙ sym long)
    (λ object low. each object (omega (arith, count, low)) ∙ value-is design plan before through values events ending window are object events.count (omega (arith, count, low, are.values_count))
    ∙ ap (λ n. value_at (values_before (window_events design plan before through) (values_through design plan through) n) object) (count-is design plan before through values events are)
    ∙ ap (λ v. value_at v object) (values_before-end (window_events design plan before through) (values_through design plan through)))
  where
    long : length (values_through design plan through) ≡ length values
    long = follow-count (good_machine design) values (window_events design plan before through) (values_through design plan through)
        (follows design plan before through values events ending window are)

-- the next touch of an object
pub touch-is : (design : FlatDesign) (plan : TestPlan) (before through : ℕ) (values : List LogicValue) (events : Events) (object moment : ℕ) (answer : Option ℕ) →
    AreWindowEvents design plan before through values events → object < length design.objects →
    IsFirstAtOrAfter (get_or events.touches object []) moment answer →
    IsFirstFrom (touched_at (good_machine design) (window_events design plan before through) object) (length (window_events design plan before through)) moment answer
touch-is design plan before through values events object moment answer are low first =
    first-touch (good_machine design) (window_events design plan before through) are.accesses object moment answer are.listed
    (subst (λ l. IsFirstAtOrAfter l moment answer) (are.events_are.touches_are.moments object low) first)

-- its next change
pub change-is : (design : FlatDesign) (plan : TestPlan) (before through : ℕ) (values : List LogicValue) (events : Events) (object moment : ℕ) (answer : Option ℕ) →
    AreWindowEvents design plan before through values events → IsFirstAtOrAfter (moments_of (map occurrence_of events.changes.writes) object) moment answer →
    IsFirstFrom (written_at (good_machine design) (window_events design plan before through) object) (length (window_events design plan before through)) moment answer
change-is design plan before through values events object moment answer are first =
    first-write (good_machine design) (window_events design plan before through) are.accesses object moment answer are.listed
    (subst (λ w. IsFirstAtOrAfter (moments_of (map occurrence_of w) object) moment answer) are.events_are.changes_are first)

-- the next evaluation of a node
pub evaluation-is : (design : FlatDesign) (plan : TestPlan) (before through : ℕ) (values : List LogicValue) (events : Events) (node moment : ℕ) (answer : Option ℕ) →
    AreWindowEvents design plan before through values events → node < length design.nodes → IsFirstAtOrAfter (get_or events.evaluations node []) moment answer →
    IsFirstFrom (evaluated_at (window_events design plan before through) node) (length (window_events design plan before through)) moment answer
evaluation-is design plan before through values events node moment answer are low first =
    first-evaluation (window_events design plan before through) node moment answer
    (subst (λ l. IsFirstAtOrAfter l moment answer) (are.events_are.evaluations_are.moments node low) first)

-- the next step of a process
pub step-is : (design : FlatDesign) (plan : TestPlan) (before through : ℕ) (values : List LogicValue) (events : Events) (process moment : ℕ) (answer : Option ℕ) →
    AreWindowEvents design plan before through values events → process < length design.processes → IsFirstAtOrAfter (get_or events.steps process []) moment answer →
    IsFirstFrom (stepped_at (window_events design plan before through) process) (length (window_events design plan before through)) moment answer
step-is design plan before through values events process moment answer are low first =
    first-step (window_events design plan before through) process moment answer
    (subst (λ l. IsFirstAtOrAfter l moment answer) (are.events_are.steps_are.moments process low) first)
