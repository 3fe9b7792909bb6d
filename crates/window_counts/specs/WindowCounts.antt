-- A window has one value for each object at each moment (nothing of the language).
use Rattle.std.proofs.Common.{◌≡◌, ℕ, zero, suc, ◌+◌, ◌-◌, ◌<◌, ◌≤◌, List, [], ◌∷◌, length, refl, ap, sym, ◌∙◌, arith}
use Rattle.std.proofs.lemmas.Option.{slice_get_within}
use Rattle.vf_base.specs.Lists.{change_at, map_numbered}
use Rattle.four_value.specs.Values.{LogicValue}
use Rattle.v_design.specs.Designs.{FlatDesign, FlatNode, Machine, TestPlan, good_machine}
use Rattle.v_design.specs.Assignments.{first_values, first_contents, node_outputs, settled_from, with_outputs}
use Rattle.v_design.specs.States.{after}
use Rattle.copy_laws.specs.Windows.{WindowEnd, IsWindow, good_slots}
use Rattle.trace_window.specs.Moments.{Seen, window_events, window_values, values_before, values_through}
use Rattle.trace_window.specs.ValueLaws.{ValuesFollow, window-follow, follow-count}
use Rattle.trace_window.specs.WriteLaws.{after-count}

-- At the start

change-count : {A : Type 0} (xs : List A) (i : ℕ) (f : A → A) → length (change_at xs i f) ≡ length xs
change-count [] i f = refl
change-count (x ∷ xs) zero f = refl
change-count (x ∷ xs) (suc i) f = ap suc (change-count xs i f)

outputs-count : (objects : List ℕ) (outputs values : List LogicValue) → length (with_outputs objects outputs values) ≡ length values
outputs-count [] outputs values = refl
outputs-count (object ∷ objects) [] values = refl
outputs-count (object ∷ objects) (value ∷ outputs) values = outputs-count objects outputs (change_at values object (λ old. value)) ∙ change-count values object (λ old. value)

settled-count : (machine : Machine) (number : ℕ) (nodes : List FlatNode) (values : List LogicValue) → length (settled_from machine number nodes values) ≡ length values
settled-count machine number [] values = refl
settled-count machine number (node ∷ nodes) values =
    settled-count machine (number + 1) nodes (with_outputs node.outputs (node_outputs machine number node values) values)
    ∙ outputs-count node.outputs (node_outputs machine number node values) values

numbered-count : {A B : Type 0} (f : ℕ → A → B) (number : ℕ) (xs : List A) → length (map_numbered f number xs) ≡ length xs
numbered-count f number [] = refl
numbered-count f number (x ∷ xs) = ap suc (numbered-count f (number + 1) xs)

pub first-count : (machine : Machine) → length (first_values machine) ≡ length machine.design.objects
first-count machine = settled-count machine 0 machine.design.nodes (first_contents machine) ∙ numbered-count _ 0 machine.design.objects

-- In a window

-- as many values stand before each event, and behind the last one, as at the beginning
pub before-count : (machine : Machine) (values : List LogicValue) (seen : List Seen) (last : List LogicValue) (moment : ℕ) → ValuesFollow machine values seen last →
    length (values_before seen last moment) ≡ length values
before-count machine values [] last moment follow = ap (λ (v : List LogicValue). length v) (sym follow)
before-count machine values (s ∷ seen) last zero follow = ap (λ (v : List LogicValue). length v) follow.0
before-count machine values (s ∷ seen) last (suc moment) follow =
    before-count machine (after machine s.before s.event).values seen last moment follow.1 ∙ after-count machine s.before s.event
    ∙ ap (λ (v : List LogicValue). length v) follow.0

-- The law

-- after each number of slots that the good first run has there is one value for each object
abbrev pub SlotsKeepCount : Type 0
SlotsKeepCount = (design : FlatDesign) (plan : TestPlan) (number : ℕ) → number ≤ length (good_slots design plan) → length (values_through design plan number) ≡ length design.objects

-- and so before each event of a window, and behind the last one
abbrev pub MomentsKeepCount : Type 0
MomentsKeepCount =
    (design : FlatDesign) (plan : TestPlan) (begins ends : ℕ) (ending : WindowEnd) (moment : ℕ) → IsWindow design plan begins ends ending →
    length (window_values design plan begins ends moment) ≡ length design.objects

pub slots-count : SlotsKeepCount
slots-count design plan number low =
    let machine = good_machine design in
    follow-count machine (first_values machine) (window_events design plan 0 number) (values_through design plan number) (window-follow design plan 0 number (omega arith) low)
    ∙ first-count machine

pub window-count : MomentsKeepCount
window-count design plan begins ends ending moment window =
    let some : begins < ends = window.some in
    let last : ends ≡ suc (ends - 1) = omega arith in
    let low : ends - 1 < length (good_slots design plan) = slice_get_within (good_slots design plan) (ends - 1) window.last (window.stands (ends - 1) last) in
    before-count (good_machine design) (values_through design plan begins) (window_events design plan begins ends) (values_through design plan ends) moment
    (window-follow design plan begins ends (omega arith) (omega arith))
    ∙ slots-count design plan begins (omega arith)
