-- Slots whose events come before a moment up to which all leave a copy alone.
use Rattle.std.proofs.Common.{◌≡◌, ℕ, zero, suc, ◌+◌, ◌<◌, ◌≤◌, List, [], ◌∷◌, ◌++◌, length, take, drop, Bool, true, false, refl, sym, ap, subst, ◌∙◌, arith, append_assoc, length-append, append-nil}
use Rattle.std.specs.Prelude.{Option, Some, None, is_some, nat_eq, slice_get}
use Rattle.std.proofs.lemmas.Bool.{eq-eqb, eqb-true}
use Rattle.std.proofs.lemmas.Option.{slice_get_within}
use Rattle.vf_base.specs.Lists.{AllHold}
use Rattle.v_design.specs.Designs.{FlatDesign, FaultSite, VariableBit, OutputBit, GateTerminal, Machine, StuckAt, TestPlan, good_machine}
use Rattle.v_design.specs.Runs.{FirstSlot}
use Rattle.v_design.specs.States.{Evaluation}
use Rattle.between_slots.specs.WindowLaws.{window_slots-part}
use Rattle.copy_laws.specs.Differences.{Differences, own_of}
use Rattle.copy_laws.specs.Touches.{site_is_object, site_is_node}
use Rattle.copy_laws.specs.Windows.{good_slots, window_slots}
use Rattle.trace_window.specs.Acted.{evaluated_at, is_number, node_evaluated}
use Rattle.trace_window.specs.Moments.{Seen, slot_seen, slots_seen, window_events}
use Rattle.trace_window.specs.Touched.{event_touches, touched_at}
use Rattle.quiet_index.specs.Indexed.{LeavesAlone}
use Rattle.quiet_index.specs.PassOver.{SlotsLeaveAlone}
use Rattle.copy_skip.specs.Limits.{NoneTouches, AreLeftAlone, SiteLeftAlone, AreThere}

-- The events of one slot among those of a window

slots-append : (machine : Machine) (slots more : List FirstSlot) → slots_seen machine (slots ++ more) ≡ slots_seen machine slots ++ slots_seen machine more
slots-append machine [] more = refl
slots-append machine (slot ∷ slots) more =
    ap (λ l. slot_seen machine slot ++ l) (slots-append machine slots more) ∙ sym (append_assoc (slot_seen machine slot) (slots_seen machine slots) (slots_seen machine more))

one-cut : (slots : List FirstSlot) (number : ℕ) (slot : FirstSlot) → slice_get slots number ≡ Some slot → drop number (take (suc number) slots) ≡ slot ∷ []
one-cut [] number slot here = cc
one-cut (first ∷ slots) zero slot here = ap (λ s. s ∷ []) (some-is first slot here)
  where
    some-is : (one other : FirstSlot) → Some one ≡ Some other → one ≡ other
    some-is one other e = cc
one-cut (first ∷ slots) (suc number) slot here = one-cut slots number slot here

events-part : (design : FlatDesign) (plan : TestPlan) (begins middle ends : ℕ) → begins ≤ middle → middle ≤ ends →
    window_events design plan begins ends ≡ window_events design plan begins middle ++ window_events design plan middle ends
events-part design plan begins middle ends low high =
    ap (slots_seen (good_machine design)) (window_slots-part design plan begins middle ends low high)
    ∙ slots-append (good_machine design) (window_slots design plan begins middle) (window_slots design plan middle ends)

events-one : (design : FlatDesign) (plan : TestPlan) (number : ℕ) (slot : FirstSlot) → slice_get (good_slots design plan) number ≡ Some slot →
    window_events design plan number (suc number) ≡ slot_seen (good_machine design) slot
events-one design plan number slot here =
    ap (slots_seen (good_machine design)) (one-cut (good_slots design plan) number slot here) ∙ append-nil (slot_seen (good_machine design) slot)

count-more : (design : FlatDesign) (plan : TestPlan) (begins middle ends : ℕ) → begins ≤ middle → middle ≤ ends →
    length (window_events design plan begins middle) ≤ length (window_events design plan begins ends)
count-more design plan begins middle ends low high =
    let is : length (window_events design plan begins ends) ≡ length (window_events design plan begins middle) + length (window_events design plan middle ends) =
    ap (λ (l : List Seen). length l) (events-part design plan begins middle ends low high)
    ∙ length-append (window_events design plan begins middle) (window_events design plan middle ends) in
    omega (arith, is)

get-behind : (xs ys : List Seen) (place : ℕ) → slice_get (xs ++ ys) (length xs + place) ≡ slice_get ys place
get-behind [] ys place = ap (slice_get ys) (let e : 0 + place ≡ place = omega arith in e)
get-behind (x ∷ xs) ys place = ap (slice_get (x ∷ (xs ++ ys))) (let e : suc (length xs) + place ≡ suc (length xs + place) = omega arith in e) ∙ get-behind xs ys place

get-before : (xs ys : List Seen) (place : ℕ) (seen : Seen) → slice_get xs place ≡ Some seen → slice_get (xs ++ ys) place ≡ Some seen
get-before [] ys place seen here = cc
get-before (x ∷ xs) ys zero seen here = here
get-before (x ∷ xs) ys (suc place) seen here = get-before xs ys place seen here

-- an event of a slot stands in the window, at a moment between those of the slot
record StandsAt (events : List Seen) (seen : Seen) (low high : ℕ) : Type 0 where
  moment : ℕ
  at : slice_get events moment ≡ Some seen
  since : low ≤ moment
  before : moment < high

stands-at : (design : FlatDesign) (plan : TestPlan) (begins ends number : ℕ) (slot : FirstSlot) → begins ≤ number → number < ends → slice_get (good_slots design plan) number ≡ Some slot →
    (place : ℕ) (seen : Seen) → slice_get (slot_seen (good_machine design) slot) place ≡ Some seen →
    StandsAt (window_events design plan begins ends) seen (length (window_events design plan begins number)) (length (window_events design plan begins (suc number)))
stands-at design plan begins ends number slot low high here place seen at = record {
  moment = length (window_events design plan begins number) + place;
  at =
      ap (λ (l : List Seen). slice_get l (length (window_events design plan begins number) + place)) (events-part design plan begins number ends low (omega (arith, high)))
      ∙ get-behind (window_events design plan begins number) (window_events design plan number ends) place
      ∙ ap (λ (l : List Seen). slice_get l place) (events-part design plan number (suc number) ends (omega arith) (omega (arith, high)))
      ∙ get-before (window_events design plan number (suc number)) (window_events design plan (suc number) ends) place seen
      (ap (λ (l : List Seen). slice_get l place) (events-one design plan number slot here) ∙ at);
  since = omega arith;
  before =
      let within : place < length (slot_seen (good_machine design) slot) = slice_get_within (slot_seen (good_machine design) slot) place seen at in
      let is : length (window_events design plan begins (suc number)) ≡ length (window_events design plan begins number) + length (slot_seen (good_machine design) slot) =
      ap (λ (l : List Seen). length l) (events-part design plan begins number (suc number) low (omega arith) ∙ ap (λ l. window_events design plan begins number ++ l) (events-one design plan number slot here))
      ∙ length-append (window_events design plan begins number) (slot_seen (good_machine design) slot) in
      omega (arith, within, is);
}

all-places : (P : Seen → Type 0) (xs : List Seen) → ((place : ℕ) (seen : Seen) → slice_get xs place ≡ Some seen → P seen) → AllHold P xs
all-places P [] each = tt
all-places P (x ∷ xs) each = (each 0 x refl, all-places P xs (λ place seen at. each (suc place) seen at))

-- One event

site-touched : (design : FlatDesign) (events : List Seen) (site : FaultSite) (first limit : ℕ) → SiteLeftAlone design events site first limit → (object : ℕ) →
    site_is_object site object ≡ true → NoneTouches design events object first limit
site-touched design events (VariableBit at bit) first limit alone object e = subst (λ o. NoneTouches design events o first limit) (eqb-true at object e) alone
site-touched design events (OutputBit node at bit) first limit alone object e = cc
site-touched design events (GateTerminal node terminal) first limit alone object e = cc

evaluated-is : (events : List Seen) (moment : ℕ) (seen : Seen) (number : ℕ) → slice_get events moment ≡ Some seen → seen.event ≡ Evaluation number → evaluated_at events number moment ≡ true
evaluated-is events moment seen number at e =
    ap (λ (o : Option Seen). elim o as (λ _. Bool) [ None ↦ false | Some s ↦ is_number number (node_evaluated s.event) ]) at
    ∙ ap (λ event. is_number number (node_evaluated event)) e ∙ eq-eqb number number refl

site-evaluated : (design : FlatDesign) (events : List Seen) (site : FaultSite) (first limit : ℕ) → SiteLeftAlone design events site first limit → (moment : ℕ) → first ≤ moment → moment < limit →
    (number : ℕ) → evaluated_at events number moment ≡ true → site_is_node site number ≡ false
site-evaluated design events (VariableBit at bit) first limit alone moment low high number e = refl
site-evaluated design events (OutputBit node at bit) first limit alone moment low high number e = not-it (nat_eq node number) refl
  where
    not-it : (b : Bool) → nat_eq node number ≡ b → b ≡ false
    not-it true f = absurd (let no : false ≡ true = sym (alone moment low high) ∙ ap (λ n. evaluated_at events n moment) (eqb-true node number f) ∙ e in cc)
    not-it false f = refl
site-evaluated design events (GateTerminal node terminal) first limit alone moment low high number e = not-it (nat_eq node number) refl
  where
    not-it : (b : Bool) → nat_eq node number ≡ b → b ≡ false
    not-it true f = absurd (let no : false ≡ true = sym (alone moment low high) ∙ ap (λ n. evaluated_at events n moment) (eqb-true node number f) ∙ e in cc)
    not-it false f = refl

touched-is : (design : FlatDesign) (events : List Seen) (moment : ℕ) (seen : Seen) (object : ℕ) → slice_get events moment ≡ Some seen →
    touched_at (good_machine design) events object moment ≡ event_touches (good_machine design) object seen
touched-is design events moment seen object at =
    ap (λ (o : Option Seen). elim o as (λ _. Bool) [ None ↦ false | Some s ↦ event_touches (good_machine design) object s ]) at

leaves-alone : (design : FlatDesign) (fault : StuckAt) (d : Differences) (events : List Seen) (first limit : ℕ) → AreThere design d.values →
    AreLeftAlone design events d.values (length design.objects) first limit → SiteLeftAlone design events fault.site first limit → (moment : ℕ) (seen : Seen) →
    slice_get events moment ≡ Some seen → first ≤ moment → moment < limit → LeavesAlone design fault d seen
leaves-alone design fault d events first limit there values site moment seen at low high = record {
  objects = λ object h. sym (touched-is design events moment seen object at) ∙ (values object (there object h) h).touches moment low high;
  site_object = λ object h. sym (touched-is design events moment seen object at) ∙ site-touched design events fault.site first limit site object h moment low high;
  site_node = λ number e. site-evaluated design events fault.site first limit site moment low high number (evaluated-is events moment seen number at e);
  inputs = λ number input node e here h.
      not-own (is_some (own_of d.values input))
      (λ own. sym ((values input (there input own) own).reads number node here h moment low high) ∙ evaluated-is events moment seen number at e);
}
  where
    not-own : (b : Bool) → (b ≡ true → false ≡ true) → b ≡ false
    not-own true clash = sym (clash refl)
    not-own false clash = refl

-- The slots

pub slots-alone : (design : FlatDesign) (plan : TestPlan) (fault : StuckAt) (d : Differences) (begins ends from through first limit : ℕ) → AreThere design d.values →
    AreLeftAlone design (window_events design plan begins ends) d.values (length design.objects) first limit → SiteLeftAlone design (window_events design plan begins ends) fault.site first limit →
    begins ≤ from → through ≤ ends → first ≡ length (window_events design plan begins from) → (from < through → length (window_events design plan begins through) ≤ limit) →
    SlotsLeaveAlone design plan fault d from through
slots-alone design plan fault d begins ends from through first limit there values site low high begun few number slot here since before =
    all-places (LeavesAlone design fault d) (slot_seen (good_machine design) slot)
    (λ place seen at.
    let stands = stands-at design plan begins ends number slot (omega (arith, low, since)) (omega (arith, before, high)) here place seen at in
    let one : length (window_events design plan begins from) ≤ length (window_events design plan begins number) = count-more design plan begins from number low since in
    let two : length (window_events design plan begins (suc number)) ≤ length (window_events design plan begins through) =
    count-more design plan begins (suc number) through (omega (arith, low, since)) (omega (arith, before)) in
    let three : length (window_events design plan begins through) ≤ limit = few (omega (arith, since, before)) in
    leaves-alone design fault d (window_events design plan begins ends) first limit there values site stands.moment seen stands.at (omega (arith, one, begun, stands.since))
    (omega (arith, two, three, stands.before)))
