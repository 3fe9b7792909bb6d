-- The writes of a slot are those of the window's events.
use Rattle.std.proofs.Common.{◌≡◌, ℕ, zero, suc, ◌+◌, ◌-◌, ◌<◌, ◌≤◌, List, [], ◌∷◌, ◌++◌, length, Bool, true, false, ◌&&◌, ◌||◌, refl, sym, ap, subst, ◌∙◌, inl, inr, arith, append_assoc, length-append, nat_eq}
use Rattle.std.specs.Prelude.{Option, Some, None, nat_lt, slice_get}
use Rattle.std.proofs.lemmas.Bool.{eqb-true}
use Rattle.v_design.specs.Paths.{paths}
use Rattle.v_design.specs.Designs.{FlatDesign, Machine, TestPlan, good_machine}
use Rattle.v_design.specs.Runs.{FirstSlot}
use Rattle.v_design.specs.Accesses.{AccessAct, Reading, Writing, Awaiting, Ending, Holding, Settling, ObjectAccess, accesses_of}
use Rattle.copy_laws.specs.Filter.{IsIn}
use Rattle.copy_laws.specs.Windows.{window_slots}
use Rattle.between_slots.specs.WindowLaws.{window_slots-part}
use Rattle.trace_window.specs.Listed.{AreListed}
use Rattle.trace_window.specs.Moments.{Seen, slot_seen, slots_seen, window_events}
use Rattle.trace_window.specs.Touched.{is_writing, writes, event_writes, written_at}
use Rattle.trace_window.specs.Writes.{Written, write_before, writes_in, writes_from}
use Rattle.good_trace.specs.SlotsTold.{AreWritesOf}
use Rattle.order_laws.proofs.Conflicts.{In}
use Rattle.block_filter.proofs.Entries.{any_writer}
use Rattle.reach_search.specs.Reach.{ReachKept}
use Rattle.phase_reach.specs.Reached.{MomentsAreReached, WritesAreReached}

-- One event

-- some access writes an object
record WritesOne (accesses : List ObjectAccess) (object : ℕ) : Type 0 where
  pub access : ObjectAccess
  pub is_in : In access accesses
  pub writes_it : is_writing access.act ≡ true
  pub object_is : access.object ≡ object

find-write : (object : ℕ) (accesses : List ObjectAccess) → writes object accesses ≡ true → WritesOne accesses object
find-write object [] e = cc
find-write object (access ∷ accesses) e = go (is_writing access.act) refl (nat_eq access.object object) refl e (find-write object accesses)
  where
    go : (w : Bool) → is_writing access.act ≡ w → (s : Bool) → nat_eq access.object object ≡ s → ((w && s) || writes object accesses) ≡ true → (writes object accesses ≡ true → WritesOne accesses object) →
        WritesOne (access ∷ accesses) object
    go true w true s e rest = record { access = access; is_in = inl refl; writes_it = w; object_is = eqb-true access.object object s }
    go true w false s e rest = let r = rest e in record { access = r.access; is_in = inr r.is_in; writes_it = r.writes_it; object_is = r.object_is }
    go false w s t e rest = let r = rest e in record { access = r.access; is_in = inr r.is_in; writes_it = r.writes_it; object_is = r.object_is }

-- a write of an object at a moment
record IsWrittenAt (writes : List Written) (moment object : ℕ) : Type 0 where
  pub write : Written
  pub is_in : IsIn write writes
  pub moment_is : write.moment ≡ moment
  pub object_is : write.object ≡ object

kept-write : (moment other : ℕ) (act : AccessAct) (object : ℕ) (rest : List Written) → IsWrittenAt rest moment object → IsWrittenAt (write_before moment other act rest) moment object
kept-write moment other Reading object rest at = at
kept-write moment other (Writing old new) object rest at = record { write = at.write; is_in = inr at.is_in; moment_is = at.moment_is; object_is = at.object_is }
kept-write moment other (Awaiting entry) object rest at = at
kept-write moment other (Ending entry) object rest at = at
kept-write moment other (Holding entry) object rest at = at
kept-write moment other Settling object rest at = at

new-write : (moment : ℕ) (access : ObjectAccess) (act : AccessAct) (rest : List Written) → is_writing act ≡ true → IsWrittenAt (write_before moment access.object act rest) moment access.object
new-write moment access Reading rest w = cc
new-write moment access (Writing old new) rest w = record { write = record { moment = moment; object = access.object; value = new }; is_in = inl refl; moment_is = refl; object_is = refl }
new-write moment access (Awaiting entry) rest w = cc
new-write moment access (Ending entry) rest w = cc
new-write moment access (Holding entry) rest w = cc
new-write moment access Settling rest w = cc

listed-write : (moment : ℕ) (accesses : List ObjectAccess) (access : ObjectAccess) → In access accesses → is_writing access.act ≡ true → IsWrittenAt (writes_in moment accesses) moment access.object
listed-write moment [] access there w = absurd there
listed-write moment (one ∷ accesses) access (inl e) w =
    subst (λ (a : ObjectAccess). IsWrittenAt (writes_in moment (one ∷ accesses)) moment a.object) (sym e)
    (new-write moment one one.act (writes_in moment accesses) (ap (λ (a : ObjectAccess). is_writing a.act) (sym e) ∙ w))
listed-write moment (one ∷ accesses) access (inr there) w = kept-write moment one.object one.act access.object (writes_in moment accesses) (listed-write moment accesses access there w)

in-front : {A : Type 0} (x : A) (xs ys : List A) → IsIn x xs → IsIn x (xs ++ ys)
in-front x [] ys there = absurd there
in-front x (y ∷ xs) ys (inl e) = inl e
in-front x (y ∷ xs) ys (inr there) = inr (in-front x xs ys there)

in-behind : {A : Type 0} (x : A) (xs ys : List A) → IsIn x ys → IsIn x (xs ++ ys)
in-behind x [] ys there = there
in-behind x (y ∷ xs) ys there = inr (in-behind x xs ys there)

-- Several events

-- the writes of some events, the first of which has a number, have that of the event of a moment
events-written : (machine : Machine) (seen : List Seen) (lists : List (List ObjectAccess)) (number place object : ℕ) → AreListed machine seen lists → written_at machine seen object place ≡ true →
    IsWrittenAt (writes_from number lists) (number + place) object
events-written machine [] lists number place object listed e = cc
events-written machine (s ∷ seen) [] number place object listed e = absurd listed
events-written machine (s ∷ seen) (accesses ∷ lists) number zero object listed e =
    let found = find-write object (accesses_of machine 0 0 s.before s.event) e in
    let other = any_writer machine 0 0 listed.0.process listed.0.line s.before s.event found.access found.is_in in
    let at = listed-write number accesses other.0 (subst (In other.0) (sym listed.0.are) other.1) (ap is_writing other.2 ∙ found.writes_it) in
    record {
      write = at.write;
      is_in = in-front at.write (writes_in number accesses) (writes_from (number + 1) lists) at.is_in;
      moment_is = let m = at.moment_is in omega (arith, m);
      object_is = at.object_is ∙ other.3 ∙ found.object_is;
    }
events-written machine (s ∷ seen) (accesses ∷ lists) number (suc place) object listed e =
    let at = events-written machine seen lists (number + 1) place object listed.1 e in
    record {
      write = at.write;
      is_in = in-behind at.write (writes_in number accesses) (writes_from (number + 1) lists) at.is_in;
      moment_is = let m = at.moment_is in omega (arith, m);
      object_is = at.object_is;
    }

-- The events of a slot in a window

slots-append : (machine : Machine) (slots more : List FirstSlot) → slots_seen machine (slots ++ more) ≡ slots_seen machine slots ++ slots_seen machine more
slots-append machine [] more = refl
slots-append machine (slot ∷ slots) more =
    ap (λ l. slot_seen machine slot ++ l) (slots-append machine slots more) ∙ sym (append_assoc (slot_seen machine slot) (slots_seen machine slots) (slots_seen machine more))

events-part : (design : FlatDesign) (plan : TestPlan) (begins middle ends : ℕ) → begins ≤ middle → middle ≤ ends →
    window_events design plan begins ends ≡ window_events design plan begins middle ++ window_events design plan middle ends
events-part design plan begins middle ends low high =
    ap (slots_seen (good_machine design)) (window_slots-part design plan begins middle ends low high)
    ∙ slots-append (good_machine design) (window_slots design plan begins middle) (window_slots design plan middle ends)

get-behind : {A : Type 0} (xs ys : List A) (place : ℕ) → slice_get (xs ++ ys) (length xs + place) ≡ slice_get ys place
get-behind [] ys place = let z : 0 + place ≡ place = omega arith in ap (slice_get ys) z
get-behind (x ∷ xs) ys place = let z : length (x ∷ xs) + place ≡ suc (length xs + place) = omega arith in ap (slice_get (x ∷ (xs ++ ys))) z ∙ get-behind xs ys place

get-front : {A : Type 0} (xs ys : List A) (place : ℕ) → place < length xs → slice_get (xs ++ ys) place ≡ slice_get xs place
get-front [] ys place low = absurd (omega (arith, low))
get-front (x ∷ xs) ys zero low = refl
get-front (x ∷ xs) ys (suc place) low = get-front xs ys place (omega (arith, low))

-- the event of a moment of a slot
slot-event : (design : FlatDesign) (plan : TestPlan) (begins number ends moment : ℕ) → begins ≤ number → number < ends → length (window_events design plan begins number) ≤ moment →
    moment < length (window_events design plan begins (number + 1)) →
    slice_get (window_events design plan begins ends) moment ≡ slice_get (window_events design plan number (number + 1)) (moment - length (window_events design plan begins number))
slot-event design plan begins number ends moment low high since before =
    let earlier = window_events design plan begins number in
    let slot = window_events design plan number (number + 1) in
    let later = window_events design plan (number + 1) ends in
    let place = moment - length earlier in
    let parts : window_events design plan begins ends ≡ earlier ++ (slot ++ later) =
    events-part design plan begins number ends low (omega (arith, high)) ∙ ap (λ l. earlier ++ l) (events-part design plan number (number + 1) ends (omega arith) (omega (arith, high))) in
    let through = ap (λ (l : List Seen). length l) (events-part design plan begins number (number + 1) low (omega arith)) in
    let long = length-append earlier slot in
    let back : length earlier + place ≡ moment = omega (arith, since) in
    let within : place < length slot = omega (arith, since, before, through, long) in
    ap (λ l. slice_get l moment) parts ∙ ap (slice_get (earlier ++ (slot ++ later))) (sym back) ∙ get-behind earlier (slot ++ later) place ∙ get-front slot later place within

-- what the listed writes of a slot reach from one moment to before another is all that the good machine's writes reach there
pub moments-reached : (design : FlatDesign) (plan : TestPlan) (begins number ends first end : ℕ) (writes : List Written) (reached : ReachKept) → begins ≤ number → number < ends →
    length (window_events design plan begins number) ≤ first → end ≤ length (window_events design plan begins (number + 1)) →
    AreWritesOf (good_machine design) (window_events design plan number (number + 1)) (length (window_events design plan begins number)) writes →
    WritesAreReached design first end writes reached → MomentsAreReached design plan begins ends first end reached
moments-reached design plan begins number ends first end writes reached low high since_slot before_slot told all source moment object since before written reaches =
    let machine = good_machine design in
    let start = length (window_events design plan begins number) in
    let place = moment - start in
    let here : written_at machine (window_events design plan number (number + 1)) source place ≡ true =
    ap (λ o. written_here machine source o) (sym (slot-event design plan begins number ends moment low high (omega (arith, since_slot, since)) (omega (arith, before, before_slot)))) ∙ written in
    let at = events-written machine (window_events design plan number (number + 1)) told.accesses start place source told.listed here in
    let moment_is = at.moment_is in
    all at.write (subst (IsIn at.write) (sym told.are) at.is_in) (omega (arith, moment_is, since_slot, since)) (omega (arith, moment_is, since_slot, since, before)) object
    (ap (λ n. nat_lt 0 (paths design n object)) at.object_is ∙ reaches)
  where
    written_here : Machine → ℕ → Option Seen → Bool
    written_here machine object found = elim found as (λ _. Bool) [ None ↦ false | Some seen ↦ event_writes machine object seen ]
