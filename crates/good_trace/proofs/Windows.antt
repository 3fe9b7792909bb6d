-- The events of a window as it grows, and in parts.
use Rattle.std.proofs.Common.{◌≡◌, ℕ, ◌+◌, ◌≤◌, List, [], ◌∷◌, ◌++◌, map, length, take, drop, sym, ap, ◌∙◌, arith, append-nil, append_assoc, length-append}
use Rattle.std.specs.Prelude.{Some, slice_get}
use Rattle.std.specs.List.{AllZip}
use Rattle.std.proofs.lemmas.List.{map-append}
use Rattle.vf_base.specs.Lists.{joined}
use Rattle.v_design.specs.Designs.{FlatDesign, Machine, TestPlan, good_machine}
use Rattle.v_design.specs.Runs.{FirstSlot}
use Rattle.copy_laws.specs.Windows.{good_slots, window_slots}
use Rattle.between_slots.specs.WindowLaws.{window_slots-part}
use Rattle.trace_window.specs.Moments.{Seen, slot_seen, slots_seen, window_events}
use Rattle.good_trace.proofs.Steps.{window_slots-more, window_slots-none}

joined-append : {A : Type 0} (xs ys : List (List A)) → joined (xs ++ ys) ≡ joined xs ++ joined ys
joined-append [] ys = λ i. joined ys
joined-append (x ∷ xs) ys = ap (λ l. x ++ l) (joined-append xs ys) ∙ sym (append_assoc x (joined xs) (joined ys))

seen-append : (machine : Machine) (slots more : List FirstSlot) → slots_seen machine (slots ++ more) ≡ slots_seen machine slots ++ slots_seen machine more
seen-append machine slots more = ap joined (map-append (slot_seen machine) slots more) ∙ joined-append (map (slot_seen machine) slots) (map (slot_seen machine) more)

-- of no slot
pub window_events-none : (design : FlatDesign) (plan : TestPlan) (number : ℕ) → window_events design plan number number ≡ []
window_events-none design plan number = ap (slots_seen (good_machine design)) (window_slots-none design plan number)

-- of one slot more
pub window_events-more : (design : FlatDesign) (plan : TestPlan) (begins number : ℕ) (slot : FirstSlot) → slice_get (good_slots design plan) number ≡ Some slot → begins ≤ number →
    window_events design plan begins (number + 1) ≡ window_events design plan begins number ++ slot_seen (good_machine design) slot
window_events-more design plan begins number slot stands low =
    ap (slots_seen (good_machine design)) (window_slots-more design plan begins number slot stands low)
    ∙ seen-append (good_machine design) (window_slots design plan begins number) (slot ∷ [])
    ∙ ap (λ l. window_events design plan begins number ++ l) (append-nil (slot_seen (good_machine design) slot))

-- in two parts
pub events-part : (design : FlatDesign) (plan : TestPlan) (begins middle ends : ℕ) → begins ≤ middle → middle ≤ ends →
    window_events design plan begins ends ≡ window_events design plan begins middle ++ window_events design plan middle ends
events-part design plan begins middle ends low high =
    ap (slots_seen (good_machine design)) (window_slots-part design plan begins middle ends low high)
    ∙ seen-append (good_machine design) (window_slots design plan begins middle) (window_slots design plan middle ends)

-- so the first slots have no more of them
pub events-within : (design : FlatDesign) (plan : TestPlan) (begins middle ends : ℕ) → begins ≤ middle → middle ≤ ends →
    length (window_events design plan begins middle) ≤ length (window_events design plan begins ends)
events-within design plan begins middle ends low high =
    let parts = ap (λ (l : List Seen). length l) (events-part design plan begins middle ends low high) in
    let long = length-append (window_events design plan begins middle) (window_events design plan middle ends) in
    omega (arith, parts, long)

-- What holds of two lists place by place, one of which has two parts

pub zip-front : {A B : Type 0} (R : A → B → Type 0) (xs more : List A) (ys : List B) → AllZip R (xs ++ more) ys → AllZip R xs (take (length xs) ys)
zip-front R [] more ys h = tt
zip-front R (x ∷ xs) more [] h = absurd h
zip-front R (x ∷ xs) more (y ∷ ys) h = (h.0, zip-front R xs more ys h.1)

pub zip-behind : {A B : Type 0} (R : A → B → Type 0) (xs more : List A) (ys : List B) → AllZip R (xs ++ more) ys → AllZip R more (drop (length xs) ys)
zip-behind R [] more ys h = h
zip-behind R (x ∷ xs) more [] h = absurd h
zip-behind R (x ∷ xs) more (y ∷ ys) h = zip-behind R xs more ys h.1
