-- Which slots of a first run lie between where it stands and a later time (slots by IEEE 1364-2001, clause 5).
use Rattle.std.proofs.Common.{◌≡◌, ℕ, ◌<◌, ◌≤◌, Bool, true, false, cond, ◌&&◌, List, [], ◌∷◌, ◌++◌, refl, sym, ap, ◌∙◌, arith}
use Rattle.std.specs.Prelude.{Option, Some, None, filter, nat_le, nat_lt}
use Rattle.std.proofs.lemmas.Bool.{le-leb, le-ltb, lt-leb, lt-ltb, leb-true}
use Rattle.std.proofs.lemmas.List.Elements.{filter-append}
use Rattle.vf_base.specs.Lists.{AllHold}
use Rattle.v_design.specs.Designs.{FlatDesign, StuckAt, TestPlan, faulty_machine}
use Rattle.v_design.specs.States.{State}
use Rattle.v_design.specs.Runs.{FirstSlot, first_run}
use Rattle.copy_laws.specs.Windows.{comes_after, comes_by, slots_between}
use Rattle.machine_laws.specs.SlotLoop.{slot_from}
use Rattle.beside_laws.specs.Stands.{IsAfter}
use Rattle.own_counts.specs.Joins.{fault_end}
use Rattle.graded_steps.specs.Ahead.{SlotsAhead}
use Rattle.graded_steps.specs.Between.{SlotsLieBetween}
use Rattle.graded_steps.proofs.Standing.{later-all, next-slot}

-- a slot that comes after one time and up to another, and not after a third one
abbrev Lies : Option ℕ → Option ℕ → ℕ → FirstSlot → Bool
Lies from until limit slot = (comes_after from slot.begins.time && comes_by until slot.begins.time) && nat_le slot.begins.time limit

behind-not : (now : Option ℕ) (time : ℕ) → comes_by now time ≡ true → comes_after now time ≡ false
behind-not None time b = cc
behind-not (Some now) time b = le-ltb now time (leb-true time now b)

after-is : (now : Option ℕ) (time : ℕ) → IsAfter now time → comes_after now time ≡ true
after-is None time a = refl
after-is (Some now) time a = lt-ltb now time a

-- none of those behind lies there
none-behind : (now until : Option ℕ) (limit : ℕ) (slots : List FirstSlot) → AllHold (λ (slot : FirstSlot). comes_by now slot.begins.time ≡ true) slots →
    filter (Lies now until limit) slots ≡ []
none-behind now until limit [] all = refl
none-behind now until limit (slot ∷ slots) all =
    ap (λ b. cond ((b && comes_by until slot.begins.time) && nat_le slot.begins.time limit) (slot ∷ filter (Lies now until limit) slots) (filter (Lies now until limit) slots))
    (behind-not now slot.begins.time all.0)
    ∙ none-behind now until limit slots all.1

and-false : (a : Bool) → (a && false) ≡ false
and-false true = refl
and-false false = refl

-- nor of those after the later time
none-after : (now : Option ℕ) (until limit : ℕ) (slots : List FirstSlot) → AllHold (λ (slot : FirstSlot). until < slot.begins.time) slots → filter (Lies now (Some until) limit) slots ≡ []
none-after now until limit [] all = refl
none-after now until limit (slot ∷ slots) all =
    ap (λ b. cond ((comes_after now slot.begins.time && b) && nat_le slot.begins.time limit) (slot ∷ filter (Lies now (Some until) limit) slots) (filter (Lies now (Some until) limit) slots))
    (lt-leb slot.begins.time until all.0)
    ∙ ap (λ b. cond (b && nat_le slot.begins.time limit) (slot ∷ filter (Lies now (Some until) limit) slots) (filter (Lies now (Some until) limit) slots)) (and-false (comes_after now slot.begins.time))
    ∙ none-after now until limit slots all.1

-- one that does, before others that come later
one-first : (now : Option ℕ) (limit : ℕ) (slot : FirstSlot) (slots : List FirstSlot) → IsAfter now slot.begins.time → slot.begins.time ≤ limit →
    AllHold (λ (later : FirstSlot). slot.begins.time < later.begins.time) slots → filter (Lies now (Some slot.begins.time) limit) (slot ∷ slots) ≡ slot ∷ []
one-first now limit slot slots after low all =
    let rest = filter (Lies now (Some slot.begins.time) limit) slots in
    ap (λ b. cond ((b && nat_le slot.begins.time slot.begins.time) && nat_le slot.begins.time limit) (slot ∷ rest) rest) (after-is now slot.begins.time after)
    ∙ ap (λ b. cond (b && nat_le slot.begins.time limit) (slot ∷ rest) rest) (le-leb slot.begins.time slot.begins.time (omega arith))
    ∙ ap (λ b. cond b (slot ∷ rest) rest) (le-leb slot.begins.time limit low)
    ∙ ap (λ (l : List FirstSlot). slot ∷ l) (none-after now slot.begins.time limit slots all)

next-lies : (design : FlatDesign) (plan : TestPlan) (fault : StuckAt) (now : Option ℕ) (begins : State) → SlotsAhead (faulty_machine design fault) plan.end now (Some begins) →
    begins.time ≤ fault_end design plan fault → slots_between design plan fault now (Some begins.time) ≡ slot_from (faulty_machine design fault) begins ∷ []
next-lies design plan fault now begins a low =
    let machine = faulty_machine design fault in
    let limit = fault_end design plan fault in
    let n = next-slot machine plan.end now begins a in
    let slot : FirstSlot = slot_from machine begins in
    ap (filter (Lies now (Some begins.time) limit)) n.parts ∙ filter-append (Lies now (Some begins.time) limit) n.behind (slot ∷ n.rest)
    ∙ ap (λ (l : List FirstSlot). l ++ filter (Lies now (Some begins.time) limit) (slot ∷ n.rest)) (none-behind now (Some begins.time) limit n.behind n.by_now)
    ∙ one-first now limit slot n.rest n.since low n.after

none-lie : (design : FlatDesign) (plan : TestPlan) (fault : StuckAt) (now : Option ℕ) (next : Option State) (until : ℕ) → SlotsAhead (faulty_machine design fault) plan.end now next →
    ((begins : State) → next ≡ Some begins → until < begins.time) → slots_between design plan fault now (Some until) ≡ []
none-lie design plan fault now next until a past =
    let machine = faulty_machine design fault in
    let limit = fault_end design plan fault in
    let later : AllHold (λ (slot : FirstSlot). until < slot.begins.time) a.slots = later-all machine plan.end until next a.slots a.follow a.rise past in
    ap (filter (Lies now (Some until) limit)) a.parts ∙ filter-append (Lies now (Some until) limit) a.behind a.slots
    ∙ ap (λ (l : List FirstSlot). l ++ filter (Lies now (Some until) limit) a.slots) (none-behind now (Some until) limit a.behind a.by_now)
    ∙ none-after now until limit a.slots later

-- The laws

pub slots_lie_between : SlotsLieBetween
slots_lie_between = record { next = next-lies; none = none-lie }
