-- Blocks of both machines that go alike.
use Rattle.std.proofs.Common.{◌≡◌, ℕ, ◌+◌, ◌<◌, ◌≤◌, List, [], ◌∷◌, length, map, get_or, take, Bool, true, false, not, ◌||◌, nat_eq, refl, sym, ap, subst, ◌∙◌, ◌⊎◌, inl, inr, arith}
use Rattle.std.specs.Prelude.{Option, Some, None, Vec, is_some, min, slice_get}
use Rattle.std.specs.declared.alloc.Global.{Global}
use Rattle.std.specs.List.{All}
use Rattle.std.proofs.Math.ListN.{get_or-map}
use Rattle.std.proofs.lemmas.Bool.{eq-eqb, eqb-true, ne_eqb}
use Rattle.std.proofs.lemmas.List.{length-map, map_push, take_all, take_more}
use Rattle.graph_order.specs.ListLaws.{has-append, has-get_or, has_place, has_push, or-false}
use Rattle.four_value.specs.Values.{LogicValue}
use Rattle.vf_base.specs.Base.{object_number, process_number}
use Rattle.vf_base.specs.Lists.{has}
use Rattle.vf_base.specs.declared.ids.ObjectId.{ObjectId}
use Rattle.vf_base.specs.declared.ids.ProcId.{ProcId}
use Rattle.v_design.specs.Assignments.{value_at}
use Rattle.v_design.specs.Designs.{FlatDesign, width_in}
use Rattle.v_design.specs.Plain.{due_of}
use Rattle.v_design.specs.States.{State, process_at}
use Rattle.v_design.specs.declared.plan.Due.{Due}
use Rattle.process_code.specs.Points.{activity_of}
use Rattle.process_code.specs.declared.code.Code.{Code}
use Rattle.process_code.specs.declared.state.ProcState.{ProcState}
use Rattle.run_ends.specs.RunEnds.{IsCodeAt}
use Rattle.moment_shown.specs.moment_parts.Lanes.{lane_left}
use Rattle.block_told.specs.declared.told.BlockTold.{BlockTold}
use Rattle.moment_shown.specs.lockstep_compare.Among.{AreComparable}
use Rattle.moment_shown.specs.lockstep_exchange.Putting.{lane_numbers}
use Rattle.moment_shown.specs.declared.shown.ShownBlock.{ShownBlock}
use Rattle.moment_shown.specs.declared.shown.ShownMoment.{ShownMoment}
use Rattle.moment_shown.specs.Shown.{Shows}
use Rattle.block_compare.specs.Comparing.{ActsAlike, DoesSame, GoAlike, IsShownOf}

-- Tests

pub or-both : {a b c d : Bool} → a ≡ c → b ≡ d → (a || b) ≡ (c || d)
or-both e f = λ i. e i || f i

both-none : (a b : Bool) → a ≡ false → b ≡ false → (a || (b || false)) ≡ false
both-none true b e f = e
both-none false true e f = f
both-none false false e f = refl

-- Processes

both-ways : (b c : Bool) → (b ≡ true → c ≡ true) → (c ≡ true → b ≡ true) → b ≡ c
both-ways true c there back = sym (there refl)
both-ways false true there back = back refl
both-ways false false there back = refl

from-either : (b c d : Bool) → (b || c) ≡ true → (b ≡ true → (d || false) ≡ true) → (c ≡ true → (d || false) ≡ true) → d ≡ true
from-either b c true e first second = refl
from-either true c false e first second = first refl
from-either false true false e first second = second refl
from-either false false false e first second = e

pub acts-so : (block : ShownBlock) (told : BlockTold) (stepped ended : List ProcId) → stepped ≡ told.stepped.items → ended ≡ told.ended.items →
    lane_numbers told.lane ≡ lane_numbers block.lane →
    ((process : ℕ) → has (map process_number block.acted.now) process ≡ true → (has (map process_number stepped) process || has (map process_number ended) process) ≡ true) →
    ((process : ℕ) → has (map process_number stepped) process ≡ true → (has (map process_number block.acted.now) process || false) ≡ true) →
    ((process : ℕ) → has (map process_number ended) process ≡ true → (has (map process_number block.acted.now) process || false) ≡ true) → ActsAlike block told
acts-so block told stepped ended stepped_is ended_is lane_is all_acted all_stepped all_ended = record {
  acted = λ process.
      or-both (ap (λ (l : List ProcId). has (map process_number l) process) (sym stepped_is)) (ap (λ (l : List ProcId). has (map process_number l) process) (sym ended_is))
      ∙ both-ways (has (map process_number stepped) process || has (map process_number ended) process) (has (map process_number block.acted.now) process)
      (λ e.
      from-either (has (map process_number stepped) process) (has (map process_number ended) process) (has (map process_number block.acted.now) process) e (all_stepped process)
      (all_ended process)) (all_acted process);
  lanes = λ process. ap (λ (l : List ℕ). has l process) lane_is;
}

pub on-bool : {P : Type 0} (b : Bool) → (b ≡ true → P) → (b ≡ false → P) → P
on-bool true holds fails = holds refl
on-bool false holds fails = fails refl

second-true : (b c : Bool) → (b || c) ≡ true → b ≡ false → c ≡ true
second-true true c e f = cc
second-true false c e f = e

pub go-so : (design : FlatDesign) (count : ℕ) (good faulty : State) (block : ShownBlock) (told : BlockTold) (owns : List ObjectId) → count ≡ length design.objects →
    owns ≡ told.changed.items → ActsAlike block told → ((process : ℕ) → has (map process_number block.acted.now) process ≡ true → DoesSame good faulty process) →
    ((process : ℕ) → has (lane_numbers block.lane) process ≡ true → DoesSame good faulty process) →
    ((object : ℕ) → has (map object_number block.changed.now) object ≡ true → object < count) → ((object : ℕ) → has (map object_number owns) object ≡ true → object < count) →
    GoAlike design good faulty block told
go-so design count good faulty block told owns count_is owns_is acts all_same lane_same goods owned = record {
  acts = acts;
  same = λ process among.
      on-bool (has (map process_number block.acted.now) process) (λ yes. all_same process yes)
      (λ no. lane_same process (second-true (has (map process_number block.acted.now) process) (has (lane_numbers block.lane) process) among no));
  goods = λ object there. let low = goods object there in omega (arith, low, count_is);
  owns = λ object there.
      let low = owned object (ap (λ (l : List ObjectId). has (map object_number l) object) owns_is ∙ there) in omega (arith, low, count_is);
}

-- The process whose lane took a step

pub no-lane : (lane : Option ProcId) (b : Bool) → is_some lane ≡ not b → b ≡ true → lane_numbers lane ≡ []
no-lane None b e holds = refl
no-lane (Some own) b e holds = let z : true ≡ false = e ∙ ap not holds in cc

pub lane-there : (lane : Option ProcId) (own : ProcId) → lane ≡ Some own → has (lane_numbers lane) (process_number own) ≡ true
lane-there lane own is =
    ap (λ (l : Option ProcId). has (lane_numbers l) (process_number own)) is ∙ ap (λ b. b || false) (eq-eqb (process_number own) (process_number own) refl)

pub lane-only : (lane : Option ProcId) (own : ProcId) → lane ≡ Some own → (process : ℕ) → has (lane_numbers lane) process ≡ true → process_number own ≡ process
lane-only lane own is process there =
    eqb-true (process_number own) process
    (sym (or-false (nat_eq (process_number own) process)) ∙ sym (ap (λ (l : Option ProcId). has (lane_numbers l) process) is) ∙ there)

pub lane-none : (lane : Option ProcId) (process : ℕ) → lane ≡ None → has (lane_numbers lane) process ≡ true → ⊥
lane-none lane process is there = let z : false ≡ true = sym (ap (λ (l : Option ProcId). has (lane_numbers l) process) is) ∙ there in cc

-- What is shown

-- a process of the state that is shown has a place in each list
pub states-there : (good : ShownMoment) (state : State) → Shows good state → (process : ℕ) → process < length state.processes → process < length good.standing.now.states.items
states-there good state shown process low = let count = shown.state_count in omega (arith, low, count)

pub writes-there : (good : ShownMoment) (state : State) → Shows good state → (process : ℕ) → process < length state.processes →
    process < min (length good.standing.now.later.items) (length good.standing.now.lanes.items)
writes-there good state shown process low =
    let later = length-map good.standing.now.later.items (λ (list : Vec Due Global). map due_of list.items) in
    let lanes = length-map good.standing.now.lanes.items lane_left in
    let later_count = shown.later_count in
    let lane_count = shown.lane_count in
    omega (arith, low, later, lanes, later_count, lane_count)

-- where the runner stands at the point at which the good machine's process is shown to stand, it does the same
pub same-there : (design : FlatDesign) (good : ShownMoment) (own : ProcState) (state faulty : State) (process : ℕ) → IsShownOf design good → Shows good state → process < length design.processes →
    slice_get good.standing.now.states.items process ≡ Some own →
    ((code : Code) → IsCodeAt design process code → (process_at faulty process).activity ≡ activity_of code own) → DoesSame state faulty process
same-there design good own state faulty process beside shown low at stands =
    let code = beside.codes process low in
    stands code.0 code.1 ∙ (shown.stands process own at).does code.0 (subst (λ (d : FlatDesign). IsCodeAt d process code.0) (sym beside.design_is) code.1)

-- Bounds

-- what holds of each number of a list
pub all-so : (P : ℕ → Type 0) (numbers : List ℕ) → ((number : ℕ) → has numbers number ≡ true → P number) → All P numbers
all-so P numbers each = λ place default low. each (get_or numbers place default) (has-get_or numbers place default low)

pub each-of : (P : ℕ → Type 0) (numbers : List ℕ) → All P numbers → (number : ℕ) → has numbers number ≡ true → P number
each-of P numbers all number there = let at = has_place numbers number there in subst P at.2 (all at.0 0 at.1)

-- values of both machines can be compared where each is as wide as its object
pub comparable : (design : FlatDesign) (goods faulties : List LogicValue) → length goods ≡ length design.objects → length faulties ≡ length design.objects →
    ((object : ℕ) → object < length goods → length (value_at goods object) ≡ width_in design object) →
    ((object : ℕ) → object < length faulties → length (value_at faulties object) ≡ width_in design object) → (object : ℕ) → object < length design.objects →
    AreComparable goods faulties object
comparable design goods faulties good_count own_count good_wide own_wide object low =
    let good_low : object < length goods = omega (arith, low, good_count) in
    let own_low : object < length faulties = omega (arith, low, own_count) in
    record { good_within = good_low; faulty_within = own_low; width = good_wide object good_low ∙ sym (own_wide object own_low) }

-- so can all of some objects of a design, of which the good machine's values are shown
pub all-comparable : (design : FlatDesign) (good : ShownMoment) (faulties : List LogicValue) (numbers : List ℕ) → IsShownOf design good → length faulties ≡ length design.objects →
    ((object : ℕ) → object < length faulties → length (value_at faulties object) ≡ width_in design object) →
    ((object : ℕ) → has numbers object ≡ true → object < length design.objects) → All (AreComparable good.values.now faulties) numbers
all-comparable design good faulties numbers beside own_count own_wide each =
    all-so (AreComparable good.values.now faulties) numbers
    (λ object there.
    comparable design good.values.now faulties (ap (λ (values : List LogicValue). length values) beside.shown.values_are ∙ beside.value_count) own_count
    (subst (λ (values : List LogicValue). (number : ℕ) → number < length values → length (value_at values number) ≡ width_in design number) (sym beside.shown.values_are) beside.wide) own_wide object
    (each object there))

-- Lists, element by element

-- what holds of each number among the first ones, and of the next one, holds of one more
pub one-more : {A : Type 0} (f : A → ℕ) (P : ℕ → Type 0) (xs : List A) (place : ℕ) (default : A) → place < length xs → ((number : ℕ) → has (map f (take place xs)) number ≡ true → P number) →
    P (f (get_or xs place default)) → (number : ℕ) → has (map f (take (place + 1) xs)) number ≡ true → P number
one-more f P xs place default low before here number there =
    go (has_push (map f (take place xs)) (f (get_or xs place default)) number
    (ap (λ (l : List ℕ). has l number) (sym (map_push f (take place xs) (get_or xs place default)) ∙ ap (map f) (sym (take_more xs place default low))) ∙ there))
  where
    go : (has (map f (take place xs)) number ≡ true) ⊎ (f (get_or xs place default) ≡ number) → P number
    go (inl e) = before number e
    go (inr e) = subst P e here

-- a number that isn't the next one, nor among the first ones, isn't among one more
pub none-more : {A : Type 0} (f : A → ℕ) (xs : List A) (place number : ℕ) (default : A) → place < length xs → has (map f (take place xs)) number ≡ false →
    (f (get_or xs place default) ≡ number → ⊥) → has (map f (take (place + 1) xs)) number ≡ false
none-more f xs place number default low before differ =
    ap (λ (l : List ℕ). has l number) (ap (map f) (take_more xs place default low) ∙ map_push f (take place xs) (get_or xs place default))
    ∙ has-append (map f (take place xs)) (f (get_or xs place default) ∷ []) number
    ∙ both-none (has (map f (take place xs)) number) (nat_eq (f (get_or xs place default)) number) before (ne_eqb (f (get_or xs place default)) number differ)

-- all of them
pub all-taken : {A : Type 0} (f : A → ℕ) (xs : List A) (count number : ℕ) → length xs ≤ count → has (map f (take count xs)) number ≡ has (map f xs) number
all-taken f xs count number long = ap (λ l. has (map f l) number) (take_all count xs long)

-- one of them is there
pub one-there : {A : Type 0} (f : A → ℕ) (xs : List A) (place : ℕ) (default : A) → place < length xs → has (map f xs) (f (get_or xs place default)) ≡ true
one-there f xs place default low =
    let mapped : length (map f xs) ≡ length xs = length-map xs f in
    ap (has (map f xs)) (sym (get_or-map f xs place default)) ∙ has-get_or (map f xs) place (f default) (omega (arith, low, mapped))
