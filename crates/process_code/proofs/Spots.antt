-- The rest that stands at each position of code, and what stays of a state.
use Rattle.std.proofs.Common.{◌≡◌, ◌≤◌, ◌<◌, ℕ, zero, suc, Bool, true, false, ◌+◌, ◌-◌, List, [], ◌∷◌, ◌++◌, length, take, drop, get_or, replicate, Option, Some, refl, sym, ap, ◌∙◌, subst}
use Rattle.std.proofs.Common.{arith}
use Rattle.std.specs.List.{slice_get}
use Rattle.std.specs.Prelude.{vec_capacity, map, option_map}
use Rattle.std.proofs.lemmas.List.{take-append-drop, length-take-le, take_more, length-replicate}
use Rattle.std.proofs.lemmas.Option.{slice_get_within, slice_get_read, get_or_from_slice_get}
use Rattle.vf_base.specs.Lists.{AllHold}
use Rattle.v_design.specs.Plain.{statement_of, update_of}
use Rattle.v_design.specs.Trees.{Statement, Null, Block, If, Case, For, While, Repeat, Forever, Delay, EventControl, Wait, Blocking, Nonblocking, Finish}
use Rattle.v_design.specs.Sized.{IsSizedStatement}
use Rattle.v_design.specs.Reads.{named_by}
use Rattle.process_operands.specs.BoundsLaws.{AreBelow}
use Rattle.process_code.specs.Rests.{Part, Runs, TurnsLeft, opened_parts, tasks_of}
use Rattle.process_code.specs.Positions.{part_of_head, rests_of, StandsAt, PartLeads}
use Rattle.process_code.specs.StatesOf.{IsRestAt, IsPartWithin, IsGoodPart, IsStateOf, HasRoom, CountsPart, HasRoomFor, KeepsRoom, FitsIn}
use Rattle.process_code.proofs.Growing.{Keeps, keeps-spots, keeps-append, rest_at, rest-last, rests_of-length}
use Rattle.process_code.proofs.Compiled.{one-rest}
use Rattle.four_value.specs.Values.{LogicValue}
use Rattle.v_design.specs.Assignments.{ValueUpdate}
use Rattle.v_design.specs.Designs.{FlatProcess}
use Rattle.v_design.specs.Processes.{process_step, end_step, opened}
use Rattle.v_design.specs.Processes as activities
use Rattle.process_code.specs.RestsLaws.{tasks_of-opened}
use Rattle.process_code.specs.Points.{Point, StepSaid, IsStep, point_of, activity_at, activity_of, ready_at, tasks_at, updates_left}
use Rattle.process_code.specs.Acts.{GoesTo, IsDone, ActsPart}
use Rattle.process_code.specs.ActsLaws.{ready-point, is-step, part-step}
use Rattle.process_code.specs.StepLaws.{tasks-ready, activity-ready, step-again, step-done}
use Rattle.process_code.specs.WithinLaws.{opened-within}
use Rattle.process_code.specs.Reached.{IsReached}
use Rattle.process_code.proofs.Reaching.{stops-ready}
use Rattle.process_code.specs.Compiling.{Leads}
use Rattle.process_code.specs.Codes.{IsCodeOf, rests_in_code}
use Rattle.process_code.specs.declared.code.Code.{Code}
use Rattle.process_code.specs.declared.code.Ways.{Ways}
use Rattle.process_code.specs.declared.state.Stage.TheVariants.{Ready}
use Rattle.process_code.specs.declared.code.Spot.{Spot}
use Rattle.process_code.specs.declared.state.ProcState.{ProcState}

-- nothing is left at the end
pub rest-end : (spots : List Spot) → StandsAt (rests_of spots) 0 []
rest-end spots = keeps-append [] spots 0 [] refl

-- a spot stands before the rest of its next position
pub rest-spot : (spots : List Spot) (i : ℕ) (spot : Spot) (after : List Part) → slice_get spots i ≡ Some spot → spot.next ≤ i → StandsAt (rests_of spots) spot.next after →
    StandsAt (rests_of spots) (i + 1) (part_of_head spot.head ∷ after)
rest-spot spots i spot after there falls stands =
    let low : i < length spots = slice_get_within spots i spot there in
    let before = take i spots in
    let n : length before ≡ i = length-take-le i spots (omega (arith, low)) in
    let spot_is : get_or spots i spot ≡ spot = get_or_from_slice_get spots i spot spot there in
    let all : spots ≡ (before ++ (spot ∷ [])) ++ drop (i + 1) spots =
    sym (take-append-drop (i + 1) spots) ∙ ap (λ xs. xs ++ drop (i + 1) spots) (take_more spots i spot low ∙ ap (λ x. before ++ (x ∷ [])) spot_is) in
    let known = rest_at before spot.next (omega (arith, falls, n)) in
    let kept : Keeps (rests_of before) (rests_of spots) = keeps-spots before (drop i spots) spots (sym (take-append-drop i spots)) in
    let same = one-rest (rests_of spots) spot.next _ after (kept spot.next _ known) stands in
    let own = rest-last before spot _ known in
    let here = keeps-spots (before ++ (spot ∷ [])) (drop (i + 1) spots) spots all _ _ own in
    ap (λ k. slice_get (rests_of spots) (k + 1)) (sym n) ∙ here ∙ ap (λ rest. Some (part_of_head spot.head ∷ rest)) same

-- a part within the body is good where all that the body names is there
pub good-part : (limit : ℕ) (body : Statement) (part : Part) → AreBelow limit (named_by body) → IsPartWithin body part → IsGoodPart limit part
good-part limit body (Runs statement) below w = (w.sized, w.below limit below)
good-part limit body (TurnsLeft number place inner) below w = tt

-- the part that stands at a position is within the body
pub part-within : (body : Statement) (rests : List (List Part)) (position : ℕ) (part : Part) (after : List Part) → IsRestAt body rests position → StandsAt rests position (part ∷ after) →
    AllHold (IsPartWithin body) (part ∷ after)
part-within body rests position part after h stands = subst (AllHold (IsPartWithin body)) (one-rest rests position h.rest (part ∷ after) h.stands stands) h.within

-- more room is room
pub more-room : (n m k l : ℕ) (part : Part) → n ≤ k → m ≤ l → HasRoomFor n m part → HasRoomFor k l part
more-room n m k l (Runs statement) a b h = (omega (arith, a, h.0), omega (arith, b, h.1))
more-room n m k l (TurnsLeft number place body) a b h = tt

pub fits-kept : (old new : ProcState) (part : Part) → KeepsRoom old new → FitsIn old part → FitsIn new part
fits-kept old new part k h = more-room (vec_capacity old.operands) (vec_capacity old.updates) (vec_capacity new.operands) (vec_capacity new.updates) part k.operands k.updates h

-- Steps

-- a step of a spot is the step of the definition
pub step-of-spot : (process : FlatProcess) (now : ℕ) (values : List LogicValue) (rests : List (List Part)) (repeats : ℕ) (p : Point) (ways : Ways) (next : ℕ) (part : Part) (after : List Part)
    (new : Point) (said : StepSaid) →
    p.stage ≡ Ready → p.updates ≡ [] → StandsAt rests p.position (part ∷ after) → StandsAt rests next after → PartLeads repeats rests ways part after → repeats ≤ length p.counts →
    ActsPart now values part ways next p new said → IsStep now values rests (process_step process now (tasks_at rests p) p.operands) new said
step-of-spot process now values rests repeats p ways next part after new said stage none here stands leads room acts =
    let tasks : tasks_at rests p ≡ tasks_of p.counts (part ∷ after) =
    ap (λ (us : List (Option ValueUpdate)). updates_left p.place p.delay us (tasks_of p.counts (get_or rests p.position []))) none
    ∙ tasks-ready rests p.position (part ∷ after) p.counts p.place p.delay here in
    let ready : ActsPart now values part ways next (ready_at p.position p.operands p.counts p.place p.delay) new said =
    subst (λ q. ActsPart now values part ways next q new said) (ready-point p stage none) acts in
    subst (λ ts. IsStep now values rests (process_step process now ts p.operands) new said) (sym tasks)
    (part-step process now values rests repeats p.position p.operands p.counts p.place p.delay ways next part after new said here stands leads room ready)

-- the end of the body
pub step-of-end : (process : FlatProcess) (now : ℕ) (values : List LogicValue) (rests : List (List Part)) (p : Point) (start : ℕ) (new : Point) (said : StepSaid) →
    p.stage ≡ Ready → p.updates ≡ [] → StandsAt rests p.position [] → StandsAt rests start (opened_parts process.body []) →
    (process.always ≡ true → GoesTo p start new said) → (process.always ≡ false → IsDone p new said) → IsStep now values rests (process_step process now (tasks_at rests p) p.operands) new said
step-of-end process now values rests p start new said stage none here stands again done =
    let tasks : tasks_at rests p ≡ [] =
    ap (λ (us : List (Option ValueUpdate)). updates_left p.place p.delay us (tasks_of p.counts (get_or rests p.position []))) none ∙ tasks-ready rests p.position [] p.counts p.place p.delay here in
    let e = ready-point p stage none in
    subst (λ ts. IsStep now values rests (process_step process now ts p.operands) new said) (sym tasks)
    (by_always process.always refl (λ h. subst (λ q. GoesTo q start new said) e (again h)) (λ h. subst (λ q. IsDone q new said) e (done h)))
  where
    by_always : (b : Bool) → process.always ≡ b → (process.always ≡ true → GoesTo (ready_at p.position p.operands p.counts p.place p.delay) start new said) →
        (process.always ≡ false → IsDone (ready_at p.position p.operands p.counts p.place p.delay) new said) → IsStep now values rests (process_step process now [] p.operands) new said
    by_always true h again done =
        is-step now values rests _ new _ said _ (again h).0 (again h).1 (step-again process now values rests start p.operands p.counts p.place p.delay h stands)
    by_always false h again done =
        is-step now values rests _ new _ said _ (done h).0 (done h).1 (step-done now values rests p.position p.counts p.place p.delay 0 _ (ap (λ b. end_step b process.body) h))

-- where the process stands at the end of its body
pub end-ends : (body : Statement) (rests : List (List Part)) (always : Bool) (p new : Point) (start : ℕ) (said : StepSaid) → IsSizedStatement body → IsRestAt body rests p.position →
    StandsAt rests start (opened_parts body []) →
    (always ≡ true → GoesTo p start new said) → (always ≡ false → IsDone p new said) → IsRestAt body rests new.position
end-ends body rests true p new start said sized here stands again done =
    subst (IsRestAt body rests) (sym (ap (λ (q : Point). q.position) (again refl).0))
    (record { rest = opened_parts body []; stands = stands; within = opened-within body body [] (record { sized = sized; below = λ limit b. b }) tt })
end-ends body rests false p new start said sized here stands again done = subst (IsRestAt body rests) (sym (ap (λ (q : Point). q.position) (done refl).0)) here

-- what is known of the spot at a position
pub record SpotFacts (code : Code) (position : ℕ) (spot : Spot) (ways : Ways) : Type 0 where
  pub within : position - 1 < length code.spots.items
  pub there : slice_get code.spots.items (position - 1) ≡ Some spot
  pub leads : Leads code.repeats (rests_in_code code) spot ways
  pub here : StandsAt (rests_in_code code) position (part_of_head spot.head ∷ leads.after)
  pub parts : AllHold (IsPartWithin (statement_of code.process.now.body)) (part_of_head spot.head ∷ leads.after)

pub spot-within : (code : Code) (position : ℕ) → (position ≡ 0 → ⊥) → IsRestAt (statement_of code.process.now.body) (rests_in_code code) position → position - 1 < length code.spots.items
spot-within code position some rest =
    let low : position < length (rests_in_code code) = slice_get_within (rests_in_code code) position rest.rest rest.stands in
    omega (arith, low, rests_of-length code.spots.items, some)

pub spot-facts : (code : Code) (position : ℕ) (spot : Spot) (ways : Ways) → IsCodeOf code.process.now code → (position ≡ 0 → ⊥) →
    IsRestAt (statement_of code.process.now.body) (rests_in_code code) position →
    spot ≡ get_or code.spots.items (position - 1) spot → ways ≡ get_or code.ways.items (position - 1) ways → SpotFacts code position spot ways
spot-facts code position spot ways is some rest spot_is ways_is =
    let low = spot-within code position some rest in
    let there = slice_get_read code.spots.items (length code.spots.items) (position - 1) spot refl low spot_is in
    let there_ways = slice_get_read code.ways.items (length code.ways.items) (position - 1) ways refl (omega (arith, low, is.in_step)) ways_is in
    let leads = is.led (position - 1) spot ways there there_ways in
    let n : position - 1 + 1 ≡ position = omega (arith, some) in
    let here : StandsAt (rests_in_code code) position (part_of_head spot.head ∷ leads.after) =
    subst (λ k. StandsAt (rests_in_code code) k (part_of_head spot.head ∷ leads.after)) n (rest-spot code.spots.items (position - 1) spot leads.after there
    (is.falls (position - 1) spot there) leads.stands) in
    record {
      within = low;
      there = there;
      leads = leads;
      here = here;
      parts = part-within (statement_of code.process.now.body) (rests_in_code code) position
          (part_of_head spot.head) leads.after rest here;
    }

-- a state has a count for each part
pub counts-part : (rests : List (List Part)) (repeats : ℕ) (ways : Ways) (part : Part) (after : List Part) (state : ProcState) → PartLeads repeats rests ways part after →
    repeats ≤ length state.counts.items → CountsPart part ways.other state
counts-part rests repeats ways (Runs Null) after state leads room = absurd leads
counts-part rests repeats ways (Runs (Block many)) after state leads room = absurd leads
counts-part rests repeats ways (Runs (If place condition first second)) after state leads room = tt
counts-part rests repeats ways (Runs (Case place kind value items default)) after state leads room = tt
counts-part rests repeats ways (Runs (For place first_targets first condition next_targets next body)) after state leads room = tt
counts-part rests repeats ways (Runs (While place condition body)) after state leads room = tt
counts-part rests repeats ways (Runs (Repeat place count body)) after state leads room = omega (arith, leads.0, room)
counts-part rests repeats ways (Runs (Forever place body)) after state leads room = tt
counts-part rests repeats ways (Runs (Delay place delay body)) after state leads room = tt
counts-part rests repeats ways (Runs (EventControl place entries body)) after state leads room = tt
counts-part rests repeats ways (Runs (Wait place condition body)) after state leads room = tt
counts-part rests repeats ways (Runs (Blocking place targets delay value)) after state leads room = tt
counts-part rests repeats ways (Runs (Nonblocking place targets delay value)) after state leads room = tt
counts-part rests repeats ways (Runs (Finish place)) after state leads room = tt
counts-part rests repeats ways (TurnsLeft number place body) after state leads room = omega (arith, leads.0, room)

-- a state of code stays one
pub state-kept : (code : Code) (old new : ProcState) → IsStateOf code old → length new.counts.items ≡ length old.counts.items →
    IsRestAt (statement_of code.process.now.body) (rests_in_code code) new.position →
    IsReached (rests_in_code code) (point_of new) →
    IsStateOf code new
state-kept code old new h counts rest reached = record {
  reached = reached;
  rest = rest;
  counts = counts ∙ h.counts;
}

-- there stays room for each part of the code
pub room-kept : (code : Code) (old new : ProcState) → KeepsRoom old new → HasRoom code old → HasRoom code new
room-kept code old new k h = λ i spot there. fits-kept old new (part_of_head spot.head) k (h i spot there)

-- among counts of 0 each is 0
pub zeros : (repeats number : ℕ) → let counts : List ℕ = replicate repeats 0 in get_or counts number 0 ≡ 0
zeros zero number = refl
zeros (suc repeats) zero = refl
zeros (suc repeats) (suc number) = zeros repeats number

-- the state in which a process begins
pub state-new : (code : Code) (state : ProcState) → IsCodeOf code.process.now code → state.position ≡ code.start → state.counts.items ≡ replicate code.repeats 0 → state.stage ≡ Ready →
    IsStateOf code state
state-new code state is start counts ready =
    let body = statement_of code.process.now.body in
    record {
      rest = subst (IsRestAt body (rests_in_code code)) (sym start)
          (record { rest = opened_parts body []; stands = is.starts; within = opened-within body body [] (record { sized = is.sized; below = λ limit b. b }) tt });
      counts = ap length counts ∙ length-replicate code.repeats 0;
      reached = record {
        counts = λ number idle. ap (λ (xs : List ℕ). get_or xs number 0) counts ∙ zeros code.repeats number;
        stops = stops-ready (rests_in_code code) state.stage state.operands.items ready;
      };
    }

-- what the process does then
pub activity-new : (code : Code) (state : ProcState) → IsCodeOf code.process.now code → state.stage ≡ Ready → state.position ≡ code.start → state.operands.items ≡ [] → state.updates.items ≡ [] →
    activity_of code state ≡ activities.Ready (opened (statement_of code.process.now.body) []) []
activity-new code state is stage start operands updates =
    let p = point_of state in
    let rests = rests_in_code code in
    ap (activity_at rests) (ready-point p stage (ap (map (option_map update_of)) updates)
    ∙ ap (λ position. ready_at position p.operands p.counts p.place p.delay) start
    ∙ ap (λ (ops : List LogicValue). ready_at code.start ops p.counts p.place p.delay) operands)
    ∙ activity-ready rests code.start (opened_parts (statement_of code.process.now.body) []) [] p.counts p.place p.delay is.starts
    ∙ ap (λ tasks. activities.Ready tasks []) (tasks_of-opened p.counts (statement_of code.process.now.body) [])
