-- Where no two statements of a process stand at one place, what it does tells where it stands in its code.
use Rattle.std.proofs.Common.{◌≡◌, ◌<◌, ◌+◌, ℕ, zero, suc, List, [], ◌∷◌, length, get_or, Option, Some, None, refl, sym, ap, ◌∙◌, subst, arith, inl, inr}
use Rattle.std.specs.List.{slice_get}
use Rattle.std.proofs.lemmas.Bool.{cases_eq}
use Rattle.std.proofs.lemmas.List.{ext_get_or}
use Rattle.std.proofs.lemmas.Option.{slice_get_within, get_or_from_slice_get}
use Rattle.vf_base.specs.Base.{SourcePlace}
use Rattle.four_value.specs.Values.{LogicValue}
use Rattle.v_design.specs.Trees.{Null, Block, If, Case, For, While, Repeat, Forever, Delay, EventControl, Wait, Blocking, Nonblocking, Finish}
use Rattle.v_design.specs.Plain.{statement_of}
use Rattle.v_design.specs.Assignments.{ValueUpdate}
use Rattle.v_design.specs.Processes.{Task, Run, Turns, Writes, Appends, Activity}
use Rattle.v_design.specs.Processes as activities
use Rattle.v_design.specs.Places.{PlacesDiffer}
use Rattle.process_code.specs.Rests.{Part, Runs, TurnsLeft, tasks_of}
use Rattle.process_code.specs.Positions.{part_of_head, rests_of, StandsAt}
use Rattle.process_code.specs.Marks.{Mark, mark_of, mark_of_spot, mark_of_statement, whole_mark, turns_mark}
use Rattle.process_code.specs.Points.{Point, point_of, HasUpdates, updates_left, tasks_at, wait_place, activity_by, activity_of}
use Rattle.process_code.specs.Reached.{HasNoTurns, CountsOnly, BeginsWait, StopsWith, IsReached}
use Rattle.process_code.specs.Codes.{IsCodeOf, rests_in_code}
use Rattle.process_code.specs.StatesOf.{IsStateOf}
use Rattle.process_code.specs.Sameness.{IsSameAssignment, StandsWith, IsSameAt, IsSamePoint}
use Rattle.process_code.specs.declared.code.Code.{Code}
use Rattle.process_code.specs.declared.code.Spot.{Spot}
use Rattle.process_code.specs.declared.state.ProcState.{ProcState}
use Rattle.process_code.specs.declared.state.Stage.{Stage}
use Rattle.process_code.specs.declared.state.Stage.TheVariants.{Ready, Waiting, Asleep, Postponed, Done}
use Rattle.process_code.proofs.Growing.{rest_at, rests_of-length}
use Rattle.process_code.proofs.Compiled.{one-rest}
use Rattle.process_code.proofs.Spots.{rest-end, rest-spot}
use Rattle.process_code.proofs.Marked.{spots-apart}

-- Positions

pub record SpotAt (spots : List Spot) (i : ℕ) (rest : List Part) : Type 0 where
  pub spot : Spot
  pub there : slice_get spots i ≡ Some spot
  pub after : List Part
  pub rest_is : rest ≡ part_of_head spot.head ∷ after

some-there : {A : Type 0} (xs : List A) (i : ℕ) → i < length xs → (x : A) × (slice_get xs i ≡ Some x)
some-there [] i low = absurd (omega (arith, low))
some-there (x ∷ xs) zero low = (x, refl)
some-there (x ∷ xs) (suc i) low = some-there xs i (omega (arith, low))

-- a rest at another position than the first is that of a spot
pub spot-at : (code : Code) (i : ℕ) (rest : List Part) → IsCodeOf code.process.now code → StandsAt (rests_in_code code) (suc i) rest → SpotAt code.spots.items i rest
spot-at code i rest is stands =
    let spots = code.spots.items in
    let low = slice_get_within (rests_of spots) (suc i) rest stands in
    let found = some-there spots i (omega (arith, low, rests_of-length spots)) in
    let falls = is.falls i found.0 found.1 in
    let known = rest_at spots found.0.next (omega (arith, falls, low, rests_of-length spots)) in
    let n : i + 1 ≡ suc i = omega arith in
    let here : StandsAt (rests_of spots) (suc i) (part_of_head found.0.head ∷ get_or (rests_of spots) found.0.next []) =
    subst (λ k. StandsAt (rests_of spots) k (part_of_head found.0.head ∷ get_or (rests_of spots) found.0.next [])) n (rest-spot spots i found.0 _ found.1 falls known) in
    record { spot = found.0; there = found.1; after = get_or (rests_of spots) found.0.next []; rest_is = one-rest (rests_of spots) (suc i) rest _ stands here }

first_mark : List Part → Mark
first_mark [] = whole_mark (record { line = 0; column = 0 })
first_mark (part ∷ rest) = mark_of part

abbrev IsSome : List Part → Type 0
IsSome [] = ⊥
IsSome (part ∷ rest) = Unit {0}

-- rests whose first parts have one mark stand at one position
marks-apart : (code : Code) (i j : ℕ) (rest other : List Part) → PlacesDiffer (statement_of code.process.now.body) → IsCodeOf code.process.now code →
    StandsAt (rests_in_code code) i rest → StandsAt (rests_in_code code) j other → IsSome rest → IsSome other → first_mark rest ≡ first_mark other → i ≡ j
unfolding first_mark
marks-apart code zero j rest other differ is here there some more same = absurd (subst IsSome (one-rest (rests_in_code code) 0 rest [] here (rest-end code.spots.items)) some)
marks-apart code (suc i) zero rest other differ is here there some more same = absurd (subst IsSome (one-rest (rests_in_code code) 0 other [] there (rest-end code.spots.items)) more)
marks-apart code (suc i) (suc j) rest other differ is here there some more same =
    let a = spot-at code i rest is here in
    let b = spot-at code j other is there in
    let e : mark_of_spot a.spot ≡ mark_of_spot b.spot = sym (ap first_mark a.rest_is) ∙ same ∙ ap first_mark b.rest_is in
    ap suc (spots-apart code.spots.items (statement_of code.process.now.body) i j a.spot b.spot differ is.marks a.there b.there e)

-- nothing is left at the end alone
ends-apart : (code : Code) (i j : ℕ) → IsCodeOf code.process.now code → StandsAt (rests_in_code code) i [] → StandsAt (rests_in_code code) j [] → i ≡ j
ends-apart code zero zero is here there = refl
ends-apart code zero (suc j) is here there = let b = spot-at code j [] is there in absurd (subst IsSome (sym b.rest_is) tt)
ends-apart code (suc i) j is here there = let a = spot-at code i [] is here in absurd (subst IsSome (sym a.rest_is) tt)

-- Tasks

task_mark : List Task → Mark
task_mark (Run statement ∷ tasks) = mark_of_statement statement
task_mark (Turns place count body ∷ tasks) = turns_mark place
task_mark other = whole_mark (record { line = 0; column = 0 })

task_mark-is : (counts : List ℕ) (rest : List Part) → task_mark (tasks_of counts rest) ≡ first_mark rest
unfolding task_mark first_mark
task_mark-is counts [] = refl
task_mark-is counts (Runs statement ∷ rest) = refl
task_mark-is counts (TurnsLeft number place body ∷ rest) = refl

abbrev HasTask : List Task → Type 0
HasTask [] = ⊥
HasTask (task ∷ tasks) = Unit {0}

some-tasks : (counts : List ℕ) (rest : List Part) → HasTask (tasks_of counts rest) → IsSome rest
some-tasks counts [] h = h
some-tasks counts (part ∷ rest) h = tt

tasks-some : (counts : List ℕ) (part : Part) (rest : List Part) → HasTask (tasks_of counts (part ∷ rest))
tasks-some counts (Runs statement) rest = tt
tasks-some counts (TurnsLeft number place body) rest = tt

-- equal tasks are those of rests at one position
tasks-apart : (code : Code) (i j : ℕ) (rest other : List Part) (counts other_counts : List ℕ) → PlacesDiffer (statement_of code.process.now.body) → IsCodeOf code.process.now code →
    StandsAt (rests_in_code code) i rest → StandsAt (rests_in_code code) j other → tasks_of counts rest ≡ tasks_of other_counts other → i ≡ j
tasks-apart code i j [] [] counts other_counts differ is here there same = ends-apart code i j is here there
tasks-apart code i j [] (part ∷ rest) counts other_counts differ is here there same = absurd (subst HasTask (sym same) (tasks-some other_counts part rest))
tasks-apart code i j (part ∷ rest) other counts other_counts differ is here there same =
    marks-apart code i j (part ∷ rest) other differ is here there tt (some-tasks other_counts other (subst HasTask same (tasks-some counts part rest)))
    (sym (task_mark-is counts (part ∷ rest)) ∙ ap task_mark same ∙ task_mark-is other_counts other)

task_turns : List Task → ℕ
task_turns (Turns place count body ∷ tasks) = count
task_turns other = 0

task_others : List Task → List Task
task_others [] = []
task_others (task ∷ tasks) = tasks

-- equal tasks of one rest have equal counts of each repeat, where those whose turns aren't left have
counts-same : (rest : List Part) (one other : List ℕ) (number : ℕ) → tasks_of one rest ≡ tasks_of other rest → (HasNoTurns number rest → get_or one number 0 ≡ get_or other number 0) →
    get_or one number 0 ≡ get_or other number 0
unfolding task_turns task_others
counts-same [] one other number same idle = idle tt
counts-same (Runs statement ∷ rest) one other number same idle = counts-same rest one other number (ap task_others same) idle
counts-same (TurnsLeft own place body ∷ rest) one other number same idle =
    elim (cases_eq number own) [
      | inl e ↦ ap (λ n. get_or one n 0) e ∙ ap task_turns same ∙ ap (λ n. get_or other n 0) (sym e)
      | inr ne ↦ counts-same rest one other number (ap task_others same) (λ none. idle (ne, none))
    ]

-- Updates

left_updates : List Task → List (Option ValueUpdate)
left_updates (Writes place updates ∷ tasks) = updates
left_updates (Appends place delay updates ∷ tasks) = updates
left_updates other = []

left_place : List Task → SourcePlace
left_place (Writes place updates ∷ tasks) = place
left_place (Appends place delay updates ∷ tasks) = place
left_place other = record { line = 0; column = 0 }

left_delay : List Task → Option ℕ
left_delay (Appends place delay updates ∷ tasks) = Some delay
left_delay other = None

left_tasks : List Task → List Task
left_tasks (Writes place updates ∷ tasks) = tasks
left_tasks (Appends place delay updates ∷ tasks) = tasks
left_tasks other = other

left_updates-is : (place : SourcePlace) (delay : Option ℕ) (updates : List (Option ValueUpdate)) (counts : List ℕ) (rest : List Part) →
    left_updates (updates_left place delay updates (tasks_of counts rest)) ≡ updates
unfolding left_updates
left_updates-is place None [] counts [] = refl
left_updates-is place None [] counts (Runs statement ∷ rest) = refl
left_updates-is place None [] counts (TurnsLeft number own body ∷ rest) = refl
left_updates-is place (Some delay) [] counts [] = refl
left_updates-is place (Some delay) [] counts (Runs statement ∷ rest) = refl
left_updates-is place (Some delay) [] counts (TurnsLeft number own body ∷ rest) = refl
left_updates-is place None (update ∷ updates) counts rest = refl
left_updates-is place (Some delay) (update ∷ updates) counts rest = refl

left_tasks-is : (place : SourcePlace) (delay : Option ℕ) (updates : List (Option ValueUpdate)) (counts : List ℕ) (rest : List Part) →
    left_tasks (updates_left place delay updates (tasks_of counts rest)) ≡ tasks_of counts rest
unfolding left_tasks
left_tasks-is place None [] counts [] = refl
left_tasks-is place None [] counts (Runs statement ∷ rest) = refl
left_tasks-is place None [] counts (TurnsLeft number own body ∷ rest) = refl
left_tasks-is place (Some delay) [] counts [] = refl
left_tasks-is place (Some delay) [] counts (Runs statement ∷ rest) = refl
left_tasks-is place (Some delay) [] counts (TurnsLeft number own body ∷ rest) = refl
left_tasks-is place None (update ∷ updates) counts rest = refl
left_tasks-is place (Some delay) (update ∷ updates) counts rest = refl

left_place-is : (place : SourcePlace) (delay : Option ℕ) (updates : List (Option ValueUpdate)) (tasks : List Task) → HasUpdates updates → left_place (updates_left place delay updates tasks) ≡ place
unfolding left_place
left_place-is place delay [] tasks some = absurd some
left_place-is place None (update ∷ updates) tasks some = refl
left_place-is place (Some delay) (update ∷ updates) tasks some = refl

left_delay-is : (place : SourcePlace) (delay : Option ℕ) (updates : List (Option ValueUpdate)) (tasks : List Task) → HasUpdates updates → left_delay (updates_left place delay updates tasks) ≡ delay
unfolding left_delay
left_delay-is place delay [] tasks some = absurd some
left_delay-is place None (update ∷ updates) tasks some = refl
left_delay-is place (Some delay) (update ∷ updates) tasks some = refl

same-assignment : (updates : List (Option ValueUpdate)) (one other : Point) → (HasUpdates updates → (one.place ≡ other.place) × (one.delay ≡ other.delay)) → IsSameAssignment updates one other
same-assignment [] one other h = tt
same-assignment (update ∷ updates) one other h = h tt

-- States

-- two states of some code whose points are p and q
record AreStates (code : Code) (p q : Point) : Type 0 where
  pub differ : PlacesDiffer (statement_of code.process.now.body)
  pub is : IsCodeOf code.process.now code
  pub rest : List Part
  pub other : List Part
  pub here : StandsAt (rests_in_code code) p.position rest
  pub there : StandsAt (rests_in_code code) q.position other
  pub lengths : length p.counts ≡ length q.counts
  pub reached : IsReached (rests_in_code code) p
  pub other_reached : IsReached (rests_in_code code) q

rest-known : (rests : List (List Part)) (position : ℕ) (rest : List Part) → StandsAt rests position rest → get_or rests position [] ≡ rest
rest-known rests position rest h = get_or_from_slice_get rests position rest [] h

-- equal tasks and operands
stands-with : (code : Code) (p q : Point) → AreStates code p q → tasks_at (rests_in_code code) p ≡ tasks_at (rests_in_code code) q → p.operands ≡ q.operands → StandsWith p q
stands-with code p q s same operands =
    let rests = rests_in_code code in
    let rest = get_or rests p.position [] in
    let other = get_or rests q.position [] in
    let updates : p.updates ≡ q.updates = sym (left_updates-is p.place p.delay p.updates p.counts rest) ∙ ap left_updates same ∙ left_updates-is q.place q.delay q.updates q.counts other in
    let tasks : tasks_of p.counts rest ≡ tasks_of q.counts other = sym (left_tasks-is p.place p.delay p.updates p.counts rest) ∙ ap left_tasks same
    ∙ left_tasks-is q.place q.delay q.updates q.counts other in
    let position : p.position ≡ q.position =
    tasks-apart code p.position q.position s.rest s.other p.counts q.counts s.differ s.is s.here s.there
    (ap (tasks_of p.counts) (sym (rest-known rests p.position s.rest s.here)) ∙ tasks ∙ ap (tasks_of q.counts) (rest-known rests q.position s.other s.there)) in
    let one_rest : other ≡ rest = ap (λ n. get_or rests n []) (sym position) in
    let tasks_here : tasks_of p.counts rest ≡ tasks_of q.counts rest = tasks ∙ ap (tasks_of q.counts) one_rest in
    let idle : CountsOnly rest q.counts = subst (λ r. CountsOnly r q.counts) one_rest s.other_reached.counts in
    let counts : p.counts ≡ q.counts =
    ext_get_or 0 p.counts q.counts s.lengths (λ i low. counts-same rest p.counts q.counts i tasks_here (λ none. s.reached.counts i none ∙ sym (idle i none))) in (
      position,
      counts,
      operands,
      updates,
      same-assignment p.updates p q (λ some. (
        sym (left_place-is p.place p.delay p.updates (tasks_of p.counts rest) some) ∙ ap left_place same
            ∙ left_place-is q.place q.delay q.updates (tasks_of q.counts other) (subst HasUpdates updates some),
        sym (left_delay-is p.place p.delay p.updates (tasks_of p.counts rest) some) ∙ ap left_delay same
            ∙ left_delay-is q.place q.delay q.updates (tasks_of q.counts other) (subst HasUpdates updates some),
      )),
    )

-- where a wait begins its place marks the rest
wait-mark : (rest : List Part) → BeginsWait rest → first_mark rest ≡ whole_mark (wait_place rest)
unfolding first_mark
wait-mark [] h = absurd h
wait-mark (Runs Null ∷ rest) h = absurd h
wait-mark (Runs (Block many) ∷ rest) h = absurd h
wait-mark (Runs (If place condition first second) ∷ rest) h = absurd h
wait-mark (Runs (Case place kind value items default) ∷ rest) h = absurd h
wait-mark (Runs (For place first_targets first condition next_targets next body) ∷ rest) h = absurd h
wait-mark (Runs (While place condition body) ∷ rest) h = absurd h
wait-mark (Runs (Repeat place count body) ∷ rest) h = absurd h
wait-mark (Runs (Forever place body) ∷ rest) h = absurd h
wait-mark (Runs (Delay place delay body) ∷ rest) h = absurd h
wait-mark (Runs (EventControl place entries body) ∷ rest) h = refl
wait-mark (Runs (Wait place condition body) ∷ rest) h = refl
wait-mark (Runs (Blocking place targets delay value) ∷ rest) h = absurd h
wait-mark (Runs (Nonblocking place targets delay value) ∷ rest) h = absurd h
wait-mark (Runs (Finish place) ∷ rest) h = absurd h
wait-mark (TurnsLeft number place body ∷ rest) h = absurd h

begins-some : (rest : List Part) → BeginsWait rest → IsSome rest
begins-some [] h = h
begins-some (part ∷ rest) h = tt

-- a rest that is some stands at its position
stands-there : (rests : List (List Part)) (i : ℕ) → IsSome (get_or rests i []) → StandsAt rests i (get_or rests i [])
stands-there [] i some = absurd some
stands-there (rest ∷ rests) zero some = refl
stands-there (rest ∷ rests) (suc i) some = stands-there rests i some

waits-apart : (code : Code) (i j : ℕ) → PlacesDiffer (statement_of code.process.now.body) → IsCodeOf code.process.now code → BeginsWait (get_or (rests_in_code code) i []) →
    BeginsWait (get_or (rests_in_code code) j []) →
    wait_place (get_or (rests_in_code code) i []) ≡ wait_place (get_or (rests_in_code code) j []) → i ≡ j
waits-apart code i j differ is begins ends same =
    let rests = rests_in_code code in
    let rest = get_or rests i [] in
    let other = get_or rests j [] in
    let some = begins-some rest begins in
    let more = begins-some other ends in
    marks-apart code i j rest other differ is (stands-there rests i some) (stands-there rests j more) some more (wait-mark rest begins ∙ ap whole_mark same ∙ sym (wait-mark other ends))

-- Activities

activity_tasks : Activity → List Task
activity_tasks (activities.Ready tasks operands) = tasks
activity_tasks (activities.Waiting place entries tasks) = tasks
activity_tasks (activities.Asleep time tasks) = tasks
activity_tasks (activities.Postponed tasks) = tasks
activity_tasks activities.Done = []

activity_operands : Activity → List LogicValue
activity_operands (activities.Ready tasks operands) = operands
activity_operands other = []

activity_place : Activity → SourcePlace
activity_place (activities.Waiting place entries tasks) = place
activity_place other = record { line = 0; column = 0 }

activity_time : Activity → ℕ
activity_time (activities.Asleep time tasks) = time
activity_time other = 0

by_stages : (code : Code) (p q : Point) (stage other : Stage) → AreStates code p q → StopsWith (rests_in_code code) stage p.operands → StopsWith (rests_in_code code) other q.operands →
    activity_by (rests_in_code code) p stage ≡ activity_by (rests_in_code code) q other → (stage ≡ other) × IsSameAt other p q
unfolding activity_tasks activity_operands activity_place activity_time
by_stages code p q Ready Ready s h k same = (refl, stands-with code p q s (ap activity_tasks same) (ap activity_operands same))
by_stages code p q (Waiting at) (Waiting there) s h k same = (
  ap Waiting (waits-apart code at there s.differ s.is h.1 k.1 (ap activity_place same)),
  stands-with code p q s (ap activity_tasks same) (h.0 ∙ sym k.0),
)
by_stages code p q (Asleep time) (Asleep due) s h k same = (ap Asleep (ap activity_time same), stands-with code p q s (ap activity_tasks same) (h ∙ sym k))
by_stages code p q Postponed Postponed s h k same = (refl, stands-with code p q s (ap activity_tasks same) (h ∙ sym k))
by_stages code p q Done Done s h k same = (refl, tt)
by_stages code p q stage other s h k same = absurd (cc)

-- states that do the same stand at one point
pub same-activity : (code : Code) (one other : ProcState) → PlacesDiffer (statement_of code.process.now.body) → IsCodeOf code.process.now code → IsStateOf code one → IsStateOf code other →
    activity_of code one ≡ activity_of code other → IsSamePoint (point_of one) (point_of other)
same-activity code one other differ is h k same =
    by_stages code (point_of one) (point_of other) one.stage other.stage
    (record {
      differ = differ;
      is = is;
      rest = h.rest.rest;
      other = k.rest.rest;
      here = h.rest.stands;
      there = k.rest.stands;
      lengths = h.counts ∙ sym k.counts;
      reached = h.reached;
      other_reached = k.reached;
    }) h.reached.stops k.reached.stops same
