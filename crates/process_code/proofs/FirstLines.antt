-- The first of what is left, and its line.
use Rattle.std.proofs.Common.{◌≡◌, ℕ, zero, ◌+◌, ◌-◌, ◌<◌, ◌≤◌, List, [], ◌∷◌, length, get_or, Option, Some, None, refl, sym, ap, ◌∙◌, subst, arith}
use Rattle.std.specs.Prelude.{slice_get}
use Rattle.std.proofs.lemmas.List.{get_or_past}
use Rattle.std.proofs.lemmas.Option.{get_or_from_slice_get, slice_get_read}
use Rattle.vf_base.specs.Base.{SourcePlace}
use Rattle.v_design.specs.Assignments.{ValueUpdate}
use Rattle.v_design.specs.Processes.{Task}
use Rattle.v_design.specs.Trees.{Statement, Null, Block, If, Case, For, While, Repeat, Forever, Delay, EventControl, Wait, Blocking, Nonblocking, Finish}
use Rattle.v_design.specs.Plain.{statement_of}
use Rattle.v_design.specs.declared.tree.FlatStmt.{FlatStmt}
use Rattle.process_code.specs.Rests.{Part, Runs, TurnsLeft, tasks_of}
use Rattle.process_code.specs.Positions.{part_of_head, loop_part, advance_part, turns_part, rests_of, StandsAt}
use Rattle.process_code.specs.Points.{updates_left, wait_place}
use Rattle.process_code.specs.Codes.{IsCodeOf, rests_in_code}
use Rattle.process_code.specs.Lines.{line_of, line_of_part, line_of_tasks}
use Rattle.process_code.specs.declared.code.Spot.{Spot}
use Rattle.process_code.specs.declared.code.Code.{Code}
use Rattle.process_code.proofs.Growing.{rests_of-length, rest_at}
use Rattle.process_code.proofs.Spots.{rest-end, rest-spot}

-- the updates that are left of an assignment have its line
pub left-line : (place : SourcePlace) (delay : Option ℕ) (updates : List (Option ValueUpdate)) (tasks : List Task) → (length updates ≡ 0 → ⊥) →
    place.line ≡ line_of_tasks (updates_left place delay updates tasks)
left-line place None [] tasks some = absurd (some refl)
left-line place (Some delay) [] tasks some = absurd (some refl)
left-line place None (update ∷ updates) tasks some = refl
left-line place (Some delay) (update ∷ updates) tasks some = refl

-- without updates the tasks are those of the rest
pub none-left : (place : SourcePlace) (delay : Option ℕ) (updates : List (Option ValueUpdate)) (tasks : List Task) → length updates ≡ 0 → updates_left place delay updates tasks ≡ tasks
none-left place None [] tasks none = refl
none-left place (Some delay) [] tasks none = refl
none-left place delay (update ∷ updates) tasks none = absurd (omega (arith, none))

-- the first of a rest has the line of its part
pub first-line : (counts : List ℕ) (part : Part) (after : List Part) → line_of_part part ≡ line_of_tasks (tasks_of counts (part ∷ after))
first-line counts (Runs statement) after = refl
first-line counts (TurnsLeft number place body) after = refl

-- the rest of a position begins with its spot
pub spot-rest : (code : Code) (position : ℕ) (spot : Spot) → IsCodeOf code.process.now code → (position ≡ 0 → ⊥) → position - 1 < length code.spots.items →
    spot ≡ get_or code.spots.items (position - 1) spot →
    (after : List Part) × (get_or (rests_in_code code) position [] ≡ part_of_head spot.head ∷ after)
spot-rest code position spot is some low at =
    let spots = code.spots.items in
    let there = slice_get_read spots (length spots) (position - 1) spot refl low at in
    let falls = is.falls (position - 1) spot there in
    let n : position - 1 + 1 ≡ position = omega (arith, some) in
    let stands : StandsAt (rests_of spots) position (part_of_head spot.head ∷ get_or (rests_of spots) spot.next []) =
    subst (λ k. StandsAt (rests_of spots) k (part_of_head spot.head ∷ get_or (rests_of spots) spot.next [])) n
    (rest-spot spots (position - 1) spot (get_or (rests_of spots) spot.next []) there falls (rest_at spots spot.next (omega (arith, falls, low)))) in
    (get_or (rests_of spots) spot.next [], get_or_from_slice_get (rests_of spots) position (part_of_head spot.head ∷ get_or (rests_of spots) spot.next []) [] stands)

-- no rest stands at the end
pub end-rest : (code : Code) (position : ℕ) → position ≡ 0 → get_or (rests_in_code code) position [] ≡ []
end-rest code position e = ap (λ p. get_or (rests_in_code code) p []) e ∙ get_or_from_slice_get (rests_in_code code) 0 [] [] (rest-end code.spots.items)

-- nor past the last spot
pub past-rest : (code : Code) (position : ℕ) → length code.spots.items < position → get_or (rests_in_code code) position [] ≡ []
past-rest code position past = get_or_past (rests_in_code code) position [] (omega (arith, past, rests_of-length code.spots.items))

-- the place of a wait is that of what is first
pub first-place : (part : Part) (after : List Part) → wait_place (part ∷ []) ≡ wait_place (part ∷ after)
first-place (Runs Null) after = refl
first-place (Runs (Block many)) after = refl
first-place (Runs (If place condition first second)) after = refl
first-place (Runs (Case place kind value items default)) after = refl
first-place (Runs (For place first_targets first condition next_targets next body)) after = refl
first-place (Runs (While place condition body)) after = refl
first-place (Runs (Repeat place count body)) after = refl
first-place (Runs (Forever place body)) after = refl
first-place (Runs (Delay place delay body)) after = refl
first-place (Runs (EventControl place entries body)) after = refl
first-place (Runs (Wait place condition body)) after = refl
first-place (Runs (Blocking place targets delay value)) after = refl
first-place (Runs (Nonblocking place targets delay value)) after = refl
first-place (Runs (Finish place)) after = refl
first-place (TurnsLeft number place body) after = refl

-- a loop has the line of its statement
pub loop-line : (s : Statement) → line_of s ≡ line_of_part (loop_part s)
loop-line Null = refl
loop-line (Block many) = refl
loop-line (If place condition first second) = refl
loop-line (Case place kind value items default) = refl
loop-line (For place first_targets first condition next_targets next body) = refl
loop-line (While place condition body) = refl
loop-line (Repeat place count body) = refl
loop-line (Forever place body) = refl
loop-line (Delay place delay body) = refl
loop-line (EventControl place entries body) = refl
loop-line (Wait place condition body) = refl
loop-line (Blocking place targets delay value) = refl
loop-line (Nonblocking place targets delay value) = refl
loop-line (Finish place) = refl

-- so does an advance
pub advance-line : (s : Statement) → line_of s ≡ line_of_part (advance_part s)
advance-line Null = refl
advance-line (Block many) = refl
advance-line (If place condition first second) = refl
advance-line (Case place kind value items default) = refl
advance-line (For place first_targets first condition next_targets next body) = refl
advance-line (While place condition body) = refl
advance-line (Repeat place count body) = refl
advance-line (Forever place body) = refl
advance-line (Delay place delay body) = refl
advance-line (EventControl place entries body) = refl
advance-line (Wait place condition body) = refl
advance-line (Blocking place targets delay value) = refl
advance-line (Nonblocking place targets delay value) = refl
advance-line (Finish place) = refl

-- so do turns
pub turns-line : (number : ℕ) (s : Statement) → line_of s ≡ line_of_part (turns_part number s)
turns-line number Null = refl
turns-line number (Block many) = refl
turns-line number (If place condition first second) = refl
turns-line number (Case place kind value items default) = refl
turns-line number (For place first_targets first condition next_targets next body) = refl
turns-line number (While place condition body) = refl
turns-line number (Repeat place count body) = refl
turns-line number (Forever place body) = refl
turns-line number (Delay place delay body) = refl
turns-line number (EventControl place entries body) = refl
turns-line number (Wait place condition body) = refl
turns-line number (Blocking place targets delay value) = refl
turns-line number (Nonblocking place targets delay value) = refl
turns-line number (Finish place) = refl

-- a loop begins the wait of its statement
pub loop-place : (s : Statement) → wait_place (Runs s ∷ []) ≡ wait_place (loop_part s ∷ [])
loop-place Null = refl
loop-place (Block many) = refl
loop-place (If place condition first second) = refl
loop-place (Case place kind value items default) = refl
loop-place (For place first_targets first condition next_targets next body) = refl
loop-place (While place condition body) = refl
loop-place (Repeat place count body) = refl
loop-place (Forever place body) = refl
loop-place (Delay place delay body) = refl
loop-place (EventControl place entries body) = refl
loop-place (Wait place condition body) = refl
loop-place (Blocking place targets delay value) = refl
loop-place (Nonblocking place targets delay value) = refl
loop-place (Finish place) = refl

-- so does an advance
pub advance-place : (s : Statement) → wait_place (Runs s ∷ []) ≡ wait_place (advance_part s ∷ [])
advance-place Null = refl
advance-place (Block many) = refl
advance-place (If place condition first second) = refl
advance-place (Case place kind value items default) = refl
advance-place (For place first_targets first condition next_targets next body) = refl
advance-place (While place condition body) = refl
advance-place (Repeat place count body) = refl
advance-place (Forever place body) = refl
advance-place (Delay place delay body) = refl
advance-place (EventControl place entries body) = refl
advance-place (Wait place condition body) = refl
advance-place (Blocking place targets delay value) = refl
advance-place (Nonblocking place targets delay value) = refl
advance-place (Finish place) = refl

-- so do turns
pub turns-place : (number : ℕ) (s : Statement) → wait_place (Runs s ∷ []) ≡ wait_place (turns_part number s ∷ [])
turns-place number Null = refl
turns-place number (Block many) = refl
turns-place number (If place condition first second) = refl
turns-place number (Case place kind value items default) = refl
turns-place number (For place first_targets first condition next_targets next body) = refl
turns-place number (While place condition body) = refl
turns-place number (Repeat place count body) = refl
turns-place number (Forever place body) = refl
turns-place number (Delay place delay body) = refl
turns-place number (EventControl place entries body) = refl
turns-place number (Wait place condition body) = refl
turns-place number (Blocking place targets delay value) = refl
turns-place number (Nonblocking place targets delay value) = refl
turns-place number (Finish place) = refl
