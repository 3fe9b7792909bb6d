-- A slot has few moves, so a loop over them comes to its end (IEEE 1364-2001, clause 5).
use Rattle.std.proofs.Common.{◌≡◌, ℕ, zero, suc, ◌+◌, ◌-◌, ◌*◌, ◌^◌, ◌<◌, ◌≤◌, List, [], ◌∷◌, ◌++◌, length, ap, ◌∙◌, arith, append-nil}
use Rattle.std.specs.Prelude.{Option, Some, None}
use Rattle.std.proofs.lemmas.List.{length_push, length-append}
use Rattle.std.proofs.lemmas.List.Sums.{sum_by_push, sum_by-cons}
use Rattle.v_design.specs.Designs.{Machine}
use Rattle.v_design.specs.States.{State, Event, TurnKind, after, turn_of}
use Rattle.v_design.specs.Runs.{Move, Happens, Turns, made, is_counted, less_one_if, slot_move, slot_moves, most_moves, most_steps, first_moves}
use Rattle.v_design.specs.WellFormed.{KeepsRules, most_parts}
use Rattle.v_design.specs.Grades.{Phase, cut}
use Rattle.machine_laws.specs.SlotLoop.{Moment, ComesTo, after_event, after_turn, present_phase}
use Rattle.machine.specs.Moments.{moves_in, moves_so_far}

-- One move more

pub moves-event : (machine : Machine) (event : Event) (at : Moment) → moves_so_far (after_event machine event at) ≡ moves_so_far at + 1
moves-event machine event at = ap (λ n. moves_in at.ended + n) (length_push at.events event) ∙ regroup (moves_in at.ended) (length at.events)
  where
    regroup : (a b : ℕ) → a + (b + 1) ≡ a + b + 1
    regroup a b = omega arith

pub moves-turn : (turn : TurnKind) (at : Moment) → moves_so_far (after_turn turn at) ≡ moves_so_far at + 1
moves-turn turn at =
    ap (λ n. n + 0) (sum_by_push (λ (phase : Phase). length phase.events + 1) at.ended (present_phase at)) ∙ regroup (moves_in at.ended) (length at.events)
  where
    regroup : (a b : ℕ) → a + (b + 1) + 0 ≡ a + b + 1
    regroup a b = omega arith

-- All moves

-- the moves of the phases from one that has begun
cut-moves : (machine : Machine) (turn : Option TurnKind) (begins : State) (events : List Event) (state : State) (moves : List Move) →
    moves_in (cut machine turn begins events state moves) ≡ length events + length moves + 1
cut-moves machine turn begins events state [] = none-plus (length events)
  where
    none-plus : (n : ℕ) → 0 + (n + 1) ≡ n + 0 + 1
    none-plus n = omega arith
cut-moves machine turn begins events state (Happens event ∷ moves) =
    cut-moves machine turn begins (events ++ event ∷ []) (after machine state event) moves ∙ ap (λ n. n + length moves + 1) (length_push events event)
    ∙ regroup (length events) (length moves)
  where
    regroup : (a b : ℕ) → a + 1 + b + 1 ≡ a + suc b + 1
    regroup a b = omega arith
cut-moves machine turn begins events state (Turns ∷ moves) =
    sum_by-cons (λ (phase : Phase). length phase.events + 1) (record { turn = turn; begins = begins; events = events })
    (cut machine (turn_of state) (made machine state Turns) [] (made machine state Turns) moves)
    ∙ ap (λ n. length events + 1 + n) (cut-moves machine (turn_of state) (made machine state Turns) [] (made machine state Turns) moves)
    ∙ regroup (length events) (length moves)
  where
    regroup : (a b : ℕ) → a + 1 + (0 + b + 1) ≡ a + suc b + 1
    regroup a b = omega arith

-- the moves so far are those to which the first order came
moves-are : (machine : Machine) (at : Moment) (r : ComesTo machine at) → length r.moves ≡ moves_so_far at
moves-are machine at r =
    let by_cut : moves_in (cut machine None at.begins [] at.begins (r.moves ++ [])) ≡ 0 + length (r.moves ++ []) + 1 = cut-moves machine None at.begins [] at.begins (r.moves ++ []) in
    let by_phases : moves_in (cut machine None at.begins [] at.begins (r.moves ++ [])) ≡ moves_in at.ended + (length at.events + 1) =
    ap moves_in (r.cuts []) ∙ sum_by_push (λ (phase : Phase). length phase.events + 1) at.ended (present_phase at) in
    let same : length (r.moves ++ []) ≡ length r.moves = ap length (append-nil r.moves) in
    omega (arith, by_cut, by_phases, same)

-- so many moves are made at most
few-made : (most steps : ℕ) (machine : Machine) (state : State) → length (slot_moves most steps machine state) ≤ most
few-made zero steps machine state = omega arith
few-made (suc most) steps machine state = go (slot_move steps state) (few-made most)
  where
    go : (found : Option Move) → ((steps : ℕ) (machine : Machine) (state : State) → length (slot_moves most steps machine state) ≤ most) →
        length {A = Move} (elim found [ None ↦ [] | Some move ↦ move ∷ slot_moves most (less_one_if (is_counted move) steps) machine (made machine state move) ]) ≤ suc most
    go None few = omega arith
    go (Some move) few =
        let rest : length (slot_moves most (less_one_if (is_counted move) steps) machine (made machine state move)) ≤ most = few (less_one_if (is_counted move) steps) machine (made machine state move) in
        omega (arith, rest)

few-so-far : (machine : Machine) (at : Moment) → ComesTo machine at → moves_so_far at ≤ most_moves machine
few-so-far machine at r =
    let all : length (first_moves machine at.begins) ≤ most_moves machine = few-made (most_moves machine) (most_steps + 1) machine at.begins in
    let parts : length (first_moves machine at.begins) ≡ length r.moves + length (slot_moves r.most_left r.steps_left machine at.state) =
    ap length r.goes_on ∙ length-append r.moves (slot_moves r.most_left r.steps_left machine at.state) in
    let same : length r.moves ≡ moves_so_far at = moves-are machine at r in
    omega (arith, all, parts, same)

-- a design has few nodes, so no slot has 2^64 - 1 moves
few-nodes : (nodes : ℕ) → nodes ≤ most_parts → (most_steps + 1) * (2 * nodes + 2) < 2 ^ 64 - 1
few-nodes nodes h = omega (arith, h)

pub moves-fit : (machine : Machine) (at : Moment) → KeepsRules machine.design → ComesTo machine at → moves_so_far at < 2 ^ 64 - 1
moves-fit machine at rules r =
    let few : moves_so_far at ≤ most_moves machine = few-so-far machine at r in
    let fits : most_moves machine < 2 ^ 64 - 1 = few-nodes (length machine.design.nodes) rules.few_nodes in
    omega (arith, few, fits)
