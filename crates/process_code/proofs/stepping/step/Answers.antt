use Rattle.std.proofs.Common.{◌≡◌, ◌-◌, length, map, ap, ◌∙◌, arith}
use Rattle.std.specs.Prelude.{option_map}
use Rattle.std.specs.List.{slice_get}
use Rattle.std.proofs.lemmas.Grind.{common_steps}
use Rattle.process_operands.specs.PartReads.{length_none}
use Rattle.v_design.specs.Plain.{statement_of, process_of, update_of}
use Rattle.process_code.specs.Positions.{part_of_head}
use Rattle.process_code.specs.Codes.{rests_in_code}
use Rattle.process_code.specs.Points.{point_of, said_by}
use Rattle.process_code.specs.WithinLaws.{part-ends, at-same, takes-ends}
use Rattle.process_code.proofs.Spots.{rest-end, good-part, step-of-spot, step-of-end, end-ends, spot-within, spot-facts, counts-part, state-kept, room-kept}
use Rattle.process_code.proofs.Reaching.{part-reached, end-reached, update-reached}
use Rattle.process_code.proofs.ReadsThere.{takes-reads, end-reads, part-reads}
use Rattle.process_code.proofs.stepping.step.Goals as goal

pub returns-then-state-eq0-clause-step : goal.returns-then-state-eq0-clause-step
returns-then-state-eq0-clause-step g c =
    let code = c.args.code.now in
    let state = c.args.state.now in
    let none : length c.args.state.now.updates.items ≡ 0 = grind (arith, common_steps) in
    let empty = length_none state.updates.items none in
    let here = ap (λ k. slice_get (rests_in_code code) k) c.if-state-eq0.true ∙ rest-end code.spots.items in
    step-of-end (process_of code.process.now) c.args.now (g.V.Values.values c.args.values.now) (rests_in_code code) (point_of state) code.start (point_of c.end_body.new.self)
    (said_by c.end_body.result)
    c.requires.ready (ap (map (option_map update_of)) empty) here c.requires.code.starts c.end_body.ensures.again c.end_body.ensures.done

pub returns-then-state-eq0-clause-state : goal.returns-then-state-eq0-clause-state
returns-then-state-eq0-clause-state g c =
    let code = c.args.code.now in
    let state = c.args.state.now in
    let here = ap (λ k. slice_get (rests_in_code code) k) c.if-state-eq0.true ∙ rest-end code.spots.items in
    state-kept code state c.end_body.new.self c.requires.state c.end_body.ensures.room.counts
    (end-ends (statement_of code.process.now.body) (rests_in_code code) code.process.now.always (point_of state) (point_of c.end_body.new.self) code.start (said_by c.end_body.result)
    c.requires.code.sized c.requires.state.rest c.requires.code.starts c.end_body.ensures.again c.end_body.ensures.done)
    (end-reached (rests_in_code code) code.process.now.always (statement_of code.process.now.body) (point_of state) (point_of c.end_body.new.self) code.start (said_by c.end_body.result)
    c.requires.ready here c.requires.code.starts c.requires.state.reached c.end_body.ensures.again c.end_body.ensures.done)

pub index-spot-requires : goal.index-spot-requires
index-spot-requires g c = omega (arith, spot-within c.args.code.now c.args.state.now.position c.if-state-eq0.false c.requires.state.rest)

pub index-ways-requires : goal.index-ways-requires
index-ways-requires g c = omega (arith, spot-within c.args.code.now c.args.state.now.position c.if-state-eq0.false c.requires.state.rest, c.requires.code.in_step)

pub step_spot-requires-clause-good : goal.step_spot-requires-clause-good
step_spot-requires-clause-good g c =
    let facts = spot-facts c.args.code.now c.args.state.now.position c.index-spot.result.now c.index-ways.result.now c.requires.code c.if-state-eq0.false c.requires.state.rest c.index-spot.ensures
    c.index-ways.ensures in
    good-part (length (g.V.Values.values c.args.values.now)) (statement_of c.args.code.now.process.now.body) (part_of_head c.index-spot.result.now.head) c.requires.there facts.parts.0

pub step_spot-requires-clause-space : goal.step_spot-requires-clause-space
step_spot-requires-clause-space g c =
    let facts = spot-facts c.args.code.now c.args.state.now.position c.index-spot.result.now c.index-ways.result.now c.requires.code c.if-state-eq0.false c.requires.state.rest c.index-spot.ensures
    c.index-ways.ensures in
    c.requires.room (c.args.state.now.position - 1) c.index-spot.result.now facts.there

pub step_spot-requires-clause-number : goal.step_spot-requires-clause-number
step_spot-requires-clause-number g c =
    let facts = spot-facts c.args.code.now c.args.state.now.position c.index-spot.result.now c.index-ways.result.now c.requires.code c.if-state-eq0.false c.requires.state.rest c.index-spot.ensures
    c.index-ways.ensures in
    counts-part (rests_in_code c.args.code.now) c.args.code.now.repeats c.index-ways.result.now (part_of_head c.index-spot.result.now.head) facts.leads.after c.args.state.now facts.leads.leads
    (omega (arith, c.requires.state.counts))

pub returns-clause-step : goal.returns-clause-step
returns-clause-step g c =
    let code = c.args.code.now in
    let state = c.args.state.now in
    let spot = c.index-spot.result.now in
    let ways = c.index-ways.result.now in
    let none : length c.args.state.now.updates.items ≡ 0 = grind (arith, common_steps) in
    let empty = length_none state.updates.items none in
    let facts = spot-facts code state.position spot ways c.requires.code c.if-state-eq0.false c.requires.state.rest c.index-spot.ensures c.index-ways.ensures in
    step-of-spot (process_of code.process.now) c.args.now (g.V.Values.values c.args.values.now) (rests_in_code code) code.repeats (point_of state) ways spot.next
    (part_of_head spot.head) facts.leads.after
    (point_of c.step_spot.new.state) (said_by c.step_spot.result) c.requires.ready (ap (map (option_map update_of)) empty) facts.here facts.leads.stands facts.leads.leads
    (omega (arith, c.requires.state.counts)) c.step_spot.ensures.acts

pub returns-clause-state : goal.returns-clause-state
returns-clause-state g c =
    let code = c.args.code.now in
    let state = c.args.state.now in
    let spot = c.index-spot.result.now in
    let ways = c.index-ways.result.now in
    let facts = spot-facts code state.position spot ways c.requires.code c.if-state-eq0.false c.requires.state.rest c.index-spot.ensures c.index-ways.ensures in
    state-kept code state c.step_spot.new.state c.requires.state c.step_spot.ensures.room.counts
    (part-ends (statement_of code.process.now.body) c.args.now (g.V.Values.values c.args.values.now) (rests_in_code code) code.repeats ways spot.next (part_of_head spot.head) facts.leads.after
    (point_of state)
    (point_of c.step_spot.new.state) (said_by c.step_spot.result) facts.here facts.leads.stands facts.leads.leads facts.parts c.step_spot.ensures.acts)
    (part-reached c.args.now (g.V.Values.values c.args.values.now) (rests_in_code code) code.repeats ways spot.next (part_of_head spot.head) facts.leads.after (point_of state)
    (point_of c.step_spot.new.state) (said_by c.step_spot.result) c.requires.ready facts.here facts.leads.stands facts.leads.leads c.requires.state.reached c.step_spot.ensures.acts)

pub returns-then-not-is_empty-clause-state : goal.returns-then-not-is_empty-clause-state
returns-then-not-is_empty-clause-state g c =
    let code = c.args.code.now in
    let state = c.args.state.now in
    let new = c.next_update.new.self in
    let body = statement_of code.process.now.body in
    let rests = rests_in_code code in
    state-kept code state new c.requires.state c.next_update.ensures.room.counts
    (at-same body rests new.position state.position (takes-ends c.args.now (point_of state) (point_of new) (said_by c.next_update.result)
    (map (option_map update_of) state.updates.items) c.next_update.ensures.takes) c.requires.state.rest)
    (update-reached c.args.now rests (point_of state) (point_of new) (said_by c.next_update.result) c.requires.ready c.requires.state.reached c.next_update.ensures.takes)

pub returns-then-not-is_empty-clause-reads : goal.returns-then-not-is_empty-clause-reads
returns-then-not-is_empty-clause-reads g c =
    let state = c.args.state.now in
    takes-reads (length (g.V.Values.values c.args.values.now)) c.args.now (point_of state) (point_of c.next_update.new.self) (said_by c.next_update.result)
    (map (option_map update_of) state.updates.items) c.next_update.ensures.takes

pub returns-then-state-eq0-clause-reads : goal.returns-then-state-eq0-clause-reads
returns-then-state-eq0-clause-reads g c =
    let code = c.args.code.now in
    end-reads (length (g.V.Values.values c.args.values.now)) code.process.now.always (point_of c.args.state.now) (point_of c.end_body.new.self) code.start (said_by c.end_body.result)
    c.end_body.ensures.again c.end_body.ensures.done

pub returns-clause-reads : goal.returns-clause-reads
returns-clause-reads g c =
    let code = c.args.code.now in
    let state = c.args.state.now in
    let limit = length (g.V.Values.values c.args.values.now) in
    let part = part_of_head c.index-spot.result.now.head in
    let facts = spot-facts code state.position c.index-spot.result.now c.index-ways.result.now c.requires.code c.if-state-eq0.false c.requires.state.rest c.index-spot.ensures c.index-ways.ensures in
    part-reads limit c.args.now (g.V.Values.values c.args.values.now) (rests_in_code code) code.repeats part facts.leads.after c.index-ways.result.now c.index-spot.result.now.next (point_of state)
    (point_of c.step_spot.new.state) (said_by c.step_spot.result) facts.leads.leads (good-part limit (statement_of code.process.now.body) part c.requires.there facts.parts.0) c.step_spot.ensures.acts

pub returns-then-state-eq0-clause-room : goal.returns-then-state-eq0-clause-room
returns-then-state-eq0-clause-room g c = room-kept c.args.code.now c.args.state.now c.end_body.new.self c.end_body.ensures.room c.requires.room

pub returns-clause-room : goal.returns-clause-room
returns-clause-room g c = room-kept c.args.code.now c.args.state.now c.step_spot.new.state c.step_spot.ensures.room c.requires.room

pub returns-then-not-is_empty-clause-room : goal.returns-then-not-is_empty-clause-room
returns-then-not-is_empty-clause-room g c = room-kept c.args.code.now c.args.state.now c.next_update.new.self c.next_update.ensures.room c.requires.room
