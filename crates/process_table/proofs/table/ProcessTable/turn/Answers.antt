use Rattle.std.proofs.Common.{◌≡◌, ◌∙◌, ◌<◌, [], ◌∷◌, Bool, true, length, map, ap, sym, subst, refl, ℕ, List, Option}
use Rattle.vf_base.specs.Base.{process_number}
use Rattle.vf_base.specs.declared.ids.ProcId.{ProcId}
use Rattle.v_design.specs.declared.plan.Update.{Update}
use Rattle.vf_base.specs.Lists.{AllHold}
use Rattle.v_design.specs.Assignments.{ValueUpdate}
use Rattle.v_design.specs.PlainDesigns.{design_of}
use Rattle.v_design.specs.Runs.{turned_by}
use Rattle.v_design.specs.States.{TurnKind}
use Rattle.event_queue.specs.Arranged.{lane_number, lane_of}
use Rattle.event_queue.specs.Queues.{HeldProcess, next_turn}
use Rattle.event_queue.specs.Regions.{turn_region}
use Rattle.process_table.specs.Rows.{row_states, made_ready}
use Rattle.process_table.specs.Arranged.{processes_of, IsTable}
use Rattle.process_table.specs.Tables.{IsTableOf}
use Rattle.process_table.specs.Turned.{each_changed, lanes_put}
use Rattle.process_table.proofs.TableCalls.{count-queue}
use Rattle.process_table.proofs.EachChanged.{as-many}
use Rattle.process_table.proofs.TurnedLaws.{region-below, turned-table, turned-state, unturned-queue, unturned-state}
use Rattle.process_table.proofs.table.ProcessTable.turn.Goals as goal

-- the numbers of lanes
lanes-seen : (lanes : List (ProcId × List Update)) → map lane_number lanes ≡ map (λ (l : ℕ × List ValueUpdate). l.0) (map lane_of lanes)
lanes-seen [] = refl
lanes-seen (lane ∷ lanes) = ap (λ ns. lane_number lane ∷ ns) (lanes-seen lanes)

-- numbers below another limit
limit : (n m : ℕ) (numbers : List ℕ) → n ≡ m → AllHold (λ number. number < n) numbers → AllHold (λ number. number < m) numbers
limit n m numbers e h = subst (λ k. AllHold (λ number. number < k) numbers) e h

pub returns-in_default-clause-kind : goal.returns-in_default-clause-kind
returns-in_default-clause-kind c machine state of =
    let t = c.args.self.now in
    sym (unturned-state (design_of t.design.now) t.time t.rows.items t.index t.ready t.lanes t.queue c.requires.kept c.in_default.ensures.turn machine state of)

pub returns-in_default-clause-turned : goal.returns-in_default-clause-turned
returns-in_default-clause-turned c machine state of =
    let t = c.args.self.now in
    let design = design_of t.design.now in
    subst (λ (turn : Option TurnKind). IsTableOf machine (turned_by turn state) (record { design = design; time = t.time; processes = processes_of (row_states t.rows.items) c.take_region.new.self }))
    (sym (unturned-state design t.time t.rows.items t.index t.ready t.lanes t.queue c.requires.kept c.in_default.ensures.turn machine state of))
    (subst (λ (queue : List HeldProcess). IsTableOf machine state (record { design = design; time = t.time; processes = processes_of (row_states t.rows.items) queue }))
    (sym (unturned-queue design t.time t.rows.items t.index t.ready t.lanes t.queue c.requires.kept c.take_region.new.self c.in_default.ensures.turn c.take_region.ensures.left)) of)

pub returns-in_default-clause-kept : goal.returns-in_default-clause-kept
returns-in_default-clause-kept c =
    let t = c.args.self.now in
    let design = design_of t.design.now in
    subst (λ (queue : List HeldProcess). IsTable design t.time t.rows.items t.index t.ready t.lanes queue)
    (sym (unturned-queue design t.time t.rows.items t.index t.ready t.lanes t.queue c.requires.kept c.take_region.new.self c.in_default.ensures.turn c.take_region.ensures.left)) c.requires.kept

pub ready_each-requires-clause-numbers : goal.ready_each-requires-clause-numbers
ready_each-requires-clause-numbers c =
    let t = c.args.self.now in
    limit (length t.queue) (length t.rows.items) (map process_number c.as_slice.result.now) (count-queue (design_of t.design.now) t.time t.rows.items t.index t.ready t.lanes t.queue c.requires.kept)
    (subst (λ (ps : List ProcId). AllHold (λ number. number < length t.queue) (map process_number ps)) (sym c.as_slice.ensures)
    (region-below t.time (next_turn t.time t.queue) t.queue (turn_region c.in-Some.region) c.in-Some.ensures.turn).0)

pub fill_lanes-requires-clause-numbers : goal.fill_lanes-requires-clause-numbers
fill_lanes-requires-clause-numbers c =
    let t = c.args.self.now in
    limit (length t.queue) (length c.ready_each.new.rows.items) (map lane_number c.into_vec.result.items)
    (count-queue (design_of t.design.now) t.time t.rows.items t.index t.ready t.lanes t.queue c.requires.kept ∙ sym (as-many t.rows.items c.ready_each.new.rows.items c.ready_each.ensures.rows.texts))
    (subst (λ (ls : List (ProcId × List Update)). AllHold (λ number. number < length t.queue) (map lane_number ls)) (sym c.into_vec.ensures)
    (subst (AllHold (λ number. number < length t.queue)) (sym (lanes-seen c.in-Some.region.lanes))
    (region-below t.time (next_turn t.time t.queue) t.queue (turn_region c.in-Some.region) c.in-Some.ensures.turn).1))

pub returns-clause-turned : goal.returns-clause-turned
returns-clause-turned c machine state of =
    let t = c.args.self.now in
    turned-state (design_of t.design.now) t.time t.rows.items t.index t.ready t.lanes t.queue c.requires.kept
    (turn_region c.in-Some.region) c.fill_lanes.new.rows.items c.take_region.new.self c.in-Some.ensures.turn
    (c.fill_lanes.ensures.rows.states ∙ ap (λ (ls : List (ProcId × List Update)). lanes_put (map lane_of ls) (row_states c.ready_each.new.rows.items)) c.into_vec.ensures
    ∙ ap (lanes_put (map lane_of c.in-Some.region.lanes)) (c.ready_each.ensures.rows.states
    ∙ ap (λ (ps : List ProcId). each_changed made_ready (map process_number ps) (row_states t.rows.items)) c.as_slice.ensures))
    c.take_region.ensures.left c.requires.quiet machine state of

pub returns-clause-kept : goal.returns-clause-kept
returns-clause-kept c =
    let t = c.args.self.now in
    turned-table (design_of t.design.now) t.time t.rows.items t.index t.ready t.lanes t.queue c.requires.kept
    (turn_region c.in-Some.region) c.fill_lanes.new.rows.items c.ready_each.new.ready c.fill_lanes.new.busy c.take_region.new.self
    c.in-Some.ensures.turn
    (c.fill_lanes.ensures.rows.texts ∙ c.ready_each.ensures.rows.texts) (λ good. c.fill_lanes.ensures.rows.good (c.ready_each.ensures.rows.good good))
    (c.fill_lanes.ensures.rows.states ∙ ap (λ (ls : List (ProcId × List Update)). lanes_put (map lane_of ls) (row_states c.ready_each.new.rows.items)) c.into_vec.ensures
    ∙ ap (lanes_put (map lane_of c.in-Some.region.lanes)) (c.ready_each.ensures.rows.states
    ∙ ap (λ (ps : List ProcId). each_changed made_ready (map process_number ps) (row_states t.rows.items)) c.as_slice.ensures))
    (c.ready_each.ensures.set ∙ ap (λ (ps : List ProcId). each_changed (λ (member : Bool). true) (map process_number ps) t.ready) c.as_slice.ensures)
    (c.fill_lanes.ensures.set ∙ ap (λ (ls : List (ProcId × List Update)). each_changed (λ (member : Bool). true) (map lane_number ls) t.lanes) c.into_vec.ensures
    ∙ ap (λ ns. each_changed (λ (member : Bool). true) ns t.lanes) (lanes-seen c.in-Some.region.lanes))
    c.take_region.ensures.left
