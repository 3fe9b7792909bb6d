use Rattle.std.proofs.Common.{rules, ◌∙◌, ◌<◌, Bool, true, length, map, ap, sym, subst, arith, List, refl, map-id}
use Rattle.std.proofs.lemmas.List.{map_push}
use Rattle.std.proofs.lemmas.Iterator.Consumers.{YieldsList-turn, YieldsList-end}
use Rattle.std.proofs.lemmas.Iterator.Adapters.{YieldsList-from_vec}
use Rattle.vf_base.specs.Lists.{change_at}
use Rattle.event_queue.specs.Arranged.{lane_number, lane_of}
use Rattle.process_table.specs.Turned.{each_changed, FillsLanes}
use Rattle.process_table.proofs.Matching.{AllHold-image}
use Rattle.process_table.proofs.EachChanged.{each-push, each-length, as-many, fills-more}
use Rattle.process_table.proofs.turns.fill_lanes.Goals as goal

pub lanes-init : goal.lanes-init
lanes-init c = record { rows = record { texts = refl; good = λ h. h; states = refl }; set = refl }

pub put_lane-requires : goal.put_lane-requires
put_lane-requires c =
    let turn = YieldsList-turn (YieldsList-from_vec {s = c.into_iter-lane-iterator.result} c.args.lanes.items (search rules) (search rules))
    c.lanes.yielded c.lanes.lane-iterator c.lanes.yielded_by c.next.result c.next.new.self c.in-Some.lane c.in-Some.is c.next.ensures.steps in
    omega (
      arith,
      AllHold-image lane_number (λ n. n < length c.args.rows.now.items) c.args.lanes.items (length c.lanes.yielded) c.in-Some.lane c.requires.numbers turn.0 turn.1,
      as-many c.args.rows.now.items c.lanes.rows.items c.lanes.invariant.rows.texts,
    )

pub insert-requires : goal.insert-requires
insert-requires c =
    let turn = YieldsList-turn (YieldsList-from_vec {s = c.into_iter-lane-iterator.result} c.args.lanes.items (search rules) (search rules))
    c.lanes.yielded c.lanes.lane-iterator c.lanes.yielded_by c.next.result c.next.new.self c.in-Some.lane c.in-Some.is c.next.ensures.steps in
    omega (
      arith,
      AllHold-image lane_number (λ n. n < length c.args.rows.now.items) c.args.lanes.items (length c.lanes.yielded) c.in-Some.lane c.requires.numbers turn.0 turn.1,
      c.requires.set,
      ap length c.lanes.invariant.set,
      each-length (λ (member : Bool). true) (map lane_number c.lanes.yielded) c.args.busy.now,
    )

pub lanes-preserved : goal.lanes-preserved
lanes-preserved c =
    let done = c.lanes.yielded in
    let lane = c.in-Some.lane in
    record {
      rows =
          subst (λ ls. FillsLanes c.args.rows.now.items c.put_lane.new.rows.items ls) (sym (map_push lane_of done lane))
          (fills-more c.args.rows.now.items c.lanes.rows.items c.put_lane.new.rows.items (map lane_of done) (lane_of lane) c.lanes.invariant.rows c.put_lane.ensures);
      set =
          c.insert.ensures ∙ ap (λ (members : List Bool). change_at members (lane_number lane) (λ (member : Bool). true)) c.lanes.invariant.set
          ∙ sym (ap (λ ns. each_changed (λ (member : Bool). true) ns c.args.busy.now) (map_push lane_number done lane)
          ∙ each-push (λ (member : Bool). true) (map lane_number done) (lane_number lane) c.args.busy.now);
    }

pub returns-clause-rows : goal.returns-clause-rows
returns-clause-rows c =
    let end = YieldsList-end (YieldsList-from_vec {s = c.into_iter-lane-iterator.result} c.args.lanes.items (search rules) (search rules))
    c.lanes.yielded c.lanes.lane-iterator c.lanes.yielded_by c.next.result c.next.new.self c.in-None.is c.next.ensures.steps in
    subst (λ ls. FillsLanes c.args.rows.now.items c.lanes.rows.items (map lane_of ls)) (sym (map-id c.lanes.yielded) ∙ end.0) c.lanes.invariant.rows

pub returns-clause-set : goal.returns-clause-set
returns-clause-set c =
    let end = YieldsList-end (YieldsList-from_vec {s = c.into_iter-lane-iterator.result} c.args.lanes.items (search rules) (search rules))
    c.lanes.yielded c.lanes.lane-iterator c.lanes.yielded_by c.next.result c.next.new.self c.in-None.is c.next.ensures.steps in
    c.lanes.invariant.set ∙ ap (λ ls. each_changed (λ (member : Bool). true) (map lane_number ls) c.args.busy.now) (sym (map-id c.lanes.yielded) ∙ end.0)
