-- A process that is done has read no operand, and all of its lane is taken.
use Rattle.std.proofs.Common.{ℕ, length, List, refl, sym, ap, subst, arith}
use Rattle.std.specs.Prelude.{vec_capacity}
use Rattle.v_design.specs.Assignments.{ValueUpdate}
use Rattle.v_design.specs.Processes.{Done}
use Rattle.process_code.specs.Positions.{part_of_head}
use Rattle.process_code.specs.StatesOf.{HasRoomFor}
use Rattle.process_table.specs.Rows.{RowState}
use Rattle.process_table.proofs.RowSteps.{lane-end}
use Rattle.process_table.proofs.row.Row.clear.Goals as goal

pub returns : goal.returns
returns c =
    let row = c.args.self.now in
    record {
      text = refl;
      good = λ good. record {
        code = good.code;
        state = record {
          rest = good.state.rest;
          counts = good.state.counts;
          reached = record { counts = good.state.reached.counts; stops = c.clear.ensures.items };
        };
        room = λ i spot at. subst (λ (n : ℕ). HasRoomFor n (vec_capacity row.state.updates) (part_of_head spot.head)) (sym c.clear.ensures.capacity) (good.room i spot at);
      };
      state =
          let State : List ValueUpdate → RowState = λ lane. record { activity = Done; lane = lane } in
          ap State (lane-end (length c.as_slice.result.now) row.lane (omega (arith, ap length c.as_slice.ensures)));
    }
