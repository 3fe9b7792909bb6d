use Rattle.std.proofs.Common.{◌≡◌, ◌-◌, length, arith, length-drop}
use Rattle.top_call.proofs.Puts.{Gains-more, rest-more}
use Rattle.top_call.proofs.output.put_all.Goals as goal

pub pieces-preserved : goal.pieces-preserved
pieces-preserved g c =
    let inv = c.pieces.invariant in let some = c.in-Ok.ensures.some in
    let text = c.args.text.now in let rest = c.pieces.rest.now in let after = c.rest_after-rest.result.now in let n = c.in-Ok.count in
    let len : length after ≡ length rest - n = rw c.rest_after-rest.ensures (length-drop n rest) in
    record {
      size = omega (arith, len);
      rest = rest-more text rest after n inv.size inv.rest some.1 c.rest_after-rest.ensures;
      gained = Gains-more (g.K.Sink.contents c.args.sink.now) (g.K.Sink.contents c.pieces.sink)
          (g.K.Sink.contents c.put.new.self) text rest after n inv.size inv.rest inv.gained c.in-Ok.ensures.gained some.1 c.rest_after-rest.ensures;
      faults = omega (arith, c.put.ensures.faults);
      puts = omega (arith, len, c.put.ensures.puts);
    }
