use Rattle.std.proofs.Common.{◌≡◌, ◌+◌, ◌-◌, ◌≤◌, length, take, drop}
use Rattle.vf_base.specs.Sink.{Gains}
use Rattle.top_call.proofs.output.put_all.Given as goal

abbrev pub invariant-pieces : goal.invariant-pieces
invariant-pieces g l = record {
  size : length l.rest ≤ length l.text;
  rest : l.rest ≡ drop (length l.text - length l.rest) l.text;
  gained : Gains (g.K.Sink.contents l.initial.sink) (take (length l.text - length l.rest) l.text) (g.K.Sink.contents l.sink);
  faults : g.K.Sink.faults l.initial.sink ≤ g.K.Sink.faults l.sink;
  puts : g.K.Sink.puts l.sink + length l.rest ≤ g.K.Sink.puts l.initial.sink + length l.text;
}

abbrev pub decreases-pieces : goal.decreases-pieces
decreases-pieces g l = length l.rest
