-- The shard has gone as far as the run, which may be used.
use Rattle.std.specs.Prelude.{◌≡◌, true}
use Rattle.turn_cases.proofs.run.go_through.Given as goal

abbrev pub invariant-windows : goal.invariant-windows
invariant-windows g l = record {
  at : l.shard.gone ≡ l.run.gone;
  usable : l.run.usable ≡ true;
}
