use Rattle.std.proofs.Common.{◌≡◌, [], take, drop, vec_len}
use Rattle.v_design.specs.Logs.{least_pair_from}
use Rattle.causal_monitor.specs.Links.{AreChained}
use Rattle.causal_monitor.specs.Index.{indexed_accesses}
use Rattle.causal_monitor.proofs.search.least_places.Given as goal

abbrev pub invariant-accesses : goal.invariant-accesses
invariant-accesses l = record {
  room : vec_len l.chained ≡ vec_len l.initial.chained;
  chained : AreChained l.log.log (indexed_accesses l.index) l.number l.chained.items;
  rest : least_pair_from l.log.log (take l.number (indexed_accesses l.index)) (drop l.number (indexed_accesses l.index)) ≡ least_pair_from l.log.log [] (indexed_accesses l.index);
}
