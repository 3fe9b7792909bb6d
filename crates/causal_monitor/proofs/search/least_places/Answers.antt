use Rattle.std.proofs.Common.{sym, ◌∙◌, rules}
use Rattle.std.proofs.lemmas.List.{length-map}
use Rattle.causal_monitor.specs.Index.{indexed_accesses}
use Rattle.causal_monitor.proofs.LinkLaws.{pair_found, pair_more}
use Rattle.causal_monitor.proofs.search.least_places.Goals as goal

pub returns-in-Some-clause-pair : goal.returns-in-Some-clause-pair
returns-in-Some-clause-pair c =
    sym (pair_found c.args.log.now.log (indexed_accesses c.args.index.now) c.accesses.number c.in-Some.first (rw length-map (search rules)) c.in-Some.ensures.first) ∙ c.accesses.invariant.rest

pub accesses-preserved : goal.accesses-preserved
accesses-preserved c = record {
  room = search rules;
  chained = c.in-None.ensures.chained;
  rest =
      sym (pair_more c.args.log.now.log (indexed_accesses c.args.index.now) c.accesses.number (rw length-map (search rules)) c.in-None.ensures.first) ∙ c.accesses.invariant.rest;
}
