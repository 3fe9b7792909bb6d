use Rattle.std.proofs.Common.{take, vec_len}
use Rattle.graph_order.specs.Searching.{IsSearch, AddsNeeds}
use Rattle.graph_order.proofs.search.add_needs.Given as goal

abbrev pub invariant-own : goal.invariant-own
invariant-own l = record {
  search : IsSearch (vec_len l.placed) l.vertex l.seen.items l.found.items;
  adds : AddsNeeds l.placed.items l.vertex (take l.need-index l.own) l.initial.found.items l.found.items;
}
