use Rattle.std.proofs.Common.{◌≡◌, map, vec_len}
use Rattle.causal_monitor.specs.Counted.{phase_access}
use Rattle.causal_monitor.specs.Links.{AreLinks, AreLatest}
use Rattle.causal_monitor.proofs.links.fill_links.Given as goal

abbrev pub invariant-accesses : goal.invariant-accesses
invariant-accesses l = record {
  count : vec_len l.links ≡ l.place;
  same : vec_len l.latest ≡ l.objects;
  links : AreLinks l.group (map phase_access l.accesses) l.links.items;
  latest : AreLatest l.group (map phase_access l.accesses) l.place l.latest.items;
}
