use Rattle.std.proofs.Common.{◌≡◌, map, filter, take}
use Rattle.std.specs.Prelude.{nat_lt}
use Rattle.vf_base.specs.Base.{object_number}
use Rattle.v_design.specs.Paths.{paths}
use Rattle.v_design.specs.PlainDesigns.{design_of}
use Rattle.causal_monitor.proofs.settled.fill_reached.Given as goal

abbrev pub invariant-nets : goal.invariant-nets
invariant-nets l = record {
  belongs : l.marks.design.now ≡ l.graph.design.now;
  nets : map object_number l.nets.items ≡ filter (λ net. nat_lt 0 (paths (design_of l.graph.design.now) (object_number l.from) net)) (map object_number (take l.net-index l.wild));
}
