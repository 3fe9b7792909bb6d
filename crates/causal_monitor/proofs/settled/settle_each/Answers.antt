use Rattle.std.proofs.Common.{rules, arith, ◌≡◌, ◌+◌, ◌<◌, ℕ, ap, sym, subst, length, get_or, map}
use Rattle.std.specs.Prelude.{Vec}
use Rattle.std.specs.declared.alloc.Global.{Global}
use Rattle.std.proofs.lemmas.List.{length-map, map-set}
use Rattle.vf_base.specs.declared.ids.ObjectId.{ObjectId}
use Rattle.vf_base.specs.Base.{object_number}
use Rattle.v_design.specs.Logs.{phase_changes}
use Rattle.v_design.specs.PlainDesigns.{design_of}
use Rattle.net_graph.specs.Tables.{object_lists}
use Rattle.causal_monitor.proofs.TotalLaws.{SettledBefore, SettledBefore-set, objects_are_few}
use Rattle.causal_monitor.proofs.settled.settle_each.Goals as goal

pub overflow_cast-from : goal.overflow_cast-from
overflow_cast-from c =
    let few = objects_are_few (design_of c.args.graph.now.design.now) c.args.graph.now.design.now.rules in
    let low : c.objects.number < length (design_of c.args.graph.now.design.now).objects = search rules in
    omega (arith, few, low)

pub objects-preserved : goal.objects-preserved
objects-preserved c =
    let design = design_of c.args.graph.now.design.now in
    let changes = phase_changes (design_of c.args.graph.now.design.now) c.args.log.now.log in
    let lists = c.objects.lists.items in
    let made = c.fill_reached_if.new.nets in
    let within : c.objects.number < length c.objects.lists.items = search rules in
    let long : length (object_lists c.objects.lists.items) ≡ length c.objects.lists.items = length-map c.objects.lists.items (λ (list : Vec ObjectId Global). map object_number list.items) in
    let there : c.objects.number < length (object_lists c.objects.lists.items) = omega (arith, long, within) in
    let same : get_or c.deref-count-items.result.now c.objects.number 0 ≡ get_or c.args.counts.now.items c.objects.number 0 = ap (λ l. get_or l c.objects.number 0) c.deref-count-items.ensures.value in
    record {
      belongs = search rules;
      count = search rules;
      settled =
          subst (SettledBefore design changes c.args.counts.now.items (c.objects.number + 1))
          (sym (map-set (λ (list : Vec ObjectId Global). map object_number list.items) lists c.objects.number made))
          (SettledBefore-set design changes c.args.counts.now.items c.objects.number (object_lists lists) (map object_number made.items) there
          (λ positive. c.in_ok-fill_reached_if.ensures.nets (subst (λ (n : ℕ). 0 < n) (sym same) positive)) c.objects.invariant.settled);
    }
