use Rattle.std.proofs.Common.{rules, ◌≡◌, ℕ, ◌+◌, ◌<◌, ◌++◌, ◌∷◌, [], List, sym, subst, get_or, set, take, map, length, vec_len, arith}
use Rattle.std.specs.Prelude.{Vec}
use Rattle.std.specs.declared.alloc.Global.{Global}
use Rattle.std.proofs.lemmas.List.{map_more}
use Rattle.vf_base.specs.declared.ids.ObjectId.{ObjectId}
use Rattle.vf_base.specs.Base.{object_number}
use Rattle.graph_order.specs.Digraphs.{lists_of}
use Rattle.graph_order.specs.Sorting.{length-lists_of, waits_in}
use Rattle.net_graph.specs.WiringLaws.{DriverAdded, DriverAdded-more}
use Rattle.net_graph.proofs.rank.add_driver.Goals as goal

-- one more output of the list
stepped : (driver : ℕ) (outputs : List ObjectId) (i : ℕ) (d : ObjectId) (before : List (List ℕ)) (lists : List (Vec ℕ Global)) (old new : Vec ℕ Global) → i < length outputs →
    object_number (get_or outputs i d) < length lists →
    DriverAdded driver (map object_number (take i outputs)) before (lists_of lists) → old ≡ get_or lists (object_number (get_or outputs i d)) old → new.items ≡ old.items ++ driver ∷ [] →
    DriverAdded driver (map object_number (take (i + 1) outputs)) before (lists_of (set lists (object_number (get_or outputs i d)) new))
stepped driver outputs i d before lists old new within low had is pushed =
    subst (λ taken. DriverAdded driver taken before (lists_of (set lists (object_number (get_or outputs i d)) new))) (sym (map_more object_number outputs i d within))
    (subst (DriverAdded driver (map object_number (take i outputs) ++ object_number (get_or outputs i d) ∷ []) before)
    (sym (waits_in lists (object_number (get_or outputs i d)) driver old new low is pushed))
    (DriverAdded-more driver (map object_number (take i outputs)) before (lists_of lists) (object_number (get_or outputs i d)) had (omega (arith, length-lists_of lists))))

pub outputs-preserved : goal.outputs-preserved
outputs-preserved c = record {
  same = search rules;
  added =
      let low : object_number (get_or c.args.outputs.now c.outputs.output-index (record { 0 = 0 })) < vec_len c.args.needs.now = c.requires c.outputs.output-index (record { 0 = 0 }) (search rules) in
      stepped c.args.driver c.args.outputs.now c.outputs.output-index (record { 0 = 0 }) (lists_of c.args.needs.now.items) c.outputs.needs.items c.index_mut.result.now c.push.new.self
      (search rules) (omega (arith, c.outputs.invariant.same)) c.outputs.invariant.added c.index_mut.ensures.value c.in_ok-push.ensures.items;
}
