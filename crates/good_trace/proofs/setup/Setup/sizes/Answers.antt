-- A design has few of each.
use Rattle.std.proofs.Common.{◌≡◌, ◌≤◌, ◌<◌, ◌^◌, List, map, length, ap, arith}
use Rattle.std.proofs.lemmas.List.{length-map}
use Rattle.v_design.specs.Plain.{object_of, node_of, process_of}
use Rattle.v_design.specs.PlainDesigns.{design_of}
use Rattle.v_design.specs.RulesHold.{rules_hold}
use Rattle.good_trace.proofs.setup.Setup.sizes.Goals as goal

-- as many are read as the design has
few-read : {A B : Type 0} (f : A → B) (all read : List A) → read ≡ all → length (map f all) ≤ 65536 → length read < 2 ^ 32
few-read f all read is few = let same = ap length is in let mapped = length-map all f in omega (arith, same, mapped, few)

pub overflow_cast-result : goal.overflow_cast-result
overflow_cast-result g c =
    let own = c.self.inside.design.now in
    let few : length c.as_slice.result.now < 2 ^ 32 = few-read object_of own.objects c.as_slice.result.now c.as_slice.ensures (rules_hold (design_of own) own.rules).few_objects in
    omega (arith, few)

pub overflow_cast-result-2 : goal.overflow_cast-result-2
overflow_cast-result-2 g c =
    let own = c.self.inside.design.now in
    let few : length c.as_slice-2.result.now < 2 ^ 32 = few-read node_of own.nodes c.as_slice-2.result.now c.as_slice-2.ensures (rules_hold (design_of own) own.rules).few_nodes in
    omega (arith, few)

pub overflow_cast-result-3 : goal.overflow_cast-result-3
overflow_cast-result-3 g c =
    let own = c.self.inside.design.now in
    let few : length c.as_slice-3.result.now < 2 ^ 32 = few-read process_of own.processes c.as_slice-3.result.now c.as_slice-3.ensures (rules_hold (design_of own) own.rules).few_processes in
    omega (arith, few)
