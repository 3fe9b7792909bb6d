use Rattle.std.proofs.Common.{◌≡◌, ◌<◌, [], get_or, length, ap, sym, ◌∙◌, arith}
use Rattle.std.proofs.lemmas.List.{get_or_read, get_or_default}
use Rattle.vf_base.specs.Base.{object_number}
use Rattle.four_value.specs.ValueLaws.{from_same_value}
use Rattle.v_design.specs.Assignments.{value_at}
use Rattle.v_design.specs.PlainDesigns.{design_of}
use Rattle.copy_overlay.specs.Faulty.{faulty_values}
use Rattle.copy_overlay.specs.FaultyLaws.{length-faulty, value-faulty}
use Rattle.start_copy.proofs.Holding.{found-shown, holds-already, holds-set}
use Rattle.start_copy.proofs.held.hold.Goals as goal

pub same-requires : goal.same-requires
same-requires c =
    let good = c.args.good.now in
    let object = object_number c.args.object in
    let own = c.args.copy.now.values in
    let read : c.index-good-object.result ≡ value_at c.args.good.now (object_number c.args.object) = get_or_read good object c.index-good-object.result c.requires.there c.index-good-object.is [] in
    let found : get_or c.args.good.now (object_number c.args.object) c.index-good-object.result ≡ value_at c.args.good.now (object_number c.args.object) =
    get_or_default good object c.index-good-object.result [] c.requires.there in
    let old : c.value-old.result ≡ value_at (faulty_values c.args.good.now c.args.copy.now.values) (object_number c.args.object) =
    found-shown good own object c.value-old.result _ c.value-old.ensures (cc) ∙ sym (value-faulty good own object c.requires.there) in
    let low : object_number c.args.object < length (faulty_values c.args.good.now c.args.copy.now.values) = omega (arith, c.requires.there, length-faulty good own) in
    ap length old ∙ c.requires.are.widths object low ∙ sym c.requires.width

pub returns-then-same-clause-holds : goal.returns-then-same-clause-holds
returns-then-same-clause-holds c = λ objects among.
    let good = c.args.good.now in
    let object = object_number c.args.object in
    let own = c.args.copy.now.values in
    let read : c.index-good-object.result ≡ value_at c.args.good.now (object_number c.args.object) = get_or_read good object c.index-good-object.result c.requires.there c.index-good-object.is [] in
    let found : get_or c.args.good.now (object_number c.args.object) c.index-good-object.result ≡ value_at c.args.good.now (object_number c.args.object) =
    get_or_default good object c.index-good-object.result [] c.requires.there in
    holds-already (design_of c.args.settle.now.graph.now.design.now) good objects object c.args.own c.args.copy.now c.args.settle.now.marks.items c.requires.there c.requires.are
    (sym (found-shown good own object c.value-old.result _ c.value-old.ensures (cc)) ∙ from_same_value c.value-old.result c.args.own (sym c.same.ensures ∙ c.if-same.true))

pub returns-clause-holds : goal.returns-clause-holds
returns-clause-holds c = λ objects among.
    let good = c.args.good.now in
    let object = object_number c.args.object in
    let read : c.index-good-object.result ≡ value_at c.args.good.now (object_number c.args.object) = get_or_read good object c.index-good-object.result c.requires.there c.index-good-object.is [] in
    let found : get_or c.args.good.now (object_number c.args.object) c.index-good-object.result ≡ value_at c.args.good.now (object_number c.args.object) =
    get_or_default good object c.index-good-object.result [] c.requires.there in
    holds-set (design_of c.args.settle.now.graph.now.design.now) good objects object c.args.own _ c.args.copy.now c.set.new.self c.args.settle.now.marks.items c.change.new.self.marks.items
    c.requires.there c.requires.are c.requires.width among c.in_ok-set.ensures.ok (cc) c.change.ensures.readers
