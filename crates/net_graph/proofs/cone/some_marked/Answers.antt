use Rattle.std.proofs.Common.{rules, false, ap, sym, ◌∙◌, get_or, map}
use Rattle.std.proofs.lemmas.List.Folds.{list_any_at}
use Rattle.std.proofs.lemmas.List.{get_or_read, get_or-map, length-map}
use Rattle.vf_base.specs.Base.{object_number}
use Rattle.net_graph.proofs.cone.some_marked.Goals as goal

pub returns-then-index : goal.returns-then-index
returns-then-index c =
    sym (list_any_at (λ object. get_or c.args.marked.now.items object false) (map object_number c.args.objects.now) c.objects.object-index 0 (rw length-map c.objects-test.true)
    (ap (λ object. get_or c.args.marked.now.items object false) (get_or-map object_number c.args.objects.now c.objects.object-index (record { 0 = 0 }) 0 c.objects-test.true)
    ∙ sym (get_or_read c.args.marked.now.items _ c.index.result.now (let h = c.requires c.objects.object-index (record { 0 = 0 }) c.objects-test.true in search rules) c.index.ensures false)
    ∙ c.if-index.true))
