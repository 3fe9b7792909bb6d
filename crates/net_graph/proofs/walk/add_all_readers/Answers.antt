use Rattle.std.proofs.Common.{◌≡◌, ℕ, ◌+◌, ◌<◌, ◌∙◌, ◌++◌, ◌∷◌, [], ap, map, take, length, get_or, List}
use Rattle.std.proofs.lemmas.List.{take_more, map_push}
use Rattle.vf_base.specs.declared.ids.ObjectId.{ObjectId}
use Rattle.vf_base.specs.Base.{object_number}
use Rattle.v_design.specs.Designs.{FlatNode}
use Rattle.v_design.specs.PlainDesigns.{design_of}
use Rattle.number_set.specs.Members.{NumberBits}
use Rattle.net_graph.specs.Walks.{AddsReaders}
use Rattle.net_graph.specs.WalkLaws.{AddsReaders-none, AddsReaders-more}
use Rattle.net_graph.proofs.walk.add_all_readers.Goals as goal

-- one more object of the list
stepped : (nodes : List FlatNode) (objects : List ObjectId) (i : ℕ) (d : ObjectId) (old between new : NumberBits) → i < length objects →
    AddsReaders nodes (map object_number (take i objects)) old between → AddsReaders nodes (object_number (get_or objects i d) ∷ []) between new →
    AddsReaders nodes (map object_number (take (i + 1) objects)) old new
stepped nodes objects i d old between new low had added =
    let more : map object_number (take (i + 1) objects) ≡ map object_number (take i objects) ++ object_number (get_or objects i d) ∷ [] =
    ap (map object_number) (take_more objects i d low) ∙ map_push object_number (take i objects) (get_or objects i d) in
    rw more (AddsReaders-more nodes (map object_number (take i objects)) (object_number (get_or objects i d)) old between new had added)

pub objects-init : goal.objects-init
objects-init c = AddsReaders-none (design_of c.args.graph.now.design.now).nodes c.args.walked.now

pub add_readers-requires-clause-is_object : goal.add_readers-requires-clause-is_object
add_readers-requires-clause-is_object c = c.requires.are_objects c.objects.object-index (record { 0 = 0 }) c.objects-test.true

pub add_readers-requires-clause-sized : goal.add_readers-requires-clause-sized
add_readers-requires-clause-sized c = c.objects.invariant.bound_is ∙ c.requires.sized

pub objects-preserved : goal.objects-preserved
objects-preserved c =
    stepped (design_of c.args.graph.now.design.now).nodes c.args.objects.now c.objects.object-index (record { 0 = 0 }) c.args.walked.now c.objects.walked c.add_readers.new.walked
    c.objects-test.true c.objects.invariant c.add_readers.ensures
