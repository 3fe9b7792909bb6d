use Rattle.std.proofs.Common.{rules, true, ◌≡◌, ℕ, ◌+◌, ◌<◌, ◌++◌, ◌∷◌, [], Bool, List, ap, ◌∙◌, get_or, set, take, map, length, vec_len}
use Rattle.std.proofs.lemmas.List.{take_more, map_push}
use Rattle.vf_base.specs.declared.ids.ObjectId.{ObjectId}
use Rattle.vf_base.specs.Base.{object_number}
use Rattle.net_graph.specs.ConeLaws.{Marks, Marks-more}
use Rattle.net_graph.proofs.cone.mark_all.Goals as goal

-- one more object of the list
stepped : (objects : List ObjectId) (i : ℕ) (d : ObjectId) (before later : List Bool) → i < length objects → Marks (map object_number (take i objects)) before later →
    object_number (get_or objects i d) < length later → Marks (map object_number (take (i + 1) objects)) before (set later (object_number (get_or objects i d)) true)
stepped objects i d before later within had low =
    let more : map object_number (take (i + 1) objects) ≡ map object_number (take i objects) ++ object_number (get_or objects i d) ∷ [] =
    ap (map object_number) (take_more objects i d within) ∙ map_push object_number (take i objects) (get_or objects i d) in
    rw more (Marks-more (map object_number (take i objects)) before later (object_number (get_or objects i d)) had low)

pub objects-preserved : goal.objects-preserved
objects-preserved c =
    let in_marked : object_number (get_or c.args.objects.now c.objects.object-index (record { 0 = 0 })) < vec_len c.args.marked.now =
    c.requires c.objects.object-index (record { 0 = 0 }) (search rules) in
    record {
      same = search rules;
      marked = stepped c.args.objects.now c.objects.object-index (record { 0 = 0 }) c.args.marked.now.items c.objects.marked.items (search rules) c.objects.invariant.marked (search rules);
    }
