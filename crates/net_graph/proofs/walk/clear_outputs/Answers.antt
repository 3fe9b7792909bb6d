use Rattle.std.proofs.Common.{rules, ◌≡◌, ℕ, ◌+◌, ◌<◌, ◌++◌, ◌∷◌, [], List, ap, ◌∙◌, get_or, set, take, map, length, vec_len}
use Rattle.std.proofs.lemmas.List.{take_more, map_push}
use Rattle.vf_base.specs.declared.ids.ObjectId.{ObjectId}
use Rattle.vf_base.specs.Base.{object_number}
use Rattle.net_graph.specs.Walks.{ClearsCounts}
use Rattle.net_graph.specs.WalkLaws.{ClearsCounts-none, ClearsCounts-more}
use Rattle.net_graph.proofs.walk.clear_outputs.Goals as goal

-- one more output of the list
stepped : (outputs : List ObjectId) (i : ℕ) (d : ObjectId) (before later : List ℕ) → i < length outputs → ClearsCounts (map object_number (take i outputs)) before later →
    object_number (get_or outputs i d) < length later → ClearsCounts (map object_number (take (i + 1) outputs)) before (set later (object_number (get_or outputs i d)) 0)
stepped outputs i d before later within had low =
    let more : map object_number (take (i + 1) outputs) ≡ map object_number (take i outputs) ++ object_number (get_or outputs i d) ∷ [] =
    ap (map object_number) (take_more outputs i d within) ∙ map_push object_number (take i outputs) (get_or outputs i d) in
    rw more (ClearsCounts-more (map object_number (take i outputs)) before later (object_number (get_or outputs i d)) had low)

pub outputs-init : goal.outputs-init
outputs-init c = record { same = search rules; cleared = ClearsCounts-none c.args.counts.now.items }

pub outputs-preserved : goal.outputs-preserved
outputs-preserved c =
    let in_counts : object_number (get_or c.args.outputs.now c.outputs.output-index (record { 0 = 0 })) < vec_len c.args.counts.now =
    c.requires c.outputs.output-index (record { 0 = 0 }) (search rules) in
    record {
      same = search rules;
      cleared = stepped c.args.outputs.now c.outputs.output-index (record { 0 = 0 }) c.args.counts.now.items c.outputs.counts.items (search rules) c.outputs.invariant.cleared (search rules);
    }
