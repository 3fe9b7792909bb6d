use Rattle.std.proofs.Common.{rules, ◌≡◌, ℕ, ◌+◌, ◌<◌, ◌++◌, ◌∷◌, [], List, ap, ◌∙◌, get_or, set, take, map, length, min, vec_len}
use Rattle.std.specs.Prelude.{nat_eq}
use Rattle.std.proofs.lemmas.List.{take_more, map_push}
use Rattle.vf_base.specs.declared.ids.ObjectId.{ObjectId}
use Rattle.vf_base.specs.Base.{object_number}
use Rattle.v_design.specs.Paths.{one_if}
use Rattle.net_graph.specs.CountLaws.{WritesCounts, WritesCounts-more}
use Rattle.net_graph.proofs.count.write_counts.Goals as goal

-- one more output of the list
stepped : (from through : ℕ) (outputs : List ObjectId) (i : ℕ) (d : ObjectId) (before later : List ℕ) (value : ℕ) → i < length outputs →
    WritesCounts from through (map object_number (take i outputs)) before later → object_number (get_or outputs i d) < length later →
    value ≡ min 2 (one_if (nat_eq from (object_number (get_or outputs i d))) + through) →
    WritesCounts from through (map object_number (take (i + 1) outputs)) before (set later (object_number (get_or outputs i d)) value)
stepped from through outputs i d before later value within had low is =
    let more : map object_number (take (i + 1) outputs) ≡ map object_number (take i outputs) ++ object_number (get_or outputs i d) ∷ [] =
    ap (map object_number) (take_more outputs i d within) ∙ map_push object_number (take i outputs) (get_or outputs i d) in
    rw more (WritesCounts-more from through (map object_number (take i outputs)) before later (object_number (get_or outputs i d)) value had low is)

pub outputs-preserved : goal.outputs-preserved
outputs-preserved c =
    let in_counts : object_number (get_or c.args.outputs.now c.outputs.output-index (record { 0 = 0 })) < vec_len c.args.counts.now =
    c.requires.are_objects c.outputs.output-index (record { 0 = 0 }) (search rules) in
    record {
      same = search rules;
      written = stepped (object_number c.args.from) c.args.through c.args.outputs.now c.outputs.output-index (record { 0 = 0 }) c.args.counts.now.items c.outputs.counts.items c.with_start.result
          (search rules) c.outputs.invariant.written (search rules) (search rules);
    }
