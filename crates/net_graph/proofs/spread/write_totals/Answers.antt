use Rattle.std.proofs.Common.{rules, ◌≡◌, ℕ, ◌+◌, ◌<◌, ◌++◌, ◌∷◌, [], List, ap, ◌∙◌, get_or, set, take, map, length, min, vec_len, arith}
use Rattle.std.proofs.lemmas.List.{take_more, map_push}
use Rattle.vf_base.specs.declared.ids.ObjectId.{ObjectId}
use Rattle.vf_base.specs.Base.{object_number}
use Rattle.net_graph.specs.SpreadLaws.{WritesTotals, WritesTotals-more}
use Rattle.net_graph.proofs.spread.write_totals.Goals as goal

-- one more output of the list
stepped : (counts : List ℕ) (through : ℕ) (outputs : List ObjectId) (i : ℕ) (d : ObjectId) (before later : List ℕ) (value : ℕ) → i < length outputs →
    WritesTotals counts through (map object_number (take i outputs)) before later → object_number (get_or outputs i d) < length later →
    min 2 value ≡ min 2 (get_or counts (object_number (get_or outputs i d)) 0 + through) →
    WritesTotals counts through (map object_number (take (i + 1) outputs)) before (set later (object_number (get_or outputs i d)) value)
stepped counts through outputs i d before later value within had low is =
    let more : map object_number (take (i + 1) outputs) ≡ map object_number (take i outputs) ++ object_number (get_or outputs i d) ∷ [] =
    ap (map object_number) (take_more outputs i d within) ∙ map_push object_number (take i outputs) (get_or outputs i d) in
    rw more (WritesTotals-more counts through (map object_number (take i outputs)) before later (object_number (get_or outputs i d)) value had low is)

pub outputs-preserved : goal.outputs-preserved
outputs-preserved c =
    let in_totals : object_number (get_or c.args.outputs.now c.outputs.output-index (record { 0 = 0 })) < vec_len c.args.totals.now =
    c.requires.are_objects c.outputs.output-index (record { 0 = 0 }) (search rules) in
    record {
      same = search rules;
      written =
          stepped c.args.counts.now c.args.through c.args.outputs.now c.outputs.output-index (record { 0 = 0 }) c.args.totals.now.items c.outputs.totals.items c.min.result
          (search rules) c.outputs.invariant.written (search rules)
          (omega (arith, c.min.ensures, c.saturating_add.ensures));
    }
