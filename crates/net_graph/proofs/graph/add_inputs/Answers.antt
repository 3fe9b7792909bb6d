use Rattle.std.proofs.Common.{rules, ◌≡◌, ℕ, ◌+◌, ◌<◌, ◌∙◌, ◌++◌, ◌∷◌, [], List, ap, get_or, take, map, length, vec_len, set}
use Rattle.std.proofs.lemmas.List.{take_more, map_push, length-map}
use Rattle.vf_base.specs.declared.ids.ObjectId.{ObjectId}
use Rattle.vf_base.specs.Base.{object_number, node_number}
use Rattle.std.specs.Prelude.{nat_eq}
use Rattle.vf_base.specs.Lists.{fresh_only}
use Rattle.net_graph.specs.Tables.{node_lists}
use Rattle.net_graph.specs.TableLaws.{InputsAdded, InputsAdded-more}
use Rattle.net_graph.proofs.graph.add_inputs.Goals as goal

-- one more input, by what `add_input` says of the tables
stepped : (node : ℕ) (inputs : List ObjectId) (i : ℕ) (d : ObjectId) (before : List (List ℕ)) (seen once : List ℕ) (lists : List (List ℕ)) (seen' once' : List ℕ) (lists' : List (List ℕ)) →
    i < length inputs → object_number (get_or inputs i d) < length seen → object_number (get_or inputs i d) < length lists →
    InputsAdded node (map object_number (take i inputs)) before seen once lists →
    seen' ≡ set seen (object_number (get_or inputs i d)) (node + 1) →
    once' ≡ once ++ fresh_only (nat_eq (get_or seen (object_number (get_or inputs i d)) 0) (node + 1)) (object_number (get_or inputs i d)) [] →
    lists' ≡ set lists (object_number (get_or inputs i d)) (get_or lists (object_number (get_or inputs i d)) []
    ++ fresh_only (nat_eq (get_or seen (object_number (get_or inputs i d)) 0) (node + 1)) node []) →
    InputsAdded node (map object_number (take (i + 1) inputs)) before seen' once' lists'
stepped node inputs i d before seen once lists seen' once' lists' within in_seen in_lists had marked taken listed =
    let more : map object_number (take (i + 1) inputs) ≡ map object_number (take i inputs) ++ object_number (get_or inputs i d) ∷ [] =
    ap (map object_number) (take_more inputs i d within) ∙ map_push object_number (take i inputs) (get_or inputs i d) in
    rw (more, marked, taken, listed) (InputsAdded-more node (map object_number (take i inputs)) before seen once lists (object_number (get_or inputs i d)) had in_seen in_lists)

pub inputs-preserved : goal.inputs-preserved
inputs-preserved c = record {
  added =
      let in_seen : object_number (get_or c.args.inputs.now c.inputs.input-index (record { 0 = 0 })) < vec_len c.args.seen.now =
      c.requires.are_objects c.inputs.input-index (record { 0 = 0 }) (search rules) in
      stepped (node_number c.args.node) c.args.inputs.now c.inputs.input-index (record { 0 = 0 }) (node_lists c.args.readers.now.items) c.inputs.seen.items (map object_number c.inputs.once.items)
      (node_lists c.inputs.readers.items)
      _ _ _ (search rules) (search rules) (rw length-map (search rules)) c.inputs.invariant.added c.in_ok-add_input.ensures.marked c.in_ok-add_input.ensures.taken c.in_ok-add_input.ensures.listed;
  seen_length = search rules;
  readers_length = search rules;
}
