use Rattle.std.proofs.Common.{rules, ◌≡◌, ℕ, ◌+◌, ◌<◌, ◌≤◌, max, List, [], ◌∷◌, ◌∙◌, ap, sym, subst, get_or, map, drop, length, arith}
use Rattle.std.proofs.Math.ListN.{drop_of_length-le}
use Rattle.std.proofs.lemmas.List.{drop_more, get_or_read}
use Rattle.vf_base.specs.declared.ids.ObjectId.{ObjectId}
use Rattle.vf_base.specs.Base.{object_number}
use Rattle.vf_base.specs.Lists.{last_place}
use Rattle.v_design.specs.States.{Evaluation, NetUpdate}
use Rattle.v_design.specs.PhaseLogs.{cause_of}
use Rattle.event_causes.specs.Causes.{greatest_number, place_within, changes_among}
use Rattle.event_causes.specs.CauseLaws.{all-numbers, latest-change, node-cause}
use Rattle.event_causes.proofs.causes.Causes.cause_of_node.Goals as goal

-- one input more
stepped : (table : List ℕ) (inputs : List ObjectId) (i : ℕ) (d : ObjectId) (latest value new all : ℕ) → i < length inputs → value ≡ get_or table (object_number (get_or inputs i d)) 0 →
    new ≡ max latest value →
    max latest (greatest_number table (map object_number (drop i inputs))) ≡ all →
    max new (greatest_number table (map object_number (drop (i + 1) inputs))) ≡ all
stepped table inputs i d latest value new all low is greater had =
    let more : greatest_number table (map object_number (drop i inputs)) ≡ max (get_or table (object_number (get_or inputs i d)) 0) (greatest_number table (map object_number (drop (i + 1) inputs))) =
    ap (λ l. greatest_number table (map object_number l)) (drop_more inputs i d low) in
    omega arith

-- all inputs
finished : (table : List ℕ) (inputs : List ObjectId) (i : ℕ) (latest : ℕ) → length inputs ≤ i →
    max latest (greatest_number table (map object_number (drop i inputs))) ≡ greatest_number table (map object_number inputs) → latest ≡ greatest_number table (map object_number inputs)
finished table inputs i latest all had =
    let none : greatest_number table (map object_number (drop i inputs)) ≡ 0 = ap (λ l. greatest_number table (map object_number l)) (drop_of_length-le inputs all) in
    omega arith

pub inputs-preserved : goal.inputs-preserved
inputs-preserved c =
    let i = c.inputs.input-index in
    let low : i < length c.args.inputs.now = search rules in
    let table = c.args.self.now.changes.items in
    stepped table c.args.inputs.now i (record { 0 = 0 }) c.inputs.latest c.index.result.now c.later-latest.result (greatest_number table (map object_number c.args.inputs.now)) low
    (get_or_read table (object_number (get_or c.args.inputs.now i (record { 0 = 0 }))) c.index.result.now (c.requires i (record { 0 = 0 }) low) c.index.ensures 0) c.later-latest.ensures
    c.inputs.invariant

pub returns-clause-evaluation : goal.returns-clause-evaluation
returns-clause-evaluation c = λ machine earlier number node had at same.
    c.place_of.ensures
    ∙ ap (place_within c.args.self.now.base) (finished c.args.self.now.changes.items c.args.inputs.now c.inputs.input-index c.inputs.latest c.inputs-test.false c.inputs.invariant)
    ∙ latest-change machine earlier c.args.self.now (map object_number c.args.inputs.now) had (all-numbers (λ o. o < length c.args.self.now.changes.items) c.args.inputs.now c.requires)
    ∙ subst (λ l. last_place (changes_among machine l) earlier ≡ cause_of machine earlier (Evaluation number)) same (node-cause machine earlier number node at).0

pub returns-clause-update : goal.returns-clause-update
returns-clause-update c = λ machine earlier number node had at same.
    c.place_of.ensures
    ∙ ap (place_within c.args.self.now.base) (finished c.args.self.now.changes.items c.args.inputs.now c.inputs.input-index c.inputs.latest c.inputs-test.false c.inputs.invariant)
    ∙ latest-change machine earlier c.args.self.now (map object_number c.args.inputs.now) had (all-numbers (λ o. o < length c.args.self.now.changes.items) c.args.inputs.now c.requires)
    ∙ subst (λ l. last_place (changes_among machine l) earlier ≡ cause_of machine earlier (NetUpdate number)) same (node-cause machine earlier number node at).1
