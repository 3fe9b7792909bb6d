-- The walk over the generated unit: each item gives its parts (IEEE 1364-2001, clause 12.1).
use Rattle.std.proofs.Common.{◌≡◌, ℕ, ◌+◌, ◌≤◌, true, List, [], ◌∷◌, ◌++◌, filter, cond, Some, None, Ok, refl, sym, ap, subst, ◌∙◌, arith, append_assoc}
use Rattle.std.specs.Prelude.{nat_eq}
use Rattle.std.specs.List.{flat_map, sum_by}
use Rattle.std.proofs.lemmas.Bool.{and_from, eq-eqb, le-ltb}
use Rattle.std.proofs.lemmas.List.Sums.{sum_by-append}
use Rattle.vf_base.specs.Base.{SourcePlace}
use Rattle.vf_base.specs.Lists.{joined}
use Rattle.v_design.specs.WellFormed.{most_parts}
use Rattle.v_tree.specs.Trees.{SourceItem}
use Rattle.v_names.specs.Faults.{same_place}
use Rattle.v_names.specs.Scopes.{ScopeEntry, looked_up}
use Rattle.v_names.specs.Names.{Declaration, of_name, names_declared, item_declarations}
use Rattle.v_elab.specs.declared.Mode.TheVariants.{Usual}
use Rattle.v_elab.specs.declared.What.{What}
use Rattle.v_elab.specs.declared.What.TheVariants.{Objects, Nodes, Processes, Instances}
use Rattle.v_elab.specs.Refusals.{then_go, unless_refused, checked}
use Rattle.v_elab.specs.Parts.{Part, objects_of_part, nodes_of_part, processes_of_part, instances_of_part, refusal_or, too_many_if, over_limit, too_many_parts}
use Rattle.v_elab.specs.ReadCounts.{reads_refused, item_reads}
use Rattle.v_elab.specs.Walk.{Here, Walker, declared_parts, part_by_entry, item_parts, gates_in, checked_item, added, walked_item, walked_items}
use Rattle.soak_flat.proofs.Items.{IsFine}

-- Counts

-- parts that pass no limit
pub record AreFew (parts : List Part) : Type 0 where
  pub objects : sum_by objects_of_part parts ≤ most_parts
  pub nodes : sum_by nodes_of_part parts ≤ most_parts
  pub processes : sum_by processes_of_part parts ≤ most_parts
  pub instances : sum_by instances_of_part parts ≤ most_parts

pub within-limit : (what : What) (limit count : ℕ) → count ≤ limit → over_limit what limit count ≡ None
within-limit what limit count low = ap (λ b. too_many_if b what limit) (le-ltb limit count low)

few-pass : (parts : List Part) → AreFew parts → too_many_parts parts ≡ None
few-pass parts few =
    ap (λ o. refusal_or o (refusal_or (over_limit Nodes most_parts (sum_by nodes_of_part parts))
    (refusal_or (over_limit Processes most_parts (sum_by processes_of_part parts)) (over_limit Instances most_parts (sum_by instances_of_part parts)))))
    (within-limit Objects most_parts (sum_by objects_of_part parts) few.objects)
    ∙ (ap (λ o. refusal_or o (refusal_or (over_limit Processes most_parts (sum_by processes_of_part parts)) (over_limit Instances most_parts (sum_by instances_of_part parts))))
    (within-limit Nodes most_parts (sum_by nodes_of_part parts) few.nodes)
    ∙ (ap (λ o. refusal_or o (over_limit Instances most_parts (sum_by instances_of_part parts))) (within-limit Processes most_parts (sum_by processes_of_part parts) few.processes)
    ∙ within-limit Instances most_parts (sum_by instances_of_part parts) few.instances))

few-front : (parts more : List Part) → AreFew (parts ++ more) → AreFew parts
few-front parts more few =
    let count = λ (f : Part → ℕ) (h : sum_by f (parts ++ more) ≤ most_parts). let low : sum_by f parts ≤ most_parts = omega (arith, h, sum_by-append f parts more) in low in
    record {
      objects = count objects_of_part few.objects;
      nodes = count nodes_of_part few.nodes;
      processes = count processes_of_part few.processes;
      instances = count instances_of_part few.instances;
    }

-- Items

-- an item that is no instance gives its parts
pub record WalksAs (here : Here) (item : SourceItem) (own : List Part) : Type 0 where
  pub fine : IsFine here.scope item
  pub parts : (gates : ℕ) → item_parts here gates item ≡ own
  pub plain : (walker : Walker) (gates : ℕ) (parts : List Part) → walked_item walker here gates item parts ≡ then_go (checked_item here gates item) (added parts)

abbrev pub Walks : Here → List SourceItem → List (List Part) → Type 0
Walks here [] [] = Unit {0}
Walks here [] (own ∷ owns) = ⊥
Walks here (item ∷ items) [] = ⊥
Walks here (item ∷ items) (own ∷ owns) = WalksAs here item own × Walks here items owns

pub walks-both : (here : Here) (items more : List SourceItem) (owns others : List (List Part)) → Walks here items owns → Walks here more others → Walks here (items ++ more) (owns ++ others)
walks-both here [] more [] others h d = d
walks-both here [] more (own ∷ owns) others h d = absurd h
walks-both here (item ∷ items) more [] others h d = absurd h
walks-both here (item ∷ items) more (own ∷ owns) others h d = (h.0, walks-both here items more owns others h.1 d)

module _ (here : Here) (usual : here.mode ≡ Usual) where
  item-checked : (item : SourceItem) (own : List Part) → WalksAs here item own → (gates : ℕ) → checked_item here gates item ≡ Ok own
  item-checked item own walks gates =
      let parts = item_parts here gates item in
      ap (λ faults. then_go (checked faults parts) (unless_refused (reads_refused here.scope (item_reads here.mode here.scope item)))) walks.fine.sizes
      ∙ (ap (λ mode. unless_refused (reads_refused here.scope (item_reads mode here.scope item)) parts) usual
      ∙ (ap (λ reason. unless_refused reason parts) walks.fine.reads ∙ ap (λ (ps : List Part). Ok ps) (walks.parts gates)))

  item-walked : (walker : Walker) (item : SourceItem) (own : List Part) → WalksAs here item own → (gates : ℕ) (parts : List Part) → AreFew (parts ++ own) →
      walked_item walker here gates item parts ≡ Ok (parts ++ own)
  item-walked walker item own walks gates parts few =
      walks.plain walker gates parts ∙ (ap (λ r. then_go r (added parts)) (item-checked item own walks gates) ∙ ap (λ reason. unless_refused reason (parts ++ own)) (few-pass (parts ++ own) few))

  -- items one behind the other
  pub items-walked : (walker : Walker) (items : List SourceItem) (owns : List (List Part)) → Walks here items owns → (gates : ℕ) (parts : List Part) → AreFew (parts ++ joined owns) →
      walked_items walker here gates items parts ≡ Ok (parts ++ joined owns)
  items-walked walker [] [] h gates parts few = ap (λ (ps : List Part). Ok ps) (none-more parts)
    where
      none-more : (ps : List Part) → ps ≡ ps ++ []
      none-more [] = refl
      none-more (p ∷ ps) = ap (λ l. p ∷ l) (none-more ps)
  items-walked walker [] (own ∷ owns) h gates parts few = absurd h
  items-walked walker (item ∷ items) [] h gates parts few = absurd h
  items-walked walker (item ∷ items) (own ∷ owns) h gates parts few =
      let grouped : (parts ++ own) ++ joined owns ≡ parts ++ (own ++ joined owns) = append_assoc parts own (joined owns) in
      let here_few : AreFew ((parts ++ own) ++ joined owns) = subst AreFew (sym grouped) few in
      ap (λ r. then_go r (walked_items walker here (gates + gates_in item) items)) (item-walked walker item own h.0 gates parts (few-front (parts ++ own) (joined owns) here_few))
      ∙ (items-walked walker items owns h.1 (gates + gates_in item) (parts ++ own) here_few ∙ ap (λ (ps : List Part). Ok ps) grouped)

-- Declarations

place-same : (place : SourcePlace) → same_place place place ≡ true
place-same place = and_from (nat_eq place.line place.line) (nat_eq place.column place.column) (eq-eqb place.line place.line refl) (eq-eqb place.column place.column refl)

-- an item with one declaration, the only one of its name
pub declared-part : (here : Here) (item : SourceItem) (d : Declaration) (entry : ScopeEntry) → item_declarations item ≡ d ∷ [] → of_name d.name (names_declared here.instance.inner) ≡ d ∷ [] →
    looked_up here.scope d.name ≡ Some entry → declared_parts here item ≡ (part_by_entry here d (Some entry) ++ []) ++ []
declared-part here item d entry declares once knows =
    let each = λ (own : Declaration). part_by_entry here own (looked_up here.scope own.name) in
    let test = λ (own : Declaration). same_place own.place d.place in
    ap (flat_map (λ (e : Declaration). flat_map each (filter (λ (own : Declaration). same_place own.place e.place) (of_name e.name (names_declared here.instance.inner))))) declares
    ∙ (ap (λ l. flat_map each (filter test l) ++ []) once
    ∙ (ap (λ b. flat_map each (cond b (d ∷ []) []) ++ []) (place-same d.place) ∙ ap (λ o. (part_by_entry here d o ++ []) ++ []) knows))
