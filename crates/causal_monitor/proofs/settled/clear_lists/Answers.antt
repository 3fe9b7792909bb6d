use Rattle.std.proofs.Common.{◌≡◌, ◌<◌, ◌+◌, ℕ, List, [], length, get_or, map, set, ap, ◌∙◌, arith, rules, inl, inr}
use Rattle.std.specs.Prelude.{Vec}
use Rattle.std.specs.declared.alloc.Global.{Global}
use Rattle.std.proofs.lemmas.Bool.{cases_eq}
use Rattle.std.proofs.lemmas.List.{length-map, map-set, get_or-set_same, get_or-set_other}
use Rattle.vf_base.specs.declared.ids.ObjectId.{ObjectId}
use Rattle.vf_base.specs.Base.{object_number}
use Rattle.net_graph.specs.Tables.{object_lists}
use Rattle.causal_monitor.proofs.settled.clear_lists.Goals as goal

-- one more list is empty
emptied : (lists : List (Vec ObjectId Global)) (at : ℕ) (list : Vec ObjectId Global) → list.items ≡ [] → at < length lists →
    ((object : ℕ) → object < at → get_or (object_lists lists) object [] ≡ []) → (object : ℕ) → object < at + 1 →
    get_or (object_lists (set lists at list)) object [] ≡ []
emptied lists at list none within had object low =
    let long : length (object_lists lists) ≡ length lists = length-map lists (λ (l : Vec ObjectId Global). map object_number l.items) in
    let there : at < length (object_lists lists) = omega (arith, long, within) in
    ap (λ ls. get_or ls object []) (map-set (λ (l : Vec ObjectId Global). map object_number l.items) lists at list)
    ∙ elim (cases_eq object at) [
      | inl same ↦ ap (λ o. get_or (set (object_lists lists) at (map object_number list.items)) o []) same ∙ get_or-set_same (object_lists lists) at (map object_number list.items) [] there
          ∙ ap (map object_number) none
      | inr other ↦ get_or-set_other (object_lists lists) at object (map object_number list.items) [] other ∙ had object (omega arith)
    ]

pub lists-preserved : goal.lists-preserved
lists-preserved c = record {
  same = search rules;
  empty = emptied c.lists.lists.items c.lists.at c.clear.new.self c.clear.ensures.items (search rules) c.lists.invariant.empty;
}
