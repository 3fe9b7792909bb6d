use Rattle.std.proofs.Common.{◌≡◌, ◌≤◌, List, [], ◌∷◌, ◌++◌, Some, ap, sym, subst, ◌∙◌}
use Rattle.v_design.specs.Sized.{most_bits}
use Rattle.v_names.specs.Scopes.{declared_width}
use Rattle.v_names.specs.ScopeViews.{entry_of}
use Rattle.v_names.specs.declared.entry.Entry.{Entry}
use Rattle.v_elab.specs.Parts.{Part}
use Rattle.v_elab.specs.Walk.{part_by_entry}
use Rattle.elab_parts.specs.PartViews.{parts_of}
use Rattle.module_scope.specs.Declarations.{declaration_seen}
use Rattle.elab_items.proofs.declared.push_meaning.Goals as goal

-- what the name means is known in each case
narrow-as : (e f : Entry) → e ≡ f → declared_width (Some (entry_of e)) ≤ most_bits → declared_width (Some (entry_of f)) ≤ most_bits
narrow-as e f same h = subst (λ (x : Entry). declared_width (Some (entry_of x)) ≤ most_bits) same h

pub invariant_of-range : goal.invariant_of-range
invariant_of-range c = record { narrow = narrow-as _ _ c.in-Net.is c.requires }

pub invariant_of-range-in-Reg : goal.invariant_of-range-in-Reg
invariant_of-range-in-Reg c = record { narrow = narrow-as _ _ c.in-Reg.is c.requires }

pub invariant_of-range-in-Memory : goal.invariant_of-range-in-Memory
invariant_of-range-in-Memory c = record { narrow = narrow-as _ _ c.in-Memory.is c.requires }

pub returns-in_ok-push_part-in-Net : goal.returns-in_ok-push_part-in-Net
returns-in_ok-push_part-in-Net c h i =
    let before : List Part = parts_of c.args.parts.now.items in
    c.in_ok-push_part-in-Net.ensures
    ∙ ap (λ (p : Part). before ++ p ∷ []) (c.in_ok-part-in-Net.ensures h i)
    ∙ ap (λ (e : Entry). before ++ part_by_entry h (declaration_seen c.args.own) (Some (entry_of e))) (sym c.in-Net.is)

pub returns-in_ok-push_part-in-Reg : goal.returns-in_ok-push_part-in-Reg
returns-in_ok-push_part-in-Reg c h i =
    let before : List Part = parts_of c.args.parts.now.items in
    c.in_ok-push_part-in-Reg.ensures
    ∙ ap (λ (p : Part). before ++ p ∷ []) (c.in_ok-part-in-Reg.ensures h i)
    ∙ ap (λ (e : Entry). before ++ part_by_entry h (declaration_seen c.args.own) (Some (entry_of e))) (sym c.in-Reg.is)

pub returns-in_ok-push_part-in-Memory : goal.returns-in_ok-push_part-in-Memory
returns-in_ok-push_part-in-Memory c h i =
    let before : List Part = parts_of c.args.parts.now.items in
    c.in_ok-push_part-in-Memory.ensures
    ∙ ap (λ (p : Part). before ++ p ∷ []) (c.in_ok-part-in-Memory.ensures h i)
    ∙ ap (λ (e : Entry). before ++ part_by_entry h (declaration_seen c.args.own) (Some (entry_of e))) (sym c.in-Memory.is)
