use Rattle.std.proofs.Common.{◌≡◌, ◌≤◌, true, List, [], ◌∷◌, ◌++◌, Option, option_map, ap, sym, subst, ◌∙◌, rules}
use Rattle.v_design.specs.Sized.{most_bits}
use Rattle.vf_base.specs.Base.{source_place}
use Rattle.v_names.specs.Faults.{same_place}
use Rattle.v_names.specs.Scopes.{ScopeEntry, Scope, looked_up, declared_width}
use Rattle.v_names.specs.Names.{Declaration, names_declared, of_name}
use Rattle.v_elab.specs.Parts.{Part}
use Rattle.v_elab.specs.Walk.{part_by_entry}
use Rattle.elab_parts.specs.PartViews.{parts_of}
use Rattle.module_scope.specs.declared.declaration.Declaration as code
use Rattle.module_scope.specs.Kept.{kept}
use Rattle.module_scope.specs.Declarations.{declaration_seen, listed}
use Rattle.elab_items.proofs.OwnParts.{parts_at, own-here, only-name}
use Rattle.elab_items.proofs.declared.push_own.Goals as goal

pub returns-in_ok-push_entry-in-Some : goal.returns-in_ok-push_entry-in-Some
returns-in_ok-push_entry-in-Some c h d i n p =
    let own : Declaration = declaration_seen c.in-Some.own in
    let before : List Part = parts_of c.args.parts.now.items in
    let same : same_place own.place (source_place c.args.place) ≡ true = search rules in
    let found : of_name d.name (names_declared h.instance.inner) ≡ own ∷ [] =
    ap (λ (name : _). of_name name (names_declared h.instance.inner)) n ∙ i.declared_are c.args.name.now
    ∙ ap (λ (o : Option code.Declaration). listed (option_map declaration_seen o)) (sym (c.in-Some.ensures ∙ ap (kept c.args.here.now.declared) c.as_bytes.ensures)) in
    let named : c.args.name.now ≡ own.name = sym n ∙ sym (only-name d.name (names_declared h.instance.inner) own found) in
    c.in_ok-push_entry-in-Some.ensures h i
    ∙ ap (λ (o : Option ScopeEntry). before ++ part_by_entry h own o) (c.lookup.ensures ∙ ap (λ (s : Scope). looked_up s c.args.name.now) (c.deref.ensures ∙ i.scope_is) ∙ ap (looked_up h.scope) named)
    ∙ ap (λ (ps : List Part). before ++ ps) (sym (ap (parts_at h d.place) found ∙ own-here h d.place own (ap (same_place own.place) p ∙ same)))

pub push_entry-requires : goal.push_entry-requires
push_entry-requires c =
    subst (λ (o : Option ScopeEntry). declared_width o ≤ most_bits) (sym (c.lookup.ensures ∙ ap (λ (s : Scope). looked_up s c.args.name.now) c.deref.ensures)) c.requires
