use Rattle.std.proofs.Common.{◌≡◌, sym, ap₂, subst, ◌∙◌, None}
use Rattle.std.proofs.lemmas.Result.{err_from_is_err_and}
use Rattle.v_tree.specs.Trees.{SourceItem}
use Rattle.v_tree.specs.Views.{item_of}
use Rattle.v_names.specs.Faults.{first_fault}
use Rattle.v_names.specs.Scopes.{Scope}
use Rattle.v_elab.specs.ItemFaults.{item_faults}
use Rattle.v_elab.specs.ReadCounts.{some_reads_over, reads_refused, item_reads}
use Rattle.v_elab.specs.Refusals.{unless_refused}
use Rattle.v_elab.specs.Walk.{item_parts, checked_item}
use Rattle.elab_items.specs.Heres.{FindsParameters}
use Rattle.elab_walk.proofs.Turns.{clean-of, wrong-of, err-is}
use Rattle.elab_walk.proofs.ReadLaws.{item-few, item-over, reads-wrong}
use Rattle.elab_walk.proofs.WideLaws.{no-faults}
use Rattle.elab_walk.proofs.items.refuse_item.Goals as goal

pub returns-in_err-refuse-clause-checked : goal.returns-in_err-refuse-clause-checked
returns-in_err-refuse-clause-checked c h is gates =
    let p = err_from_is_err_and c.from_residual-in_err-refuse.result c.from_residual-in_err-refuse.ensures.1 in
    let item : SourceItem = item_of c.args.item.now in
    err-is (checked_item h gates item) _ c.from_residual-in_err-refuse.result p.0 c.in_err-refuse.field-0.0 p.1 p.2
    (wrong-of _ (λ (s : Scope). item_faults s item) c.deref.result.now h.scope (item_parts h gates item) (unless_refused (reads_refused h.scope (item_reads h.mode h.scope item))) _
    (c.deref.ensures ∙ is.here_is.scope_is) c.in_ok-item_fault.ensures c.in_err-refuse.ensures)

pub returns-in_err-refuse_reads-clause-checked : goal.returns-in_err-refuse_reads-clause-checked
returns-in_err-refuse_reads-clause-checked c h is gates =
    let p = err_from_is_err_and c.from_residual-in_err-refuse_reads.result c.from_residual-in_err-refuse_reads.ensures.1 in
    let item : SourceItem = item_of c.args.item.now in
    let scope : c.deref-2.result.now ≡ h.scope = c.deref-2.ensures ∙ is.here_is.scope_is in
    let reads : c.in_ok-item_reads_over.field-0 ≡ some_reads_over h.scope (item_reads h.mode h.scope item) =
    c.in_ok-item_reads_over.ensures (subst FindsParameters (sym scope) is.here_is.parameters_are) ∙ ap₂ (λ m (s : Scope). some_reads_over s (item_reads m s item)) is.here_is.mode_is scope in
    let clean : first_fault (item_faults h.scope item) ≡ None = clean-of _ (λ (s : Scope). item_faults s item) c.deref.result.now h.scope
    (c.deref.ensures ∙ is.here_is.scope_is) c.in_ok-item_fault.ensures c.in_ok-refuse.ensures in
    err-is (checked_item h gates item) _ c.from_residual-in_err-refuse_reads.result p.0 c.in_err-refuse_reads.field-0.0 p.1 p.2
    (reads-wrong (checked_item h gates item) c.in_ok-item_reads_over.field-0 _ c.in_err-refuse_reads.ensures (λ e. item-over h gates item clean (sym reads ∙ e)))

pub returns-clause-checked : goal.returns-clause-checked
returns-clause-checked c h is gates =
    let item : SourceItem = item_of c.args.item.now in
    let scope : c.deref-2.result.now ≡ h.scope = c.deref-2.ensures ∙ is.here_is.scope_is in
    let reads : c.in_ok-item_reads_over.field-0 ≡ some_reads_over h.scope (item_reads h.mode h.scope item) =
    c.in_ok-item_reads_over.ensures (subst FindsParameters (sym scope) is.here_is.parameters_are) ∙ ap₂ (λ m (s : Scope). some_reads_over s (item_reads m s item)) is.here_is.mode_is scope in
    let clean : first_fault (item_faults h.scope item) ≡ None = clean-of _ (λ (s : Scope). item_faults s item) c.deref.result.now h.scope
    (c.deref.ensures ∙ is.here_is.scope_is) c.in_ok-item_fault.ensures c.in_ok-refuse.ensures in
    item-few h gates item clean (sym reads ∙ c.in_ok-refuse_reads.ensures)

pub returns-clause-clean : goal.returns-clause-clean
returns-clause-clean c =
    let item : SourceItem = item_of c.args.item.now in
    no-faults (item_faults c.args.site.here.now.scope.value item)
    (clean-of _ (λ (s : Scope). item_faults s item) c.deref.result.now c.args.site.here.now.scope.value c.deref.ensures c.in_ok-item_fault.ensures c.in_ok-refuse.ensures)
