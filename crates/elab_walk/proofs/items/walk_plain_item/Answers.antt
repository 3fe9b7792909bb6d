use Rattle.std.proofs.Common.{◌≡◌, List, length, sym, subst, arith}
use Rattle.std.proofs.lemmas.List.{length-map}
use Rattle.std.proofs.lemmas.Result.{err_from_is_err_and}
use Rattle.v_tree.specs.Trees.{SourceItem}
use Rattle.v_tree.specs.Views.{item_of}
use Rattle.v_names.specs.Scopes.{Scope}
use Rattle.v_elab.specs.Parts.{Part}
use Rattle.v_elab.specs.Walk.{item_parts, checked_item, added}
use Rattle.elab_parts.specs.PartViews.{part_of}
use Rattle.elab_walk.specs.Leaves.{parts_in, Grows}
use Rattle.elab_walk.proofs.Turns.{Answer, fault-of, fault-goes, grows-counted}
use Rattle.elab_walk.proofs.ReadLaws.{item-added}
use Rattle.flat_laws.specs.Hierarchy.Processes.{items-named}
use Rattle.elab_walk.proofs.NarrowNames.{item-narrow}
use Rattle.elab_walk.proofs.RunLaws.{item-runs}
use Rattle.elab_walk.proofs.items.walk_plain_item.Goals as goal

pub returns-in_err-refuse_item : goal.returns-in_err-refuse_item
returns-in_err-refuse_item c h is before counted =
    let p = err_from_is_err_and c.from_residual.result c.from_residual.ensures.1 in
    rw (p.1, p.2) (fault-goes (checked_item h c.args.gates (item_of c.args.item.now)) (added before) c.in_err-refuse_item.field-0.0 (c.in_err-refuse_item.ensures.checked h is c.args.gates))

pub returns-in_err-count_from : goal.returns-in_err-count_from
returns-in_err-count_from c h is before counted =
    let p = err_from_is_err_and c.from_residual-in_err-count_from.result c.from_residual-in_err-count_from.ensures.1 in
    let item : SourceItem = item_of c.args.item.now in
    let more : List Part = item_parts h c.args.gates item in
    let at : c.len-start.result ≡ length (parts_in c.args.walked.now) = omega (arith, length-map c.args.walked.now.parts.items part_of) in
    rw (p.1, p.2)
    (fault-of (added before more) _ _ (sym (item-added h c.args.gates item before (c.in_ok-refuse_item.ensures.checked h is c.args.gates)))
    (c.in_err-count_from.ensures before (parts_in c.args.walked.now) more counted (c.in_ok-push_item_parts.ensures h is.here_is) at))

pub returns : goal.returns
returns c h is before counted =
    let item : SourceItem = item_of c.args.item.now in
    let more : List Part = item_parts h c.args.gates item in
    let at : c.len-start.result ≡ length (parts_in c.args.walked.now) = omega (arith, length-map c.args.walked.now.parts.items part_of) in
    subst (λ (a : Answer). Grows before a c.args.walked.now c.count_from.new.self) (sym (item-added h c.args.gates item before (c.in_ok-refuse_item.ensures.checked h is c.args.gates)))
    (grows-counted before more c.args.walked.now _ c.count_from.new.self (c.in_ok-push_item_parts.ensures h is.here_is)
    (c.in_ok-count_from.ensures before (parts_in c.args.walked.now) more counted (c.in_ok-push_item_parts.ensures h is.here_is) at))

pub push_item_parts-requires-clause-narrow : goal.push_item_parts-requires-clause-narrow
push_item_parts-requires-clause-narrow c =
    let w = c.requires.within in item-narrow w.inner w.given c.args.site.here.now.scope.value w.named (item_of c.args.item.now) w.of c.in_ok-refuse_item.ensures.clean

pub push_item_parts-requires-clause-runs : goal.push_item_parts-requires-clause-runs
push_item_parts-requires-clause-runs c =
    let w = c.requires.within in
    let scope : Scope = c.args.site.here.now.scope.value in
    let item : SourceItem = item_of c.args.item.now in
    item-runs scope item (items-named w.inner w.given scope w.named item w.of) c.in_ok-refuse_item.ensures.clean
