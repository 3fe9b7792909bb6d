use Rattle.std.proofs.Common.{◌≡◌, List, length, None, refl, sym, subst, ◌∙◌, arith}
use Rattle.std.proofs.lemmas.List.{length-map}
use Rattle.std.proofs.lemmas.Result.{err_from_is_err_and}
use Rattle.v_tree.specs.Trees.{PortItem}
use Rattle.v_tree.specs.Views.{ports_of}
use Rattle.v_names.specs.Faults.{Fault, first_fault}
use Rattle.v_names.specs.Scopes.{Scope}
use Rattle.v_elab.specs.ItemFaults.{item_faults}
use Rattle.v_elab.specs.Parts.{Part}
use Rattle.v_elab.specs.Walk.{added, declared_parts}
use Rattle.elab_parts.specs.PartViews.{part_of}
use Rattle.elab_walk.specs.Leaves.{parts_in, Grows}
use Rattle.elab_walk.proofs.Turns.{Answer, fault-of, clean-of, grows-counted}
use Rattle.elab_walk.proofs.ReadLaws.{item-few, item-added}
use Rattle.elab_walk.proofs.NarrowNames.{item-narrow}
use Rattle.elab_walk.proofs.WideLaws.{no-faults}
use Rattle.elab_walk.proofs.items.walk_ports.Goals as goal

pub returns-in_err-count_from : goal.returns-in_err-count_from
returns-in_err-count_from c h walker is before counted =
    let p = err_from_is_err_and c.from_residual-in_err-count_from.result c.from_residual-in_err-count_from.ensures.1 in
    let wrong : List Fault = item_faults h.scope (PortItem (ports_of c.args.group.now)) in
    let more : List Part = declared_parts h (PortItem (ports_of c.args.group.now)) in
    let clean : first_fault wrong ≡ None = clean-of _ (λ (s : Scope). item_faults s (PortItem (ports_of c.args.group.now))) c.deref.result.now h.scope
    (c.deref.ensures ∙ is.here_is.scope_is) c.in_ok-ports_fault.ensures c.in_ok-refuse.ensures in
    let at : c.len-start.result ≡ length (parts_in c.args.walked.now) = omega (arith, length-map c.args.walked.now.parts.items part_of) in
    rw (p.1, p.2)
    (fault-of (added before more) _ _ (sym (item-added h 0 (PortItem (ports_of c.args.group.now)) before (item-few h 0 (PortItem (ports_of c.args.group.now)) clean refl)))
    (c.in_err-count_from.ensures before (parts_in c.args.walked.now) more counted (c.in_ok-push_port_parts.ensures h is.here_is) at))

pub returns : goal.returns
returns c h walker is before counted =
    let wrong : List Fault = item_faults h.scope (PortItem (ports_of c.args.group.now)) in
    let more : List Part = declared_parts h (PortItem (ports_of c.args.group.now)) in
    let clean : first_fault wrong ≡ None = clean-of _ (λ (s : Scope). item_faults s (PortItem (ports_of c.args.group.now))) c.deref.result.now h.scope
    (c.deref.ensures ∙ is.here_is.scope_is) c.in_ok-ports_fault.ensures c.in_ok-refuse.ensures in
    let at : c.len-start.result ≡ length (parts_in c.args.walked.now) = omega (arith, length-map c.args.walked.now.parts.items part_of) in
    subst (λ (a : Answer). Grows before a c.args.walked.now c.count_from.new.self) (sym (item-added h 0 (PortItem (ports_of c.args.group.now)) before
    (item-few h 0 (PortItem (ports_of c.args.group.now)) clean refl)))
    (grows-counted before more c.args.walked.now _ c.count_from.new.self (c.in_ok-push_port_parts.ensures h is.here_is)
    (c.in_ok-count_from.ensures before (parts_in c.args.walked.now) more counted (c.in_ok-push_port_parts.ensures h is.here_is) at))

pub push_port_parts-requires : goal.push_port_parts-requires
push_port_parts-requires c =
    let w = c.requires in
    let scope : Scope = c.args.site.here.now.scope.value in
    let none = no-faults (item_faults scope (PortItem (ports_of c.args.group.now)))
    (clean-of _ (λ (s : Scope). item_faults s (PortItem (ports_of c.args.group.now))) c.deref.result.now scope c.deref.ensures c.in_ok-ports_fault.ensures c.in_ok-refuse.ensures) in
    item-narrow w.inner w.given scope w.named (PortItem (ports_of c.args.group.now)) w.of none
