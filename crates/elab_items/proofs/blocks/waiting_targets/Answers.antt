use Rattle.std.proofs.Common.{◌≡◌, ℕ, true, ◌++◌, List, map, is_some, refl, ap, sym, ◌∙◌}
use Rattle.std.specs.List.{list_all}
use Rattle.v_tree.specs.Trees.{has_name}
use Rattle.v_tree.specs.Views.{entry_of, statement_of}
use Rattle.v_tree.specs.declared.statement.Entry.{Entry}
use Rattle.v_elab.specs.Blocks.{is_plain_entry, parameter_names, net_targets}
use Rattle.module_scope.specs.Kept.{kept}
use Rattle.elab_items.specs.Forms.{entry_names, waiting_form}
use Rattle.elab_items.proofs.Forms.{form-waiting}
use Rattle.elab_items.proofs.blocks.waiting_targets.Goals as goal

pub returns-in_ok-form-in-Entries : goal.returns-in_ok-form-in-Entries
returns-in_ok-form-in-Entries c finds =
    let waited : List (List ℕ) = entry_names (map entry_of c.in-Entries.entries) ++ parameter_names c.args.scope.now in
    let known : (other : List ℕ) → is_some (kept c.in_ok-waited-in-Entries.waited other) ≡ has_name (entry_names (map entry_of c.in-Entries.entries)) other =
    λ other. c.in_ok-waited-in-Entries.ensures other ∙ ap (λ (es : List Entry). has_name (entry_names (map entry_of es)) other) c.as_slice-in-Entries.ensures in
    let plain : list_all is_plain_entry (map entry_of c.in-Entries.entries) ≡ true =
    ap (λ (es : List Entry). list_all is_plain_entry (map entry_of es)) (sym c.as_slice.ensures) ∙ sym c.are_plain.ensures ∙ c.if-not-are_plain.false in
    c.net_targets-in-Entries.ensures
    ∙ ap (net_targets c.args.scope.now)
    (c.waiting_form.ensures finds (entry_names (map entry_of c.in-Entries.entries)) known
    ∙ ap (waiting_form waited) c.in_ok-form-in-Entries.ensures
    ∙ sym (form-waiting (statement_of c.args.body.now) waited))
    ∙ rw (c.in-Entries.is, plain) refl
