use Rattle.std.proofs.Common.{ℕ, ◌+◌, Bool, ◌||◌, List, Option, map, is_some, drop, ap, sym, ◌∙◌}
use Rattle.v_tree.specs.Trees.{same_name, has_name}
use Rattle.v_tree.specs.Views.{entry_of}
use Rattle.v_tree.specs.declared.statement.Entry.{Entry}
use Rattle.vf_base.specs.declared.ids.Place.{Place}
use Rattle.module_scope.specs.Kept.{kept}
use Rattle.name_checks.specs.Rows.{drop-step, drop-past}
use Rattle.elab_items.specs.Forms.{entry_names}
use Rattle.elab_items.proofs.Names.{kept-turn, or-false}
use Rattle.elab_items.proofs.blocks.entry_names.Goals as goal

pub entries-preserved : goal.entries-preserved
entries-preserved c = λ (name : List ℕ).
    let entry = c.entry-item.result in
    let rest : Bool = has_name (entry_names (map entry_of (drop (c.entries.entry-index + 1) c.args.entries.now))) name in
    ap (λ (o : Option Place). is_some o || rest) (c.in_ok-put.ensures name)
    ∙ kept-turn (same_name c.as_bytes.result.now name) entry.select.place (kept c.entries.names name) rest
    ∙ ap (λ (n : List ℕ). is_some (kept c.entries.names name) || (same_name n name || rest)) c.as_bytes.ensures
    ∙ ap (λ (es : List Entry). is_some (kept c.entries.names name) || has_name (entry_names (map entry_of es)) name)
    (sym (drop-step c.args.entries.now c.entries.entry-index entry c.entries-test.true c.entry-item.is))
    ∙ c.entries.invariant name

pub returns : goal.returns
returns c = λ (name : List ℕ).
    sym (or-false (is_some (kept c.entries.names name)))
    ∙ ap (λ (es : List Entry). is_some (kept c.entries.names name) || has_name (entry_names (map entry_of es)) name) (sym (drop-past c.args.entries.now c.entries.entry-index c.entries-test.false))
    ∙ c.entries.invariant name
