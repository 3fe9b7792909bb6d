use Rattle.std.proofs.Common.{◌∙◌, ◌++◌, ◌<◌, [], ◌∷◌, length, map, filter, ap, sym, subst, List}
use Rattle.vf_base.specs.Base.{process_number}
use Rattle.vf_base.specs.declared.finding.AccessKind.TheVariants as kind
use Rattle.vf_base.specs.Lists.{AllHold, has}
use Rattle.v_design.specs.Paths.{net_pieces}
use Rattle.v_design.specs.Plain.{entry_of}
use Rattle.v_design.specs.Designs.{FlatDesign}
use Rattle.v_design.specs.PlainDesigns.{design_of}
use Rattle.v_design.specs.Trees.{Entry}
use Rattle.causal_monitor.specs.Notes.{noted_access}
use Rattle.v_design.specs.Accesses.{waiting_entries}
use Rattle.process_table.specs.Rows.{row_state}
use Rattle.process_table.specs.Noted.{IsEntryIn, is_on_net}
use Rattle.process_table.proofs.Numbers.{hold-images}
use Rattle.process_table.proofs.NotedLaws.{access_of, accesses-behind, held-behind, on-nets, hold-filtered}
use Rattle.process_table.proofs.waits.hold_row.Goals as goal

-- the objects of the entries are there
there : (design : FlatDesign) (entries : List Entry) → AllHold (IsEntryIn design) entries → AllHold (λ (entry : Entry). entry.object < length design.objects) entries
there design [] h = tt
there design (entry ∷ entries) h = (h.0.there, there design entries h.1)

pub push_held-requires : goal.push_held-requires
push_held-requires c =
    let design = design_of c.args.design.now in
    hold-images entry_of (λ (entry : Entry). entry.object < length design.objects) c.waits-entries.result.now
    (there design (map entry_of c.waits-entries.result.now) (subst (AllHold (IsEntryIn design)) (sym c.waits-entries.ensures) c.requires.entries))

pub returns-clause-accesses : goal.returns-clause-accesses
returns-clause-accesses c =
    let design = design_of c.args.design.now in
    let p = process_number c.args.process in
    let xs = map noted_access c.args.accesses.now.items in
    let entries = c.waits-entries.result.now in
    accesses-behind kind.Held c.args.process c.wait_line-line.result (filter (is_on_net design) entries) c.args.accesses.now.items c.push_held.new.accesses.items c.in_ok-push_held.ensures
    ∙ ap (λ (es : List Entry). xs ++ map (access_of kind.Held p c.wait_line-line.result) es) (on-nets design entries)
    ∙ ap (λ (es : List Entry). xs ++ map (access_of kind.Held p c.wait_line-line.result) (filter (λ (entry : Entry). has (net_pieces design) entry.object) es)) c.waits-entries.ensures
    ∙ ap (λ line. xs ++ map (access_of kind.Held p line) (filter (λ (entry : Entry). has (net_pieces design) entry.object) (waiting_entries (row_state c.args.row.now).activity)))
    c.wait_line-line.ensures

pub returns-clause-held : goal.returns-clause-held
returns-clause-held c =
    let design = design_of c.args.design.now in
    let entries = c.waits-entries.result.now in
    held-behind design c.args.process c.wait_line-line.result (filter (is_on_net design) entries) c.args.accesses.now.items c.push_held.new.accesses.items c.in_ok-push_held.ensures
    (hold-filtered entry_of (IsEntryIn design) (is_on_net design) entries (subst (AllHold (IsEntryIn design)) (sym c.waits-entries.ensures) c.requires.entries))
