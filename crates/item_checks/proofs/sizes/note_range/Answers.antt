use Rattle.std.proofs.Common.{Option, Some, option_map, Bool, ap, sym, ◌∙◌}
use Rattle.vf_base.specs.Base.{source_place}
use Rattle.v_tree.specs.Views.{range_of}
use Rattle.v_names.specs.Faults.{BadWidth, Fault, fault_if}
use Rattle.v_names.specs.FaultViews.{fault_of}
use Rattle.v_elab.specs.ItemFaults.{bounds_size_faults}
use Rattle.name_checks.specs.Noted.{noted}
use Rattle.item_checks.specs.Widths.{is_too_wide}
use Rattle.item_checks.proofs.Widths.{range-some, range-none}
use Rattle.item_checks.proofs.sizes.note_range.Goals as goal

pub returns-in-Some : goal.returns-in-Some
returns-in-Some c =
    range-some c.args.first.now c.note_bounds.new.first c.note.new.self (bounds_size_faults c.args.scope.now (range_of c.args.range.now)) (fault_of c.in-Some.found)
    (is_too_wide c.args.scope.now (range_of c.args.range.now)) (source_place c.args.range.now.place)
    (c.in_ok-note_bounds.ensures ∙ ap (λ (o : Option Fault). noted o (bounds_size_faults c.args.scope.now (range_of c.args.range.now))) c.new-own.ensures)
    (sym (ap (option_map fault_of) c.in-Some.is) ∙ c.found.ensures) c.note.ensures

pub returns-in_ok-wide-in-None : goal.returns-in_ok-wide-in-None
returns-in_ok-wide-in-None c =
    range-none c.args.first.now c.note_bounds.new.first c.note_where.new.first (bounds_size_faults c.args.scope.now (range_of c.args.range.now))
    (is_too_wide c.args.scope.now (range_of c.args.range.now)) (source_place c.args.range.now.place)
    (c.in_ok-note_bounds.ensures ∙ ap (λ (o : Option Fault). noted o (bounds_size_faults c.args.scope.now (range_of c.args.range.now))) c.new-own.ensures)
    (sym (ap (option_map fault_of) c.in-None.is) ∙ c.found.ensures)
    (c.note_where.ensures ∙ ap (λ (b : Bool). noted c.args.first.now (fault_if b (source_place c.args.range.now.place) BadWidth)) c.in_ok-wide-in-None.ensures)
