use Rattle.std.proofs.Common.{◌≡◌, length, map, flat_map, sym, ◌∙◌, rules}
use Rattle.std.proofs.lemmas.List.{length-map}
use Rattle.v_names.specs.Scopes.{range_width}
use Rattle.elab_parts.specs.PartViews.{range_of}
use Rattle.elab_wires.specs.SignalTables.{signal_borrowed}
use Rattle.driver_checks.specs.Overlaps.{bits_of}
use Rattle.driver_checks.proofs.OverlapTurns.{whole-taken, one-alone}
use Rattle.driver_checks.proofs.check.taken_bits.Goals as goal

pub returns : goal.returns
returns c =
    let some : length c.args.variables.now ≡ 0 → ⊥ = search rules in
    let wide : c.from.result ≡ range_width (range_of c.args.signal.now.range) = search rules in
    whole-taken (range_width (range_of c.args.signal.now.range)) c.from.result (map signal_borrowed c.args.variables.now) (flat_map bits_of c.push.new.self.items)
    (λ e. some (sym (length-map c.args.variables.now signal_borrowed) ∙ e)) (one-alone c.new-taken.result.items c.push.new.self.items _ c.new-taken.ensures.items c.in_ok-push.ensures.items) wide
