use Rattle.std.proofs.Common.{◌≡◌, ◌+◌, ◌-◌, ◌++◌, ap, sym, ◌∙◌, arith}
use Rattle.std.specs.Prelude.{string_bytes}
use Rattle.std.specs.List.{flat_map, range_with_len}
use Rattle.soak_text.specs.Soak.{watch_line, watched}
use Rattle.soak_text.proofs.Growing.{lines-more, drop-range_with_len}
use Rattle.soak_text.proofs.plan.add_watched.Goals as goal

pub registers-preserved : goal.registers-preserved
registers-preserved c = lines-more watch_line c.saturating_sub-first.result c.registers.register _ _ _ c.registers.auto.register c.registers.invariant c.in_ok-add_watch.ensures

pub returns : goal.returns
returns c =
    let size = c.args.size in
    let first : c.saturating_sub-first.result ≡ size - 8 = c.saturating_sub-first.ensures in
    let done : c.registers.register ≡ size = omega arith in
    let start : 0 + (size - 8) ≡ c.saturating_sub-first.result = omega arith in
    let count : size - (size - 8) ≡ c.registers.register - c.saturating_sub-first.result = omega arith in
    let last : watched size ≡ range_with_len c.saturating_sub-first.result (c.registers.register - c.saturating_sub-first.result) =
    drop-range_with_len (size - 8) 0 size ∙ (ap (λ a. range_with_len a (size - (size - 8))) start ∙ ap (range_with_len c.saturating_sub-first.result) count) in
    c.registers.invariant ∙ ap (λ l. string_bytes c.args.text.now ++ flat_map watch_line l) (sym last)
