use Rattle.std.proofs.Common.{◌≡◌, ◌∙◌, ◌++◌, sym, ap, false}
use Rattle.std.specs.Str.{bytes_eq}
use Rattle.v_design.specs.Sites.{index_of_bit, index_text}
use Rattle.fault_list.proofs.Finding.{find-next}
use Rattle.fault_list.proofs.spelled.place_spelled.Goals as goal

pub places-preserved : goal.places-preserved
places-preserved c =
    let fails : bytes_eq (c.args.name.now ++ index_text c.args.ranged (index_of_bit c.args.high c.args.low c.places.place)) c.args.word.now ≡ false =
    ap (λ n. bytes_eq (c.args.name.now ++ index_text c.args.ranged n) c.args.word.now) (sym c.index_of_bit.ensures) ∙ (sym c.is_bit_name.ensures ∙ c.if-is_bit_name.false) in
    c.places.invariant ∙ find-next (λ place. bytes_eq (c.args.name.now ++ index_text c.args.ranged (index_of_bit c.args.high c.args.low place)) c.args.word.now) c.places.place c.args.count
    c.places-test.true fails
