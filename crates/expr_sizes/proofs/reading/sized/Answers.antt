use Rattle.std.proofs.Common.{◌&&◌, [], ◌∷◌, nat_le}
use Rattle.vf_base.specs.Base.{source_place}
use Rattle.v_design.specs.Sized.{most_bits}
use Rattle.v_names.specs.Faults.{BadWidth, fault_at}
use Rattle.expr_sizes.proofs.ReadingLaws.{sized-some, sized-none}
use Rattle.expr_sizes.proofs.reading.sized.Goals as goal

pub returns-in-Some : goal.returns-in-Some
returns-in-Some c width signed complete faults at e h t =
    sized-some (nat_le 1 width && nat_le width most_bits) (source_place c.args.place) (record { width = width; signed = signed }) complete faults at _ _ c.in-Some.is e h t

pub returns-in-None : goal.returns-in-None
returns-in-None c width signed complete faults at e h t =
    let bad = fault_at (source_place c.args.place) BadWidth ∷ [] in
    sized-none (nat_le 1 width && nat_le width most_bits) (source_place c.args.place) (record { width = width; signed = signed }) complete faults at c.args.size _ c.in-None.is e
    (c.refused.ensures bad faults (c.together-faults.ensures bad [] [] faults c.bad_width.ensures h))
