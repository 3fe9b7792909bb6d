use Rattle.std.proofs.Common.{Bool, [], ◌∷◌, sym, subst}
use Rattle.vf_base.specs.Base.{source_place}
use Rattle.v_names.specs.Faults.{BadWidth, fault_at}
use Rattle.v_width.specs.Summaries.{AreFaults}
use Rattle.expr_sizes.specs.PartReadings.{faults_of_part}
use Rattle.expr_sizes.proofs.parts.part_faults.Goals as goal

pub returns-then-unsized_number : goal.returns-then-unsized_number
returns-then-unsized_number c reading h =
    let P : Bool → Type 0 = λ b. AreFaults [] (faults_of_part b (source_place c.args.place) reading) c.apart.result in
    subst P (sym c.if-unsized_number.true) (c.apart.ensures (fault_at (source_place c.args.place) BadWidth ∷ []) [] c.bad_width.ensures)
