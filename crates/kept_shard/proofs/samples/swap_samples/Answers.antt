-- The samples change places.
use Rattle.std.proofs.Common.{map, refl, ap, ◌∙◌}
use Rattle.kept_samples.specs.Plain.{sample_of}
use Rattle.fault_strobes.specs.Said.{Keeping}
use Rattle.fault_strobes.specs.Shown.{said_of}
use Rattle.kept_shard.specs.Kept.{samples_of}
use Rattle.kept_shard.proofs.samples.swap_samples.Goals as goal

pub returns : goal.returns
returns c =
    let told = c.from_vec-2.ensures ∙ (c.into_samples.ensures ∙ ap samples_of c.replace-strobed.ensures.value) in
    record {
      has = record { stays = refl; said = ap said_of c.replace-strobed.ensures.after ∙ ap (λ l. Keeping (map sample_of l)) (c.into_vec.ensures ∙ c.replace-samples.ensures.value) };
      told_is = λ i. record c.args.kept.now { differs = told i; end = c.full_end-kept.ensures i };
    }
