-- One sample more.
use Rattle.std.proofs.Common.{[], ◌∷◌, ◌++◌, map, ap, ◌∙◌}
use Rattle.std.proofs.lemmas.List.{map-append}
use Rattle.kept_samples.specs.Plain.{sample_of}
use Rattle.cert_runs.proofs.samples.keep_sample.Goals as goal

pub returns : goal.returns
returns g c =
    ap (map sample_of) c.in_ok-push.ensures.items
    ∙ map-append sample_of c.args.kept.now.items (record { time = c.args.strobe; bits = c.from_vec.result } ∷ [])
    ∙ ap (λ bits. map sample_of c.args.kept.now.items ++ record { time = c.args.strobe; bits = bits } ∷ []) (c.from_vec.ensures ∙ c.in_ok-bits.ensures)
