-- The good samples stand for themselves.
use Rattle.std.proofs.Common.{◌≡◌, ◌++◌, OnOk, codes, subst, sym, ap, ◌∙◌}
use Rattle.kept_samples.specs.Kept.{samples_kept}
use Rattle.dict_laws.specs.Responses.{fit}
use Rattle.dict_text.specs.Texts.{Fits, found_line, good_line}
use Rattle.dict_text.proofs.Merging.{merged-nil}
use Rattle.dict_text.proofs.diagnosis.append_good.Goals as goal

pub returns : goal.returns
returns c =
    subst (λ line. OnOk c.append_good_fit.result (c.append_good_fit.new.out.items ≡ c.args.out.now.items ++ line))
    (ap (λ found. found_line (codes "good") (Fits found)) (c.fit_of.ensures ∙ ap (fit (samples_kept c.args.observed.now)) (merged-nil (samples_kept c.args.good.now)))
    ∙ ap (λ raced. good_line raced (samples_kept c.args.observed.now) (samples_kept c.args.good.now)) (sym c.if-raced.false))
    c.append_good_fit.ensures
