-- What is said of the faults so far.
use Rattle.std.proofs.Common.{◌≡◌, map, take}
use Rattle.kept_samples.specs.Kept.{samples_kept}
use Rattle.dict_text.specs.Texts.{found_of}
use Rattle.dict_text.specs.Dictionaries.{entry_kept}
use Rattle.dict_text.specs.Views.{found_view}
use Rattle.dict_text.proofs.diagnosis.find_all.Given as goal

abbrev pub invariant-entries : goal.invariant-entries
invariant-entries l = map found_view l.founds.items ≡ map (found_of (samples_kept l.observed) (samples_kept l.good)) (map entry_kept (take l.kept-index l.entries))
