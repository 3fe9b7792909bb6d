-- The law is proved in `Existing`.
use Rattle.top_call.proofs.Existing.{answers-exist}
use Rattle.top_call.proofs.law.answers_exist.Goals as goal

pub returns : goal.returns
returns c = answers-exist (record {
  reports = c.outputs.ensures.reports;
  over_dictionary = c.outputs.ensures.over_dictionary;
  certificates = c.outputs.ensures.certificates;
  faults = c.outputs.ensures.faults;
  generated = c.texts_accepted.ensures;
})
