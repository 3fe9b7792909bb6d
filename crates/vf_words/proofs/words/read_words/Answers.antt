use Rattle.vf_words.specs.Words.{form_of, bytes_of}
use Rattle.vf_words.proofs.Kept.{form-keeps, plain-keeps}
use Rattle.vf_words.proofs.words.read_words.Goals as goal

pub returns-clause-fits : goal.returns-clause-fits
returns-clause-fits c = plain-keeps c.form_of.result (form_of (bytes_of c.args.words.now)) c.form_of.ensures (form-keeps (bytes_of c.args.words.now))
