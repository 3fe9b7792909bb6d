use Rattle.cert_text.proofs.Certificates.{certificates-read, loops-fail}
use Rattle.cert_text.proofs.law.certificates_are_read.Goals as goal

pub returns-clause-read : goal.returns-clause-read
returns-clause-read c = certificates-read c.names_read.ensures c.what_is_certified.ensures

pub returns-clause-loops : goal.returns-clause-loops
returns-clause-loops c = loops-fail
