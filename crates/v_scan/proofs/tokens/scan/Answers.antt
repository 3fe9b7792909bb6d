use Rattle.v_scan.proofs.TextLaws.{every-tokens, every-fault}
use Rattle.v_scan.proofs.tokens.scan.Goals as goal

pub returns-clause-each_text : goal.returns-clause-each_text
returns-clause-each_text c = every-tokens c.args.text.now c.tokens_of.result c.tokens_of.ensures.tokens c.tokens_of.ensures.fault

pub returns-clause-each_fault : goal.returns-clause-each_fault
returns-clause-each_fault c = every-fault c.args.text.now c.tokens_of.result c.tokens_of.ensures.tokens c.tokens_of.ensures.fault
