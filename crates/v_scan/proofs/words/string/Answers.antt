use Rattle.v_scan.proofs.PieceLaws.{reads-string, no-string-word}
use Rattle.v_scan.proofs.words.string.Goals as goal

pub returns-in-Some-clause-found : goal.returns-in-Some-clause-found
returns-in-Some-clause-found c = reads-string c.args.first c.args.rest.now c.in-Some.back.now c.requires c.in-Some.ensures.found

pub returns-in-None-clause-none : goal.returns-in-None-clause-none
returns-in-None-clause-none c = no-string-word c.args.place c.args.first c.args.rest.now c.requires c.in-None.ensures.none
