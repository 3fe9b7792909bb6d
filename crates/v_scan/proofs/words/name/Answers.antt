use Rattle.v_scan.proofs.PieceLaws.{reads-name}
use Rattle.v_scan.proofs.words.name.Goals as goal

pub returns-clause-found : goal.returns-clause-found
returns-clause-found c =
    reads-name c.args.first c.args.rest.now c.args.text.now c.split.result.0.now c.split.result.1.now c.in_ok-name.name c.requires.begins c.requires.letter
    c.split.ensures.front c.split.ensures.back c.in_ok-name.ensures
