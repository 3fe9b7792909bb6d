use Rattle.std.proofs.Common.{arith}
use Rattle.v_scan.proofs.PieceLaws.{reads-system, no-system}
use Rattle.v_scan.proofs.words.system_name.Goals as goal

pub returns-then-bytes-lt2-clause-none : goal.returns-then-bytes-lt2-clause-none
returns-then-bytes-lt2-clause-none c =
    no-system c.args.place c.args.first c.args.rest.now c.args.text.now c.split.result.0.now c.requires.begins c.requires.dollar c.split.ensures.front (omega arith)

pub returns-clause-found : goal.returns-clause-found
returns-clause-found c =
    reads-system c.args.first c.args.rest.now c.args.text.now c.split.result.0.now c.split.result.1.now c.in_ok-name.name c.requires.begins c.requires.dollar
    c.split.ensures.front c.split.ensures.back c.in_ok-name.ensures (omega arith)
