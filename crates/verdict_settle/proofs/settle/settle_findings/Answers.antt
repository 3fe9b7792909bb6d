-- Finding by finding.
use Rattle.std.proofs.Common.{List, length, ◌≤◌, subst}
use Rattle.std.proofs.lemmas.List.{take_all}
use Rattle.vf_base.specs.declared.finding.Finding.{Finding}
use Rattle.fault_shards.specs.Found.{found_faults}
use Rattle.verdict_words.specs.Seats.{view}
use Rattle.verdict_settle.specs.Settling.{AreSettled}
use Rattle.verdict_settle.proofs.Words.{keeps-same, keeps-more, settles-none, settles-more, found-more}
use Rattle.verdict_settle.proofs.settle.settle_findings.Goals as goal

pub findings-init : goal.findings-init
findings-init g c = record { own = c.requires.own; claims = keeps-same (view c.args.seat); settled = settles-none (view c.args.seat) }

pub settle_word-seat-requires-clause-graded : goal.settle_word-seat-requires-clause-graded
settle_word-seat-requires-clause-graded g c κs within = c.requires.graded c.findings.finding-index _ c.findings-test.true

pub findings-preserved : goal.findings-preserved
findings-preserved g c = record {
  own = c.settle_word-seat.ensures.own;
  claims = keeps-more _ (view c.args.seat) (view c.findings.seat) (view c.settle_word-seat.result) c.findings.invariant.claims c.settle_word-seat.ensures.settled;
  settled =
      subst (λ l. AreSettled l (view c.args.seat) (view c.settle_word-seat.result)) (found-more c.args.findings.now c.findings.finding-index _ c.findings-test.true)
      (settles-more _ _ (view c.args.seat) (view c.findings.seat) (view c.settle_word-seat.result) c.findings.invariant.settled c.settle_word-seat.ensures.settled);
}

pub returns-clause-settled : goal.returns-clause-settled
returns-clause-settled g c =
    let past : length c.args.findings.now ≤ c.findings.finding-index = c.findings-test.false in
    subst (λ (l : List Finding). AreSettled (found_faults l) (view c.args.seat) (view c.findings.seat)) (take_all c.findings.finding-index c.args.findings.now past) c.findings.invariant.settled
