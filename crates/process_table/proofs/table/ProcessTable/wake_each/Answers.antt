use Rattle.std.proofs.Common.{◌≡◌, ◌∙◌, map, get_or, arith, refl, sym, ap, List, subst}
use Rattle.vf_base.specs.Base.{process_number}
use Rattle.v_design.specs.Designs.{FlatDesign}
use Rattle.causal_monitor.specs.Notes.{noted_access}
use Rattle.value_change.specs.Changes.{change_seen}
use Rattle.process_table.specs.Tables.{TableState}
use Rattle.process_table.specs.Arranged.{table_of}
use Rattle.causal_monitor.specs.declared.noted.Noted.{Noted}
use Rattle.process_table.specs.Noted.{AreNoted}
use Rattle.process_table.proofs.Woken.{reach-next, wake-next, wake-end}
use Rattle.process_table.proofs.table.ProcessTable.wake_each.Goals as goal

-- the same design
noted-on : (design same : FlatDesign) (before after : List Noted) → design ≡ same → (AreNoted design before → AreNoted design after) → AreNoted same before → AreNoted same after
noted-on design same before after e keeps old = subst (λ d. AreNoted d after) e (keeps (subst (λ d. AreNoted d before) (sym e) old))

pub candidates-preserved : goal.candidates-preserved
candidates-preserved c =
    let cands = c.args.candidates.now in
    let i = c.candidates.number-index in
    let number = get_or cands i 0 in
    let had = c.candidates.invariant in
    let woken = c.in_ok-wake_process.ensures.woken in
    record {
      woken =
          wake-next (map change_seen c.args.changes.now) (table_of c.args.self.now) (map noted_access c.args.accesses.now.items) (map process_number c.args.ended.now.items) cands c.requires.all
          (table_of c.candidates.self)
          (table_of c.wake_process.new.self) (map noted_access c.candidates.accesses.items) (map noted_access c.wake_process.new.accesses.items) (map process_number c.candidates.ended.items)
          (map process_number c.wake_process.new.ended.items) i c.candidates.next number c.candidates-test.true refl
          (omega (arith, c.if-place-next.false)) c.requires.climbs had.reaches had.woken woken;
      reaches = reach-next cands i c.candidates.next number refl (omega (arith, c.if-place-next.false)) c.requires.climbs had.reaches;
      noted = λ old. noted-on (table_of c.candidates.self).design (table_of c.args.self.now).design c.candidates.accesses.items c.wake_process.new.accesses.items had.design
          c.in_ok-wake_process.ensures.noted (had.noted old);
      design = ap (λ (t : TableState). t.design) woken.table ∙ had.design;
      kept = c.in_ok-wake_process.ensures.kept;
    }

pub returns-clause-woken : goal.returns-clause-woken
returns-clause-woken c =
    wake-end (map change_seen c.args.changes.now) (table_of c.args.self.now) (map noted_access c.args.accesses.now.items)
    (map process_number c.args.ended.now.items) c.args.candidates.now c.requires.all (table_of c.candidates.self)
    (map noted_access c.candidates.accesses.items) (map process_number c.candidates.ended.items) c.candidates.number-index c.candidates.next
    (omega (arith, c.candidates-test.false)) c.candidates.invariant.reaches c.candidates.invariant.woken
