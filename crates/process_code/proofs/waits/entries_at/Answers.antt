use Rattle.std.proofs.Common.{◌≡◌, ◌≤◌, ◌<◌, length, vec_len, arith, sym, ◌∙◌}
use Rattle.std.proofs.lemmas.List.{length-map}
use Rattle.std.specs.Prelude.{Vec}
use Rattle.std.specs.declared.alloc.Global.{Global}
use Rattle.v_design.specs.declared.tree.WaitEntry.{WaitEntry}
use Rattle.process_code.proofs.WaitEntries.{entries-end, entries-past, entries-here, waits-length}
use Rattle.process_code.proofs.waits.entries_at.Goals as goal

pub returns-then-position-eq0 : goal.returns-then-position-eq0
returns-then-position-eq0 c = entries-end c.args.code.now.spots.items c.args.position c.if-position-eq0.true

pub returns-then-position-len : goal.returns-then-position-len
returns-then-position-len c =
    let count = waits-length c.args.code.now.process.now c.args.code.now c.requires in
    entries-past c.args.code.now.spots.items c.args.position (omega (arith, count, c.if-position-len.true, c.len.ensures))

pub returns : goal.returns
returns c =
    let count = waits-length c.args.code.now.process.now c.args.code.now c.requires in
    entries-here c.args.code.now.process.now c.args.code.now c.args.position c.index.result.now c.deref.result.now c.requires c.if-position-eq0.false
    (omega (arith, count, c.if-position-len.false, c.len.ensures)) c.index.ensures c.deref.ensures.value
