use Rattle.std.proofs.Common.{◌≡◌, ◌++◌, map, take, filter}
use Rattle.vf_base.specs.declared.finding.AccessKind.TheVariants as Kind
use Rattle.v_design.specs.PlainDesigns.{design_of}
use Rattle.process_table.specs.Noted.{noted_entry, is_on_net}
use Rattle.process_table.proofs.entries.push_held.Given as goal

abbrev pub invariant-entries : goal.invariant-entries
invariant-entries l = l.accesses.items ≡ l.fn.accesses.items ++ map (noted_entry Kind.Held l.process l.line) (filter (is_on_net (design_of l.design)) (take l.entry-index l.entries))
