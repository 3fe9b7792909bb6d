-- The entry at the place.
use Rattle.std.proofs.Common.{◌≡◌, ◌<◌, ℕ, List, length, map, get_or, sym, subst, arith}
use Rattle.v_design.specs.Plain.{entry_of}
use Rattle.v_design.specs.Trees.{Entry}
use Rattle.v_design.specs.declared.tree.WaitEntry.{WaitEntry}
use Rattle.copy_laws.specs.Filter.{IsIn}
use Rattle.race_notes.proofs.Lists.{in-at}
use Rattle.lockstep_notes.proofs.Told.{in-mapped}
use Rattle.lockstep_notes.proofs.likes.has_entry.Goals as goal

entry-at : (entries : List WaitEntry) (place : ℕ) (default : WaitEntry) (wanted : Entry) → place < length entries → wanted ≡ entry_of (get_or entries place default) →
    IsIn wanted (map entry_of entries)
entry-at entries place default wanted low is =
    subst (λ (e : Entry). IsIn e (map entry_of entries)) (sym is) (in-mapped entry_of (get_or entries place default) entries (in-at entries place default low))

pub returns-then-is_entry : goal.returns-then-is_entry
returns-then-is_entry c = λ yes.
    let entries = c.args.entries.now in
    let low : c.entries.place < length entries = omega arith in
    entry-at entries c.entries.place _ _ low (c.is_entry.ensures c.if-is_entry.true)
