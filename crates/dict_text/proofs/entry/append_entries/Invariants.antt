-- With what the dictionary has of the faults that are left, the text is whole.
use Rattle.std.proofs.Common.{◌≡◌, ◌++◌, map, drop, length}
use Rattle.vf_base.specs.Lists.{joined, zip_with}
use Rattle.v_design.specs.Plain.{fault_of}
use Rattle.v_design.specs.PlainDesigns.{design_of}
use Rattle.dict_text.specs.Texts.{entry_text}
use Rattle.dict_text.specs.Dictionaries.{entry_kept}
use Rattle.dict_text.proofs.entry.append_entries.Given as goal

abbrev pub invariant-entries : goal.invariant-entries
invariant-entries l =
    (l.out.items ++ joined (zip_with (entry_text (design_of l.design)) (map fault_of (drop (length l.yielded) l.faults)) (map entry_kept (drop (length l.yielded) l.entries))))
    ≡ (l.initial.out.items ++ joined (zip_with (entry_text (design_of l.design)) (map fault_of l.faults) (map entry_kept l.entries)))
