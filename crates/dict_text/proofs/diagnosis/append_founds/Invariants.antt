-- With the lines of the faults that are left, the text is whole.
use Rattle.std.proofs.Common.{◌≡◌, ◌++◌, map, drop, length}
use Rattle.vf_base.specs.Lists.{joined, zip_with}
use Rattle.v_design.specs.Plain.{fault_of}
use Rattle.v_design.specs.PlainDesigns.{design_of}
use Rattle.dict_text.specs.Texts.{fault_word, found_line}
use Rattle.dict_text.specs.Views.{found_view}
use Rattle.dict_text.proofs.diagnosis.append_founds.Given as goal

abbrev pub invariant-founds : goal.invariant-founds
invariant-founds l =
    (l.out.items
    ++ joined (zip_with (λ fault found. found_line (fault_word (design_of l.design) fault) found) (map fault_of (drop (length l.yielded) l.faults))
    (map found_view (drop (length l.yielded) l.founds))))
    ≡ (l.initial.out.items ++ joined (zip_with (λ fault found. found_line (fault_word (design_of l.design) fault) found) (map fault_of l.faults) (map found_view l.founds)))
