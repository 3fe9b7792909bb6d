-- The form of a block that waits for some names, by its form where it waits for all that it reads.
use Rattle.std.specs.Prelude.{List, map}
use Rattle.std.specs.List.{list_all}
use Rattle.v_tree.specs.Trees.{Identifier, SourceEntry, has_name}
use Rattle.v_comb.specs.CombinationalForm.{BlockForm, NetForm, ProcessForm, form_if}

abbrev pub entry_names : List SourceEntry → List Identifier
entry_names entries = map (λ (e : SourceEntry). e.select.name) entries

abbrev pub waiting_form : List Identifier → BlockForm → BlockForm
waiting_form names ProcessForm = ProcessForm
waiting_form names (NetForm targets reads) = form_if (list_all (has_name names) reads) targets reads
