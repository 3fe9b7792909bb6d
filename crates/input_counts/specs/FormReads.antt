-- What a block of a form reads.
use Rattle.std.specs.Prelude.{Bool, false}
use Rattle.v_comb.specs.CombinationalForm.{BlockForm, NetForm, ProcessForm}
use Rattle.v_names.specs.Scopes.{Scope}
use Rattle.v_elab.specs.ReadCounts.{reads_over}

-- whether a node of a form reads more objects than a node may
abbrev pub form_reads_over : Scope → BlockForm → Bool
form_reads_over scope ProcessForm = false
form_reads_over scope (NetForm targets reads) = reads_over scope reads
