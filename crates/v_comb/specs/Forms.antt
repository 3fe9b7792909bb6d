-- The code's waits and forms as plain data.
use Rattle.std.specs.Prelude.{ℕ, Bool, List, Option, Some, None}
use Rattle.std.proofs.Common.{Global}
use Rattle.std.specs.declared.vec.Vec.{Vec}
use Rattle.v_comb.specs.declared.form.Waits.{Waits}
use Rattle.v_comb.specs.declared.form.Waits.TheVariants as waits
use Rattle.v_comb.specs.declared.form.Form.{Form}
use Rattle.v_comb.specs.declared.form.Form.TheVariants as forms
use Rattle.v_comb.specs.CombinationalForm.{BlockWaits, Star, NamesWaited, BlockForm, NetForm, ProcessForm}

abbrev pub waits_of : Waits → BlockWaits
waits_of waits.Star = Star
waits_of (waits.List names) = NamesWaited names

abbrev pub form_of : Form → BlockForm
form_of (forms.Net targets reads) = NetForm targets reads
form_of forms.Process = ProcessForm

-- flags that may be there
abbrev pub flags_in : Option (Vec Bool Global) → Option (List Bool)
flags_in None = None
flags_in (Some flags) = Some flags.items
