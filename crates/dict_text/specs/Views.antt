-- What the code found, as plain data (nothing of the language).
use Rattle.dict_laws.specs.Responses as plain
use Rattle.dict_text.specs.Texts as plain_text
use Rattle.dict_text.specs.declared.fit.Fit.{Fit}
use Rattle.dict_text.specs.declared.fit.Fit.TheVariants.{Exact, Possible, Contradicted}
use Rattle.dict_text.specs.declared.diagnosis.Found.{Found}
use Rattle.dict_text.specs.declared.diagnosis.Found.TheVariants.{Flagged, Fits}

-- how samples fit
abbrev pub fit_view : Fit → plain.Fit
fit_view Exact = plain.Exact
fit_view Possible = plain.Possible
fit_view Contradicted = plain.Contradicted

-- what is said of a fault
abbrev pub found_view : Found → plain_text.Found
found_view Flagged = plain_text.Flagged
found_view (Fits fit) = plain_text.Fits (fit_view fit)
