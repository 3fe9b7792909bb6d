-- Lines of a certificate (the format is this program's own).
use Rattle.std.specs.Prelude.{◌≡◌, ℕ, List, ◌++◌, map}
use Rattle.vf_base.specs.Lists.{AllHold, joined}
use Rattle.cert_laws.specs.Valid.{CertLine}
use Rattle.cert_laws.specs.Written.{cert_line_text}
use Rattle.cert_text.specs.Fits.{LineFits}

-- the text of some lines
abbrev pub certs_text : List CertLine → List ℕ
certs_text lines = joined (map cert_line_text lines)

-- the text of some lines was added, and their numbers fit
abbrev pub Adds : List CertLine → List ℕ → List ℕ → Type 0
Adds lines old new = (new ≡ old ++ certs_text lines) × AllHold LineFits lines
