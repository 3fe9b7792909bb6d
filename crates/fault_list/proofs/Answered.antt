-- What the code answers is a site of the design.
use Rattle.std.proofs.Common.{◌≡◌, List, ℕ, Option, Some, None, IfSome, sym}
use Rattle.std.specs.List.{Contains}
use Rattle.std.specs.Option.{option_map}
use Rattle.v_design.specs.Designs.{FlatDesign}
use Rattle.v_design.specs.Plain.{site_of}
use Rattle.v_design.specs.Sites.{sites_of}
use Rattle.v_design.specs.declared.plan.Site.{Site}
use Rattle.fault_list.specs.Spelled.{site_spelled}
use Rattle.fault_list.specs.ListedSites.{spelled-listed}

pub answer_listed : (design : FlatDesign) (word : List ℕ) (answer : Option Site) → option_map site_of answer ≡ site_spelled design word →
    IfSome answer (λ site. Contains (sites_of design) (site_of site))
answer_listed design word None e = tt
answer_listed design word (Some site) e = spelled-listed design word (site_of site) (sym e)
