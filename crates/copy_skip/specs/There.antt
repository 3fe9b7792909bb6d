-- Objects and nodes that are there (what a design has, by IEEE 1364-2001, clauses 3, 6 and 7).
use Rattle.std.specs.Prelude.{◌≡◌, length, Contains}
use Rattle.v_design.specs.Designs.{FlatDesign, FaultSite}
use Rattle.v_design.specs.Sites.{sites_of}
use Rattle.v_design.specs.States.{State}
use Rattle.copy_laws.specs.Differences.{Differences, StandsFor, KeepsNothingEqual}
use Rattle.copy_skip.specs.Limits.{SiteIsThere, AreThere}

pub record SearchesBegin : Type 0 where
  -- a site of a design names an object or a node of it
  pub sites : (design : FlatDesign) (site : FaultSite) → Contains (sites_of design) site → SiteIsThere design site
  -- differences that keep nothing equal have own values of objects of the design alone
  pub values : (design : FlatDesign) (d : Differences) (good faulty : State) → length good.values ≡ length design.objects → StandsFor d good faulty → KeepsNothingEqual d good →
      AreThere design d.values
