-- Instances of the code that are walked.
use Rattle.std.specs.Prelude.{◌≡◌, List, map}
use Rattle.v_tree.specs.Trees.{SourceModule}
use Rattle.v_tree.specs.Views.{module_of}
use Rattle.v_names.specs.Names.{GivenParameter}
use Rattle.v_elab.specs.Walk as plain
use Rattle.v_elab.specs.Walk.{child_of}
use Rattle.module_scope.specs.Givens.{given_parameter}
use Rattle.instance_checks.specs.Offered.{AreFormals}
use Rattle.instance_checks.specs.Children.{IsChild}
use Rattle.elab_items.specs.Joins.{port_joined_of}
use Rattle.elab_items.specs.Heres.{IsHere}
use Rattle.elab_walk.specs.ModuleViews.{AreModules}
use Rattle.elab_walk.specs.declared.site.Site.{Site}
use Rattle.elab_walk.specs.declared.site.Entrance.{Entrance}
use Rattle.elab_walk.specs.declared.site.Inner.{Inner}

-- the instance whose items are walked, among all modules
pub record IsSite (h : plain.Here) (site : Site) : Type 0 where
  pub modules_are : AreModules h.modules site.modules.now
  pub here_is : IsHere h site.here.now

-- an instance that is about to be walked
pub record IsEntrance (e : plain.Entered) (entrance : Entrance) : Type 0 where
  pub inner_is : module_of entrance.«module».now ≡ e.inner
  pub formals_are : AreFormals e.inner entrance.formals.now
  pub given_are : map given_parameter entrance.given.now ≡ e.given
  pub path_is : entrance.path.value ≡ e.path
  pub depth_is : entrance.depth ≡ e.depth
  pub joins_are : map port_joined_of entrance.joins.now ≡ e.joins

-- the module of the instances of an item, with the parameters that they set
pub record IsInner (h : plain.Here) (m : SourceModule) (given : List GivenParameter) (inner : Inner) : Type 0 where
  pub inner_is : module_of inner.«module».now ≡ m
  pub given_are : map given_parameter inner.given.now ≡ given
  pub child_is : IsChild (child_of h m given) inner.child
