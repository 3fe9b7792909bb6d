use Rattle.std.proofs.Common.{◌≡◌, List, sym, ap, subst, ◌∙◌}
use Rattle.v_names.specs.Names.{names_declared, of_name}
use Rattle.v_elab.specs.Connections.{PortJoined}
use Rattle.v_elab.specs.Walk.{joining_of}
use Rattle.module_scope.specs.Declarations.{declarations_seen}
use Rattle.module_scope.specs.Settled.{AreApart}
use Rattle.elab_items.proofs.Parameters.{finds-parameters}
use Rattle.elab_items.proofs.here.Here.new.Goals as goal

pub returns-clause-here : goal.returns-clause-here
returns-clause-here c h m p d s j i n =
    let listed : _ ≡ names_declared h.instance.inner = c.in_ok-list.ensures.declared ∙ ap names_declared (sym i) in
    record {
      mode_is = sym m;
      path_is = sym p;
      depth_is = sym d;
      scope_is = sym s;
      joins_are = λ name. c.in_ok-joins.ensures name ∙ ap (λ (js : List PortJoined). joining_of js name) (sym j);
      declared_are = λ name. ap (of_name name) (sym listed ∙ ap declarations_seen (sym c.deref.ensures.value)) ∙ c.in_ok-declared.ensures name;
      parameters_are = finds-parameters h.instance.inner h.instance.given h.scope (subst AreApart listed c.in_ok-list.ensures.apart) n;
    }
