use Rattle.std.proofs.Common.{◌∙◌}
use Rattle.module_scope.proofs.Maps.{kept-is}
use Rattle.module_scope.proofs.name_map.NameMap.get.Goals as goal

pub returns : goal.returns
returns g c = rw (← c.self.view_is) (c.copied.ensures ∙ c.get.ensures.value ∙ kept-is c.args.name.now c.self.inside.entries.entries)
