-- The machine that a view of a design stands for (nothing of the language).
use Rattle.std.specs.Prelude.{Option, option_map}
use Rattle.v_design.specs.Plain.{fault_of}
use Rattle.v_design.specs.PlainDesigns.{design_of}
use Rattle.v_design.specs.Designs.{Machine}
use Rattle.v_design.specs.declared.plan.Design.{Design}
use Rattle.v_design.specs.declared.plan.Fault.{Fault}
use Rattle.v_design.specs.declared.view.View.{View}

-- a design, good or under one fault
abbrev pub machine_with : Design → Option Fault → Machine
machine_with design fault = record { design = design_of design; fault = option_map fault_of fault }

-- the machine of a view
abbrev pub machine_of : View → Machine
machine_of v = machine_with v.design.now v.fault
