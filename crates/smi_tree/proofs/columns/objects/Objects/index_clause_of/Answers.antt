-- The INDEX clause belongs to the definition itself, or to the definition that its AUGMENTS clause names.
use Rattle.std.proofs.Common.{refl, sym, ◌∙◌}
use Rattle.smi_tree.proofs.Rows.{uses_own, uses_named}
use Rattle.smi_tree.proofs.columns.objects.Objects.index_clause_of.Goals as goal

pub returns-in-Own : goal.returns-in-Own
returns-in-Own c =
    let def = rw c.as_slice.ensures at c.in_ok-def.ensures.lookup in
    rw (c.in-Definition.is, ← c.self.view_is) (uses_own c.self.inside.modules.now c.in-Definition.i c.in-Definition.k c.in_ok-module.module.now
    c.in_ok-def.def.now c.in_ok-module.ensures.lookup.3.0 c.in_ok-module.ensures.lookup.1 def.3.0 def.1 c.in-Own.field-0
    (sym c.in_ok-name.ensures ∙ rw c.in-Own.is refl))

pub returns-in-Augments : goal.returns-in-Augments
returns-in-Augments c =
    let def = rw c.as_slice.ensures at c.in_ok-def.ensures.lookup in
    let found = rw (← c.self.view_is, c.as_bytes.ensures.octets, c.as_bytes-in-Augments.ensures.octets) at c.find.ensures in
    rw (c.in-Definition.is, ← c.self.view_is) (uses_named c.self.inside.modules.now c.in-Definition.i c.in-Definition.k c.in_ok-module.module.now
    c.in_ok-def.def.now c.in_ok-module.ensures.lookup.3.0 c.in_ok-module.ensures.lookup.1 def.3.0 def.1 c.in-Augments.name c.find.result
    (sym c.in_ok-name.ensures ∙ rw c.in-Augments.is refl) found)
