-- Base types (RFC 2578, section 7.1).
use Rattle.std.specs.Prelude.{ℕ, List, Option, Some, None, codes, if◌then◌else◌}
use Rattle.smi_text.specs.trees.Mark.{same_text}
use Rattle.smi_names.specs.declared.meaning.base.TypeBase.{TypeBase}
use Rattle.smi_names.specs.declared.meaning.base.TypeBase.TheVariants as T

-- the base type of this name, even if a module defines the name too (RFC 2578, section 7.1);
-- `None` for any other text, and for words of the grammar such as INTEGER, which aren't names
unfoldable pub base_named : List ℕ → Option TypeBase
base_named x =
    if same_text x (codes "Integer32") then Some T.Integer else
    (if same_text x (codes "Counter32") then Some T.Counter32 else
    (if same_text x (codes "Gauge32") then Some T.Gauge32 else
    (if same_text x (codes "Unsigned32") then Some T.Unsigned32 else
    (if same_text x (codes "TimeTicks") then Some T.TimeTicks else
    (if same_text x (codes "IpAddress") then Some T.IpAddress else
    (if same_text x (codes "Opaque") then Some T.Opaque else
    (if same_text x (codes "Counter64") then Some T.Counter64 else None)))))))
