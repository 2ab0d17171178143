-- Why a question can't be asked, for contracts of private functions.
use Rattle.std.specs.Prelude.{◌≡◌, ◌⊎◌, ℕ, List, Some}
use Rattle.snmp_oid.specs.Identifier.{IsWire, wire}
use Rattle.snmp_walk.specs.Ordered.{IsAtOrBelow, IsUnsendable}
use Rattle.snmp_io.specs.Steps.{IsFirstToFail}
use Rattle.snmp_words.specs.Words.{texts_at}
use Rattle.snmp_tools.specs.{FaultText.Fault, FaultText.outside_root, FaultText.unsendable}
use Rattle.snmp_tools.specs.Question.{AreNames, HasSendable, HasUnsendable}
use Rattle.snmp_tools.specs.declared.plan.Question as plan
use Rattle.snmp_tools.specs.declared.plan.Question.TheVariants as planned
use Rattle.snmp_tools.specs.declared.plan.Walk as plan_walk
use Rattle.smi_tree.specs.{Tree.Contents}

-- a walk can't continue after `after`: `after` is neither `root` nor below it; or it is, but can't
-- be sent
abbrev pub ResumeFails : (root after text : List ℕ) → Fault → Type 0
ResumeFails root after text why =
    ((IsAtOrBelow after root → ⊥) × (why ≡ outside_root text))
    ⊎ (IsAtOrBelow after root × IsUnsendable after × (why ≡ unsendable text))

-- `why` is why the walk `w` can't begin: its root can't be sent; or the root can be sent, but the
-- walk can't continue after `w.after` (`ResumeFails`)
abbrev pub StartFails : plan_walk.Walk → Fault → Type 0
StartFails w why =
    (IsUnsendable w.root × (why ≡ unsendable w.root_text.now))
    ⊎ (IsWire (wire w.root) × ((after : List ℕ) × (w.after ≡ Some after)
    × ResumeFails w.root after w.after_text.now why))

-- `why` is why the question can't be asked: for a Get, the first name that can't be sent; for a
-- walk, why the walk can't begin (`StartFails`)
abbrev pub BeginFails : plan.Question → Fault → Type 0
BeginFails (planned.Get ns) why = (mib : Contents)
    → AreNames mib (texts_at ns.texts.now) ns.oids.items
    → IsFirstToFail (texts_at ns.texts.now) (HasSendable mib) (HasUnsendable mib) why
BeginFails (planned.Walk w) why = StartFails w why
