use Rattle.std.proofs.Common.{◌≡◌, pos}
use Rattle.snmp_wire.specs.Message.{Message}
use Rattle.snmp_walk.specs.contracts.loose.LooseLinkLink.TheImpl.{ghosts}
use Rattle.snmp_walk.specs.Loose.{general_error}
use Rattle.snmp_walk.proofs.LooseLinks.{come_loosely}
use Rattle.snmp_walk.proofs.laws.loose_replies.Goals as goal

is_error : (m : Message) → m.a ≡ pos 0 → m.a ≡ general_error → ⊥
is_error m status error = cc

pub returns-clause-errors : goal.returns-clause-errors
returns-clause-errors c = λ link after events good none h.
    come_loosely ghosts (λ old new d s. s) (λ old new d s. s) (λ old new d s. s) (λ old new s. s) (λ old new s. s)
    c.codec.ensures c.encoding_is_of_type.ensures (λ m. m.a ≡ pos 0) events link after (λ m status error one. is_error m status error) good none h

pub returns-clause-replies : goal.returns-clause-replies
returns-clause-replies c = λ link after events good none no_error h.
    come_loosely ghosts (λ old new d s. s) (λ old new d s. s) (λ old new d s. s) (λ old new s. s) (λ old new s. s)
    c.codec.ensures c.encoding_is_of_type.ensures (λ m. Unit {0}) events link after (λ m any error one. no_error one) good none h
