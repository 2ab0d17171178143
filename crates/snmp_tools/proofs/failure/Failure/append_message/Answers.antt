use Rattle.std.proofs.Common.{◌≡◌, sym, subst}
use Rattle.snmp_io.specs.Draft.{Adds, Written}
use Rattle.snmp_tools.specs.{FaultText.fault_of, FaultText.fault_message, declared.failure.Failure.Failure}
use Rattle.snmp_tools.proofs.failure.Failure.append_message.Goals as goal

-- if `f` is the failure `g`, and the message of `g` was appended, then the message of `f` was
of_case : (old new : Written) (f g : Failure) → f ≡ g → Adds old (fault_message (fault_of g)) new → Adds old (fault_message (fault_of f)) new
of_case old new f g e = subst (λ (x : Failure). Adds old (fault_message (fault_of x)) new) (sym e)

pub returns-in-Version : goal.returns-in-Version
returns-in-Version c = of_case _ _ _ _ c.in-Version.is c.text_and_word.ensures

pub returns-in-Letter : goal.returns-in-Letter
returns-in-Letter c = of_case _ _ _ _ c.in-Letter.is c.two_texts.ensures

pub returns-in-Agent : goal.returns-in-Agent
returns-in-Agent c = of_case _ _ _ _ c.in-Agent.is c.text_and_word-in-Agent.ensures

pub returns-in-Unreadable : goal.returns-in-Unreadable
returns-in-Unreadable c = of_case _ _ _ _ c.in-Unreadable.is c.unreadable_text.ensures

pub returns-in-NotWire : goal.returns-in-NotWire
returns-in-NotWire c = of_case _ _ _ _ c.in-NotWire.is c.text_and_word-in-NotWire.ensures

pub returns-in-AfterOutsideRoot : goal.returns-in-AfterOutsideRoot
returns-in-AfterOutsideRoot c = of_case _ _ _ _ c.in-AfterOutsideRoot.is c.text_and_word-in-AfterOutsideRoot.ensures
