use Rattle.std.proofs.{Common.arith, Common.◌≡◌, Common.refl, Common.sym, Common.subst, Common.◌∙◌, lemmas.Grind.common_steps}
use Rattle.snmp_agent.specs.private.Answering.{AreWritable, answers_to, fill, held}
use Rattle.snmp_agent.proofs.{ReplyBindings.fill_full, answers.append_answers.Goals.After-append_answer-reply}
use Rattle.snmp_agent.proofs.answers.append_answers.Goals as goal

pub bindings-init : goal.bindings-init
bindings-init c = record { others = refl; writable = c.requires }

pub append_answer-reply-requires : goal.append_answer-reply-requires
append_answer-reply-requires c = (subst AreWritable c.in-Some.ensures.some c.bindings.invariant.writable).0

next : (c : After-append_answer-reply) → fill (held c.args.reply c.args.out.now) (answers_to c.args.table.now c.args.kind c.args.bindings)
    ≡ fill (held c.append_answer-reply.result c.append_answer-reply.new.out) (answers_to c.args.table.now c.args.kind c.next_ref.new.self)
next c = grind (arith, common_steps)

pub returns-then-is_full : goal.returns-then-is_full
returns-then-is_full c =
    sym (next (goal.at.returns-then-is_full c).After-append_answer-reply
    ∙ fill_full (held c.append_answer-reply.result c.append_answer-reply.new.out) (answers_to c.args.table.now c.args.kind c.next_ref.new.self)
    (c.is_full.ensures.0 c.if-is_full.true))

pub bindings-preserved : goal.bindings-preserved
bindings-preserved c = record {
  others = next (goal.at.bindings-preserved c).After-append_answer-reply;
  writable = (subst AreWritable c.in-Some.ensures.some c.bindings.invariant.writable).1;
}

pub returns : goal.returns
returns c = grind (arith, common_steps)
