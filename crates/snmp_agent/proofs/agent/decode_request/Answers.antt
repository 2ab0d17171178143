use Rattle.std.proofs.Common.{rules, sym, ◌∙◌}
use Rattle.snmp_agent.proofs.Requests.{is_one, other_community, same_community, served_kinds, other_kind}
use Rattle.snmp_agent.proofs.agent.decode_request.Goals as goal

pub returns-in-Err-clause-refused : goal.returns-in-Err-clause-refused
returns-in-Err-clause-refused c = λ q h. let e = c.in-Err.ensures.only q h in absurd (cc)

pub returns-then-ne-clause-refused : goal.returns-then-ne-clause-refused
returns-then-ne-clause-refused c = (
  c.in-Ok.message,
  c.in-Ok.ensures.found,
  is_one (search rules) c.version.ensures c.if-version-ne-VERSION.false,
  other_community c.community.ensures
      (sym c.if-ne.true ∙ c.ne.ensures),
)

pub returns-in-GetRequest-clause-found : goal.returns-in-GetRequest-clause-found
returns-in-GetRequest-clause-found c = record {
  spelt = c.in-Ok.ensures.found;
  version = is_one (search rules) c.version.ensures c.if-version-ne-VERSION.false;
  named = same_community c.community.ensures (sym c.if-ne.false ∙ c.ne.ensures);
  served = served_kinds c.kind.ensures c.in-GetRequest.is;
}

pub returns-in_default-clause-refused : goal.returns-in_default-clause-refused
returns-in_default-clause-refused c = (
  c.in-Ok.message,
  c.in-Ok.ensures.found,
  is_one (search rules) c.version.ensures c.if-version-ne-VERSION.false,
  same_community c.community.ensures (sym c.if-ne.false ∙ c.ne.ensures),
  other_kind c.kind.ensures c.in_default.not-GetRequest c.in_default.not-GetNextRequest c.in_default.not-GetBulkRequest c.in_default.not-SetRequest,
)
