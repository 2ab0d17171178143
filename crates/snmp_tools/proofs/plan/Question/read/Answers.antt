use Rattle.std.proofs.Common.{arith, ◌≡◌, ℕ, List, Bor, Ok, inl, inr, refl, sym, option_map, subst}
use Rattle.std.proofs.lemmas.Grind.{common_steps}
use Rattle.smi_show.specs.name.Meant.{TextMeans}
use Rattle.snmp_tools.specs.{Asking.NameFails, private.Planned.chosen, FaultText.fault_of, declared.failure.Failure.Failure}
use Rattle.snmp_tools.specs.{declared.plan.Walk.Walk as PlannedWalk, declared.plan.request.Request.Request}
use Rattle.snmp_tools.specs.private.Planned.{HasTextsOf, NamesFail, request_of}
use Rattle.snmp_tools.specs.Question.{IsQuestionOf, IsWalkOf, Walk, subtree}
use Rattle.snmp_tools.specs.declared.plan.Question.TheVariants as planned
use Rattle.snmp_tools.proofs.{Steps.text_or, Wholes.if_err}
use Rattle.snmp_tools.proofs.plan.Question.read.Goals as goal

pub returns-in_err-name-in-Walk-clause-refused : goal.returns-in_err-name-in-Walk-clause-refused
returns-in_err-name-in-Walk-clause-refused c =
    let mib = c.args.tree.now in
    let f = c.in_err-name-in-Walk.field-0.0 in
    let P : Request → Failure → Type 0 = λ r e. NamesFail (request_of r) mib (fault_of e) in
    if_err (P c.args.request) c.from_residual-in_err-name-in-Walk.result f c.from_residual-in_err-name-in-Walk.ensures.1
    (subst (λ (r : Request). P r f) (sym c.in-Walk.is)
    (inl (subst (λ (t : List ℕ). NameFails mib t (fault_of f)) (text_or c.in-Walk.root _ _ c.unwrap_or-root_text.ensures) c.in_err-name-in-Walk.ensures.err)))

pub returns-in_err-optional_name-in-Walk-clause-refused : goal.returns-in_err-optional_name-in-Walk-clause-refused
returns-in_err-optional_name-in-Walk-clause-refused c =
    let mib = c.args.tree.now in
    let f = c.in_err-optional_name-in-Walk.field-0.0 in
    let root = c.in_ok-name-in-Walk.field-0 in
    let P : Request → Failure → Type 0 = λ r e. NamesFail (request_of r) mib (fault_of e) in
    if_err (P c.args.request) c.from_residual-in_err-optional_name-in-Walk.result f c.from_residual-in_err-optional_name-in-Walk.ensures.1
    (subst (λ (r : Request). P r f) (sym c.in-Walk.is)
    (inr (
      (root, subst (λ (t : List ℕ). TextMeans mib t (Ok root)) (text_or c.in-Walk.root _ _ c.unwrap_or-root_text.ensures) c.in_ok-name-in-Walk.ensures.ok),
      c.in_err-optional_name-in-Walk.ensures.err,
    )))

pub returns-in_ok-optional_name-in-Walk-clause-stated : goal.returns-in_ok-optional_name-in-Walk-clause-stated
returns-in_ok-optional_name-in-Walk-clause-stated c =
    let mib = c.args.tree.now in
    let w : Walk = record {
      root = c.in_ok-name-in-Walk.field-0;
      after = c.in_ok-optional_name-in-Walk.field-0;
      mode = c.mode.result;
      method = c.method.result;
      counts = c.args.choices.counts;
    } in
    let is : IsWalkOf c.in-Walk.bulk (chosen c.args.choices) (option_map (λ (t : Bor (List ℕ)). t.now) c.in-Walk.after)
    (option_map (λ (t : Bor (List ℕ)). t.now) c.in-Walk.root) mib w = record {
      mode = c.mode.ensures;
      method = c.method.ensures.method;
      counts = refl;
      root = subst (λ (t : List ℕ). TextMeans mib t (Ok c.in_ok-name-in-Walk.field-0)) (text_or c.in-Walk.root _ _ c.unwrap_or-root_text.ensures)
          c.in_ok-name-in-Walk.ensures.ok;
      goes_on = c.in_ok-optional_name-in-Walk.ensures.ok;
    } in
    subst (λ (r : Request). IsQuestionOf (request_of r) (chosen c.args.choices) mib (subtree w)) (sym c.in-Walk.is) is

-- if `request` is `r`, and a walk stores the arguments of `r`, then it stores the arguments of `request`
of_walk : (request r : Request) (w : PlannedWalk) → request ≡ r → HasTextsOf (request_of r) (planned.Walk w) → HasTextsOf (request_of request) (planned.Walk w)
of_walk request r w e = subst (λ (x : Request). HasTextsOf (request_of x) (planned.Walk w)) (sym e)

pub returns-in_ok-optional_name-in-Walk-clause-texts : goal.returns-in_ok-optional_name-in-Walk-clause-texts
returns-in_ok-optional_name-in-Walk-clause-texts c =
    of_walk c.args.request _ _ c.in-Walk.is
    (text_or c.in-Walk.root _ _ c.unwrap_or-root_text.ensures, text_or c.in-Walk.after _ _ c.unwrap_or-after_text.ensures)
