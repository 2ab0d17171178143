use Rattle.std.proofs.Common.{◌≡◌, ◌∙◌, ◌≤◌, ℕ, ap, subst}
use Rattle.std.specs.{Prelude.Some, Str.Parse.digits_value, Str.Parse.without_leading_plus}
use Rattle.snmp_words.proofs.OptionValues.{number_read, number_refused}
use Rattle.snmp_words.proofs.jobs.number_in.Goals as goal

pub returns-in-Ok-clause-value : goal.returns-in-Ok-clause-value
returns-in-Ok-clause-value c =
    let read = c.in-Ok.ensures.value.0 in
    let is : c.in-Ok.n ≡ digits_value 10 (without_leading_plus c.args.text.now) = read.1 in
    ap Some is ∙ number_read c.args.low c.args.high c.args.text.now (
      read.0.0,
      read.0.1,
      subst (λ (m : ℕ). c.args.low ≤ m) is c.if-low-n.true,
      subst (λ (m : ℕ). m ≤ c.args.high) is c.if-n-high.true,
    )

pub returns-in_default-3-clause-value : goal.returns-in_default-3-clause-value
returns-in_default-3-clause-value c =
    number_refused c.args.low c.args.high c.args.text.now (λ is. c.in_default.ensures.value.0 (is.0, is.1))
