use Rattle.std.proofs.Common.{◌≡◌, ◌∙◌, ◌⊎◌, ap, subst, sym, map}
use Rattle.clap.specs.Words.{App, app_of, fault_of, is_simple, kind_of, subcommand_of, takes}
use Rattle.clap.specs.{Faults.is_simple_and_free, Kinds.IsAmong}
use Rattle.snmp_words.specs.{Command.snmp_app, Words.stated_in}
use Rattle.snmp_words.proofs.{Commands.fault_of_refusal, Commands.states_job, Commands.plain_is_local, OptionValues.states}
use Rattle.clap.specs.declared.error.ErrorKind.TheVariants as ErrorKind
use Rattle.snmp_words.proofs.read_words.Goals as goal

pub job_of-requires : goal.job_of-requires
job_of-requires c =
    let parsed = c.in-Ok.ensures.parsed in
    let local = plain_is_local _ _ _ _ (ap (λ (a : App). a.top.is_plain) c.in_ok-command.ensures) in
    let required = parsed.from.needs_subcommand ∙ ap (λ (a : App). a.top.subcommand_required) c.in_ok-command.ensures in
    let met = (parsed.parsed (parsed.from.globals ∙ local)).checked.subcommand required in
    states_job c.in-Ok.matches (map (λ s. s.now) c.args.words.now) met
    ((c.in-Ok.ensures.matches (ap is_simple c.in_ok-command.ensures)).1
    ∙ ap (λ (a : App). subcommand_of a (map (λ s. s.now) c.args.words.now)) c.in_ok-command.ensures)

pub returns-in_ok-job_of-in-Ok-clause-job : goal.returns-in_ok-job_of-in-Ok-clause-job
returns-in_ok-job_of-in-Ok-clause-job c =
    let rows = (c.in-Ok.ensures.matches (ap is_simple c.in_ok-command.ensures)).1
    ∙ ap (λ (a : App). subcommand_of a (map (λ s. s.now) c.args.words.now)) c.in_ok-command.ensures in
    states _ _ (ap stated_in (sym rows) ∙ c.in_ok-job_of-in-Ok.ensures)

pub returns-in_ok-job_of-in-Ok-clause-faultless : goal.returns-in_ok-job_of-in-Ok-clause-faultless
returns-in_ok-job_of-in-Ok-clause-faultless c =
    ap (λ (a : App). fault_of a (map (λ s. s.now) c.args.words.now)) (sym c.in_ok-command.ensures)
    ∙ c.in-Ok.ensures.kinds (ap is_simple_and_free c.in_ok-command.ensures)

pub returns-in-Err-clause-taken : goal.returns-in-Err-clause-taken
returns-in-Err-clause-taken c t =
    c.usage_error.ensures.memory (c.in-Err.ensures.passes (ap (λ (a : App). takes a (map (λ s. s.now) c.args.words.now)) c.in_ok-command.ensures ∙ t))

pub returns-in-Err-clause-refused : goal.returns-in-Err-clause-refused
returns-in-Err-clause-refused c =
    fault_of_refusal _ _ c.usage_error.result c.usage_error.ensures.memory c.usage_error.ensures.refusal
    (subst (λ (a : App). (kind_of c.in-Err.error ≡ ErrorKind.OutOfMemory) ⊎ IsAmong (kind_of c.in-Err.error) (fault_of a (map (λ s. s.now) c.args.words.now)))
    c.in_ok-command.ensures (c.in-Err.ensures.kinds (ap is_simple_and_free c.in_ok-command.ensures)))
