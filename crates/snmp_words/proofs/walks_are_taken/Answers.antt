use Rattle.std.proofs.Common.{refl}
use Rattle.clap.proofs.OnLiterals.{clap_on_literals}
use Rattle.snmp_words.proofs.OptionValues.{states}
use Rattle.snmp_words.proofs.walks_are_taken.Goals as goal

pub returns-clause-joined : goal.returns-clause-joined
unfolding clap_on_literals
returns-clause-joined c path numbers = refl

pub returns-clause-joined_job : goal.returns-clause-joined_job
unfolding clap_on_literals
returns-clause-joined_job c path numbers = states _ _ refl
