use Rattle.snmp_words.proofs.OptionValues as lemma
use Rattle.snmp_words.proofs.one_job.Goals as goal

pub returns : goal.returns
returns c = lemma.one_job
