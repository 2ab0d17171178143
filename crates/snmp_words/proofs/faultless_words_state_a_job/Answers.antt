use Rattle.snmp_words.proofs.Faultless as lemma
use Rattle.snmp_words.proofs.faultless_words_state_a_job.Goals as goal

pub returns-clause-taken : goal.returns-clause-taken
returns-clause-taken c = lemma.stated_by_taken

pub returns-clause-faultless : goal.returns-clause-faultless
returns-clause-faultless c = lemma.stated_by_faultless
