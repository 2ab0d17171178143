use Rattle.snmp_walk.proofs.Ordered.{rest_of_walk, rest_again, resumable}
use Rattle.snmp_walk.proofs.laws.rest_of_a_walk.Goals as goal

pub returns-clause-rest : goal.returns-clause-rest
returns-clause-rest c = λ view mode root got p prefix more good is_got e. rest_of_walk view good root got is_got mode p prefix more e

pub returns-clause-rest_again : goal.returns-clause-rest_again
returns-clause-rest_again c = λ view root o p prefix more good e. rest_again view good root o p prefix more e

pub returns-clause-resumable : goal.returns-clause-resumable
returns-clause-resumable c = λ view mode root got p good is_got sendable i. resumable view good root got is_got sendable mode p i
