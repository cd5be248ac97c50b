use Rattle.kob_script.proofs.Imports.{None, Some, faults_in, refl}
use Rattle.kob_script.proofs.LineFaults.{first_is, one_counted}
use Rattle.kob_script.specs.CommandLines.{events_of}
use Rattle.kob_script.proofs.laws.faults_come_in_their_order.Goals as goal

pub returns-clause-found : goal.returns-clause-found
returns-clause-found c = λ places words kind is. (first_is (faults_in places words) (Some kind) is).0

pub returns-clause-first : goal.returns-clause-first
returns-clause-first c = λ places words kind other is among. (first_is (faults_in places words) (Some kind) is).1 other among

pub returns-clause-none : goal.returns-clause-none
returns-clause-none c = λ places words kind none among. first_is (faults_in places words) None none kind among

pub returns-clause-read : goal.returns-clause-read
unfolding events_of
returns-clause-read c = λ answer words kind is. rw is refl

pub returns-clause-asks : goal.returns-clause-asks
returns-clause-asks c = λ answer words none plain. one_counted answer words none plain
