use Rattle.kob_connections.proofs.ConsumerCourses as courses
use Rattle.kob_connections.proofs.consumer_course.a_consumer_run_goes_on.Goals as goal

pub returns : goal.returns
returns c = record {
  begins = courses.begins;
  ticks = courses.ticks;
  restarts = courses.restarts;
  joined = courses.joined;
}
