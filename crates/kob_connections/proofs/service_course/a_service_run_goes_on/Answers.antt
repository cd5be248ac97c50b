use Rattle.kob_connections.proofs.ServiceCourses as courses
use Rattle.kob_connections.proofs.service_course.a_service_run_goes_on.Goals as goal

pub returns : goal.returns
returns c = record {
  begins = courses.begins;
  ticks = courses.ticks;
  records = courses.records;
  sweeps = courses.sweeps;
  restarts = courses.restarts;
  joined = courses.joined;
}
