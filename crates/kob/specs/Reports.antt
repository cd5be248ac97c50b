-- What is reported on standard error, and how what is reported ends.
use Rattle.std.specs.Prelude.{ℕ, List, ◌++◌, Option, Some, None, codes}
use Rattle.std.specs.Fmt.{decimal}
use Rattle.kob.specs.declared.ending.Ending.{Ending}
use Rattle.kob.specs.declared.ending.Ending.TheVariants.{Whole, Differs, Failed}
use Rattle.kob.specs.declared.ending.Ending.TheVariants as ending
use Rattle.kob.specs.declared.report.Report.{Report}
use Rattle.kob.specs.declared.report.Report.TheVariants.{Skipped, LeftOut, NoCommands, BesideCommands, OtherSettings, NoTable, SeveralTables, NoLists, TooMany, OutOfMemory, NoHelp, File}
use Rattle.kob.specs.declared.report.FileReport.{FileReport}
use Rattle.kob.specs.declared.report.FileReport.TheVariants.{NoService, SeveralServices, UnknownService, Variant, Unmet, Unlike}

-- the line, without its end; of a report with two values or more behind its name nothing is said
abbrev pub file_text : FileReport → Option (List ℕ)
file_text (NoService name) =
    Some (codes "kob: " ++ name.now ++ codes ": no service, so no connector")
file_text (SeveralServices name) = Some (codes "kob: " ++ name.now
    ++ codes ": several services; --service NAME exports the one of that name")
file_text (UnknownService name service) = None
file_text (Variant name service words) = None
file_text (Unmet name count line) = None
file_text (Unlike name line form) = None

abbrev pub report_text : Report → Option (List ℕ)
report_text (Skipped count) =
    Some (codes "kob: skipped lines that hold no access rule: " ++ decimal count)
report_text (LeftOut count) =
    Some (codes "kob: bindings left out: " ++ decimal count ++ codes "; --skip answers without them")
report_text NoCommands =
    Some (codes "kob: --commands: bindings are left out, and no command does what they do")
report_text BesideCommands = Some (codes "kob: --commands: a question is asked beside it")
report_text OtherSettings =
    Some (codes "kob: --commands: super users or everyone differ; commands change bindings alone")
report_text (NoTable question) =
    Some (codes "kob: --csv: the answer is no table: " ++ question.now)
report_text SeveralTables =
    Some (codes "kob: --csv: prints one table: the answer to one question, or what changes")
report_text NoLists = Some (codes "kob: topic: two files are expected: kob topic ROWS RECORDS")
report_text TooMany = Some (codes "kob: more than 100,000 different bindings")
report_text (OutOfMemory name refused) = Some (codes "kob: " ++ name.now ++ codes ": out of memory")
report_text (NoHelp subject) =
    Some (codes "kob: no help on " ++ subject.now ++ codes "; kob help lists the subjects")
report_text (File report) = file_text report

abbrev pub ending_of_file : FileReport → Ending
ending_of_file (NoService name) = Failed
ending_of_file (SeveralServices name) = Failed
ending_of_file (UnknownService name service) = Failed
ending_of_file (Variant name service words) = Whole
ending_of_file (Unmet name count line) = Differs
ending_of_file (Unlike name line form) = Failed

abbrev pub ending_of_report : Report → Ending
ending_of_report (Skipped count) = Whole
ending_of_report OtherSettings = Whole
ending_of_report (File report) = ending_of_file report
ending_of_report (OutOfMemory name refused) = ending.OutOfMemory
ending_of_report (LeftOut count) = Failed
ending_of_report NoCommands = Failed
ending_of_report BesideCommands = Failed
ending_of_report (NoTable question) = Failed
ending_of_report SeveralTables = Failed
ending_of_report NoLists = Failed
ending_of_report TooMany = Failed
ending_of_report (NoHelp subject) = Failed
