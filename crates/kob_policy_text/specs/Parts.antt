-- The parts of a line that is printed.
use Rattle.std.specs.Prelude.{ℕ, List}
use Rattle.std.specs.Fmt.{decimal}
use Rattle.std.specs.Option.{option_copied}
use Rattle.kob_policy_text.specs.Answers.{answer_text, origin_behind}
use Rattle.kob_policy_text.specs.Parties.{names_text, party_text}
use Rattle.kob_policy_text.specs.Quoted.{name_text}
use Rattle.kob_policy_text.specs.declared.parts.Part.{Part}
use Rattle.kob_policy_text.specs.declared.parts.Part.TheVariants.{Words, Name, Number, Party, Names, Answer, Origin}

abbrev pub part_text : Part → List ℕ
part_text (Words text) = text.now
part_text (Name name) = name_text name.now
part_text (Number number) = decimal number
part_text (Party all party) = party_text all.now party.now
part_text (Names names) = names_text names.now
part_text (Answer verdict) = answer_text verdict
part_text (Origin origin) = origin_behind (option_copied origin)
