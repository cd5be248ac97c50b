-- The columns of each answer, by the names that documentation gives them.
use Rattle.std.specs.Prelude.{ℕ, Bool, true, false, List, [], ◌∷◌, codes}
use Rattle.kob_policy_rows.specs.declared.columns.Column.{Column}
use Rattle.kob_policy_rows.specs.declared.columns.Column.TheVariants as column
use Rattle.kob_policy_text.specs.declared.question.Question.{Question}
use Rattle.kob_policy_text.specs.declared.question.Question.TheVariants.{May, Expect, Who, WhoConsumes, WhoBelow, Rights, Sees, Summary, Unused, Shadowed, Removable}

abbrev pub column_name : Column → List ℕ
column_name column.Accesses = codes "accesses"
column_name column.Allowed = codes "allowed"
column_name column.Answer = codes "answer"
column_name column.Binding = codes "binding"
column_name column.Bindings = codes "bindings"
column_name column.By = codes "by"
column_name column.Change = codes "change"
column_name column.Clause = codes "clause"
column_name column.Deny = codes "deny"
column_name column.Expected = codes "expected"
column_name column.Fault = codes "fault"
column_name column.File = codes "file"
column_name column.Groups = codes "groups"
column_name column.Host = codes "host"
column_name column.Hosts = codes "hosts"
column_name column.Kind = codes "kind"
column_name column.LeftOut = codes "left_out"
column_name column.Line = codes "line"
column_name column.LogLine = codes "log_line"
column_name column.Name = codes "name"
column_name column.Named = codes "named"
column_name column.On = codes "on"
column_name column.Operation = codes "operation"
column_name column.Otherwise = codes "decided_otherwise"
column_name column.Pattern = codes "pattern"
column_name column.Permission = codes "permission"
column_name column.Prefix = codes "prefix"
column_name column.Principal = codes "principal"
column_name column.Principals = codes "principals"
column_name column.Reason = codes "reason"
column_name column.Resource = codes "resource"
column_name column.Shadowed = codes "shadowed"
column_name column.SkippedLines = codes "skipped_lines"
column_name column.SuperUsers = codes "super_users"
column_name column.Taken = codes "taken"
column_name column.Topic = codes "topic"
column_name column.Topics = codes "topics"
column_name column.TransactionalIds = codes "transactional_ids"
column_name column.Unused = codes "unused"
column_name column.What = codes "what"

-- a right that `may` needs, and what is decided on it
abbrev pub check_columns : List Column
check_columns =
    column.Clause ∷ column.Operation ∷ column.Resource ∷ column.Name ∷ column.Answer
    ∷ column.Reason ∷ column.Binding ∷ column.File ∷ column.Line ∷ column.Taken ∷ []

-- who is granted a right, and by which binding
abbrev pub grant_columns : List Column
grant_columns =
    column.Operation ∷ column.Resource ∷ column.Name ∷ column.Principal ∷ column.Host
    ∷ column.Answer ∷ column.Reason ∷ column.Binding ∷ column.File ∷ column.Line ∷ []

-- who is granted a right on the names that begin with a prefix
abbrev pub reach_columns : List Column
reach_columns =
    column.Operation ∷ column.Resource ∷ column.Prefix ∷ column.Principal ∷ column.Host
    ∷ column.On ∷ []

-- what a principal may do
abbrev pub holding_columns : List Column
holding_columns =
    column.Principal ∷ column.Host ∷ column.Operation ∷ column.Resource ∷ column.Pattern
    ∷ column.Name ∷ column.By ∷ []

-- a binding, and where it stands
abbrev pub binding_columns : List Column
binding_columns =
    column.Binding ∷ column.Permission ∷ column.Principal ∷ column.Host ∷ column.Operation
    ∷ column.Resource ∷ column.Pattern ∷ column.Name ∷ column.File ∷ column.Line ∷ []

-- and why no answer needs it
abbrev pub unused_columns : List Column
unused_columns =
    column.Binding ∷ column.Permission ∷ column.Principal ∷ column.Host ∷ column.Operation
    ∷ column.Resource ∷ column.Pattern ∷ column.Name ∷ column.File ∷ column.Line
    ∷ column.Reason ∷ column.By ∷ []

-- an access that a broker recorded, and what is decided on it
abbrev pub access_columns : List Column
access_columns =
    column.LogLine ∷ column.Principal ∷ column.Host ∷ column.Operation ∷ column.Resource
    ∷ column.Name ∷ column.Allowed ∷ column.Answer ∷ column.Reason ∷ column.Binding
    ∷ column.File ∷ column.Line ∷ []

-- how many there are of each
abbrev pub summary_columns : List Column
summary_columns =
    column.Bindings ∷ column.SuperUsers ∷ column.Principals ∷ column.Hosts ∷ column.Topics
    ∷ column.Groups ∷ column.TransactionalIds ∷ column.LeftOut ∷ column.SkippedLines
    ∷ column.Unused ∷ column.Shadowed ∷ []

-- what changes from one policy to another
abbrev pub change_columns : List Column
change_columns =
    column.Kind ∷ column.Principal ∷ column.Host ∷ column.Operation ∷ column.Resource
    ∷ column.Pattern ∷ column.Name ∷ column.Change ∷ []

-- what is left out
abbrev pub omission_columns : List Column
omission_columns =
    column.Kind ∷ column.File ∷ column.Line ∷ column.What ∷ column.Deny ∷ []

-- what is wrong with a text
abbrev pub fault_columns : List Column
fault_columns = column.Kind ∷ column.File ∷ column.Line ∷ column.Fault ∷ []

abbrev pub columns_of : Question → List Column
columns_of (May access) = check_columns
columns_of (Expect expected access) = check_columns
columns_of (Who right host) = grant_columns
columns_of (WhoConsumes topic group) = grant_columns
columns_of (WhoBelow right) = reach_columns
columns_of (Rights principal host) = holding_columns
columns_of (Sees asker) = column.Topic ∷ []
columns_of Summary = summary_columns
columns_of Unused = unused_columns
columns_of Shadowed = binding_columns
columns_of Removable = binding_columns

-- the kind of a question, by the word for it
abbrev pub kind_of : Question → List ℕ
kind_of (May access) = codes "may"
kind_of (Expect expected access) = codes "expect"
kind_of (Who right host) = codes "who"
kind_of (WhoConsumes topic group) = codes "who"
kind_of (WhoBelow right) = codes "who-prefix"
kind_of (Rights principal host) = codes "rights"
kind_of (Sees asker) = codes "sees"
kind_of Summary = codes "summary"
kind_of Unused = codes "unused"
kind_of Shadowed = codes "shadowed"
kind_of Removable = codes "removable"

-- its answer is a table; that to `may` is yes or no
abbrev pub is_table : Question → Bool
is_table (May access) = false
is_table (Expect expected access) = false
is_table (Who right host) = true
is_table (WhoConsumes topic group) = true
is_table (WhoBelow right) = true
is_table (Rights principal host) = true
is_table (Sees asker) = true
is_table Summary = true
is_table Unused = true
is_table Shadowed = true
is_table Removable = true
