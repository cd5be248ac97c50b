-- Which texts are names of topics, names of groups, hosts and principals. Limits are in bytes.
use Rattle.std.specs.Prelude.{Bool, not, ◌||◌, List, ℕ, ◌==◌, ◌≡◌, nat_lt, if◌then◌else◌, Option, Some, None, Result, Ok, Err, is_none, length, codes, alloc_error}
use Rattle.std.specs.Char.{is_ascii_alphanumeric}
use Rattle.std.specs.List.{position, before_first, after_first}
use Rattle.std.specs.Option.{option_map}
use Rattle.std.specs.declared.alloc.AllocError.{AllocError}
use Rattle.kob_names.specs.Same.{same_text}
use Rattle.kob_names.specs.declared.group_name.GroupNameFault.{GroupNameFault}
use Rattle.kob_names.specs.declared.group_name.GroupNameFault.TheVariants as group
use Rattle.kob_names.specs.declared.host.HostFault.{HostFault}
use Rattle.kob_names.specs.declared.host.HostFault.TheVariants as host
use Rattle.kob_names.specs.declared.principal.PrincipalFault.{PrincipalFault}
use Rattle.kob_names.specs.declared.principal.PrincipalFault.TheVariants.{NoColon, NotUser, Empty, TooLong}
use Rattle.kob_names.specs.declared.topic_name.TopicNameFault.{TopicNameFault}
use Rattle.kob_names.specs.declared.topic_name.TopicNameFault.TheVariants as topic

-- of a group name, a pattern name, a host, and the name in a principal
abbrev pub name_limit : ℕ
name_limit = 255

-- of a topic name, as in Kafka
abbrev pub topic_name_limit : ℕ
topic_name_limit = 249

-- of a text that is held in place
abbrev pub short_text_limit : ℕ
short_text_limit = 30

-- a letter, a digit, a dot, an underscore or a dash
abbrev pub is_topic_byte : ℕ → Bool
is_topic_byte byte = is_ascii_alphanumeric byte || byte == 46 || byte == 95 || byte == 45

-- the first rule for names of topics that a text breaks
abbrev pub topic_fault : List ℕ → Option TopicNameFault
topic_fault text =
    if length text == 0 then Some topic.Empty
    else (if same_text text (codes ".") || same_text text (codes "..") then Some topic.Dots
    else (if nat_lt topic_name_limit (length text) then Some topic.TooLong
    else (option_map (λ place. topic.BadByte place)
    (position (λ byte. not (is_topic_byte byte)) text))))

-- the first rule for names of groups that a text breaks
abbrev pub group_fault : List ℕ → Option GroupNameFault
group_fault text =
    if length text == 0 then Some group.Empty
    else (if nat_lt name_limit (length text) then Some group.TooLong
    else None)

-- the first rule for hosts that a text breaks
abbrev pub host_fault : List ℕ → Option HostFault
host_fault text =
    if length text == 0 then Some host.Empty
    else (if nat_lt name_limit (length text) then Some host.TooLong
    else None)

abbrev pub is_colon : ℕ → Bool
is_colon byte = byte == 58

-- what the text before the first colon, which is the kind, and the name after it break
abbrev pub parts_fault : List ℕ → List ℕ → Option PrincipalFault
parts_fault kind name =
    if not (same_text kind (codes "User")) then Some NotUser
    else (if length name == 0 then Some Empty
    else (if nat_lt name_limit (length name) then Some TooLong
    else None))

-- the first rule for principals that a text breaks
abbrev pub principal_fault : List ℕ → Option PrincipalFault
principal_fault text =
    if is_none (position is_colon text) then Some NoColon
    else (parts_fault (before_first is_colon text) (after_first is_colon text))

-- a check returns the fault that the rules find; without one, the value, or out of memory alone
abbrev pub OkUnlessFault : {A E : Type 0} → Option E → (AllocError → E) → A → Result A E → Type 0
OkUnlessFault (Some fault) memory value result = result ≡ Err fault
OkUnlessFault None memory value (Ok made) = made ≡ value
OkUnlessFault None memory value (Err fault) = fault ≡ memory alloc_error
