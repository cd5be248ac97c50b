-- Settings, as lines of `server.properties`.
use Rattle.std.specs.Prelude.{ℕ, Bool, true, false, not, ◌&&◌, ◌==◌, List, ◌++◌, codes, flat_map, nat_le, if◌then◌else◌}
use Rattle.std.specs.List.{list_all}
use Rattle.kob_names.specs.declared.settings.Settings.{Settings}
use Rattle.kob_words.specs.Words.{bytes_text}
use Rattle.kob_scene_export.specs.Plain.{comment_unless}

abbrev pub head_text : List ℕ
head_text =
    codes "# Put --bootstrap-server HOST:PORT after each command.\n"
    ++ codes "# A line that can't be used as it is is a comment; "
    ++ codes "its escapes are those of scripts.\n"

abbrev pub everyone_text : Bool → List ℕ
everyone_text true = codes "allow.everyone.if.no.acl.found=true\n"
everyone_text false = codes "allow.everyone.if.no.acl.found=false\n"

-- the authorizer that reads the two settings below, of a cluster without ZooKeeper
abbrev pub authorizer_text : List ℕ
authorizer_text =
    codes "authorizer.class.name=org.apache.kafka.metadata.authorizer.StandardAuthorizer\n"

-- a printable byte that neither ends a super user nor is an escape of properties
abbrev pub is_super_byte : ℕ → Bool
is_super_byte byte =
    nat_le 32 byte && nat_le byte 126 && not (byte == 59) && not (byte == 92)

abbrev pub are_written : List (List ℕ) → Bool
are_written supers = list_all (λ principal. list_all is_super_byte principal) supers

-- a super user, as it is or with the escapes of scripts; Kafka drops the empty name behind the
-- last `;`
abbrev pub super_text : Bool → List ℕ → List ℕ
super_text written principal = (if written then principal else bytes_text principal) ++ codes ";"

abbrev pub supers_text : List (List ℕ) → List ℕ
supers_text supers =
    comment_unless (are_written supers) ++ codes "super.users="
    ++ flat_map (super_text (are_written supers)) supers ++ codes "\n"

abbrev pub settings_text : Settings → List ℕ
settings_text settings =
    authorizer_text ++ supers_text settings.supers ++ everyone_text settings.everyone
