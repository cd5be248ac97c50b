-- The words of each command on topics, groups and partitions but `produce` are read as its request.
use Rattle.kob_scene_text.proofs.Words.{List, None, Ok, Option, Result, Some, Word, [], ap, append-nil, append_assoc, codes, refl, ℕ, ◌++◌, ◌>>=◌, ◌∙◌, ◌∷◌, ◌≡◌}
use Rattle.std.proofs.Common.{bytes_eq, decimal}
use Rattle.std.specs.Result.{result_err}
use Rattle.kob_rights.specs.declared.on_groups.OffsetCommit.{OffsetCommit}
use Rattle.kob_rights.specs.declared.on_groups.OffsetFetch.{OffsetFetch}
use Rattle.kob_rights.specs.declared.on_groups.DeleteGroups.{DeleteGroups}
use Rattle.kob_rights.specs.declared.on_partitions.Before.{Before}
use Rattle.kob_rights.specs.declared.on_partitions.Before.TheVariants as bounds
use Rattle.kob_rights.specs.declared.on_partitions.DeleteRecords.{DeleteRecords}
use Rattle.kob_rights.specs.declared.on_partitions.Fetch.{Fetch}
use Rattle.kob_rights.specs.declared.on_partitions.ListOffsets.{ListOffsets}
use Rattle.kob_rights.specs.declared.on_partitions.Which.{Which}
use Rattle.kob_rights.specs.declared.on_partitions.Which.TheVariants.{End, Start}
use Rattle.kob_rights.specs.declared.on_topics.CreateTopics.{CreateTopics}
use Rattle.kob_rights.specs.declared.on_topics.DeleteTopics.{DeleteTopics}
use Rattle.kob_rights.specs.declared.request.Request.TheVariants as ask
use Rattle.kob_scene_text.proofs.ReadBackEvents.{IsAsked}
use Rattle.kob_scene_text.proofs.ReadBackLine.{IsWord}
use Rattle.kob_scene_text.proofs.ReadBackWords.{name_is_word, number_is_word, number_read, number_word, no_dash, plain_is_word, plain_word, text_read, text_word}
use Rattle.kob_scene_text.specs.PrintedRequest.{before_text, which_text}
use Rattle.kob_words.specs.Words.{counted, spaced}
use Rattle.kob_scene_text.specs.Rereading.{IfGiven, IsBound, IsName, IsNumber}
use Rattle.kob_script.specs.CommandLines.{faults_in, request_of, row}
use Rattle.kob_script.specs.Words.{before_of, first_kind, number_of, text_of, which_of}
use Rattle.kob_script.specs.declared.command.Command.TheVariants as command
use Rattle.kob_script.specs.declared.fault.FaultKind.{FaultKind}
use Rattle.kob_words.proofs.Choices.{chosen_false}

abbrev pub AllNone : List (Option FaultKind) → Type 0
AllNone [] = Unit {0}
AllNone (fault ∷ faults) = (fault ≡ None) × AllNone faults

pub fine : (faults : List (Option FaultKind)) → AllNone faults → first_kind faults ≡ None
fine [] none = refl
fine (fault ∷ faults) none = rw (none.0, fine faults none.1) refl

pub no_fault : {A : Type 0} (read : Result A FaultKind) (x : A) → read ≡ Ok x → result_err read ≡ None
no_fault read x is = ap result_err is

pub name_read : (name : List ℕ) → IsName name → text_of (text_word name) ≡ Ok name
name_read name is = text_read (text_word name) is.utf8

-- commands without words

pub groups : IsAsked ask.ListGroups
unfolding request_of
groups = record {
  name = codes "groups";
  command = command.Groups;
  words = [];
  printed = refl;
  are = (plain_is_word (codes "groups") refl refl refl, tt);
  no_options = refl;
  named = refl;
  faultless = refl;
  asks = refl;
}

pub init_producer : IsAsked ask.InitProducerId
unfolding request_of
init_producer = record {
  name = codes "init-producer";
  command = command.InitProducer;
  words = [];
  printed = refl;
  are = (plain_is_word (codes "init-producer") refl refl refl, tt);
  no_options = refl;
  named = refl;
  faultless = refl;
  asks = refl;
}

-- Parts that are printed one after another are those of a line.

pub one_part : (c a : List ℕ) → c ++ a ≡ c ++ (a ++ [])
one_part c a = simp (append_assoc, append-nil)

pub two_parts : (c a b : List ℕ) → c ++ a ++ b ≡ c ++ (a ++ (b ++ []))
two_parts c a b = simp (append_assoc, append-nil)

pub three_parts : (c a b d : List ℕ) → c ++ a ++ b ++ d ≡ c ++ (a ++ (b ++ (d ++ [])))
three_parts c a b d = simp (append_assoc, append-nil)

pub three_behind : (c a b d : List ℕ) → c ++ (a ++ b ++ d) ≡ c ++ (a ++ (b ++ (d ++ [])))
three_behind c a b d = simp (append_assoc, append-nil)

pub four_parts : (c a b d e : List ℕ) → c ++ a ++ b ++ d ++ e ≡ c ++ (a ++ (b ++ (d ++ (e ++ []))))
four_parts c a b d e = simp (append_assoc, append-nil)

-- commands with names and numbers

pub delete_group : (d : DeleteGroups) → IsName d.group → IsAsked (ask.DeleteGroups d)
unfolding request_of
delete_group d group =
    let group_read = name_read d.group group in
    let words : List Word = text_word d.group ∷ [] in
    record {
      name = codes "delete-group";
      command = command.DeleteGroup;
      words = words;
      printed = one_part (codes " delete-group") (spaced d.group);
      are = (plain_is_word (codes "delete-group") refl refl refl, (name_is_word d.group group, tt));
      no_options = refl;
      named = refl;
      faultless = fine (faults_in (row command.DeleteGroup) words) (no_fault _ d.group group_read, tt);
      asks = rw (group_read) refl;
    }

pub delete_topic : (t : DeleteTopics) → IsName t.name → IsAsked (ask.DeleteTopics t)
unfolding request_of
delete_topic t name =
    let name_read = name_read t.name name in
    let words : List Word = text_word t.name ∷ [] in
    record {
      name = codes "delete-topic";
      command = command.DeleteTopic;
      words = words;
      printed = one_part (codes " delete-topic") (spaced t.name);
      are = (plain_is_word (codes "delete-topic") refl refl refl, (name_is_word t.name name, tt));
      no_options = refl;
      named = refl;
      faultless = fine (faults_in (row command.DeleteTopic) words) (no_fault _ t.name name_read, tt);
      asks = rw (name_read) refl;
    }

pub create_topic : (t : CreateTopics) → IsName t.name → IsNumber t.partitions → IsAsked (ask.CreateTopics t)
unfolding request_of
create_topic t name partitions =
    let name_read = name_read t.name name in
    let partitions_read = number_read t.partitions partitions in
    let words : List Word = text_word t.name ∷ number_word t.partitions ∷ [] in
    record {
      name = codes "create-topic";
      command = command.CreateTopic;
      words = words;
      printed = two_parts (codes " create-topic") (spaced t.name) (counted t.partitions);
      are = (plain_is_word (codes "create-topic") refl refl refl, (name_is_word t.name name, (number_is_word t.partitions partitions, tt)));
      no_options = refl;
      named = refl;
      faultless = fine (faults_in (row command.CreateTopic) words) (no_fault _ t.name name_read, (no_fault _ t.partitions partitions_read, tt));
      asks = rw (name_read, partitions_read) refl;
    }

pub fetch : (f : Fetch) → IsName f.topic → IsNumber f.partition → IsNumber f.offset → IsNumber f.max → IsAsked (ask.Fetch f)
unfolding request_of
fetch f topic partition offset max =
    let topic_read = name_read f.topic topic in
    let partition_read = number_read f.partition partition in
    let offset_read = number_read f.offset offset in
    let max_read = number_read f.max max in
    let words : List Word = text_word f.topic ∷ number_word f.partition ∷ number_word f.offset ∷ number_word f.max ∷ [] in
    record {
      name = codes "fetch";
      command = command.Fetch;
      words = words;
      printed = four_parts (codes " fetch") (spaced f.topic) (counted f.partition) (counted f.offset) (counted f.max);
      are = (plain_is_word (codes "fetch") refl refl refl, (name_is_word f.topic topic, (number_is_word f.partition partition, (number_is_word f.offset offset, (number_is_word f.max max, tt)))));
      no_options = refl;
      named = refl;
      faultless = fine (faults_in (row command.Fetch) words) (no_fault _ f.topic topic_read, (no_fault _ f.partition partition_read, (no_fault _ f.offset offset_read, (no_fault _ f.max max_read, tt))));
      asks = rw (topic_read, partition_read, offset_read, max_read) refl;
    }

pub commit : (c : OffsetCommit) → IsName c.group → IsName c.topic → IsNumber c.partition → IsNumber c.offset → IsAsked (ask.OffsetCommit c)
unfolding request_of
commit c group topic partition offset =
    let group_read = name_read c.group group in
    let topic_read = name_read c.topic topic in
    let partition_read = number_read c.partition partition in
    let offset_read = number_read c.offset offset in
    let words : List Word = text_word c.group ∷ text_word c.topic ∷ number_word c.partition ∷ number_word c.offset ∷ [] in
    record {
      name = codes "commit";
      command = command.Commit;
      words = words;
      printed = four_parts (codes " commit") (spaced c.group) (spaced c.topic) (counted c.partition) (counted c.offset);
      are = (plain_is_word (codes "commit") refl refl refl, (name_is_word c.group group, (name_is_word c.topic topic, (number_is_word c.partition partition, (number_is_word c.offset offset, tt)))));
      no_options = refl;
      named = refl;
      faultless = fine (faults_in (row command.Commit) words) (no_fault _ c.group group_read, (no_fault _ c.topic topic_read, (no_fault _ c.partition partition_read, (no_fault _ c.offset offset_read, tt))));
      asks = rw (group_read, topic_read, partition_read, offset_read) refl;
    }

pub committed : (c : OffsetFetch) → IsName c.group → IsName c.topic → IsNumber c.partition → IsAsked (ask.OffsetFetch c)
unfolding request_of
committed c group topic partition =
    let group_read = name_read c.group group in
    let topic_read = name_read c.topic topic in
    let partition_read = number_read c.partition partition in
    let words : List Word = text_word c.group ∷ text_word c.topic ∷ number_word c.partition ∷ [] in
    record {
      name = codes "committed";
      command = command.Committed;
      words = words;
      printed = three_parts (codes " committed") (spaced c.group) (spaced c.topic) (counted c.partition);
      are = (plain_is_word (codes "committed") refl refl refl, (name_is_word c.group group, (name_is_word c.topic topic, (number_is_word c.partition partition, tt))));
      no_options = refl;
      named = refl;
      faultless = fine (faults_in (row command.Committed) words) (no_fault _ c.group group_read, (no_fault _ c.topic topic_read, (no_fault _ c.partition partition_read, tt)));
      asks = rw (group_read, topic_read, partition_read) refl;
    }

-- the topic of `metadata` may be left out
pub metadata : (topic : Option (List ℕ)) → IfGiven IsName topic → IsAsked (ask.Metadata (record { topic = topic }))
unfolding request_of
metadata None given = record {
  name = codes "metadata";
  command = command.Metadata;
  words = [];
  printed = refl;
  are = (plain_is_word (codes "metadata") refl refl refl, tt);
  no_options = refl;
  named = refl;
  faultless = refl;
  asks = refl;
}
metadata (Some name) given =
    let is = name_read name given in
    let words : List Word = text_word name ∷ [] in
    record {
      name = codes "metadata";
      command = command.Metadata;
      words = words;
      printed = one_part (codes " metadata") (spaced name);
      are = (plain_is_word (codes "metadata") refl refl refl, (name_is_word name given, tt));
      no_options = refl;
      named = refl;
      faultless = fine (faults_in (row command.Metadata) words) (no_fault _ name is, tt);
      asks = rw is refl;
    }

-- the start or the end of a partition

abbrev which_word : Which → Word
which_word Start = plain_word (codes "-2")
which_word End = plain_word (codes "-1")

which_printed : (which : Which) → which_text which ≡ codes " " ++ (which_word which).raw
which_printed Start = refl
which_printed End = refl

which_is_word : (which : Which) → IsWord (which_word which)
which_is_word Start = plain_is_word (codes "-2") refl refl refl
which_is_word End = plain_is_word (codes "-1") refl refl refl

which_read : (which : Which) → which_of (which_word which) ≡ Ok which
which_read Start = refl
which_read End = refl

pub list_offsets : (o : ListOffsets) → IsName o.topic → IsNumber o.partition → IsAsked (ask.ListOffsets o)
unfolding request_of
list_offsets o topic partition =
    let topic_read = name_read o.topic topic in
    let partition_read = number_read o.partition partition in
    let end_read = which_read o.which in
    let words : List Word = text_word o.topic ∷ number_word o.partition ∷ which_word o.which ∷ [] in
    record {
      name = codes "list-offsets";
      command = command.ListOffsets;
      words = words;
      printed = three_behind (codes " list-offsets") (spaced o.topic) (counted o.partition) (which_text o.which)
          ∙ ap (λ last. codes " list-offsets" ++ (spaced o.topic ++ (counted o.partition ++ (last ++ [])))) (which_printed o.which);
      are = (plain_is_word (codes "list-offsets") refl refl refl, (name_is_word o.topic topic, (number_is_word o.partition partition, (which_is_word o.which, tt))));
      no_options = refl;
      named = refl;
      faultless = fine (faults_in (row command.ListOffsets) words) (no_fault _ o.topic topic_read, (no_fault _ o.partition partition_read, (no_fault _ o.which end_read, tt)));
      asks = rw (topic_read, partition_read, end_read) refl;
    }

-- an offset, or the end

abbrev before_word : Before → Word
before_word (bounds.Offset offset) = number_word offset
before_word bounds.End = plain_word (codes "-1")

before_printed : (before : Before) → before_text before ≡ codes " " ++ (before_word before).raw
before_printed (bounds.Offset offset) = refl
before_printed bounds.End = refl

before_is_word : (before : Before) → IsBound before → IsWord (before_word before)
before_is_word (bounds.Offset offset) is = number_is_word offset is
before_is_word bounds.End is = plain_is_word (codes "-1") refl refl refl

before_read : (before : Before) → IsBound before → before_of (before_word before) ≡ Ok before
before_read (bounds.Offset offset) is =
    chosen_false (bytes_eq (decimal offset) (codes "-1")) (Ok bounds.End) (number_of (number_word offset) >>= λ n. Ok (bounds.Offset n))
    (no_dash offset (codes "1") is)
    ∙ ap (λ (read : Result ℕ FaultKind). read >>= λ n. Ok (bounds.Offset n)) (number_read offset is)
before_read bounds.End is = refl

pub delete_records : (r : DeleteRecords) → IsName r.topic → IsNumber r.partition → IsBound r.before → IsAsked (ask.DeleteRecords r)
unfolding request_of
delete_records r topic partition bound =
    let topic_read = name_read r.topic topic in
    let partition_read = number_read r.partition partition in
    let end_read = before_read r.before bound in
    let words : List Word = text_word r.topic ∷ number_word r.partition ∷ before_word r.before ∷ [] in
    record {
      name = codes "delete-records";
      command = command.DeleteRecords;
      words = words;
      printed = three_behind (codes " delete-records") (spaced r.topic) (counted r.partition) (before_text r.before)
          ∙ ap (λ last. codes " delete-records" ++ (spaced r.topic ++ (counted r.partition ++ (last ++ [])))) (before_printed r.before);
      are = (plain_is_word (codes "delete-records") refl refl refl, (name_is_word r.topic topic, (number_is_word r.partition partition, (before_is_word r.before bound, tt))));
      no_options = refl;
      named = refl;
      faultless = fine (faults_in (row command.DeleteRecords) words) (no_fault _ r.topic topic_read, (no_fault _ r.partition partition_read, (no_fault _ r.before end_read, tt)));
      asks = rw (topic_read, partition_read, end_read) refl;
    }
