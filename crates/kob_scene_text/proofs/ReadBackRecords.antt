-- The words of records are read as the records: each is cut at `=`, which no printed bytes have.
use Rattle.kob_scene_text.proofs.Words.{Bool, List, None, Option, Some, Word, [], ap, append_assoc, arith, codes, false, flat_map, length, map, nat_tests, refl, sym, true, ℕ, ◌++◌, ◌==◌, ◌∙◌, ◌∷◌, ◌≡◌, nat_lt}
use Rattle.std.proofs.Common.{inl, inr, is_some, not, unwrap_or, ◌%◌, ◌/◌, ◌<◌, ◌⊎◌}
use Rattle.std.proofs.lemmas.List.{length-append}
use Rattle.std.proofs.lemmas.List.Folds.{list_all-append}
use Rattle.std.proofs.lemmas.Str.{digit_value-digit_char}
use Rattle.std.specs.Char.{digit_char}
use Rattle.std.specs.List.{AllByRecursion, list_all}
use Rattle.kob_names.specs.declared.record.Record.{Record}
use Rattle.kob_rights.specs.declared.on_partitions.Produce.{Produce}
use Rattle.kob_rights.specs.declared.request.Request.TheVariants as ask
use Rattle.kob_scene_text.proofs.ReadBackCommands.{fine, name_read, no_fault}
use Rattle.kob_scene_text.proofs.ReadBackEvents.{IsAsked}
use Rattle.kob_scene_text.proofs.ReadBackLine.{AreWords, IsWord, line_of, no_blank}
use Rattle.kob_scene_text.proofs.ReadBackProduce.{Lacks, cut_found, cut_none, idem_is_word, idem_printed, idem_read, idem_word}
use Rattle.kob_scene_text.proofs.ReadBackWords.{and_true, bytes_letters, bytes_some, name_is_word, number_is_word, number_read, number_word, plain_is_word, text_word}
use Rattle.kob_scene_text.specs.PrintedRequest.{idem_text, record_text}
use Rattle.kob_scene_text.specs.Rereading.{AreBytes, IfGiven, IsIdem, IsName, IsNumber, IsRecord}
use Rattle.kob_script.specs.CommandLines.{faults_in, request_of, row}
use Rattle.kob_script.specs.Printed.{key_text}
use Rattle.kob_script.specs.Words.{cut_at, record_in, record_of}
use Rattle.kob_script.specs.declared.command.Command.TheVariants as command
use Rattle.kob_words.proofs.Choices.{both}
use Rattle.kob_words.proofs.ReadBack.{bytes_read_back}
use Rattle.kob_words.specs.Words.{byte_text, bytes_of, bytes_text, hexadecimal, is_plain, unescaped, unescaped_from, counted, spaced}

-- no printed bytes have `=`

digit_other : (digit : ℕ) → not (digit_char digit == 61) ≡ true
digit_other digit = grind (arith, nat_tests)

byte_lacks : (byte : ℕ) → Lacks 61 (byte_text byte)
byte_lacks byte = by (is_plain byte) refl
  where
    by : (plain : Bool) → is_plain byte ≡ plain → Lacks 61 (byte_text byte)
    by true is = rw is (grind (arith, nat_tests))
    by false is = rw is (rw (digit_other (byte / 16), digit_other (byte % 16)) refl)

bytes_lack : (bytes : List ℕ) → Lacks 61 (bytes_text bytes)
bytes_lack [] = refl
bytes_lack (byte ∷ bytes) =
    list_all-append (λ other. not (other == 61)) (byte_text byte) (bytes_text bytes)
    ∙ and_true _ _ (byte_lacks byte) (bytes_lack bytes)

-- bytes that are printed before others are read before them

digits_write : (byte : ℕ) → byte < 256 → hexadecimal (digit_char (byte / 16)) (digit_char (byte % 16)) ≡ Some byte
digits_write byte small =
    rw (digit_value-digit_char (byte / 16) (omega arith), digit_value-digit_char (byte % 16) (omega arith)) (grind (arith, nat_tests))

escape_read : (high low byte : ℕ) (text rest : List ℕ) → hexadecimal high low ≡ Some byte → unescaped text ≡ Some rest
    → unescaped (37 ∷ high ∷ low ∷ text) ≡ Some (byte ∷ rest)
unfolding unescaped_from
escape_read high low byte text rest digits read = grind (arith, nat_tests)

plain_read : (byte : ℕ) (text rest : List ℕ) → (byte == 37) ≡ false → unescaped text ≡ Some rest
    → unescaped (byte ∷ text) ≡ Some (byte ∷ rest)
unfolding unescaped_from
plain_read byte text rest other read = rw (other, read) refl

no_percent : (byte : ℕ) → is_plain byte ≡ true → (byte == 37) ≡ false
no_percent byte plain = grind (arith, nat_tests)

front_read : (bytes more rest : List ℕ) → AreBytes bytes → unescaped more ≡ Some rest
    → unescaped (bytes_text bytes ++ more) ≡ Some (bytes ++ rest)
front_read [] more rest small read = read
front_read (byte ∷ bytes) more rest small read =
    let (here, others) = both (nat_lt byte 256) (list_all (λ b. nat_lt b 256) bytes) small in
    ap unescaped (append_assoc (byte_text byte) (bytes_text bytes) more)
    ∙ by (is_plain byte) refl (front_read bytes more rest others read) (digits_write byte (grind (arith, nat_tests)))
  where
    by : (plain : Bool) → is_plain byte ≡ plain → unescaped (bytes_text bytes ++ more) ≡ Some (bytes ++ rest)
        → hexadecimal (digit_char (byte / 16)) (digit_char (byte % 16)) ≡ Some byte
        → unescaped (byte_text byte ++ (bytes_text bytes ++ more)) ≡ Some (byte ∷ (bytes ++ rest))
    by true is read digits = rw is (plain_read byte (bytes_text bytes ++ more) (bytes ++ rest) (no_percent byte is) read)
    by false is read digits =
        rw is (escape_read (digit_char (byte / 16)) (digit_char (byte % 16)) byte (bytes_text bytes ++ more) (bytes ++ rest) digits read)

-- one record

abbrev with_key : Option (List ℕ) → List ℕ → List ℕ
with_key None value = value
with_key (Some key) value = key ++ 61 ∷ value

abbrev record_word : Record → Word
record_word message = record {
  raw = key_text message.key ++ bytes_text message.value;
  decoded = with_key message.key message.value;
}

raw_stands : (key : Option (List ℕ)) (value : List ℕ) → IfGiven AreBytes key → AreBytes value
    → unescaped (key_text key ++ bytes_text value) ≡ Some (with_key key value)
raw_stands None value is bytes = bytes_read_back value bytes
raw_stands (Some key) value is bytes =
    ap unescaped (append_assoc (bytes_text key) (codes "=") (bytes_text value))
    ∙ front_read key (61 ∷ bytes_text value) (61 ∷ value) is (plain_read 61 (bytes_text value) value refl (bytes_read_back value bytes))

raw_letters : (key : Option (List ℕ)) (value : List ℕ) → list_all no_blank (key_text key ++ bytes_text value) ≡ true
raw_letters None value = bytes_letters value
raw_letters (Some key) value =
    ap (list_all no_blank) (append_assoc (bytes_text key) (codes "=") (bytes_text value))
    ∙ list_all-append no_blank (bytes_text key) (61 ∷ bytes_text value) ∙ and_true _ _ (bytes_letters key) (bytes_letters value)

raw_some : (key : Option (List ℕ)) (value : List ℕ) → (is_some key ≡ true) ⊎ (0 < length value)
    → 0 < length (key_text key ++ bytes_text value)
raw_some None value (inl is) = absurd cc
raw_some None value (inr some) = bytes_some value some
raw_some (Some key) value some =
    omega (arith, length-append (bytes_text key ++ codes "=") (bytes_text value), length-append (bytes_text key) (codes "="))

record_is_word : (message : Record) → IsRecord message → IsWord (record_word message)
record_is_word message is = record {
  some = raw_some message.key message.value is.some;
  whole = raw_letters message.key message.value;
  stands = raw_stands message.key message.value is.key is.value;
}

bytes_back : (bytes : List ℕ) → AreBytes bytes → bytes_of (bytes_text bytes) ≡ bytes
bytes_back bytes are = ap (λ (read : Option (List ℕ)). unwrap_or read (bytes_text bytes)) (bytes_read_back bytes are)

record_by : (key : Option (List ℕ)) (value : List ℕ) → IfGiven AreBytes key → AreBytes value
    → record_of (record_word (record { key = key; value = value; headers = [] })) ≡ record { key = key; value = value; headers = [] }
unfolding record_of
record_by None value is bytes =
    ap (λ cut. record_in cut (record_word (record { key = None; value = value; headers = [] }))) (cut_none 61 (bytes_text value) (bytes_lack value))
record_by (Some key) value is bytes =
    let word : Word = record_word (record { key = Some key; value = value; headers = [] }) in
    ap (λ raw. record_in (cut_at 61 raw) word) (append_assoc (bytes_text key) (codes "=") (bytes_text value))
    ∙ ap (λ cut. record_in cut word) (cut_found 61 (bytes_text key) (bytes_text value) (bytes_lack key))
    ∙ ap (λ read. record { key = Some read; value = bytes_of (bytes_text value); headers = [] }) (bytes_back key is)
    ∙ ap (λ read. record { key = Some key; value = read; headers = [] }) (bytes_back value bytes)

record_read : (message : Record) → IsRecord message → record_of (record_word message) ≡ message
record_read message is =
    record_by message.key message.value is.key is.value
    ∙ ap (λ headers. record { key = message.key; value = message.value; headers = headers }) (sym is.bare)

-- all of them

records_are : (records : List Record) → AllByRecursion IsRecord records → AreWords (map record_word records)
records_are [] all = tt
records_are (message ∷ records) all = (record_is_word message all.0, records_are records all.1)

records_read : (records : List Record) → AllByRecursion IsRecord records → map record_of (map record_word records) ≡ records
records_read [] all = refl
records_read (message ∷ records) all =
    ap (λ first. first ∷ map record_of (map record_word records)) (record_read message all.0)
    ∙ ap (λ others. message ∷ others) (records_read records all.1)

records_printed : (records : List Record) → flat_map record_text records ≡ line_of (map record_word records)
records_printed [] = refl
records_printed (message ∷ records) = ap (λ others. record_text message ++ others) (records_printed records)

four_behind : (c a b d e : List ℕ) → c ++ a ++ b ++ d ++ e ≡ c ++ (a ++ (b ++ (d ++ e)))
four_behind c a b d e = simp append_assoc

pub produce : (p : Produce) → IsName p.topic → IsNumber p.partition → IfGiven IsIdem p.batch.idem
    → AllByRecursion IsRecord p.batch.records → IsAsked (ask.Produce p)
unfolding request_of
produce p topic partition idem records =
    let topic_read = name_read p.topic topic in
    let partition_read = number_read p.partition partition in
    let producer_read = idem_read p.batch.idem idem in
    let all_read = records_read p.batch.records records in
    let words : List Word = text_word p.topic ∷ number_word p.partition ∷ idem_word p.batch.idem ∷ map record_word p.batch.records in
    record {
      name = codes "produce";
      command = command.Produce;
      words = words;
      printed = four_behind (codes " produce") (spaced p.topic) (counted p.partition) (idem_text p.batch.idem) (flat_map record_text p.batch.records)
          ∙ ap (λ producer. codes " produce" ++ (spaced p.topic ++ (counted p.partition ++ (producer ++ flat_map record_text p.batch.records)))) (idem_printed p.batch.idem)
          ∙ ap (λ others. codes " produce" ++ (spaced p.topic ++ (counted p.partition ++ (codes " " ++ (idem_word p.batch.idem).raw ++ others)))) (records_printed p.batch.records);
      are = (
        plain_is_word (codes "produce") refl refl refl,
        (name_is_word p.topic topic, (number_is_word p.partition partition, (idem_is_word p.batch.idem idem, records_are p.batch.records records))),
      );
      no_options = refl;
      named = refl;
      faultless = fine (faults_in (row command.Produce) words) (no_fault _ p.topic topic_read, (no_fault _ p.partition partition_read, (no_fault _ p.batch.idem producer_read, tt)));
      asks = rw (topic_read, partition_read, producer_read, all_read) refl;
    }
