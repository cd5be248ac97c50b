-- A history that fulfils what the laws of reserved names ask, of a producer and of a committer: a super user creates a
-- topic, and bindings by which one principal alone may write to it and another alone may read a group; each of the two
-- then does so.
use Rattle.kob_delivery.proofs.ExampleWords.{ActsAlone, Allow, Commits, CreateAcls, CreateTopics, Done, Draft, Entry, Group, IsLegal, IsReserved, IsTrue, List, Literal, NoSuperUser, None, OffsetCommit, Operation, Produce, Produces, Read, Reply, Request, ResourceKind, Retained, Settings, State, Topic, Write, [], and_parts, arith, bytes_eq-Decides, codes, covers, false, nat_tests, opened_by, or-false, reaches, refl, standing_after, suc, zero, ℕ, ◌&&◌, ◌∷◌, ◌≡◌}
use Rattle.kob_rights.specs.declared.reply.Body.TheVariants as bodies
use Rattle.kob_delivery.proofs.Example.{never}

abbrev pub admin : List ℕ
admin = codes "User:a"

abbrev pub writer : List ℕ
writer = codes "User:w"

abbrev pub reader : List ℕ
reader = codes "User:r"

abbrev pub topic : List ℕ
topic = codes "t"

abbrev pub group : List ℕ
group = codes "g"

abbrev pub settings : Settings
settings = record { supers = admin ∷ []; opening = []; everyone = false }

-- an allow from every host
abbrev pub allow : List ℕ → Operation → ResourceKind → List ℕ → Draft
allow principal operation resource name = record {
  permission = Allow;
  principal = principal;
  host = codes "*";
  operation = operation;
  resource = resource;
  pattern = record { kind = Literal; name = name };
}

abbrev bindings : List Draft
bindings = allow writer Write Topic topic ∷ allow reader Read Group group ∷ allow reader Read Topic topic ∷ []

abbrev pub entry : ℕ → List ℕ → Request → Reply → Entry
entry worker principal request reply = record {
  worker = worker;
  event = record { principal = principal; host = codes "h"; request = request };
  reply = reply;
}

-- workers 1 and 2 are the writer and the reader
abbrev pub journal : List Entry
journal =
    entry 0 admin (CreateTopics (record { name = topic; partitions = 1 })) (Done bodies.Created)
    ∷ entry 0 admin (CreateAcls (record { drafts = bindings })) (Done (bodies.Serials (1 ∷ 2 ∷ 3 ∷ [])))
    ∷ entry 1 writer
    (Produce (record {
      topic = topic;
      partition = 0;
      batch = record { idem = None; records = record { key = None; value = []; headers = [] } ∷ [] };
    }))
    (Done (bodies.Offset 0))
    ∷ entry 2 reader (OffsetCommit (record { group = group; topic = topic; partition = 0; offset = 1 }))
    (Done bodies.Committed)
    ∷ []

abbrev pub now : State Retained
now = standing_after settings journal

pub legal : IsLegal (opened_by settings) journal now
legal = record { replies = refl; state = refl }

-- the names are reserved

-- whom the first binding lets write is the writer
pub writes : (who host : List ℕ)
    → IsTrue (covers (allow writer Write Topic topic) who host && reaches Allow Write Write) → who ≡ writer
writes who host hit = grind (arith, nat_tests, and_parts, bytes_eq-Decides, or-false)

-- whom the second binding lets read the group is the reader
reads : (who host : List ℕ)
    → IsTrue (covers (allow reader Read Group group) who host && reaches Allow Read Read) → who ≡ reader
reads who host hit = grind (arith, nat_tests, and_parts, bytes_eq-Decides, or-false)

pub reserved_to_write : IsReserved settings journal writer Write Topic topic
reserved_to_write zero within = record { allowed = λ who host. tt; closed = λ who host. refl }
reserved_to_write (suc zero) within = record { allowed = λ who host. tt; closed = λ who host. refl }
reserved_to_write (suc (suc zero)) within = grind (arith, nat_tests, writes, never, and_parts)
reserved_to_write (suc (suc (suc zero))) within = grind (arith, nat_tests, writes, never, and_parts)
reserved_to_write (suc (suc (suc (suc k)))) within = absurd (omega (arith, within))

pub reserved_to_read : IsReserved settings journal reader Read Group group
reserved_to_read zero within = record { allowed = λ who host. tt; closed = λ who host. refl }
reserved_to_read (suc zero) within = record { allowed = λ who host. tt; closed = λ who host. refl }
reserved_to_read (suc (suc zero)) within = grind (arith, nat_tests, never, reads)
reserved_to_read (suc (suc (suc zero))) within = grind (arith, nat_tests, never, reads)
reserved_to_read (suc (suc (suc (suc k)))) within = absurd (omega (arith, within))

-- each of the two acts alone, and neither is a super user

pub writer_acts_alone : ActsAlone 1 writer journal
writer_acts_alone = grind (arith, nat_tests)

pub reader_acts_alone : ActsAlone 2 reader journal
reader_acts_alone = grind (arith, nat_tests)

pub no_super_writes : NoSuperUser settings.supers (Produces topic) journal
no_super_writes = (λ none. absurd none, (λ none. absurd none, (λ does. refl, (λ none. absurd none, tt))))

pub no_super_commits : NoSuperUser settings.supers (Commits group topic) journal
no_super_commits = (λ none. absurd none, (λ none. absurd none, (λ none. absurd none, (λ does. refl, tt))))
