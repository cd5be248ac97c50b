-- What a journal and the calls of two lines say of an inbox.
use Rattle.kob_endpoints.proofs.Words.{ArePrivate, AreServed, Call, Entry, Event, HasRun, ReachesReader, IsReaderRun, IsSenderRun, List, Place, ReachesInOrder, ReaderLeft, ServiceLeft, Subscription, arith, holds_a_prefix, nat_tests, served_to, state_of, subst, sym, ℕ, ◌≡◌}
use Rattle.kob_endpoints.specs.Running.{HasPremises, IsUnserved}
use Rattle.kob_delivery.specs.View.{IsBreach, IsHistory, View, opening_view}
use Rattle.std.proofs.Common.{Bool, IsTrue, true}
use Rattle.kob_delivery.specs.declared.premises.Breach.{Breach}
use Rattle.kob_router.specs.Tick as router

pub delivered : (journal : List Entry) (view : View) (s : ServiceLeft) (r : ReaderLeft)
    → IsHistory opening_view journal view
    → HasPremises s r journal → HasRun s.relayed s.calls → IsReaderRun r.fetcher r.inbox r.calls → ReachesReader s r
delivered journal view s r history premises ran read = record {
  recorded = ran;
  reaches = λ (rows : List Event) (kind id : List ℕ) (one : IsSenderRun s.relayed s.calls rows).
      subst (λ (all : List Event). ReachesInOrder all r.inbox kind id) (sym one.recorded)
      (holds_a_prefix s.relayed.router.target r.fetcher.subscription s.worker r.worker journal view
      one.moves (router.state_of s.relayed.router s.relayed.outbox) read.moves (state_of r.fetcher r.inbox) kind id
      history
      (record {
        run = one.run;
        served = subst (λ (calls : List Call). AreServed calls (served_to s.worker journal)) one.made premises.sent;
      })
      (record {
        run = read.run;
        served = subst (λ (calls : List Call). AreServed calls (served_to r.worker journal)) read.made premises.taken;
      })
      premises.private);
}

-- the same calls of the same worker in the same journal
pub served_in_it : (calls now : List Call) (worker own : ℕ) (journal all : List Entry) → calls ≡ now → worker ≡ own
    → journal ≡ all → AreServed calls (served_to worker journal) → AreServed now (served_to own all)
served_in_it calls now worker own journal all one two three served = grind (arith, nat_tests)

-- the same premises
pub private_in_it : (sender own taker other : ℕ) (t u : Subscription) (places : List Place) (journal all : List Entry)
    → sender ≡ own → taker ≡ other → t ≡ u → places ≡ t.assignment → journal ≡ all
    → ArePrivate sender taker t.group places journal → ArePrivate own other u.group u.assignment all
private_in_it sender own taker other t u places journal all one two same assigned three private =
    grind (arith, nat_tests)

-- the call that the journal does not have
pub unserved_in_it : (calls now : List Call) (worker own : ℕ) (journal all : List Entry) (number : ℕ) → calls ≡ now
    → worker ≡ own → journal ≡ all → IsUnserved calls (served_to worker journal) number
    → IsUnserved now (served_to own all) number
unserved_in_it calls now worker own journal all number one two three unserved = grind (arith, nat_tests)

-- the same breach
pub breach_in_it : (sender own taker other : ℕ) (t u : Subscription) (places : List Place) (journal all : List Entry)
    (breach : Breach) → sender ≡ own → taker ≡ other → t ≡ u → places ≡ t.assignment → journal ≡ all
    → IsBreach sender taker t.group places journal breach → IsBreach own other u.group u.assignment all breach
breach_in_it sender own taker other t u places journal all breach one two same assigned three broken =
    grind (arith, nat_tests)

pub is_true : (b : Bool) → b ≡ true → IsTrue b
is_true b h = grind (arith, nat_tests)
