-- What a line reports of its calls, and which of them were served.
use Rattle.std.specs.Prelude.{◌≡◌, ◌⊎◌, ℕ, ◌+◌, min, List, [], ◌∷◌, ◌++◌, None, Some}
use Rattle.kob_rights.specs.declared.request.Request.{Request}
use Rattle.kob_rights.specs.Requests.{Fits, OffsetsWithin}
use Rattle.kob_router.specs.declared.line.Call.{Call}
use Rattle.kob_router.specs.declared.line.Delivery.{Delivery}
use Rattle.kob_router.specs.declared.line.Delivery.TheVariants.{Delivered, Lost}
use Rattle.kob_rights.specs.declared.reply.Reply.{Reply}

-- one more, counted up to the greatest number of 64 bits
abbrev pub one_more : ℕ → ℕ
one_more count = min (count + 1) 18446744073709551615

-- A delivered reply is in the call; a lost call has none, or was not made, which is counted.
abbrev pub Adds : List Call → List Call → ℕ → ℕ → Request → Delivery → Type 0
Adds before now unmade then_unmade request (Delivered reply) =
    (now ≡ before ++ record { request = request; heard = Some reply } ∷ []) × (then_unmade ≡ unmade)
Adds before now unmade then_unmade request Lost =
    ((now ≡ before ++ record { request = request; heard = None } ∷ []) × (then_unmade ≡ unmade))
    ⊎ ((now ≡ before) × (then_unmade ≡ one_more unmade))

-- what was done has the body of its request, with every offset within the limits
abbrev pub IsFaithful : Request → Delivery → Type 0
IsFaithful request (Delivered reply) = Fits request reply × OffsetsWithin reply
IsFaithful request Lost = Unit {0}

-- a request that the broker served, and its reply
pub record Served : Type 0 where
  pub request : Request
  pub reply : Reply

-- each call that was heard was served with that reply; one that was lost was served, or was not
abbrev pub AreServed : List Call → List Served → Type 0
AreServed [] [] = Unit {0}
AreServed [] (s ∷ ss) = ⊥
AreServed (c ∷ cs) [] = (c.heard ≡ None) × AreServed cs []
AreServed (c ∷ cs) (s ∷ ss) =
    ((c.heard ≡ None) × AreServed cs (s ∷ ss))
    ⊎ ((s.request ≡ c.request)
    × ((c.heard ≡ None) ⊎ (c.heard ≡ Some s.reply))
    × AreServed cs ss)
