use Rattle.kob_policy_text.proofs.Words.{refl}
use Rattle.kob_policy_text.specs.Listing.{older_words}
use Rattle.kob_policy_text.proofs.listing.older_words.Goals as goal

pub returns : goal.returns
unfolding older_words
returns c = rw (c.in_ok-front.ensures, c.in_ok-holder.ensures, c.in_ok-principal.ensures) refl
