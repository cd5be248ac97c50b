use Rattle.kob_groups.proofs.Words.{AreListed, groups_of, place_in, subst, sym}
use Rattle.kob_groups.proofs.Listings.{listed_committed}
use Rattle.kob_groups.proofs.groups.Groups.commit_commit.Goals as goal

pub invariant_of-self : goal.invariant_of-self
invariant_of-self c =
    let groups = c.args.self.now in let made = c.args.made in let place = place_in made groups in record {
      listed = subst (λ gs. AreListed gs c.put.new.self) (sym c.put_commit.ensures)
          (listed_committed (groups_of groups) groups.lists c.put.new.self place made.offset groups.listed
          (c.put.ensures place.topic place.group c.requires.listing));
    }
