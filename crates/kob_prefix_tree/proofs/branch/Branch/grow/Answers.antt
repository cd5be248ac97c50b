use Rattle.kob_prefix_tree.proofs.Words.{ChangedAt, ap, contents, key_of, refl, subst, sym, with_serial, ◌++◌, ◌∙◌, ◌∷◌}
use Rattle.kob_prefix_tree.specs.Contents.{first_byte}
use Rattle.kob_prefix_tree.proofs.WayLemmas.{some_put}
use Rattle.kob_prefix_tree.proofs.InPlaceLemmas.{changed_behind, neat_in_front}
use Rattle.kob_prefix_tree.proofs.branch.Branch.grow.Goals as goal

pub grow_in_place-requires-clause-neat : goal.grow_in_place-requires-clause-neat
grow_in_place-requires-clause-neat c =
    let b = c.args.self.now in let now = c.follow_path.new.self.nodes in
    neat_in_front b.tail (key_of c.follow_path.new.path.nodes) (with_serial c.args.kind c.args.serial)
    (b.literal, b.prefixed) b.below.nodes now now c.requires.neat (c.if-follow_path.ensures.there refl).1

pub returns-then-follow_path : goal.returns-then-follow_path
returns-then-follow_path c =
    let b = c.args.self.now in let f = with_serial c.args.kind c.args.serial in
    let now = c.follow_path.new.self.nodes in let rest = key_of c.follow_path.new.path.nodes in
    let done = c.grow_in_place.ensures in let there = c.if-follow_path.ensures.there refl in
    let left = c.grow_in_place.new.self in
    let all = changed_behind b.tail rest f (b.literal, b.prefixed) b.below.nodes now left.nodes c.requires.neat there.1
    done (some_put c.args.kind c.args.serial rest _ done.done.at) in
    subst (λ key. ChangedAt key f (contents b) (contents (record b { below = left })))
    (ap (λ tail. tail ++ first_byte now ∷ rest) (c.is_empty.ensures.0 c.if-is_empty.true) ∙ sym there.0) all
