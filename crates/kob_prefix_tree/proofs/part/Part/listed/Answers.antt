use Rattle.kob_prefix_tree.proofs.Words.{Literal, PatternKind, Prefixed, [], append-nil, arith, common_steps, nat_tests, nothing, refl, serials_of, ◌≡◌}
use Rattle.kob_prefix_tree.proofs.part.Part.listed.Goals as goal

none_of_kind : (kind : PatternKind) → [] ≡ serials_of kind nothing
none_of_kind Literal = refl
none_of_kind Prefixed = refl

pub returns-in-None : goal.returns-in-None
returns-in-None c = grind (arith, nat_tests, none_of_kind c.args.kind, c.in-None.ensures [], append-nil c.args.key.now)

pub returns-in-Some : goal.returns-in-Some
returns-in-Some c = grind (arith, common_steps, c.in-Some.ensures [], append-nil c.args.key.now)
