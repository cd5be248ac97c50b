use Rattle.kob_prefix_tree.proofs.Words.{ap, sibling, subst, sym, trie_of, true≢false, ◌∙◌}
use Rattle.kob_prefix_tree.specs.Contents.{IsInFront, first_byte, first_contents}
use Rattle.kob_prefix_tree.proofs.InPlaceLemmas.{is_in_front, put_in_front}
use Rattle.kob_prefix_tree.proofs.siblings.Link+Item.bring_front.Goals as goal

pub returns-then-get-byte-clause-there : goal.returns-then-get-byte-clause-there
returns-then-get-byte-clause-there c _ =
    let nodes = c.args.self.now.nodes in
    subst (λ byte. IsInFront byte nodes nodes) (ap first_byte c.get.ensures ∙ c.if-get-byte.true)
    (is_in_front nodes (λ none. true≢false (sym (c.if-not-is_null.ensures.1 none))))

pub returns-in-Some-clause-there : goal.returns-in-Some-clause-there
returns-in-Some-clause-there c _ =
    let found = c.in-Some.ensures in let front = first_contents c.in-Some.node.nodes in
    let left = trie_of c.take_out.new.self.nodes in
    put_in_front c.args.byte front left c.args.self.now.nodes c.put_node.new.self.nodes found.1.1.0 found.1.1.1
    (c.put_node.ensures ∙ ap (λ byte. sibling byte front.0 front.1 left) found.1.0)
