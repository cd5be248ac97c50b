-- A link may go to another thread where what its nodes keep may: its nodes lie behind it, and nothing else.
use Rattle.kob_prefix_tree.proofs.Words.{IsSend, Keyless, NodeOf, Ptr, RattleType, Tree, exits_of, frees, leaf, lies, lone, node, node_of, nodes_own, owning_send, quiet, row, sendable, shape, struct_send, to, way}
use denote.Struct.Owning.{fields}
use mir.Raw.{raw}
use Rattle.kob_prefix_tree.specs.contracts.link.Link as link
use Rattle.kob_prefix_tree.proofs.node.Node.TheSendSync as block

module _ (T : RattleType) (goes : IsSend T) where
  way_goes : (t : Tree T.Denot) → ((p : Ptr) → Keyless (nodes_own T t p)) → IsSend (row (way T t))
  way_goes t owned =
      owning_send (way T t) (search sendable, tt) owned
      (λ k. quiet (to (way T t)) (exits_of k (fields (way T t)))
      ((struct_send (shape (way T t)) (search sendable, tt)).leaving k))

  nodes_go : (t : Tree T.Denot) (p : Ptr) → Keyless (nodes_own T t p)
  nodes_go leaf p = tt
  nodes_go (node item heap c below n after) p =
      let N = NodeOf T (way T below) (way T after) in (
        tt,
        (
          lies N (block.the_send T (row (way T below)) (row (way T after)) goes (way_goes below (nodes_go below))
              (way_goes after (nodes_go after))) p (node_of T item heap c n),
          frees.frees heap (raw (lone N.mir)) p,
        ),
      )

  pub send : IsSend (link.the_row T)
  send = let made_of = link.the_type T in
      owning_send made_of (search sendable, tt) (λ l. nodes_go l.nodes l.first)
      (λ k. quiet (to made_of) (exits_of k (fields made_of))
      ((struct_send (shape made_of) (search sendable, tt)).leaving k))
