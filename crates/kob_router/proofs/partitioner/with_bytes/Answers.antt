use Rattle.std.specs.Prelude.{bit_xor}
use Rattle.kob_router.specs.Run.{factor, times}
use Rattle.kob_router.proofs.Words.{nat_tests, List, ap, arith, drop, drop_more, get_or, length, sym, with_bytes, ℕ, ◌+◌, ◌∙◌, ◌∷◌, ◌≡◌, ◌≤◌}
use Rattle.kob_router.proofs.partitioner.with_bytes.Goals as goal

-- the first four of the bytes from a place on
next_word : (bytes : List ℕ) (at : ℕ) → at + 4 ≤ length bytes
    → drop at bytes ≡ get_or bytes at 0 ∷ get_or bytes (at + 1) 0 ∷ get_or bytes (at + 2) 0 ∷ get_or bytes (at + 3)
    0 ∷ drop (at + 4) bytes
next_word bytes at fits = grind (
  arith,
  nat_tests,
  drop_more bytes at 0,
  drop_more bytes (at + 1) 0,
  drop_more bytes (at + 2) 0,
  drop_more bytes (at + 3) 0,
)

pub loop-at-preserved : goal.loop-at-preserved
loop-at-preserved c =
    let bytes = c.args.bytes.now in let at = c.loop-at.at in let fits : at + 4 ≤ length bytes = omega arith in
    record {
      within = fits;
      rest =
          ap (λ (w : ℕ). with_bytes (bit_xor (times c.loop-at.hash factor) (times w factor)) (drop (at + 4) bytes))
          c.with_upper_bits-word.ensures
          ∙ sym (ap (with_bytes c.loop-at.hash) (next_word bytes at fits))
          ∙ c.loop-at.invariant.rest;
    }
