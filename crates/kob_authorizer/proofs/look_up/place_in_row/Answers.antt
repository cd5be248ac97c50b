use Rattle.kob_authorizer.proofs.Words.{Binding, arith, common_steps, get_or, length, ℕ, ◌<◌, ◌≡◌}
use Rattle.kob_authorizer.proofs.Entries.{found_at}
use Rattle.kob_authorizer.proofs.look_up.place_in_row.Goals as goal

pub returns-then-entries-place : goal.returns-then-entries-place
returns-then-entries-place c =
    let entries = c.args.entries.now in let place = c.in_ok-place.place in
    let below : place < length entries = grind (arith, common_steps) in
    let there : (d : ℕ × Binding) → (get_or entries place d).0 ≡ c.args.serial = λ d. grind (arith, common_steps) in
    (below, λ d. found_at 0 c.requires.0 entries place c.args.serial d c.requires.1 below (there d))
