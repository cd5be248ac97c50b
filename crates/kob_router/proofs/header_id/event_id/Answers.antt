use Rattle.std.specs.List.{find}
use Rattle.std.specs.Prelude.{option_and_then}
use Rattle.kob_names.specs.declared.record.Header.{Header}
use Rattle.kob_router.specs.Route.{is_id}
use Rattle.kob_router.proofs.Words.{Err, IfOk, IsOk, List, None, Ok, Option, Result, Some, ap, false, parsed, refl, result_ok, sym, true, true≢false, ℕ, ◌↔◌, ◌∙◌, ◌≡◌}
use Rattle.kob_router.proofs.header_id.event_id.Goals as goal

nothing_parsed : (text : List ℕ) (found : Option (List ℕ)) → parsed text ≡ found
    → (((id : List ℕ) × (parsed text ≡ Some id)) → true ≡ false) → None ≡ found
nothing_parsed text None is hopeless = refl
nothing_parsed text (Some id) is hopeless = absurd (true≢false (hopeless (id, is)))

read : {E : Type 0} (answer : Result (List ℕ) E) (text : List ℕ)
    → (IsOk answer ↔ ((id : List ℕ) × (parsed text ≡ Some id)))
    → IfOk answer (λ id. Some id ≡ parsed text) → result_ok answer ≡ parsed text
read (Ok id) text ok bytes = bytes
read (Err fault) text ok bytes = nothing_parsed text (parsed text) refl (λ found. sym (ok.1 found))

pub returns : goal.returns
returns c =
    c.ok.ensures.value ∙ read c.try_parse_ascii.result c.as_slice-2.result.now c.try_parse_ascii.ensures.ok
    c.try_parse_ascii.ensures.bytes ∙ ap parsed c.as_slice-2.ensures
    ∙ ap (option_and_then (λ (header : Header). parsed header.value))
    (c.in_ok-header.ensures ∙ ap (find is_id) c.as_slice.ensures)
