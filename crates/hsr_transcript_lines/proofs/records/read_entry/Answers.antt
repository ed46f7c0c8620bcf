use Rattle.std.proofs.Common.{◌≡◌, ◌∷◌, ◌++◌, ◌^◌, Some, option_map, codes, rules}
use Rattle.std.proofs.lemmas.Bool.{and_parts}
use Rattle.hsr_text.specs.Moments.{moment_of}
use Rattle.hsr_text.specs.Words.{word_at}
use Rattle.hsr_transcript_lines.specs.Exact.{after}
use Rattle.hsr_transcript_lines.specs.Parsed.{below}
use Rattle.hsr_transcript_lines.specs.Spelled.{event_text, outcome_text}
use Rattle.hsr_transcript_lines.proofs.Exact.{entry_sure}
use Rattle.hsr_transcript_lines.proofs.Moments.{moment_exact}
use Rattle.hsr_transcript_lines.proofs.records.read_entry.Goals as goal

pub returns-clause-sure : goal.returns-clause-sure
returns-clause-sure c = λ sure.
    let place = c.args.place.now in
    let leading = c.in_ok-event.field-0 in
    let first : Some (c.in_ok-worker.worker.now, option_map (λ s. s.now) c.in_ok-worker.rest) ≡ word_at (Some c.args.line.now) = search rules in
    let second : Some (c.in_ok-at.at.now, option_map (λ s. s.now) c.in_ok-at.rest) ≡ word_at (option_map (λ s. s.now) c.in_ok-worker.rest) = search rules in
    let third : Some (c.in_ok-equals.equals.now, option_map (λ s. s.now) c.in_ok-equals.rest) ≡ word_at (option_map (λ s. s.now) leading.rest) = search rules in
    let worker : below (2 ^ 16) c.in_ok-worker.worker.now ≡ Some c.in_ok-worker-2.worker = search rules in
    let at : moment_of c.args.unit c.in_ok-at.at.now ≡ Some c.in_ok-at-2.at = search rules in
    let parts = and_parts _ _ sure in
    let others = and_parts _ _ parts.0 in
    let event : after (option_map (λ s. s.now) c.in_ok-at.rest) ≡ 32 ∷ (event_text place leading.event ++ after (option_map (λ s. s.now) leading.rest)) = c.in_ok-event.ensures.sure others.0 in
    let equals : c.in_ok-equals.equals.now ≡ codes "=" = let same = others.1 in search rules in
    let outcome : after (option_map (λ s. s.now) c.in_ok-equals.rest) ≡ 32 ∷ outcome_text place c.in_ok-outcome.outcome = c.in-Ok.ensures parts.1 in
    entry_sure c.args.unit place c.args.line.now _ _ _ _ _ _ _ c.in_ok-worker-2.worker c.in_ok-at-2.at leading.event c.in_ok-outcome.outcome first second event third worker (moment_exact c.args.unit _ _ at) equals outcome
