use Rattle.std.proofs.Common.{◌≡◌, ◌∷◌, ◌++◌, ◌∙◌, Some, true, option_map, ap, codes, refl, rules, sym}
use Rattle.hsr_text.specs.Words.{word_at}
use Rattle.hsr_node.specs.declared.place.Place.{Place}
use Rattle.hsr_transcript_lines.specs.Spelled.{event_text}
use Rattle.hsr_transcript_lines.specs.Exact.{after}
use Rattle.hsr_transcript_lines.proofs.Exact.{behind, ok_more}
use Rattle.hsr_transcript_lines.proofs.records.read_event.Goals as goal

pub returns-then-eq-clause-sure : goal.returns-then-eq-clause-sure
returns-then-eq-clause-sure c =
    let first : Some (c.in_ok-verb.verb.now, option_map (λ s. s.now) c.in_ok-verb.rest) ≡ word_at (option_map (λ s. s.now) c.args.rest) = search rules in
    let verb : c.in_ok-verb.verb.now ≡ codes "send" = search rules in
    ok_more (λ e. e.sure ≡ true → (place : Place) → codes "send" ++ after (option_map (λ s. s.now) c.in_ok-verb.rest) ≡ event_text place e.event ++ after (option_map (λ s. s.now) e.rest))
    (λ e. e.sure ≡ true → after (option_map (λ s. s.now) c.args.rest) ≡ 32 ∷ (event_text c.args.place.now e.event ++ after (option_map (λ s. s.now) e.rest)))
    c.read_send.result (λ e h sure. behind _ _ _ (codes "send") _ first (sym verb) refl ∙ ap (λ l. 32 ∷ l) (h sure c.args.place.now)) c.read_send.ensures.sure

pub returns-then-eq-3-clause-sure : goal.returns-then-eq-3-clause-sure
returns-then-eq-3-clause-sure c =
    let first : Some (c.in_ok-verb.verb.now, option_map (λ s. s.now) c.in_ok-verb.rest) ≡ word_at (option_map (λ s. s.now) c.args.rest) = search rules in
    let verb : c.in_ok-verb.verb.now ≡ codes "arrive" = search rules in
    ok_more (λ e. e.sure ≡ true → codes "arrive" ++ after (option_map (λ s. s.now) c.in_ok-verb.rest) ≡ event_text c.args.place.now e.event ++ after (option_map (λ s. s.now) e.rest))
    (λ e. e.sure ≡ true → after (option_map (λ s. s.now) c.args.rest) ≡ 32 ∷ (event_text c.args.place.now e.event ++ after (option_map (λ s. s.now) e.rest)))
    c.read_arrive.result (λ e h sure. behind _ _ _ (codes "arrive") _ first (sym verb) refl ∙ ap (λ l. 32 ∷ l) (h sure)) c.read_arrive.ensures.sure

pub returns-then-eq-4-clause-sure : goal.returns-then-eq-4-clause-sure
unfolding event_text
returns-then-eq-4-clause-sure c = λ _.
    let first : Some (c.in_ok-verb.verb.now, option_map (λ s. s.now) c.in_ok-verb.rest) ≡ word_at (option_map (λ s. s.now) c.args.rest) = search rules in
    let verb : c.in_ok-verb.verb.now ≡ codes "age" = search rules in
    behind _ _ _ (codes "age") _ first (sym verb) refl
