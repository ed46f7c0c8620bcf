-- The text of an outcome is read as that outcome.
use Rattle.std.proofs.Common.{◌≡◌, ℕ, ◌^◌, Option, Some, List, ◌∷◌, ◌++◌, refl, ap, ap₂, arith, Bool, true}
use Rattle.std.specs.Prelude.{codes}
use Rattle.std.specs.Fmt.{decimal}
use Rattle.hsr_frame.specs.declared.node.Cause.{Cause}
use Rattle.hsr_node.specs.declared.event.Outcome.{Outcome}
use Rattle.hsr_node.specs.declared.event.Outcome.TheVariants.{Sent, Life, Judged, Aged}
use Rattle.hsr_node.specs.declared.place.Place.{Place}
use Rattle.hsr_transcript_lines.specs.Fits.{IsOutcomeFit}
use Rattle.hsr_transcript_lines.specs.Parsed.{below, read_cause, has_octet, read_judged, read_lived, read_outcome, read_ports, read_sent, read_seq, tail_of}
use Rattle.hsr_transcript_lines.specs.Readable.{Lacks}
use Rattle.hsr_transcript_lines.proofs.Roles.{IsOutcomeOf}
use Rattle.hsr_transcript_lines.specs.Spelled.{outcome_text, ports_text, seq_text, up_text}
use Rattle.hsr_frame.specs.Words.{cause_text}
use Rattle.hsr_transcript_lines.proofs.CutWords.{lacks_more}
use Rattle.hsr_transcript_lines.proofs.Events.{cut_first}
use Rattle.hsr_transcript_lines.proofs.Ports.{behind_space, cut_tail, opens, ports_behind, ports_behind_up, ports_lack, ports_open, up_line, up_open, up_told}
use Rattle.hsr_transcript_lines.proofs.WordTexts.{is_word, line_end, line_more, word_decimal}
use Rattle.hsr_transcript_lines.proofs.Worded.{below_again, cause_again, seq_again, word_seq}

sent_words : (place : Place) (a tail : List ℕ) (seq : Option ℕ) (ports : List Bool)
    → is_word a ≡ true → opens tail ≡ true → read_seq a ≡ Some seq → read_ports place (tail_of (behind_space tail)) ≡ ports
    → read_sent place (Some (a ++ tail)) ≡ Some (Sent seq ports)
sent_words place a tail seq ports wa apart number exits = rw (cut_tail a tail wa apart, number) (ap (λ p. Some (Sent seq p)) exits)

lived_words : (place : Place) (a b tail : List ℕ) (seq life : ℕ) (ports : List Bool)
    → is_word a ≡ true → is_word b ≡ true → opens tail ≡ true → below (2 ^ 16) a ≡ Some seq → below (2 ^ 16) b ≡ Some life
    → read_ports place (tail_of (behind_space tail)) ≡ ports
    → read_lived place (Some (a ++ 32 ∷ (b ++ tail))) ≡ Some (Life seq life ports)
lived_words place a b tail seq life ports wa wb apart number count exits =
    rw (cut_first a (b ++ tail) wa, number, cut_tail b tail wb apart, count) (ap (λ p. Some (Life seq life p)) exits)

judged_words : (place : Place) (a b tail : List ℕ) (up : Bool) (ports : List Bool) (seq : Option ℕ) (cause : Cause)
    → is_word a ≡ true → is_word b ≡ true → opens tail ≡ true → read_cause a ≡ Some cause → read_seq b ≡ Some seq
    → has_octet 117 (tail_of (behind_space tail)) ≡ up → read_ports place (tail_of (behind_space tail)) ≡ ports
    → read_judged place (Some (a ++ 32 ∷ (b ++ tail))) ≡ Some (Judged up ports seq cause)
judged_words place a b tail up ports seq cause wa wb apart why number taken exits =
    rw (cut_first a (b ++ tail) wa, why, cut_tail b tail wb apart, number) (ap₂ (λ u p. Some (Judged u p seq cause)) taken exits)

pub outcome_again : (place : Place) (o : Outcome) → IsOutcomeFit o → IsOutcomeOf place o → read_outcome place (Some (outcome_text place o)) ≡ Some o
unfolding read_outcome outcome_text
outcome_again place (Sent seq ports) f h =
    sent_words place (seq_text seq) (ports_text place ports) seq ports
    (word_seq seq f.0) (ports_open place ports) (seq_again seq f.0) (ports_behind place ports f.1 h)
outcome_again place (Life seq life ports) f h =
    lived_words place (decimal seq) (decimal life) (ports_text place ports) seq life ports
    (word_decimal seq (let l = f.0 in omega arith)) (word_decimal life (let l = f.1 in omega arith)) (ports_open place ports)
    (below_again (2 ^ 16) seq f.0 (let l = f.0 in omega arith)) (below_again (2 ^ 16) life f.1 (let l = f.1 in omega arith))
    (ports_behind place ports f.2 h)
outcome_again place (Judged up ports seq cause) f h =
    let why = cause_again cause in
    judged_words place (cause_text (codes "-") cause) (seq_text seq) (up_text up ++ ports_text place ports) up ports seq cause
    why.1 (word_seq seq f.0) (up_open up place ports) why.0 (seq_again seq f.0) (up_told up place ports) (ports_behind_up up place ports f.1 h)
outcome_again place Aged f h = refl

-- ---- it is part of a line

pub outcome_line : (place : Place) (o : Outcome) → IsOutcomeFit o → Lacks 10 (outcome_text place o)
unfolding outcome_text
outcome_line place (Sent seq ports) f =
    line_more (codes "sent") _ refl (lacks_more 10 (seq_text seq) _ (line_end (seq_text seq) (word_seq seq f.0)) (ports_lack 10 place ports refl refl))
outcome_line place (Life seq life ports) f =
    line_more (codes "life") _ refl
    (line_more (decimal seq) _ (word_decimal seq (let l = f.0 in omega arith))
    (lacks_more 10 (decimal life) _ (line_end (decimal life) (word_decimal life (let l = f.1 in omega arith))) (ports_lack 10 place ports refl refl)))
outcome_line place (Judged up ports seq cause) f =
    line_more (codes "judged") _ refl
    (line_more (cause_text (codes "-") cause) _ (cause_again cause).1
    (lacks_more 10 (seq_text seq) _ (line_end (seq_text seq) (word_seq seq f.0))
    (lacks_more 10 (up_text up) _ (up_line up) (ports_lack 10 place ports refl refl))))
outcome_line place Aged f = line_end (codes "aged") refl
