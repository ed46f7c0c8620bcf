-- The text of an event is read as that event, and what follows it is left.
use Rattle.std.proofs.Common.{◌≡◌, ℕ, Option, Some, List, [], ◌∷◌, ◌++◌, ◌∙◌, append_assoc, refl, sym, ap, subst, arith, true}
use Rattle.std.specs.Prelude.{codes, IfSome}
use Rattle.std.specs.Fmt.{decimal}
use Rattle.std.specs.Result.{result_ok}
use Rattle.hex.specs.Hex.{IsBytes, encode_upper}
use Rattle.hsr_frame.specs.Address.{address_of}
use Rattle.hsr_frame.specs.Grammar.{pair}
use Rattle.hsr_text.specs.Words.{cut, hex_octets_of, hex_pair_of, mac_text}
use Rattle.hsr_frame.specs.declared.node.About.{About}
use Rattle.hsr_node.specs.declared.event.Carried.{Carried}
use Rattle.hsr_node.specs.declared.event.Event.{Event}
use Rattle.hsr_node.specs.declared.event.Event.TheVariants.{Send, Supervise, Arrive, Age}
use Rattle.hsr_node.specs.declared.event.Probe.{Probe}
use Rattle.hsr_node.specs.declared.place.Place.{Place}
use Rattle.hsr_transcript_lines.specs.Fits.{IsEventFit, IsProbeFit, IsSendFit}
use Rattle.hsr_transcript_lines.specs.Parsed.{read_arrive, below, read_event, read_port, read_probe, read_send, read_vlan}
use Rattle.hsr_transcript_lines.specs.Readable.{Lacks}
use Rattle.hsr_transcript_lines.proofs.Roles.{IsEventOf, IsPortOf}
use Rattle.hsr_transcript_lines.specs.Spelled.{about_text, event_text, octets_text, probe_text, spaced, vlan_text}
use Rattle.hsr_node.specs.Words.{letter}
use Rattle.hsr_transcript_lines.proofs.Addressed.{mac_said, word_mac}
use Rattle.hsr_transcript_lines.proofs.Again.{octets_again, probe_again}
use Rattle.hsr_transcript_lines.proofs.CutWords.{cut_word}
use Rattle.hsr_transcript_lines.proofs.WordTexts.{is_word, lacks_word, line_end, line_more, word_decimal, word_octets}
use Rattle.hsr_transcript_lines.proofs.Worded.{about_again, below_again, hex_pair_again, port_again, vlan_again, word_about, word_pair, word_probe, word_vlan}

-- a word is cut from a text that goes on
pub cut_on : (w more rest : List ℕ) → is_word w ≡ true → cut 32 ((w ++ 32 ∷ more) ++ rest) ≡ (w, Some (more ++ rest))
cut_on w more rest h = ap (cut 32) (append_assoc w (32 ∷ more) rest) ∙ cut_word 32 w (more ++ rest) (lacks_word 32 w (omega arith) h)

pub cut_first : (w rest : List ℕ) → is_word w ≡ true → cut 32 (w ++ 32 ∷ rest) ≡ (w, Some rest)
cut_first w rest h = cut_word 32 w rest (lacks_word 32 w (omega arith) h)

send_words : (a b c d e rest : List ℕ) (from : ℕ) (dst : List ℕ) (vlan : Option ℕ) (ethertype : ℕ) (payload : List ℕ)
    → is_word a ≡ true → is_word b ≡ true → is_word c ≡ true → is_word d ≡ true → is_word e ≡ true
    → below 256 a ≡ Some from → result_ok (address_of b) ≡ Some dst → read_vlan c ≡ Some vlan → hex_pair_of d ≡ Some ethertype → hex_octets_of e ≡ Some payload
    → read_send (Some (spaced a (b ∷ c ∷ d ∷ e ∷ []) ++ 32 ∷ rest)) ≡ Some (Send from dst vlan ethertype payload, Some rest)
send_words a b c d e rest from dst vlan ethertype payload wa wb wc wd we source address tag type octets =
    rw (
      cut_on a (spaced b (c ∷ d ∷ e ∷ [])) (32 ∷ rest) wa,
      source,
      cut_on b (spaced c (d ∷ e ∷ [])) (32 ∷ rest) wb,
      address,
      cut_on c (spaced d (e ∷ [])) (32 ∷ rest) wc,
      tag,
      cut_on d e (32 ∷ rest) wd,
      type,
      cut_first e rest we,
      octets,
    ) refl

send_again : (place : Place) (from : ℕ) (dst : List ℕ) (vlan : Option ℕ) (ethertype : ℕ) (payload rest : List ℕ) → IsSendFit from dst vlan ethertype payload
    → read_event place (Some (event_text place (Send from dst vlan ethertype payload) ++ 32 ∷ rest)) ≡ Some (Send from dst vlan ethertype payload, Some rest)
unfolding read_event event_text
send_again place from dst vlan ethertype payload rest f =
    send_words (decimal from) (mac_text dst) (vlan_text vlan) (encode_upper (pair ethertype)) (octets_text payload) rest from dst vlan ethertype payload
    (word_decimal from (let h = f.source in omega arith)) (word_mac dst) (word_vlan vlan) (word_pair ethertype) (word_octets payload f.octets)
    (below_again 256 from f.source (let h = f.source in omega arith)) (mac_said dst f.address) (vlan_again vlan f.tag) (hex_pair_again ethertype f.type) (octets_again payload f.octets)

life_again : (place : Place) (about : About) (rest : List ℕ) → IsEventFit (Supervise about)
    → read_event place (Some (event_text place (Supervise about) ++ 32 ∷ rest)) ≡ Some (Supervise about, Some rest)
unfolding read_event event_text
life_again place about rest f = rw (cut_first (about_text about) rest (word_about about), about_again about f) refl

arrive_words : (place : Place) (a b c rest : List ℕ) (port : ℕ) (p : Probe) (octets : List ℕ)
    → is_word a ≡ true → is_word b ≡ true → is_word c ≡ true
    → read_port place a ≡ Some port → read_probe b ≡ Some p → hex_octets_of c ≡ Some octets
    → read_arrive place (Some (spaced a (b ∷ c ∷ []) ++ 32 ∷ rest)) ≡ Some (Arrive port (record { probe = Some p; octets = octets }), Some rest)
arrive_words place a b c rest port p octets wa wb wc at sent said =
    rw (cut_on a (spaced b (c ∷ [])) (32 ∷ rest) wa, at, cut_on b c (32 ∷ rest) wb, sent, cut_first c rest wc, said) refl

arrive_again : (place : Place) (port : ℕ) (p : Probe) (octets rest : List ℕ) → IsPortOf place port → IsProbeFit p → IsBytes octets
    → read_event place (Some (event_text place (Arrive port (record { probe = Some p; octets = octets })) ++ 32 ∷ rest))
    ≡ Some (Arrive port (record { probe = Some p; octets = octets }), Some rest)
unfolding read_event event_text
arrive_again place port p octets rest at fit bytes =
    let here = port_again place port at in
    arrive_words place (letter place port ∷ []) (probe_text (Some p)) (octets_text octets) rest port p octets
    here.1 (word_probe p fit) (word_octets octets bytes) here.0 (probe_again p fit.0 fit.1) (octets_again octets bytes)

age_again : (place : Place) (rest : List ℕ) → read_event place (Some (event_text place Age ++ 32 ∷ rest)) ≡ Some (Age, Some rest)
unfolding read_event event_text
age_again place rest = refl

pub event_again : (place : Place) (e : Event) (rest : List ℕ) → IsEventFit e → IsEventOf place e
    → read_event place (Some (event_text place e ++ 32 ∷ rest)) ≡ Some (e, Some rest)
event_again place (Send from dst vlan ethertype payload) rest f o = send_again place from dst vlan ethertype payload rest f
event_again place (Supervise about) rest f o = life_again place about rest f
event_again place (Arrive port carried) rest f o =
    let named = o.1.named in
    let whole : ◌≡◌ {A = Carried} (record { probe = Some o.1.send; octets = carried.octets }) carried = λ i. record { probe = sym named i; octets = carried.octets } in
    subst (λ (c : Carried). read_event place (Some (event_text place (Arrive port c) ++ 32 ∷ rest)) ≡ Some (Arrive port c, Some rest)) whole
    (arrive_again place port o.1.send carried.octets rest o.0 (subst (λ (q : Option Probe). IfSome q IsProbeFit) named f.probe) f.octets)
event_again place Age rest f o = age_again place rest

-- ---- it is part of a line

pub event_line : (place : Place) (e : Event) → IsEventFit e → IsEventOf place e → Lacks 10 (event_text place e)
unfolding event_text
event_line place (Send from dst vlan ethertype payload) f o =
    line_more (codes "send") _ refl
    (line_more (decimal from) _ (word_decimal from (let h = f.source in omega arith))
    (line_more (mac_text dst) _ (word_mac dst)
    (line_more (vlan_text vlan) _ (word_vlan vlan)
    (line_more (encode_upper (pair ethertype)) _ (word_pair ethertype) (line_end (octets_text payload) (word_octets payload f.octets))))))
event_line place (Supervise about) f o = line_more (codes "life") _ refl (line_end (about_text about) (word_about about))
event_line place (Arrive port carried) f o =
    let sent : is_word (probe_text carried.probe) ≡ true
    = subst (λ (q : Option Probe). is_word (probe_text q) ≡ true) (sym o.1.named) (word_probe o.1.send (subst (λ (q : Option Probe). IfSome q IsProbeFit) o.1.named f.probe)) in
    let words = probe_text carried.probe ++ 32 ∷ octets_text carried.octets in
    line_more (codes "arrive") (letter place port ∷ 32 ∷ words) refl
    (line_more (letter place port ∷ []) words (port_again place port o.0).1
    (line_more (probe_text carried.probe) _ sent (line_end (octets_text carried.octets) (word_octets carried.octets f.octets))))
event_line place Age f o = line_end (codes "age") refl
