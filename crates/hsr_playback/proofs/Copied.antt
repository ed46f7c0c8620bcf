-- One more end by which a copy may leave.
use Rattle.std.proofs.Common.{◌≡◌, ℕ, ◌+◌, ◌<◌, ◌≤◌, ◌∙◌, ◌++◌, append_assoc, List, [], ◌∷◌, length, get_or, drop, ap, sym}
use Rattle.std.proofs.lemmas.List.{at_drop_more, at_drop_all}
use Rattle.hsr_node.specs.declared.event.Event.{Event}
use Rattle.hsr_node.specs.declared.event.Outcome.{Outcome}
use Rattle.hsr_node.specs.declared.place.Place.{Place}
use Rattle.hsr_tap_device.specs.declared.device.End.{End}
use Rattle.hsr_playback.specs.Letting.{From, copies_by, copy_at}
use Rattle.hsr_playback.specs.declared.expected.Expected.{Expected}
use Rattle.hsr_playback.specs.declared.taps.Taps.{Taps}

pub copies_more : (taps : Taps) (place : Place) (from : From) (event : Event) (said : Outcome) (ends : List End) (i : ℕ) (d : End) (copies next whole : List Expected)
    → i < length ends → next ≡ copies ++ copy_at taps place from event said (get_or ends i d)
    → copies ++ copies_by taps place from event said (drop i ends) ≡ whole → next ++ copies_by taps place from event said (drop (i + 1) ends) ≡ whole
copies_more taps place from event said ends i d copies next whole h is same =
    ap (λ (front : List Expected). front ++ copies_by taps place from event said (drop (i + 1) ends)) is
    ∙ append_assoc copies (copy_at taps place from event said (get_or ends i d)) (copies_by taps place from event said (drop (i + 1) ends))
    ∙ ap (λ (rest : List Expected). copies ++ rest) (sym (at_drop_more (copies_by taps place from event said) ends i d h)) ∙ same

pub copies_all : (taps : Taps) (place : Place) (from : From) (event : Event) (said : Outcome) (ends : List End) (i : ℕ) → length ends ≤ i
    → copies_by taps place from event said (drop i ends) ≡ []
copies_all taps place from event said ends i h = at_drop_all (copies_by taps place from event said) ends i h
