-- What supervision frames say (IEC 62439-3 clause 5.7). Lists are in the order of time.
--     AreHeard         the copies of supervision frames that can be read, and those that began frames that can't
use Rattle.std.specs.Prelude.{ℕ, ◌≡◌, ◌+◌, ◌-◌, Bool, if◌then◌else◌, List, [], ◌∷◌, ◌++◌, length, option_to_list, replicate, Option, Some, None, Result, Ok, Err}
use Rattle.hsr_frame.specs.Egress.{is_supervision}
use Rattle.hsr_frame_copies.specs.Contents.{CopyFields}
use Rattle.hsr_frame_groups.specs.Frames.{CaughtFields, past_of}
use Rattle.hsr_heard.specs.declared.heard.Heard.{Heard}
use Rattle.hsr_sightings.specs.Frames.{begins}
use Rattle.hsr_sightings.specs.Ring.{Ring, way_of}
use Rattle.hsr_supervision.specs.Payload.{Fields, read_of}
use Rattle.hsr_supervision.specs.declared.payload.SupFault.{SupFault}

-- ---- what is told of copies

-- of the copies from an index on, what is told of each, if something is: by its index, and by those before it, the latest first
abbrev pub those_from : {X : Type 0} → (ℕ → List CaughtFields → CaughtFields → Option X) → List CaughtFields → ℕ → List CaughtFields → List X
those_from tell copies i [] = []
those_from tell copies i (c ∷ rest) = option_to_list (tell i (past_of copies i) c) ++ those_from tell copies (i + 1) rest

abbrev pub those_of : {X : Type 0} → (ℕ → List CaughtFields → CaughtFields → Option X) → List CaughtFields → List X
those_of tell copies = those_from tell copies 0 copies

-- its payload, with zeros for what wasn't captured
abbrev pub padded : CopyFields → List ℕ
padded copy = copy.payload ++ replicate (copy.length - length copy.payload) 0

-- a copy of a supervision frame, with what it says
abbrev pub heard_by : Ring → ℕ → Bool → CaughtFields → Result Fields SupFault → Option Heard
heard_by ring i begun c (Ok said) = Some (record { said = said; source = c.copy.src; copy = i; at = c.at; way = way_of ring c; begins = begun })
heard_by ring i begun c (Err fault) = None

-- a copy that began a frame which can't be read
abbrev pub unread_by : ℕ → Bool → Result Fields SupFault → Option ℕ
unread_by i begun (Ok said) = None
unread_by i begun (Err fault) = if begun then Some i else None

abbrev pub heard_if : Ring → ℕ → Bool → CaughtFields → Option Heard
heard_if ring i begun c = if is_supervision c.copy.dst c.copy.kind then heard_by ring i begun c (read_of (padded c.copy)) else None

abbrev pub unread_if : ℕ → Bool → CaughtFields → Option ℕ
unread_if i begun c = if is_supervision c.copy.dst c.copy.kind then unread_by i begun (read_of (padded c.copy)) else None

abbrev pub heard_at : Ring → ℕ → List CaughtFields → CaughtFields → Option Heard
heard_at ring i past c = heard_if ring i (begins past c) c

abbrev pub unread_at : ℕ → List CaughtFields → CaughtFields → Option ℕ
unread_at i past c = unread_if i (begins past c) c

pub record AreHeard (ring : Ring) (copies : List CaughtFields) (heard : List Heard) (unread : List ℕ) : Type 0 where
  pub read : heard ≡ those_of (heard_at ring) copies
  pub others : unread ≡ those_of unread_at copies
