-- The words that documents have: keys, roles, ends, ways past an end, and what need not agree.
use Rattle.std.specs.Prelude.{ℕ, ◌==◌, ◌&&◌, Bool, true, false, List, [], ◌∷◌, codes, Option, Some, None, option_map, option_and_then, if◌then◌else◌}
use Rattle.std.specs.Str.{bytes_eq}
use Rattle.hsr_frame.specs.Cases.{first_of}
use Rattle.hsr_node.specs.Words.{role_of as any_role_of}
use Rattle.hsr_node.specs.declared.role.Role.{Role}
use Rattle.hsr_node.specs.declared.role.Role.TheVariants.{Danh, RedBox, QuadBox, Station}
use Rattle.hsr_text.specs.Words.{cut}
use Rattle.hsr_tap_device.specs.Fault.{key_text}
use Rattle.hsr_tap_device.specs.declared.device.End.{End}
use Rattle.hsr_tap_device.specs.declared.device.End.TheVariants as at
use Rattle.hsr_tap_device.specs.declared.device.Ignored.{Ignored}
use Rattle.hsr_tap_device.specs.declared.device.Passing.{Passing}
use Rattle.hsr_tap_device.specs.declared.device.Passing.TheVariants.{In, Out, Flags, Lane}
use Rattle.hsr_tap_device.specs.declared.device.Tap.{Tap}
use Rattle.hsr_tap_device.specs.declared.fault.Key.{Key}
use Rattle.hsr_tap_device.specs.declared.fault.Key.TheVariants as key

-- ---- keys of a document

abbrev pub top_keys : List Key
top_keys = key.Role ∷ key.Address ∷ key.Mode ∷ key.Table ∷ key.Within ∷ key.Early ∷ key.From ∷ key.Until ∷ key.Warm ∷ key.Start
    ∷ key.LifeStart ∷ key.Host ∷ key.Stations ∷ key.Whole ∷ key.Ignore ∷ key.Down ∷ key.Interface ∷ []

-- the key among some that is written so
abbrev pub key_among : List Key → List ℕ → Option Key
key_among [] word = None
key_among (k ∷ ks) word = if bytes_eq word (key_text k) then Some k else key_among ks word

-- ---- roles

-- a station is no device of a ring
abbrev pub of_ring : Role → Option Role
of_ring Danh = Some Danh
of_ring RedBox = Some RedBox
of_ring QuadBox = Some QuadBox
of_ring Station = None

abbrev pub role_of : List ℕ → Option Role
role_of word = option_and_then of_ring (any_role_of word)

-- ---- ends

abbrev pub end_word : End → List ℕ
end_word at.A = codes "A"
end_word at.B = codes "B"
end_word at.C = codes "C"
end_word at.D = codes "D"
end_word at.I = codes "I"
end_word at.Up = codes "up"

-- a number for each, so that ends can be told apart
abbrev pub end_number : End → ℕ
end_number at.A = 0
end_number at.B = 1
end_number at.C = 2
end_number at.D = 3
end_number at.I = 4
end_number at.Up = 5

abbrev pub is_same_end : End → End → Bool
is_same_end a b = end_number a == end_number b

abbrev pub end_of : List ℕ → Option End
end_of w = first_of
    ((bytes_eq w (codes "A"), Some at.A) ∷ (bytes_eq w (codes "B"), Some at.B) ∷ (bytes_eq w (codes "C"), Some at.C)
    ∷ (bytes_eq w (codes "D"), Some at.D) ∷ (bytes_eq w (codes "I"), Some at.I) ∷ (bytes_eq w (codes "up"), Some at.Up) ∷ [])
    None

-- whether a device of this role has the end; each has a host
abbrev pub has_end : Role → End → Bool
has_end role at.A = true
has_end role at.B = true
has_end role at.Up = true
has_end RedBox at.I = true
has_end QuadBox at.C = true
has_end QuadBox at.D = true
has_end _ _ = false

abbrev pub had_by : Role → End → Option End
had_by role end = if has_end role end then Some end else None

abbrev pub end_at : Role → List ℕ → Option End
end_at role word = option_and_then (had_by role) (end_of word)

-- an end on a ring, where tags have lanes
abbrev pub has_lane : End → Bool
has_lane at.I = false
has_lane at.Up = false
has_lane _ = true

-- ---- which way packets pass an end

abbrev pub passing_of : End → Option (List ℕ) → Option Passing
passing_of end None = Some Flags
passing_of end (Some w) = first_of
    ((bytes_eq w (codes "in"), Some In) ∷ (bytes_eq w (codes "out"), Some Out) ∷ (bytes_eq w (codes "lane") && has_lane end, Some Lane) ∷ [])
    None

abbrev pub tap_at : Option (List ℕ) → End → Option Tap
tap_at way end = option_map (λ p. record { end = end; passing = p }) (passing_of end way)

-- an end, and behind one space the way
abbrev pub tap_of : Role → List ℕ → Option Tap
tap_of role text = let c = cut 32 text in option_and_then (tap_at c.1) (end_at role c.0)

-- ---- what need not agree

abbrev pub nothing_ignored : Ignored
nothing_ignored = record { path = false; padding = false; life_up = false; life_payload = false; interlink_source = false; interlink_flood = false; link_local = false }

-- what is ignored already, and what one more word says
abbrev pub ignored_with : Ignored → List ℕ → Option Ignored
ignored_with s w = first_of
    ((bytes_eq w (codes "path"), Some (record s { path = true }))
    ∷ (bytes_eq w (codes "padding"), Some (record s { padding = true }))
    ∷ (bytes_eq w (codes "life-up"), Some (record s { life_up = true }))
    ∷ (bytes_eq w (codes "life-payload"), Some (record s { life_payload = true }))
    ∷ (bytes_eq w (codes "interlink-source"), Some (record s { interlink_source = true }))
    ∷ (bytes_eq w (codes "interlink-flood"), Some (record s { interlink_flood = true }))
    ∷ (bytes_eq w (codes "link-local"), Some (record s { link_local = true }))
    ∷ [])
    None
