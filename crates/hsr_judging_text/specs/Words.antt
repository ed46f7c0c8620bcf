-- The words of a report.
use Rattle.std.specs.Prelude.{ℕ, Bool, if◌then◌else◌, List, [], ◌∷◌, ◌++◌, codes, Option, Some, None}
use Rattle.std.specs.Fmt.{decimal}
use Rattle.std.specs.Int.{to_be_bytes, w16}
use Rattle.std.specs.List.{filter, flat_map}
use Rattle.hex.specs.Hex.{encode_upper}
use Rattle.hsr_frame.specs.Fault.{send_fault_code}
use Rattle.hsr_frame.specs.Words.{cause_text}
use Rattle.hsr_text.specs.Words.{mac_text}
use Rattle.hsr_tap_device.specs.Words.{end_word}
use Rattle.hsr_tap_device.specs.declared.device.End.{End}
use Rattle.hsr_tap_device.specs.declared.device.Ignored.{Ignored}
use Rattle.hsr_playback.specs.declared.playing.Said.{Said}
use Rattle.hsr_playback.specs.declared.playing.Said.TheVariants as said
use Rattle.hsr_judging.specs.declared.difference.Difference.{Difference}
use Rattle.hsr_judging.specs.declared.difference.Difference.TheVariants.{Source, Vlan, Path, Padding, Size, Payload, Tag, Octets, Number, Life}
use Rattle.hsr_judging_text.specs.declared.words.Ignoring.{Ignoring}
use Rattle.hsr_judging_text.specs.declared.words.Ignoring.TheVariants as ignoring

-- a number, or a hyphen for none
abbrev pub perhaps_text : Option ℕ → List ℕ
perhaps_text None = codes "-"
perhaps_text (Some n) = decimal n

-- a number of 16 bits in four hexadecimal digits
abbrev pub four_text : ℕ → List ℕ
four_text n = encode_upper (to_be_bytes w16 n)

-- the end by which something came, or that the device sent it by itself
abbrev pub by_text : Option End → List ℕ
by_text None = codes "own"
by_text (Some end) = end_word end

-- what the reference said
abbrev pub said_text : Said → List ℕ
said_text (said.Judged cause) = cause_text (codes "-") cause
said_text said.Sent = codes "sent"
said_text (said.Refused fault) = codes "refused-" ++ decimal (send_fault_code fault)

-- ---- texts parted by commas

-- a comma, and a text
abbrev pub behind : {X : Type 0} → (X → List ℕ) → X → List ℕ
behind text x = codes "," ++ text x

-- a hyphen where there are none
abbrev pub parted : {X : Type 0} → (X → List ℕ) → List X → List ℕ
parted text [] = codes "-"
parted text (x ∷ xs) = text x ++ flat_map (behind text) xs

-- ---- what need not agree

abbrev pub all_ignoring : List Ignoring
all_ignoring =
    ignoring.Path ∷ ignoring.Padding ∷ ignoring.LifeUp ∷ ignoring.LifePayload ∷ ignoring.InterlinkSource ∷ ignoring.InterlinkFlood ∷ ignoring.LinkLocal ∷ []

abbrev pub is_ignored : Ignored → Ignoring → Bool
is_ignored ignored ignoring.Path = ignored.path
is_ignored ignored ignoring.Padding = ignored.padding
is_ignored ignored ignoring.LifeUp = ignored.life_up
is_ignored ignored ignoring.LifePayload = ignored.life_payload
is_ignored ignored ignoring.InterlinkSource = ignored.interlink_source
is_ignored ignored ignoring.InterlinkFlood = ignored.interlink_flood
is_ignored ignored ignoring.LinkLocal = ignored.link_local

abbrev pub ignoring_word : Ignoring → List ℕ
ignoring_word ignoring.Path = codes "path"
ignoring_word ignoring.Padding = codes "padding"
ignoring_word ignoring.LifeUp = codes "life-up"
ignoring_word ignoring.LifePayload = codes "life-payload"
ignoring_word ignoring.InterlinkSource = codes "interlink-source"
ignoring_word ignoring.InterlinkFlood = codes "interlink-flood"
ignoring_word ignoring.LinkLocal = codes "link-local"

-- in the order of all
abbrev pub ignored_text : Ignored → List ℕ
ignored_text ignored = parted ignoring_word (filter (is_ignored ignored) all_ignoring)

-- ---- fields in which copies differ

abbrev pub field_word : Difference → List ℕ
field_word (Source a b) = codes "source"
field_word (Vlan a b) = codes "vlan"
field_word (Path a b) = codes "path"
field_word (Padding a b) = codes "padding"
field_word (Size a b) = codes "size"
field_word (Payload at) = codes "payload"
field_word (Tag a b) = codes "tag"
field_word Octets = codes "octets"
field_word (Number a b) = codes "number"
field_word (Life a b) = codes "life"

-- the control information of a VLAN tag, or a hyphen for none
abbrev pub vlan_text : Option ℕ → List ℕ
vlan_text None = codes "-"
vlan_text (Some control) = four_text control

abbrev pub whether_text : Bool → List ℕ
whether_text is = if is then codes "yes" else codes "no"

-- two texts, each behind a colon
abbrev pub colons : List ℕ → List ℕ → List ℕ
colons a b = codes ":" ++ a ++ codes ":" ++ b

-- what was expected in a field and what was seen; of a payload its place alone
abbrev pub values_text : Difference → List ℕ
values_text (Source a b) = colons (mac_text a) (mac_text b)
values_text (Vlan a b) = colons (vlan_text a) (vlan_text b)
values_text (Path a b) = colons (decimal a) (decimal b)
values_text (Padding a b) = colons (decimal a) (decimal b)
values_text (Size a b) = colons (decimal a) (decimal b)
values_text (Payload at) = codes ":" ++ decimal at
values_text (Tag a b) = colons (whether_text a) (whether_text b)
values_text Octets = []
values_text (Number a b) = colons (decimal a) (decimal b)
values_text (Life a b) = colons (decimal a) (decimal b)
