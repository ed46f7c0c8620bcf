-- The blocks that hsr_pcapng writes are read back as themselves.
use Rattle.std.proofs.Common.{◌≡◌, ℕ, ◌+◌, ◌-◌, ◌%◌, ◌^◌, ◌<◌, List, [], ◌∷◌, ◌++◌, length, take, drop, refl, ◌∙◌, append_assoc, length-append, arith, Some}
use Rattle.std.specs.Prelude.{slice_range}
use Rattle.std.specs.Int.{w32, to_le_bytes}
use Rattle.std.proofs.lemmas.List.{take_at, drop_at, length-replicate}
use Rattle.hsr_pcapng.specs.Blocks as written
use Rattle.hsr_capture_reader.specs.declared.numbers.ByteOrder.{ByteOrder}
use Rattle.hsr_capture_reader.specs.declared.numbers.ByteOrder.TheVariants.{Little}
use Rattle.hsr_capture_reader.specs.declared.blocks.Start.{Start}
use Rattle.hsr_capture_reader.specs.Numbers.{number32}
use Rattle.hsr_capture_reader.specs.Blocks.{block_of, order_at}
use Rattle.hsr_capture_reader.specs.Written.{IsReadAs}
use Rattle.hsr_capture_reader.proofs.Walking.{stands_first}
use Rattle.hsr_capture_reader.proofs.Written.{starts}

-- its type and its body
body_is : (offset block_type : ℕ) (body more : List ℕ) → block_type < 2 ^ 32
    → block_of offset (record { order = Little; len = length body + 12 }) (written.block block_type body ++ more) ≡ record { offset = offset; order = Little; block_type = block_type; body = body }
unfolding written.block
body_is offset block_type body more fits =
    let foot = to_le_bytes w32 (length body + 12) in
    let type-is : number32 Little (written.block block_type body ++ more) 0 ≡ block_type = omega arith in
    let len : length body + 12 - 4 - 8 ≡ length body = omega arith in
    let rest : take (length body) ((body ++ foot) ++ more) ≡ body = rw (append_assoc body foot more) (take_at body (foot ++ more) (length body) refl) in
    let body-is : slice_range (written.block block_type body ++ more) 8 (length body + 12 - 4) ≡ body = rw len rest in
    rw (type-is, body-is) refl

-- what follows it
rest_is : (block_type : ℕ) (body more : List ℕ) → drop (length body + 12) (written.block block_type body ++ more) ≡ more
unfolding written.block
rest_is block_type body more =
    drop_at (written.block block_type body) more (length body + 12) (omega (arith, length-append body (to_le_bytes w32 (length body + 12))))

some_there : (block_type : ℕ) (body more : List ℕ) → 0 < length (written.block block_type body ++ more)
unfolding written.block
some_there block_type body more = omega arith

-- any block whose byte order is known
block_read : (offset : ℕ) (before : ByteOrder) (block_type : ℕ) (body : List ℕ) → block_type < 2 ^ 32 → length body % 4 ≡ 0 → length body + 12 < 2 ^ 32
    → ((more : List ℕ) → order_at before (written.block block_type body ++ more) ≡ Some Little) → IsReadAs offset before block_type body
block_read offset before block_type body type_fits whole fits order more =
    let start : Start = record { order = Little; len = length body + 12 } in
    let begins = starts before block_type body more whole fits (order more) in
    stands_first offset before (written.block block_type body ++ more) start (some_there block_type body more) (omega arith) begins
    ∙ rw (body_is offset block_type body more type_fits, rest_is block_type body more) refl

-- ---- lengths

padding_is : (n : ℕ) → (n + length (written.padding n)) % 4 ≡ 0
padding_is n = omega (arith, length-replicate {A = ℕ} ((4 - n % 4) % 4) 0)

option_is : (code : ℕ) (value : List ℕ) → length (written.option_of code value) % 4 ≡ 0
unfolding written.option_of
option_is code value = omega (arith, padding_is (length value), length-append value (written.padding (length value)))

section_is : (program : List ℕ) → length (written.section_body program) % 4 ≡ 0
unfolding written.section_body
section_is program = omega (arith, option_is 4 program, length-append (written.option_of 4 program) written.end_of_options)

interface_is : (name description : List ℕ) → length (written.interface_body name description) % 4 ≡ 0
unfolding written.interface_body
interface_is name description =
    let a = written.option_of written.if_name name in
    let b = written.option_of written.if_description description in
    let c = written.option_of written.if_tsresol (6 ∷ []) in
    omega (arith, option_is written.if_name name, option_is written.if_description description, option_is 9 (6 ∷ []), length-append a b, length-append (a ++ b) c, length-append (a ++ b ++ c) written.end_of_options)

packet_is : (number moment : ℕ) (octets comment : List ℕ) → length (written.packet_body number moment octets comment) % 4 ≡ 0
unfolding written.packet_body
packet_is number moment octets comment =
    let a = written.padded octets in
    let b = written.option_of written.opt_comment comment in
    omega (arith, padding_is (length octets), length-append octets (written.padding (length octets)), option_is written.opt_comment comment, length-append a b, length-append (a ++ b) written.end_of_options)

-- ---- the three blocks

header_order : (before : ByteOrder) (program more : List ℕ) → order_at before (written.block written.section_header_type (written.section_body program) ++ more) ≡ Some Little
unfolding written.block written.section_body
header_order before program more = refl

pub header_read : (offset : ℕ) (before : ByteOrder) (program : List ℕ) → written.FitsSection program → IsReadAs offset before written.section_header_type (written.section_body program)
header_read offset before program fits = block_read offset before written.section_header_type (written.section_body program) (omega arith) (section_is program) fits.block_fits (header_order before program)

interface_order : (body more : List ℕ) → order_at Little (written.block 1 body ++ more) ≡ Some Little
unfolding written.block
interface_order body more = refl

packet_order : (body more : List ℕ) → order_at Little (written.block 6 body ++ more) ≡ Some Little
unfolding written.block
packet_order body more = refl

pub interface_read : (offset : ℕ) (name description : List ℕ) → written.FitsInterface name description → IsReadAs offset Little 1 (written.interface_body name description)
interface_read offset name description fits =
    block_read offset Little 1 (written.interface_body name description) (omega arith) (interface_is name description) fits.block_fits (interface_order (written.interface_body name description))

pub packet_read : (offset number moment : ℕ) (octets comment : List ℕ) → written.FitsPacket number moment octets comment → IsReadAs offset Little 6 (written.packet_body number moment octets comment)
packet_read offset number moment octets comment fits =
    block_read offset Little 6 (written.packet_body number moment octets comment) (omega arith) (packet_is number moment octets comment) fits.block_fits (packet_order (written.packet_body number moment octets comment))
