-- A node on a ring wants nothing at an egress that it doesn't have.
use Rattle.std.proofs.Common.{◌≡◌, ℕ, ◌≤◌, ◌&&◌, Bool, true, false, List, [], ◌∷◌, ◌++◌, Option, Some, None, Result, Ok, Err, refl, ap, ◌∙◌}
use Rattle.hsr_frame.specs.Address.{is_group, is_same_address}
use Rattle.hsr_frame.specs.Cases.{first_of}
use Rattle.hsr_frame.specs.Egress.{up, d as fourth, beyond, in_mode, is_supervision, nowhere, onward, to}
use Rattle.hsr_frame.specs.declared.egress.Wants.{Wants}
use Rattle.hsr_frame.specs.declared.fault.FrameFault.{FrameFault}
use Rattle.hsr_frame.specs.declared.node.Cause.TheVariants.{Returned}
use Rattle.hsr_frame.specs.declared.node.Mode.{Mode}
use Rattle.hsr_frame.specs.declared.node.Mode.TheVariants.{H, N, U}
use Rattle.hsr_frame.specs.declared.node.RingPort.{RingPort}
use Rattle.hsr_frame.specs.declared.node.RingPort.TheVariants.{A, B}
use Rattle.hsr_tag.specs.declared.seen.Seen.{Seen}
use Rattle.hsr_tag.specs.declared.seen.Seen.TheVariants.{Plain, Tagged}
use Rattle.hsr_forwarding.specs.Tables.{Notes, among, copies_of, judged, passed}
use Rattle.hsr_forwarding.specs.Wanted.{Stations, interlink_of, is_behind, ring_exits, wanted, wanted_tagged}
use Rattle.hsr_forwarding.proofs.Keeping.{copies-few, passed-shut}

-- a frame is wanted at egresses of the node alone
abbrev Fits : Option Stations → Wants → Type 0
Fits stations wants = wants.exits ≡ among wants.exits (ring_exits stations)

on-fits : (stations : Option Stations) (x : RingPort) → Fits stations (to (beyond x ∷ []))
on-fits stations A = refl
on-fits stations B = refl

up-on-fits : (stations : Option Stations) (x : RingPort) → Fits stations (to (up ∷ beyond x ∷ []))
up-on-fits stations A = refl
up-on-fits stations B = refl

up-onward-fits : (stations : Option Stations) (mode : Mode) (x : RingPort) → Fits stations (to (up ∷ onward mode x))
up-onward-fits stations H x = refl
up-onward-fits stations N x = refl
up-onward-fits stations U A = refl
up-onward-fits stations U B = refl

all-fits : (stations : Option Stations) (x : RingPort) → Fits stations (to (up ∷ interlink_of stations ++ beyond x ∷ []))
all-fits None A = refl
all-fits None B = refl
all-fits (Some knows) A = refl
all-fits (Some knows) B = refl

behind-fits : (stations : Option Stations) (mode : Mode) (x : RingPort) → Fits stations (to (interlink_of stations ++ onward mode x))
behind-fits None H x = refl
behind-fits None N x = refl
behind-fits None U A = refl
behind-fits None U B = refl
behind-fits (Some knows) H x = refl
behind-fits (Some knows) N x = refl
behind-fits (Some knows) U A = refl
behind-fits (Some knows) U B = refl

-- the table, by what its tests say
table-fits : (stations : Option Stations) (mode : Mode) (x : RingPort) (own same life group behind : Bool)
    → Fits stations (first_of
    ((own, nowhere Returned)
    ∷ (same, to (up ∷ onward mode x))
    ∷ (life, to (up ∷ beyond x ∷ []))
    ∷ (group, to (up ∷ interlink_of stations ++ beyond x ∷ []))
    ∷ (behind, to (interlink_of stations ++ onward mode x))
    ∷ [])
    (to (beyond x ∷ [])))
table-fits stations mode x true same life group behind = refl
table-fits stations mode x false true life group behind = up-onward-fits stations mode x
table-fits stations mode x false false true group behind = up-on-fits stations x
table-fits stations mode x false false false true behind = all-fits stations x
table-fits stations mode x false false false false true = behind-fits stations mode x
table-fits stations mode x false false false false false = on-fits stations x

mode-fits : (stations : Option Stations) (mode : Mode) (wants : Wants) → Fits stations wants → Fits stations (in_mode mode wants)
mode-fits stations H wants fits = fits
mode-fits stations U wants fits = fits
mode-fits stations N wants fits = λ i. record { up = (fits i).up; a = false; b = false; c = (fits i).c; d = (fits i).d }

pub wanted-among : (own : List ℕ) (mode : Mode) (stations : Option Stations) (x : RingPort) (seen : Result Seen FrameFault)
    → let exits = (wanted own mode stations x seen).exits in exits ≡ among exits (ring_exits stations)
wanted-among own mode stations x (Err fault) = refl
wanted-among own mode stations x (Ok (Plain frame)) = refl
wanted-among own mode stations x (Ok (Tagged frame)) =
    mode-fits stations mode (wanted_tagged own mode stations x frame)
    (table-fits stations mode x (is_same_address frame.src own) (is_same_address frame.dst own) (is_supervision frame.dst frame.kind) (is_group frame.dst) (is_behind stations frame.dst))

shut : (p : Bool) → p && false ≡ false
shut true = refl
shut false = refl

no-fourth : (stations : Option Stations) (wants : Wants) → Fits stations wants → wants.exits.d ≡ false
no-fourth None wants fits = ap (λ e. e.d) fits ∙ shut wants.exits.d
no-fourth (Some knows) wants fits = ap (λ e. e.d) fits ∙ shut wants.exits.d

-- no node on a ring has a fourth port
pub wanted-d : (own : List ℕ) (mode : Mode) (stations : Option Stations) (x : RingPort) (seen : Result Seen FrameFault) → (wanted own mode stations x seen).exits.d ≡ false
wanted-d own mode stations x seen = no-fourth stations (wanted own mode stations x seen) (wanted-among own mode stations x seen)

-- one without an interlink has no third
pub wanted-c : (own : List ℕ) (mode : Mode) (x : RingPort) (seen : Result Seen FrameFault) → (wanted own mode None x seen).exits.c ≡ false
wanted-c own mode x seen = ap (λ e. e.c) (wanted-among own mode None x seen) ∙ shut (wanted own mode None x seen).exits.c

-- so at most three ports pass what came to a ring port
pub wanted-few : (capacity : ℕ) (notes : Notes) (own : List ℕ) (mode : Mode) (stations : Option Stations) (x : RingPort) (seen : Result Seen FrameFault) (now : ℕ)
    → copies_of (judged capacity notes (wanted own mode stations x seen) seen now).0.passes ≤ 3
wanted-few capacity notes own mode stations x seen now =
    let exits = (wanted own mode stations x seen).exits in
    copies-few (passed capacity notes exits seen now).0 fourth refl (passed-shut capacity notes exits seen now fourth (wanted-d own mode stations x seen))
