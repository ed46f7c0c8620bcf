-- Where a frame can leave a node, and which of these places pass it.
use Rattle.std.specs.Prelude.{ℕ, ◌==◌, ◌&&◌, ◌||◌, Bool, true, false, List, [], ◌∷◌, if◌then◌else◌}
use Rattle.hsr_frame.specs.Address.{is_same_address, supervision_address}
use Rattle.hsr_frame.specs.Layout.{ethertype_supervision}
use Rattle.hsr_frame.specs.declared.node.Cause.{Cause}
use Rattle.hsr_frame.specs.declared.node.Cause.TheVariants.{Passed, Duplicate, Foreign}
use Rattle.hsr_frame.specs.declared.node.Mode.{Mode}
use Rattle.hsr_frame.specs.declared.node.Mode.TheVariants.{H, N, U}
use Rattle.hsr_frame.specs.declared.node.RingPort.{RingPort}
use Rattle.hsr_frame.specs.declared.node.RingPort.TheVariants as ring
use Rattle.hsr_frame.specs.declared.egress.Exits.{Exits}
use Rattle.hsr_frame.specs.declared.egress.Wants.{Wants}

-- up, or by a port; C is a RedBox's interlink too
pub data Egress : Type 0 where
  up : Egress
  a : Egress
  b : Egress
  c : Egress
  d : Egress

abbrev pub no_exits : Exits
no_exits = record { up = false; a = false; b = false; c = false; d = false }

abbrev pub with_exit : Egress → Exits → Exits
with_exit up exits = record exits { up = true }
with_exit a exits = record exits { a = true }
with_exit b exits = record exits { b = true }
with_exit c exits = record exits { c = true }
with_exit d exits = record exits { d = true }

abbrev pub has_exit : Exits → Egress → Bool
has_exit exits up = exits.up
has_exit exits a = exits.a
has_exit exits b = exits.b
has_exit exits c = exits.c
has_exit exits d = exits.d

-- the set of some egresses
abbrev pub exits_of : List Egress → Exits
exits_of [] = no_exits
exits_of (egress ∷ egresses) = with_exit egress (exits_of egresses)

-- a frame is wanted nowhere, for a cause
abbrev pub nowhere : Cause → Wants
nowhere cause = record { exits = no_exits; cause = cause }

-- a frame is wanted at these egresses; where there are none it is foreign
abbrev pub to : List Egress → Wants
to egresses = record { exits = exits_of egresses; cause = Foreign }

-- the port from which a frame goes on round the ring
abbrev pub beyond : RingPort → Egress
beyond ring.A = b
beyond ring.B = a

-- where a unicast that the node delivers goes on round the ring: in mode U alone
abbrev pub onward : Mode → RingPort → List Egress
onward H x = []
onward N x = []
onward U x = beyond x ∷ []

-- in mode N no frame goes on round the ring
abbrev pub in_mode : Mode → Wants → Wants
in_mode H wants = wants
in_mode U wants = wants
in_mode N wants = record wants { exits = record wants.exits { a = false; b = false } }

abbrev pub is_any : Exits → Bool
is_any exits = exits.up || exits.a || exits.b || exits.c || exits.d

-- some egress passes; all that want the frame remember it; none wants it
abbrev pub cause_of : Wants → Exits → Cause
cause_of wants passes = if is_any passes then Passed else (if is_any wants.exits then Duplicate else wants.cause)

-- supervision frames go to their own group, and have a type of their own
abbrev pub is_supervision : List ℕ → ℕ → Bool
is_supervision dst ethertype = is_same_address dst supervision_address && ethertype == ethertype_supervision
