-- Why a node refuses to send.
use Rattle.std.specs.Prelude.{ℕ, ◌^◌, ◌==◌, ◌||◌, nat_lt, List, [], ◌∷◌, Option, Some, None}
use Rattle.hsr_frame.specs.Cases.{first_of}
use Rattle.hsr_frame.specs.Address.{is_same_address}
use Rattle.hsr_frame.specs.Layout.{ethertype_hsr, ethertype_vlan, max_payload}
use Rattle.hsr_frame.specs.declared.fault.SendFault.{SendFault}
use Rattle.hsr_frame.specs.declared.fault.SendFault.TheVariants.{SelfAddressed, ReservedType, TooLong, Spent}

-- the first reason that applies: of the source, the steps accepted, the destination, the type and the payload's length
abbrev pub send_refusal : List ℕ → ℕ → List ℕ → ℕ → ℕ → Option SendFault
send_refusal src accepted dst ethertype len = first_of
    ((is_same_address dst src, Some SelfAddressed)
    ∷ (ethertype == ethertype_hsr || ethertype == ethertype_vlan, Some ReservedType)
    ∷ (accepted == 2 ^ 62, Some Spent)
    ∷ (nat_lt max_payload len, Some TooLong)
    ∷ [])
    None
