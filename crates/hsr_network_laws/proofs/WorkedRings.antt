-- A run that is all that the law of networks asks for: two rings, of a DANH each, that a QuadBox couples, with a cut in each
-- ring. The DANH of the first ring, in mode H, sends to a group; that of the second, in mode U, takes it up once.
use Rattle.std.proofs.Common.{◌≡◌, ◌⊎◌, ℕ, ◌+◌, ◌<◌, ◌≤◌, ◌==◌, true, false, List, [], ◌∷◌, Some, None, refl, sym, ap, ◌∙◌, arith, inl, inr, zero, suc, count_by}
use Rattle.std.specs.List.{list_any, AllByRecursion}
use Rattle.std.proofs.lemmas.List.Sorted.{IsPermutation-refl}
use Rattle.std.proofs.lemmas.Bool.{false≢true}
use Rattle.hsr_frame.specs.Address.{is_group}
use Rattle.hsr_frame.specs.declared.node.Cause.TheVariants.{Passed}
use Rattle.hsr_frame.specs.declared.node.Mode.TheVariants.{H, U}
use Rattle.hsr_tag.specs.Seen.{classified}
use Rattle.hsr_node.specs.Copies.{copy_octets, passed_octets}
use Rattle.hsr_node.specs.Flow.{arrivals}
use Rattle.hsr_node.specs.Record.{Each, IsLegal, now}
use Rattle.hsr_node.specs.declared.event.Event.TheVariants.{Send, Arrive}
use Rattle.hsr_node.specs.declared.event.Outcome.TheVariants.{Sent, Judged}
use Rattle.hsr_node.specs.declared.event.Probe.{Probe}
use Rattle.hsr_node.specs.declared.place.Place.TheVariants.{Danh, QuadBox}
use Rattle.hsr_link.specs.declared.row.Dir.{Dir}
use Rattle.hsr_link.specs.declared.row.Dir.TheVariants.{Forth, Back}
use Rattle.hsr_link.specs.declared.row.Fate.{Fate}
use Rattle.hsr_link.specs.declared.row.Fate.TheVariants.{Taken, LostDown}
use Rattle.hsr_link.specs.declared.row.Row.{Row}
use Rattle.hsr_run_laws.specs.Budget.{IsInTime, is_within, moment_of, sends_of}
use Rattle.hsr_run_laws.specs.Closed.{HasLink, IsClosed, IsOfSend, IsSettled, PutAgrees, TakenAgrees}
use Rattle.hsr_run_laws.specs.Once.{delivers}
use Rattle.hsr_run_laws.specs.Premises.{HasNoRedBox, NothingForgotten, NothingMistaken, NumberedFirst}
use Rattle.hsr_run_laws.specs.Run.{Run, owner_of, past_of, peer_in, place_of, record_of, rows_of}
use Rattle.hsr_run_laws.proofs.InBudget.{budget_keeps}
use Rattle.hsr_run_laws.proofs.WithoutBoxes.{boxless}
use Rattle.hsr_run_laws.proofs.Worked.{at_start, copy, entry, far, frame, group, mac, nothing_else, of_tagged, one_within, tagged_copy}
use Rattle.hsr_run_laws.proofs.WorkedBox.{end_at}
use Rattle.hsr_network_laws.specs.Network.{HasAddress, IsNetwork, IsPortOf, is_edge_of, is_in_h_or_u, start_of, stop_of}
use Rattle.hsr_network_laws.specs.Channels.{ComesOver, on, sent}
use Rattle.hsr_network_laws.proofs.Delivered.{once_in_network}
use Rattle.hsr_network_laws.proofs.WorkedBox.{apart_by, fifth, channel_at}

abbrev first : Probe
first = record { node = 0; place = 0 }

abbrev row : Dir → ℕ → Fate → Row
row dir path fate = record { dir = dir; carried = copy path; injected = false; fate = fate }

-- the links 0 and 3 are cut
abbrev rings : Run
rings = record {
  capacity = 4;
  places = Danh (mac 1) H ∷ QuadBox ∷ Danh (mac 2) U ∷ [];
  links = (end_at 0 1 ∷ end_at 1 0 ∷ []) ∷ (end_at 1 1 ∷ end_at 0 0 ∷ []) ∷ (end_at 1 2 ∷ end_at 2 1 ∷ []) ∷ (end_at 1 3 ∷ end_at 2 0 ∷ []) ∷ [];
  records = (entry (Send 0 group None 0x0800 (0xAA ∷ 0xBB ∷ [])) (Sent (Some 0) (true ∷ true ∷ false ∷ false ∷ [])) ∷ [])
      ∷ (entry (Arrive 1 (copy 0)) (Judged false (true ∷ false ∷ true ∷ true ∷ []) None Passed) ∷ [])
      ∷ (entry (Arrive 1 (copy 0)) (Judged true (true ∷ false ∷ false ∷ false ∷ []) None Passed) ∷ []) ∷ [];
  rows = (row Forth 1 LostDown ∷ row Back 0 LostDown ∷ []) ∷ (row Back 0 Taken ∷ []) ∷ (row Forth 0 Taken ∷ []) ∷ (row Forth 0 LostDown ∷ row Back 0 LostDown ∷ []) ∷ [];
}

-- ---- it is closed

legal_at : (k : ℕ) → k < 3 → IsLegal 4 (owner_of rings k) (past_of rings k)
unfolding IsLegal classified
legal_at zero h = (refl, tt)
legal_at (suc zero) h = (refl, tt)
legal_at (suc (suc zero)) h = (refl, tt)
legal_at (suc (suc (suc k))) h = absurd (omega arith)

of_send : (path : ℕ) → path < 2 → IsOfSend rings (copy path)
of_send path h = of_tagged rings first (record { frame = frame; seq = Some 0 }) path 0 (copy path) refl (tagged_copy path h) (omega arith, refl) refl

settled_at : (l : ℕ) → l < 4 → AllByRecursion (IsSettled rings) (rows_of rings l)
settled_at zero h = (record { put = refl; origin = of_send 1 (omega arith); gone = refl }, (record { put = refl; origin = of_send 0 (omega arith); gone = refl }, tt))
settled_at (suc zero) h = (record { put = refl; origin = of_send 0 (omega arith); gone = refl }, tt)
settled_at (suc (suc zero)) h = (record { put = refl; origin = of_send 0 (omega arith); gone = refl }, tt)
settled_at (suc (suc (suc zero))) h = (record { put = refl; origin = of_send 0 (omega arith); gone = refl }, (record { put = refl; origin = of_send 0 (omega arith); gone = refl }, tt))
settled_at (suc (suc (suc (suc l)))) h = absurd (omega arith)

put_at : (l : ℕ) (dir : Dir) → l < 4 → PutAgrees rings l dir
unfolding copy_octets passed_octets
put_at zero Forth h = IsPermutation-refl (copy 1 ∷ [])
put_at zero Back h = IsPermutation-refl (copy 0 ∷ [])
put_at (suc zero) Forth h = IsPermutation-refl []
put_at (suc zero) Back h = IsPermutation-refl (copy 0 ∷ [])
put_at (suc (suc zero)) Forth h = IsPermutation-refl (copy 0 ∷ [])
put_at (suc (suc zero)) Back h = IsPermutation-refl []
put_at (suc (suc (suc zero))) Forth h = IsPermutation-refl (copy 0 ∷ [])
put_at (suc (suc (suc zero))) Back h = IsPermutation-refl (copy 0 ∷ [])
put_at (suc (suc (suc (suc l)))) dir h = absurd (omega arith)

taken_at : (l : ℕ) (dir : Dir) → l < 4 → TakenAgrees rings l dir
taken_at zero Forth h = IsPermutation-refl []
taken_at zero Back h = IsPermutation-refl []
taken_at (suc zero) Forth h = IsPermutation-refl []
taken_at (suc zero) Back h = IsPermutation-refl (copy 0 ∷ [])
taken_at (suc (suc zero)) Forth h = IsPermutation-refl (copy 0 ∷ [])
taken_at (suc (suc zero)) Back h = IsPermutation-refl []
taken_at (suc (suc (suc zero))) Forth h = IsPermutation-refl []
taken_at (suc (suc (suc zero))) Back h = IsPermutation-refl []
taken_at (suc (suc (suc (suc l)))) dir h = absurd (omega arith)

linked_at : (k port : ℕ) → k < 3 → HasLink rings k port ⊎ (arrivals port (past_of rings k) ≡ [])
linked_at zero p h = inr refl
linked_at (suc zero) zero h = inl (record { link = 0; dir = Forth; below = omega arith; ends = refl })
linked_at (suc zero) (suc zero) h = inl (record { link = 1; dir = Back; below = omega arith; ends = refl })
linked_at (suc zero) (suc (suc p)) h = inr (nothing_else (1 == suc (suc p)) (copy 0) (far 1 p (omega arith)))
linked_at (suc (suc zero)) zero h = inl (record { link = 3; dir = Forth; below = omega arith; ends = refl })
linked_at (suc (suc zero)) (suc zero) h = inl (record { link = 2; dir = Forth; below = omega arith; ends = refl })
linked_at (suc (suc zero)) (suc (suc p)) h = inr (nothing_else (1 == suc (suc p)) (copy 0) (far 1 p (omega arith)))
linked_at (suc (suc (suc k))) p h = absurd (omega arith)

pub is_closed : IsClosed rings
is_closed = record { tables = (omega arith, omega arith); records = refl; rows = refl; legal = legal_at; put = put_at; taken = taken_at; settled = settled_at; linked = linked_at }

-- ---- nothing forgotten, nothing mistaken

no_box : HasNoRedBox rings
no_box zero h = refl
no_box (suc zero) h = refl
no_box (suc (suc zero)) h = refl
no_box (suc (suc (suc k))) h = absurd (omega arith)

pub numbered_first : NumberedFirst rings
numbered_first = boxless rings is_closed no_box

at_first : (send : Probe) → Some first ≡ Some send → (moment_of rings send ≤ 0) × (0 < moment_of rings send + 400000)
at_first send e = at_start rings first refl send e

in_time_at : (k : ℕ) → k < 3 → Each (λ x past. IsInTime rings (now (x ∷ past)) x.event) (past_of rings k)
in_time_at zero h = (tt, tt)
in_time_at (suc zero) h = (at_first, tt)
in_time_at (suc (suc zero)) h = (at_first, tt)
in_time_at (suc (suc (suc k))) h = absurd (omega arith)

not_crowded_at : (start : ℕ) → list_any (λ sent. sent.moment == start) (sends_of rings) ≡ true → count_by (is_within start 800000) (sends_of rings) ≤ 4
not_crowded_at start h = one_within start (record { send = first; moment = 0 })

pub remembers : NothingForgotten rings
remembers = budget_keeps rings is_closed numbered_first (record { in_time = in_time_at; not_crowded = not_crowded_at })

pub sure : NothingMistaken rings
unfolding classified
sure zero h = (tt, tt)
sure (suc zero) h = ((λ ring e wanted key is. refl), tt)
sure (suc (suc zero)) h = ((λ ring e wanted key is. refl), tt)
sure (suc (suc (suc k))) h = absurd (omega arith)

-- ---- it is a network

modes_at : (k : ℕ) → k < 3 → is_in_h_or_u (place_of rings k) ≡ true
modes_at zero h = refl
modes_at (suc zero) h = refl
modes_at (suc (suc zero)) h = refl
modes_at (suc (suc (suc k))) h = absurd (omega arith)

single_at : (k : ℕ) (address : List ℕ) → k < 3 → HasAddress (place_of rings k) address → is_group address ≡ false
single_at zero address h e = ap is_group e ∙ refl
single_at (suc zero) address h e = absurd e
single_at (suc (suc zero)) address h e = ap is_group e ∙ refl
single_at (suc (suc (suc k))) address h e = absurd (omega arith)

apart : mac 1 ≡ mac 2 → ⊥
apart e = let last : fifth (mac 1) ≡ fifth (mac 2) = ap fifth e in omega arith

differ_at : (i j : ℕ) (address : List ℕ) → i < 3 → j < 3 → HasAddress (place_of rings i) address → HasAddress (place_of rings j) address → i ≡ j
differ_at zero zero address g h e f = refl
differ_at zero (suc (suc zero)) address g h e f = absurd (apart (sym e ∙ f))
differ_at (suc (suc zero)) zero address g h e f = absurd (apart (sym f ∙ e))
differ_at (suc (suc zero)) (suc (suc zero)) address g h e f = refl
differ_at (suc zero) j address g h e f = absurd e
differ_at i (suc zero) address g h e f = absurd f
differ_at (suc (suc (suc k))) j address g h e f = absurd (omega arith)
differ_at i (suc (suc (suc k))) address g h e f = absurd (omega arith)

ends_at : (link : ℕ) (dir : Dir) → link < 4 → IsPortOf rings (start_of rings (channel_at link dir))
ends_at zero Forth h = record { node = omega arith; port = omega arith }
ends_at zero Back h = record { node = omega arith; port = omega arith }
ends_at (suc zero) Forth h = record { node = omega arith; port = omega arith }
ends_at (suc zero) Back h = record { node = omega arith; port = omega arith }
ends_at (suc (suc zero)) Forth h = record { node = omega arith; port = omega arith }
ends_at (suc (suc zero)) Back h = record { node = omega arith; port = omega arith }
ends_at (suc (suc (suc zero))) Forth h = record { node = omega arith; port = omega arith }
ends_at (suc (suc (suc zero))) Back h = record { node = omega arith; port = omega arith }
ends_at (suc (suc (suc (suc l)))) dir h = absurd (omega arith)

-- all ports are on rings
no_edge_at : (link : ℕ) (dir : Dir) → link < 4 → (is_edge_of rings (start_of rings (channel_at link dir)) ≡ false) × (is_edge_of rings (stop_of rings (channel_at link dir)) ≡ false)
no_edge_at zero Forth h = (refl, refl)
no_edge_at zero Back h = (refl, refl)
no_edge_at (suc zero) Forth h = (refl, refl)
no_edge_at (suc zero) Back h = (refl, refl)
no_edge_at (suc (suc zero)) Forth h = (refl, refl)
no_edge_at (suc (suc zero)) Back h = (refl, refl)
no_edge_at (suc (suc (suc zero))) Forth h = (refl, refl)
no_edge_at (suc (suc (suc zero))) Back h = (refl, refl)
no_edge_at (suc (suc (suc (suc l)))) dir h = absurd (omega arith)

-- the end that each is joined with
peer_at : (link : ℕ) (dir : Dir) → link < 4 → peer_in (start_of rings (channel_at link dir)) rings.links ≡ Some (stop_of rings (channel_at link dir))
peer_at zero Forth h = refl
peer_at zero Back h = refl
peer_at (suc zero) Forth h = refl
peer_at (suc zero) Back h = refl
peer_at (suc (suc zero)) Forth h = refl
peer_at (suc (suc zero)) Back h = refl
peer_at (suc (suc (suc zero))) Forth h = refl
peer_at (suc (suc (suc zero))) Back h = refl
peer_at (suc (suc (suc (suc l)))) dir h = absurd (omega arith)

pub is_network : IsNetwork rings
is_network = record {
  modes = modes_at;
  single = single_at;
  differ = differ_at;
  ends = λ channel h. ends_at channel.link channel.dir h;
  sides = λ channel h. let two = no_edge_at channel.link channel.dir h in two.0 ∙ sym two.1;
  faces = λ channel h edge no_station. absurd (false≢true (sym (no_edge_at channel.link channel.dir h).0 ∙ edge));
  apart = apart_by rings 4 peer_at;
}

-- ---- the send reaches the DANH of the other ring

to_quadbox : ComesOver rings first frame (channel_at 1 Back)
to_quadbox = sent (channel_at 1 Back) (record { below = omega arith; kept = refl }) (record { node = refl; out = refl })

to_danh : ComesOver rings first frame (channel_at 2 Forth)
to_danh =
    on (channel_at 1 Back) (channel_at 2 Forth) to_quadbox (record { below = omega arith; kept = refl })
    (record { node = refl; port = λ e. absurd (omega arith); passes = refl; out = refl; away = λ e. absurd (omega arith) })

-- so it took it up once
pub danh_once : count_by (delivers first) (record_of rings 2) ≡ 1
danh_once =
    (once_in_network rings is_closed is_network numbered_first remembers sure).once first (record { frame = frame; seq = Some 0 }) 2 (omega arith, refl) refl (omega arith) refl (record { channel = channel_at 2 Forth; comes = to_danh; here = refl })
