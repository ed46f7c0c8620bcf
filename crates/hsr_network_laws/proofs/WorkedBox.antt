-- A run that is all that the law of networks asks for: a DANH and a RedBox in mode H in a ring, and a Station that sends to the
-- DANH. It takes the frame up once.
use Rattle.std.proofs.Common.{◌≡◌, ℕ, ◌<◌, ◌&&◌, ◌||◌, Bool, true, false, not, List, [], ◌∷◌, Some, None, refl, sym, ap, ◌∙◌, arith, zero, suc, count_by}
use Rattle.std.specs.List.{list_any, AllByRecursion}
use Rattle.std.proofs.lemmas.Bool.{false≢true}
use Rattle.hsr_frame.specs.Address.{is_group}
use Rattle.hsr_frame.specs.Egress.{Egress, up, a, b, c, d}
use Rattle.hsr_frame.specs.declared.node.Cause.TheVariants.{Passed}
use Rattle.hsr_tag.specs.Seen.{classified}
use Rattle.hsr_duptable.specs.Key.{Key, is_same_key}
use Rattle.hsr_node.specs.Record.{Noted, notes, remembered}
use Rattle.hsr_node.specs.declared.entry.Entry.{Entry}
use Rattle.hsr_node.specs.declared.event.Event.TheVariants.{Arrive}
use Rattle.hsr_node.specs.declared.event.Outcome.TheVariants.{Judged}
use Rattle.hsr_link.specs.declared.row.Dir.{Dir}
use Rattle.hsr_link.specs.declared.row.Dir.TheVariants.{Forth, Back}
use Rattle.hsr_link.specs.declared.row.Row.{Row}
use Rattle.hsr_run_laws.specs.Closed.{IsSend}
use Rattle.hsr_run_laws.specs.Once.{delivers}
use Rattle.hsr_run_laws.specs.Premises.{NothingMistaken, is_mistaken, is_note_of}
use Rattle.hsr_run_laws.specs.Run.{Run, owner_of, peer_in, place_of, record_of}
use Rattle.hsr_topology.specs.declared.end.End.{End}
use Rattle.hsr_run_laws.proofs.Worked.{entry, mac}
use Rattle.hsr_run_laws.proofs.WorkedBox.{copy, first, frame, is_closed, numbered_first, red, remembers}
use Rattle.hsr_network_laws.specs.Network.{HasAddress, IsNetwork, IsPortOf, Channel, is_edge_of, is_in_h_or_u, is_station_of, start_of, stop_of}
use Rattle.hsr_network_laws.specs.Channels.{ComesOver, on, sent}
use Rattle.hsr_network_laws.proofs.Delivered.{once_in_network}

-- ---- nothing mistaken

-- all notes are of the one send
pub own_notes : (key : Key) (ns : List Noted) → AllByRecursion (λ n. is_note_of (Some first) n ≡ true) ns → list_any (is_mistaken key (Some first)) ns ≡ false
own_notes key [] all = refl
own_notes key (n ∷ ns) all = none (is_same_key n.key key) (is_note_of (Some first) n) all.0 (own_notes key ns all.1)
  where
    none : (s m : Bool) → m ≡ true → list_any (is_mistaken key (Some first)) ns ≡ false → ((s && not m) || list_any (is_mistaken key (Some first)) ns) ≡ false
    none true true e rest = rest
    none false true e rest = rest
    none s false e rest = absurd (false≢true e)

pub sure : NothingMistaken red
unfolding classified
sure zero h = ((λ ring e wanted key is. own_notes key _ (second e)), ((λ ring e wanted key is. refl), tt))
  where
    second : (e : Egress) → AllByRecursion (λ n. is_note_of (Some first) n ≡ true) (remembered 4 0 (notes (owner_of red 0) e (entry (Arrive 1 (copy 0)) (Judged true (false ∷ false ∷ false ∷ false ∷ []) None Passed) ∷ [])))
    second up = (refl, tt)
    second a = tt
    second b = tt
    second c = tt
    second d = tt
sure (suc zero) h = ((λ ring. absurd (false≢true ring)), tt)
sure (suc (suc zero)) h = (tt, tt)
sure (suc (suc (suc k))) h = absurd (omega arith)

-- ---- it is a network

abbrev pub channel_at : ℕ → Dir → Channel
channel_at link dir = record { link = link; dir = dir }

modes_at : (k : ℕ) → k < 3 → is_in_h_or_u (place_of red k) ≡ true
modes_at zero h = refl
modes_at (suc zero) h = refl
modes_at (suc (suc zero)) h = refl
modes_at (suc (suc (suc k))) h = absurd (omega arith)

-- the address of each node, by its last octet
abbrev last : ℕ → ℕ
last zero = 1
last (suc zero) = 9
last (suc (suc k)) = 10

address_at : (k : ℕ) (address : List ℕ) → k < 3 → HasAddress (place_of red k) address → address ≡ mac (last k)
address_at zero address h e = e
address_at (suc zero) address h e = e
address_at (suc (suc zero)) address h (i, e) = by_number i e
  where
    by_number : (i : ℕ) → Rattle.std.specs.Prelude.slice_get (mac 10 ∷ []) i ≡ Some address → address ≡ mac 10
    by_number zero e = let here : Some (mac 10) ≡ Some address = e in cc
    by_number (suc i) e = absurd cc
address_at (suc (suc (suc k))) address h e = absurd (omega arith)

single_at : (k : ℕ) (address : List ℕ) → k < 3 → HasAddress (place_of red k) address → is_group address ≡ false
single_at k address h e = ap is_group (address_at k address h e) ∙ refl

abbrev pub fifth : List ℕ → ℕ
fifth xs = Rattle.std.specs.Prelude.slice_index xs 5

last_once : (i j : ℕ) → i < 3 → j < 3 → last i ≡ last j → i ≡ j
last_once zero zero g h e = refl
last_once zero (suc zero) g h e = absurd (omega arith)
last_once zero (suc (suc zero)) g h e = absurd (omega arith)
last_once (suc zero) zero g h e = absurd (omega arith)
last_once (suc zero) (suc zero) g h e = refl
last_once (suc zero) (suc (suc zero)) g h e = absurd (omega arith)
last_once (suc (suc zero)) zero g h e = absurd (omega arith)
last_once (suc (suc zero)) (suc zero) g h e = absurd (omega arith)
last_once (suc (suc zero)) (suc (suc zero)) g h e = refl
last_once (suc (suc (suc k))) j g h e = absurd (omega arith)
last_once i (suc (suc (suc k))) g h e = absurd (omega arith)

differ_at : (i j : ℕ) (address : List ℕ) → i < 3 → j < 3 → HasAddress (place_of red i) address → HasAddress (place_of red j) address → i ≡ j
differ_at i j address g h e f = last_once i j g h (ap fifth (sym (address_at i address g e) ∙ address_at j address h f))

ends_at : (link : ℕ) (dir : Dir) → link < 3 → IsPortOf red (start_of red (channel_at link dir))
ends_at zero Forth h = record { node = omega arith; port = omega arith }
ends_at zero Back h = record { node = omega arith; port = omega arith }
ends_at (suc zero) Forth h = record { node = omega arith; port = omega arith }
ends_at (suc zero) Back h = record { node = omega arith; port = omega arith }
ends_at (suc (suc zero)) Forth h = record { node = omega arith; port = omega arith }
ends_at (suc (suc zero)) Back h = record { node = omega arith; port = omega arith }
ends_at (suc (suc (suc l))) dir h = absurd (omega arith)

sides_at : (link : ℕ) (dir : Dir) → link < 3 → is_edge_of red (start_of red (channel_at link dir)) ≡ is_edge_of red (stop_of red (channel_at link dir))
sides_at zero Forth h = refl
sides_at zero Back h = refl
sides_at (suc zero) Forth h = refl
sides_at (suc zero) Back h = refl
sides_at (suc (suc zero)) Forth h = refl
sides_at (suc (suc zero)) Back h = refl
sides_at (suc (suc (suc l))) dir h = absurd (omega arith)

faces_at : (link : ℕ) (dir : Dir) → link < 3 → is_edge_of red (start_of red (channel_at link dir)) ≡ true → is_station_of red (start_of red (channel_at link dir)) ≡ false →
    is_station_of red (stop_of red (channel_at link dir)) ≡ true
faces_at zero Forth h e s = absurd (false≢true e)
faces_at zero Back h e s = absurd (false≢true e)
faces_at (suc zero) Forth h e s = absurd (false≢true e)
faces_at (suc zero) Back h e s = absurd (false≢true e)
faces_at (suc (suc zero)) Forth h e s = refl
faces_at (suc (suc zero)) Back h e s = absurd (false≢true (sym s))
faces_at (suc (suc (suc l))) dir h e s = absurd (omega arith)

-- the end that each is joined with
peer_at : (link : ℕ) (dir : Dir) → link < 3 → peer_in (start_of red (channel_at link dir)) red.links ≡ Some (stop_of red (channel_at link dir))
peer_at zero Forth h = refl
peer_at zero Back h = refl
peer_at (suc zero) Forth h = refl
peer_at (suc zero) Back h = refl
peer_at (suc (suc zero)) Forth h = refl
peer_at (suc (suc zero)) Back h = refl
peer_at (suc (suc (suc l))) dir h = absurd (omega arith)

-- channels that start at one end stop at one end
pub apart_by : (run : Run) (n : ℕ) → ((link : ℕ) (dir : Dir) → link < n → peer_in (start_of run (channel_at link dir)) run.links ≡ Some (stop_of run (channel_at link dir))) → (channel other : Channel) → channel.link < n → other.link < n → start_of run channel ≡ start_of run other →
    stop_of run channel ≡ stop_of run other
apart_by run n peer channel other g h e =
    let both : Some (stop_of run channel) ≡ Some (stop_of run other) = sym (peer channel.link channel.dir g) ∙ (ap (λ (end : End). peer_in end run.links) e ∙ peer other.link other.dir h) in
    cc

pub is_network : IsNetwork red
is_network = record {
  modes = modes_at;
  single = single_at';
  differ = differ_at;
  ends = λ channel h. ends_at channel.link channel.dir h;
  sides = λ channel h. sides_at channel.link channel.dir h;
  faces = λ channel h e s. faces_at channel.link channel.dir h e s;
  apart = apart_by red 3 peer_at;
}
  where
    single_at' : (k : ℕ) (address : List ℕ) → k < 3 → HasAddress (place_of red k) address → is_group address ≡ false
    single_at' k address h e = single_at k address h e

-- so are the same nodes and links, whatever happened there
pub network_with : (records : List (List Entry)) (rows : List (List Row)) → IsNetwork (record red { records = records; rows = rows })
network_with records rows = record {
  modes = is_network.modes;
  single = is_network.single;
  differ = is_network.differ;
  ends = λ channel h. let there = is_network.ends channel h in record { node = there.node; port = there.port };
  sides = is_network.sides;
  faces = is_network.faces;
  apart = is_network.apart;
}

-- ---- the send reaches the RedBox, and over it the DANH

to_box : ComesOver red first frame (channel_at 2 Back)
to_box = sent (channel_at 2 Back) (record { below = omega arith; kept = refl }) (record { node = refl; out = refl })

to_danh : ComesOver red first frame (channel_at 0 Back)
to_danh =
    on (channel_at 2 Back) (channel_at 0 Back) to_box (record { below = omega arith; kept = refl })
    (record { node = refl; port = λ e. absurd (omega arith); passes = refl; out = refl; away = λ e. absurd (omega arith) })

send_is : IsSend red first (record { frame = frame; seq = None })
send_is = (omega arith, refl)

-- so it took it up once
pub danh_once : count_by (delivers first) (record_of red 0) ≡ 1
danh_once =
    (once_in_network red is_closed is_network numbered_first remembers sure).once first (record { frame = frame; seq = None }) 0 send_is refl (omega arith) refl (record { channel = channel_at 0 Back; comes = to_danh; here = refl })
