-- A node that is told by a record holds what the record tells.
use Rattle.std.proofs.Common.{◌≡◌, ℕ, ◌%◌, List, map, reverse, ap, sym, ◌∙◌, arith}
use Rattle.std.specs.Prelude.{fold}
use Rattle.hsr_frame.specs.Egress.{Egress, up, a, b, c, d}
use Rattle.hsr_duptable.specs.Log as log
use Rattle.hsr_duptable.specs.Log.{StandsFor}
use Rattle.hsr_duptable.specs.Notes.{unexpired_notes, entry_forget}
use Rattle.hsr_duptable.specs.Table.{IsWithin, Table}
use Rattle.hsr_duptable.specs.declared.note.Note.{Note}
use Rattle.hsr_duptable.proofs.LogLaws.{unexpired_notes-StandsFor}
use Rattle.hsr_tables.specs.Known.{known, latest_heard}
use Rattle.hsr_tables.specs.Nodes as nodes
use Rattle.hsr_tables.specs.Nodes.{Hearing, Nodes, no_nodes, rows_known}
use Rattle.hsr_tables.specs.Proxies.{Proxies}
use Rattle.hsr_tables.proofs.NodeLaws.{rows_of_latest}
use Rattle.hsr_tables.proofs.ProxyLaws.{knows_latest}
use Rattle.hsr_danh.specs.Past as danh_deeds
use Rattle.hsr_redbox.specs.Past as box_deeds
use Rattle.hsr_quadbox.specs.declared.wanted.QuadPort.TheVariants as quad
use Rattle.hsr_node.specs.Holds.{Holds, HoldsWhatIsTold, IsRemembered}
use Rattle.hsr_node.specs.Record.{Owner, notes, now, oldest_first}
use Rattle.hsr_node.specs.declared.entry.Entry.{Entry}
use Rattle.hsr_node.specs.declared.node.Node.{Node}
use Rattle.hsr_node.specs.declared.node.Node.TheVariants as node
use Rattle.hsr_node.specs.declared.place.Place.{Place}
use Rattle.hsr_node.specs.declared.place.Place.TheVariants as place
use Rattle.hsr_node.proofs.Remembering.{remembered-oldest}
use Rattle.hsr_node.proofs.Replayed.{Held, told}
use Rattle.hsr_node.proofs.OfDanh as danh
use Rattle.hsr_node.proofs.OfRedBox as redbox
use Rattle.hsr_node.proofs.OfQuadBox as quadbox

-- a table that stands for the log of an egress
is-remembered : (capacity : ℕ) (owner : Owner) (past : List Entry) (e : Egress) (table : Table) (notes_of : List Note) (moment accepted : ℕ)
    → IsWithin table moment accepted → moment ≡ now past → StandsFor capacity table notes_of → notes_of ≡ oldest_first (notes owner e past)
    → IsRemembered capacity owner past e table
is-remembered capacity owner past e table notes_of moment accepted within m stands logged at later =
    ap (λ (f : ℕ). unexpired_notes f at table.notes) (sym within.forget)
    ∙ unexpired_notes-StandsFor capacity table notes_of at (omega (arith, within.last)) stands
    ∙ ap (λ (f : ℕ). log.remembered capacity f notes_of at) within.forget
    ∙ ap (λ (l : List Note). log.remembered capacity entry_forget l at) logged
    ∙ remembered-oldest capacity at (notes owner e past)

-- the rows of hearings
rows-told : (table : Nodes) (all latest_first : List Hearing) (at : ℕ) → table ≡ fold nodes.heard no_nodes all → reverse all ≡ latest_first
    → map (λ r. r.0) (known at table.rows) ≡ rows_known latest_first at
rows-told table all latest_first at e r =
    ap (λ (t : Nodes). map (λ r. r.0) (known at t.rows)) e
    ∙ rows_of_latest all at
    ∙ ap (λ (xs : List Hearing). rows_known xs at) r

holds : (capacity : ℕ) (owner : Owner) (past : List Entry) (n : Node capacity) → Held capacity owner.number owner.place n past → Holds capacity owner past n
holds capacity owner past n h = by_kind owner.number owner.place n h
  where
    by_kind : (number : ℕ) (p : Place) (n : Node capacity) → Held capacity number p n past → Holds capacity (record { number = number; place = p }) past n
    by_kind number (place.Danh mac mode) (node.Danh machine) h =
        let o : Owner = record { number = number; place = place.Danh mac mode } in
        let r = h.of_past in
        let moment = r.moment ∙ h.tells.moment in
        let logs = λ (e : Egress). ap (λ (own : List ℕ). danh_deeds.log_of own e h.did) h.own ∙ h.tells.log e in
        record {
          on_up = is-remembered capacity o past up machine.notes.up (danh_deeds.log_of machine.own up h.did) machine.moment machine.accepted r.within.up moment (r.logs up) (logs up);
          on_a = is-remembered capacity o past a machine.notes.a (danh_deeds.log_of machine.own a h.did) machine.moment machine.accepted r.within.a moment (r.logs a) (logs a);
          on_b = is-remembered capacity o past b machine.notes.b (danh_deeds.log_of machine.own b h.did) machine.moment machine.accepted r.within.b moment (r.logs b) (logs b);
          nodes = λ at. rows-told machine.nodes (danh_deeds.hearings_of machine.own h.did) _ at r.nodes (ap (λ (own : List ℕ). reverse (danh_deeds.hearings_of own h.did)) h.own ∙ h.tells.heard);
          next = r.next ∙ ap (λ k. k % 65536) h.tells.numbered;
          moment = moment;
          counted = danh.counters-held capacity number mac mode machine past h;
        }
    by_kind number (place.RedBox mac mode) (node.RedBox machine) h =
        let o : Owner = record { number = number; place = place.RedBox mac mode } in
        let r = h.of_past in
        let moment = r.moment ∙ h.tells.moment in
        let logs = λ (e : Egress). ap (λ (own : List ℕ). box_deeds.log_of own e h.did) h.own ∙ h.tells.log e in
        record {
          on_up = is-remembered capacity o past up machine.notes.up (box_deeds.log_of machine.own up h.did) machine.moment machine.accepted r.within.up moment (r.logs up) (logs up);
          on_a = is-remembered capacity o past a machine.notes.a (box_deeds.log_of machine.own a h.did) machine.moment machine.accepted r.within.a moment (r.logs a) (logs a);
          on_b = is-remembered capacity o past b machine.notes.b (box_deeds.log_of machine.own b h.did) machine.moment machine.accepted r.within.b moment (r.logs b) (logs b);
          on_interlink = is-remembered capacity o past c machine.notes.c (box_deeds.log_of machine.own c h.did) machine.moment machine.accepted r.within.c moment (r.logs c) (logs c);
          nodes = λ at. rows-told machine.nodes (box_deeds.hearings_of machine.own h.did) _ at r.nodes (ap (λ (own : List ℕ). reverse (box_deeds.hearings_of own h.did)) h.own ∙ h.tells.hearing);
          stations = λ at. ap (λ (t : Proxies). known at t.heard) r.proxies ∙ knows_latest (box_deeds.sources_of machine.own h.did) at
              ∙ ap (λ (xs : List (List ℕ × ℕ)). known at (latest_heard (λ h. h.0) xs)) (ap (λ (own : List ℕ). reverse (box_deeds.sources_of own h.did)) h.own ∙ h.tells.sources);
          next = r.next ∙ ap (λ k. k % 65536) h.tells.numbered;
          moment = moment;
          counted = redbox.counters-held capacity number mac mode machine past h;
        }
    by_kind number place.QuadBox (node.QuadBox machine) h =
        let o : Owner = record { number = number; place = place.QuadBox } in
        let r = h.is_told in
        let moment = r.moment ∙ h.tells.moment in
        record {
          on_a = is-remembered capacity o past a machine.notes.a _ machine.moment machine.accepted r.within.a moment (r.logs quad.A) (h.tells.log quad.A);
          on_b = is-remembered capacity o past b machine.notes.b _ machine.moment machine.accepted r.within.b moment (r.logs quad.B) (h.tells.log quad.B);
          on_c = is-remembered capacity o past c machine.notes.c _ machine.moment machine.accepted r.within.c moment (r.logs quad.C) (h.tells.log quad.C);
          on_d = is-remembered capacity o past d machine.notes.d _ machine.moment machine.accepted r.within.d moment (r.logs quad.D) (h.tells.log quad.D);
          moment = moment;
          counted = quadbox.counters-held capacity number machine past h;
        }
    by_kind number (place.Station macs) (node.Station machine) h = record { moment = h.moment; counted = h.counters }
    by_kind number (place.Danh mac mode) (node.RedBox machine) h = elim h [ ]
    by_kind number (place.Danh mac mode) (node.QuadBox machine) h = elim h [ ]
    by_kind number (place.Danh mac mode) (node.Station machine) h = elim h [ ]
    by_kind number (place.RedBox mac mode) (node.Danh machine) h = elim h [ ]
    by_kind number (place.RedBox mac mode) (node.QuadBox machine) h = elim h [ ]
    by_kind number (place.RedBox mac mode) (node.Station machine) h = elim h [ ]
    by_kind number place.QuadBox (node.Danh machine) h = elim h [ ]
    by_kind number place.QuadBox (node.RedBox machine) h = elim h [ ]
    by_kind number place.QuadBox (node.Station machine) h = elim h [ ]
    by_kind number (place.Station macs) (node.Danh machine) h = elim h [ ]
    by_kind number (place.Station macs) (node.RedBox machine) h = elim h [ ]
    by_kind number (place.Station macs) (node.QuadBox machine) h = elim h [ ]

pub holds_what_is_told : (capacity : ℕ) → HoldsWhatIsTold capacity
holds_what_is_told capacity owner past n r = holds capacity owner past n (told capacity owner.number owner.place n past r).1
