-- What comes to a port on a ring is tagged, and what comes to an edge plain; none of a send comes back to an interlink from another
-- node's Station; and one copy of a send at most comes to a port.
use Rattle.std.proofs.Common.{◌≡◌, ℕ, ◌<◌, ◌≤◌, ◌||◌, Bool, true, false, cond, if◌then◌else◌, List, [], ◌∷◌, length, count_by, filter_map, Option, Some, None, Ok, refl, sym, ap, ◌∙◌, subst, arith, ⊎_elim, eq-eqb}
use Rattle.std.specs.Prelude.{option_map}
use Rattle.std.specs.List.{list_any, AllByRecursion, cons_option}
use Rattle.std.proofs.lemmas.List.Sorted.{sum_by-IsPermutation}
use Rattle.std.proofs.lemmas.Bool.{cases_Bool}
use Rattle.hsr_node.specs.Copies.{copy_octets, forwarded, ports_of, side_of}
use Rattle.hsr_node.specs.Flow.{arrivals, copy_at, passes}
use Rattle.hsr_node.specs.Record.{Each, answer, has_port, now, number_in, probe_handled}
use Rattle.hsr_node.specs.declared.entry.Entry.{Entry}
use Rattle.hsr_node.specs.declared.event.Carried.{Carried}
use Rattle.hsr_node.specs.declared.event.Event.{Event}
use Rattle.hsr_node.specs.declared.event.Event.TheVariants.{Send, Supervise, Arrive, Age}
use Rattle.hsr_node.specs.declared.event.Probe.{Probe}
use Rattle.hsr_link.specs.Rows.{put_copy, taken_copy}
use Rattle.hsr_link.specs.declared.row.Dir.{Dir}
use Rattle.hsr_link.specs.declared.row.Dir.TheVariants.{Forth, Back}
use Rattle.hsr_run_laws.specs.Closed.{IsClosed, IsOfSend}
use Rattle.hsr_network_laws.specs.Network.{IsPortOf, IsNetwork, Channel, is_edge, is_station, start_of, stop_of}
use Rattle.hsr_run_laws.specs.Once.{is_copy}
use Rattle.hsr_run_laws.specs.Premises.{NothingForgotten, NumberedFirst}
use Rattle.hsr_run_laws.specs.Run.{Run, ends_of, from_end, owner_of, past_of, place_of, rows_of, to_end}
use Rattle.hsr_topology.specs.declared.end.End.{End}
use Rattle.hsr_network_laws.proofs.Leaving.{came_by, came_pass, leaves_port}
use Rattle.hsr_network_laws.proofs.Sides.{exit_of, few_ports, one_port}
use Rattle.hsr_network_laws.proofs.Unwanted.{station_lets_none}
use Rattle.hsr_run_laws.proofs.LinkLaws.{arrives_between}
use Rattle.hsr_run_laws.proofs.Lists.{all_weaker}
use Rattle.hsr_run_laws.proofs.NoStorm.{leaves_once}
use Rattle.hsr_run_laws.proofs.Records.{Answered}
use Rattle.hsr_run_laws.proofs.Same.{probe_is}
use Rattle.hsr_run_laws.proofs.Views.{came, knows_at, leaves_wanted}
use Rattle.hsr_network_laws.proofs.Fits.{IsFit, all_fit_left, legal}
use Rattle.hsr_network_laws.proofs.Links.{taken_less}

module _ (run : Run) (closed : IsClosed run) (net : IsNetwork run) where
  pub stop_port : (channel : Channel) → channel.link < length run.links → IsPortOf run (stop_of run channel)
  stop_port channel below = by_dir channel.dir
    where
      by_dir : (dir : Dir) → IsPortOf run (to_end dir (ends_of run channel.link))
      by_dir Forth = net.ends (record { link = channel.link; dir = Back }) below
      by_dir Back = net.ends (record { link = channel.link; dir = Forth }) below

  -- the other direction of the same link
  pub record IsBack (channel : Channel) : Type 0 where
    pub back : Channel
    pub below : back.link < length run.links
    pub starts : start_of run back ≡ stop_of run channel
    pub stops : stop_of run back ≡ start_of run channel

  pub back_of : (channel : Channel) → channel.link < length run.links → IsBack channel
  back_of channel below = by_dir channel.dir refl
    where
      by_dir : (dir : Dir) → channel.dir ≡ dir → IsBack channel
      by_dir Forth e = record { back = record { link = channel.link; dir = Back }; below = below; starts = ap (λ d. to_end d (ends_of run channel.link)) (sym e); stops = ap (λ d. from_end d (ends_of run channel.link)) (sym e) }
      by_dir Back e = record { back = record { link = channel.link; dir = Forth }; below = below; starts = ap (λ d. to_end d (ends_of run channel.link)) (sym e); stops = ap (λ d. from_end d (ends_of run channel.link)) (sym e) }

  -- ---- so what comes is

  abbrev pub IsGoodAt : Bool → Carried → Type 0
  IsGoodAt edge copy = IsFit run edge copy × IsOfSend run copy

  pub all_fit : (k port : ℕ) → k < length run.places → AllByRecursion (IsGoodAt (is_edge (place_of run k) port)) (arrivals port (past_of run k))
  all_fit k port below =
      ⊎_elim
      (λ at.
      let channel : Channel = record { link = at.link; dir = at.dir } in
      let from : End = from_end at.dir (ends_of run at.link) in
      let all = arrives_between run closed (IsFit run (is_edge (place_of run (from_end at.dir (ends_of run at.link)).node) (from_end at.dir (ends_of run at.link)).port)) at.link at.dir (from_end at.dir (ends_of run at.link)) (record { node = k; port = port }) at.below refl at.ends
      (all_fit_left run closed net (from_end at.dir (ends_of run at.link)) (net.ends (record { link = at.link; dir = at.dir }) at.below)) in
      let S : End → Type 0 = λ end. is_edge (place_of run (from_end at.dir (ends_of run at.link)).node) (from_end at.dir (ends_of run at.link)).port ≡ is_edge (place_of run end.node) end.port in
      let same = subst S at.ends (net.sides (record { link = at.link; dir = at.dir }) at.below) in
      let B : Bool → Type 0 = λ b. AllByRecursion (IsGoodAt b) (arrivals port (past_of run k)) in
      subst B same all)
      (λ none. let Q : List Carried → Type 0 = AllByRecursion (IsGoodAt (is_edge (place_of run k) port)) in subst Q (sym none) tt)
      (closed.linked k port below)

  -- ---- what a Station lets leave is its own

  abbrev pub IsFrom : ℕ → Carried → Type 0
  IsFrom j copy = (p : Probe) × (copy.probe ≡ Some p) × (p.node ≡ j)

  pub station_own : (k n : ℕ) → is_station (place_of run k) ≡ true → n < 4 → (h : List Entry) → Each (Answered run.capacity (owner_of run k)) h → AllByRecursion (IsFrom k) (passes (owner_of run k) n h)
  station_own k n station few [] legal = tt
  station_own k n station few (x ∷ past) legal = by_event x.event refl (station_own k n station few past legal.1)
    where
      Goal : Type 0
      Goal = AllByRecursion (IsFrom k) (passes (owner_of run k) n (x ∷ past))

      own : probe_handled (record { node = k; place = length past }) x.event ≡ Some (record { node = k; place = length past }) → AllByRecursion (IsFrom k) (passes (owner_of run k) n past) → Goal
      own probe rest = by_octets (copy_octets (place_of run k) x.event x.outcome n)
        where
          by_octets : (o : Option (List ℕ)) → AllByRecursion (IsFrom k) (cons_option (option_map (λ octets. let c : Carried = record { probe = probe_handled (record { node = k; place = length past }) x.event; octets = octets } in c) o) (passes (owner_of run k) n past))
          by_octets None = rest
          by_octets (Some octets) = ((record { node = k; place = length past }, probe, refl), rest)

      by_event : (event : Event) → x.event ≡ event → AllByRecursion (IsFrom k) (passes (owner_of run k) n past) → Goal
      by_event (Send from dst vlan ethertype data') e rest = own (ap (probe_handled (record { node = k; place = length past })) e) rest
      by_event (Supervise about) e rest = own (ap (probe_handled (record { node = k; place = length past })) e) rest
      by_event Age e rest = own (ap (probe_handled (record { node = k; place = length past })) e) rest
      by_event (Arrive port come) e rest =
          let A : Event → Type 0 = λ ev. answer run.capacity (owner_of run k) past (now (x ∷ past)) ev ≡ Ok x.outcome in
          let ok = subst A e legal.0 in
          let Q : Option Carried → Type 0 = λ o. AllByRecursion (IsFrom k) (cons_option o (passes (owner_of run k) n past)) in
          subst Q (sym (came_pass run.capacity (owner_of run k) n x past port come e ok)) (by_out (has_port (ports_of x.outcome) n) refl ok)
        where
          by_out : (t : Bool) → has_port (ports_of x.outcome) n ≡ t → answer run.capacity (owner_of run k) past (now (x ∷ past)) (Arrive port come) ≡ Ok x.outcome →
              AllByRecursion (IsFrom k) (cons_option (option_map (λ octets. record { probe = come.probe; octets = octets }) (if t then forwarded (side_of (place_of run k) port) (side_of (place_of run k) n) (number_in x.outcome) come.octets else None)) (passes (owner_of run k) n past))
          by_out false gone ok = rest
          by_out true gone ok =
              let left = sym (leaves_port run.capacity (owner_of run k) x past port n come e ok few) ∙ gone in
              absurd (station_lets_none (place_of run k) station (knows_at (owner_of run k) past (now (x ∷ past)) port come) port (came come) n (came_by run.capacity (owner_of run k) past (now (x ∷ past)) port come x.outcome ok)
              (leaves_wanted run.capacity (owner_of run k) past (now (x ∷ past)) port come x.outcome (exit_of n) ok left))

  -- ---- what comes to an interlink comes from a Station

  -- a copy came over a channel that starts at a Station, and is of its own
  pub record IsByStation (k port : ℕ) (copy : Carried) : Type 0 where
    pub channel : Channel
    pub below : channel.link < length run.links
    pub stops : stop_of run channel ≡ record { node = k; port = port }
    pub station : is_station (place_of run (start_of run channel).node) ≡ true
    pub first : (start_of run channel).port ≡ 0
    pub from : IsFrom (start_of run channel).node copy
    pub of_send : IsOfSend run copy

  pub all_by_station : (k port : ℕ) → k < length run.places → is_edge (place_of run k) port ≡ true → is_station (place_of run k) ≡ false → AllByRecursion (IsByStation k port) (arrivals port (past_of run k))
  all_by_station k port below edge no_station =
      ⊎_elim
      (λ at.
      let channel : Channel = record { link = at.link; dir = at.dir } in
      let b = back_of (record { link = at.link; dir = at.dir }) at.below in
      let starts : start_of run b.back ≡ record { node = k; port = port } = b.starts ∙ at.ends in
      let S : End → Type 0 = λ end. is_station (place_of run end.node) ≡ true in
      let E : End → Type 0 = λ end. is_edge (place_of run end.node) end.port ≡ true in
      let N : End → Type 0 = λ end. is_station (place_of run end.node) ≡ false in
      let station = subst S b.stops (net.faces b.back b.below (subst E (sym starts) edge) (subst N (sym starts) no_station)) in
      let there = net.ends (record { link = at.link; dir = at.dir }) at.below in
      let from : End = from_end at.dir (ends_of run at.link) in
      all_weaker (λ copy. IsFrom (from_end at.dir (ends_of run at.link)).node copy × IsOfSend run copy) (IsByStation k port) (arrivals port (past_of run k))
      (λ copy both. record {
        channel = record { link = at.link; dir = at.dir };
        below = at.below;
        stops = at.ends;
        station = station;
        first = one_port (place_of run (from_end at.dir (ends_of run at.link)).node) (from_end at.dir (ends_of run at.link)).port station there.port;
        from = both.0;
        of_send = both.1;
      })
      (arrives_between run closed (IsFrom (from_end at.dir (ends_of run at.link)).node) at.link at.dir (from_end at.dir (ends_of run at.link)) (record { node = k; port = port }) at.below refl at.ends
      (station_own (from_end at.dir (ends_of run at.link)).node (from_end at.dir (ends_of run at.link)).port station (few_ports (place_of run (from_end at.dir (ends_of run at.link)).node) (from_end at.dir (ends_of run at.link)).port there.port) (past_of run (from_end at.dir (ends_of run at.link)).node) (legal run closed net (from_end at.dir (ends_of run at.link)).node there.node))))
      (λ none. let Q : List Carried → Type 0 = AllByRecursion (IsByStation k port) in subst Q (sym none) tt)
      (closed.linked k port below)

  abbrev pub FromEdge : ℕ → Event → Type 0
  FromEdge k (Arrive port copy) = is_edge (place_of run k) port ≡ true → is_station (place_of run k) ≡ false → IsByStation k port copy
  FromEdge k event = Unit {0}

  pub each_from_edge : (k : ℕ) → k < length run.places → Each (λ x past. FromEdge k x.event) (past_of run k)
  each_from_edge k below = in_record (past_of run k) (λ port edge no_station. all_by_station k port below edge no_station)
    where
      AllFrom : List Entry → Type 0
      AllFrom h = (port : ℕ) → is_edge (place_of run k) port ≡ true → is_station (place_of run k) ≡ false → AllByRecursion (IsByStation k port) (arrivals port h)

      in_record : (h : List Entry) → AllFrom h → Each (λ x past. FromEdge k x.event) h
      in_record [] all = tt
      in_record (x ∷ past) all = (step x.event all, in_record past (λ port edge no_station. rest port (copy_at port x.event) (all port edge no_station)))
        where
          rest : (port : ℕ) (o : Option Carried) → AllByRecursion (IsByStation k port) (cons_option o (arrivals port past)) → AllByRecursion (IsByStation k port) (arrivals port past)
          rest port None h = h
          rest port (Some copy) h = h.1

          step : (event : Event) → ((port : ℕ) → is_edge (place_of run k) port ≡ true → is_station (place_of run k) ≡ false → AllByRecursion (IsByStation k port) (cons_option (copy_at port event) (arrivals port past))) → FromEdge k event
          step (Send from dst vlan ethertype payload) all = tt
          step (Supervise about) all = tt
          step Age all = tt
          step (Arrive number copy) all = λ edge no_station.
              let Q : Bool → Type 0 = λ b. AllByRecursion (IsByStation k number) (cons_option (if b then Some copy else None) (arrivals number past)) in
              (subst Q (eq-eqb number number refl) (all number edge no_station)).0

  -- none of a send came to the port from which a channel starts that doesn't end at its sender, if the port is an interlink
  pub none_back : (send : Probe) (channel : Channel) → channel.link < length run.links → is_edge (place_of run (start_of run channel).node) (start_of run channel).port ≡ true → is_station (place_of run (start_of run channel).node) ≡ false →
      ((stop_of run channel).node ≡ send.node → ⊥) → list_any (is_copy send) (arrivals (start_of run channel).port (past_of run (start_of run channel).node)) ≡ false
  none_back send channel below edge no_station away =
      none_of (arrivals (start_of run channel).port (past_of run (start_of run channel).node)) (all_by_station (start_of run channel).node (start_of run channel).port (net.ends channel below).node edge no_station)
    where
      not_mine : (copy : Carried) → IsByStation (start_of run channel).node (start_of run channel).port copy → is_copy send copy ≡ true → ⊥
      not_mine copy by mine =
          let b = back_of by.channel by.below in
          let stops : stop_of run channel ≡ start_of run by.channel = net.apart channel b.back below b.below (sym (b.starts ∙ by.stops)) ∙ b.stops in
          let both : Some by.from.0 ≡ Some send = sym by.from.1 ∙ probe_is send copy.probe mine in
          let same : by.from.0 ≡ send = cc in
          away (ap (λ (end : End). end.node) stops ∙ (sym by.from.2 ∙ ap (λ (p : Probe). p.node) same))

      none_of : (cs : List Carried) → AllByRecursion (IsByStation (start_of run channel).node (start_of run channel).port) cs → list_any (is_copy send) cs ≡ false
      none_of [] all = refl
      none_of (c ∷ cs) all = ⊎_elim (λ mine. absurd (not_mine c all.0 mine)) (λ other. ap (λ b. b || list_any (is_copy send) cs) other ∙ none_of cs all.1) (cases_Bool (is_copy send c))

  -- ---- one copy of a send comes to a port

  pub comes_once : NumberedFirst run → NothingForgotten run → (send : Probe) (k port : ℕ) → k < length run.places → count_by (is_copy send) (arrivals port (past_of run k)) ≤ 1
  comes_once first remembers send k port below =
      ⊎_elim
      (λ at.
      let there = net.ends (record { link = at.link; dir = at.dir }) at.below in
      let once = leaves_once run closed first remembers (from_end at.dir (ends_of run at.link)).node (from_end at.dir (ends_of run at.link)).port send there.node in
      let put = sum_by-IsPermutation (λ x. cond (is_copy send x) 1 0) _ _ (closed.put at.link at.dir at.below) in
      let less = taken_less run (is_copy send) at.dir (rows_of run at.link) (closed.settled at.link at.below) in
      let taken = sum_by-IsPermutation (λ x. cond (is_copy send x) 1 0) _ _ (closed.taken at.link at.dir at.below) in
      let P : End → Type 0 = λ end. count_by (is_copy send) (arrivals end.port (past_of run end.node)) ≤ 1 in
      let M : ℕ → Type 0 = λ m. m ≤ 1 in
      let put_once : count_by (is_copy send) (filter_map (put_copy at.dir) (rows_of run at.link)) ≤ 1 = subst M (sym put) once in
      let taken_once : count_by (is_copy send) (filter_map (taken_copy at.dir) (rows_of run at.link)) ≤ 1 = omega arith in
      subst P at.ends (subst M (sym taken) taken_once))
      (λ none. let Q : List Carried → Type 0 = λ cs. count_by (is_copy send) cs ≤ 1 in subst Q (sym none) (omega arith))
      (closed.linked k port below)
