-- From the tests of an entry to what they tell of its arrival.
use Rattle.std.proofs.Common.{◌≡◌, ℕ, ◌&&◌, ◌||◌, Bool, true, false, not, List, [], ◌∷◌, length, Option, Some, None, refl, sym, ap, ◌∙◌, subst}
use Rattle.std.specs.List.{list_any}
use Rattle.std.proofs.lemmas.Bool.{and_parts, false≢true, or_cases, or_parts}
use Rattle.hsr_frame.specs.Egress.{Egress, up, a, b, c, d, has_exit}
use Rattle.hsr_frame.specs.declared.egress.Exits.{Exits}
use Rattle.hsr_tag.specs.Seen.{classified}
use Rattle.hsr_duptable.specs.Key.{Key}
use Rattle.hsr_node.specs.Record.{Owner, key_in, knows, notes, now, remembered}
use Rattle.hsr_node.specs.declared.entry.Entry.{Entry}
use Rattle.hsr_node.specs.declared.event.Carried.{Carried}
use Rattle.hsr_node.specs.declared.event.Event.{Event}
use Rattle.hsr_node.specs.declared.event.Event.TheVariants.{Send, Supervise, Arrive, Age}
use Rattle.hsr_node.specs.declared.event.Outcome.{Outcome}
use Rattle.hsr_node.specs.declared.event.Probe.{Probe}
use Rattle.hsr_run_laws.specs.Premises.{KnowsOwn, Remembers, is_mistaken, is_note_of}
use Rattle.hsr_table_demand.specs.Read.{wanted_in}
use Rattle.hsr_table_demand.proofs.Walking.{is_wanted, wanted_is}
use Rattle.hsr_table_flaws.specs.Looked.{any_wanted, forgets_of, mistakes_of}
use Rattle.hsr_table_flaws.specs.Places.{is_gone, is_mixed_up}

-- ---- egresses

off : (w g : Bool) → (w && g) ≡ false → w ≡ true → g ≡ false
off true g h w = h
off false g h w = absurd (false≢true w)

pub none_wanted : (exits : Exits) (g : Egress → Bool) → any_wanted exits g ≡ false → (e : Egress) → has_exit exits e ≡ true → g e ≡ false
none_wanted exits g h =
    let four = or_parts ((((exits.up && g up) || (exits.a && g a)) || (exits.b && g b)) || (exits.c && g c)) (exits.d && g d) h in
    let three = or_parts (((exits.up && g up) || (exits.a && g a)) || (exits.b && g b)) (exits.c && g c) four.0 in
    let two = or_parts ((exits.up && g up) || (exits.a && g a)) (exits.b && g b) three.0 in
    let one = or_parts (exits.up && g up) (exits.a && g a) two.0 in
    at one.0 one.1 two.1 three.1 four.1
  where
    at : (exits.up && g up) ≡ false → (exits.a && g a) ≡ false → (exits.b && g b) ≡ false → (exits.c && g c) ≡ false → (exits.d && g d) ≡ false →
        (e : Egress) → has_exit exits e ≡ true → g e ≡ false
    at u v w x y up is = off exits.up (g up) u is
    at u v w x y a is = off exits.a (g a) v is
    at u v w x y b is = off exits.b (g b) w is
    at u v w x y c is = off exits.c (g c) x is
    at u v w x y d is = off exits.d (g d) y is

-- a test holds at an egress that is wanted
pub record IsSomewhere (exits : Exits) (g : Egress → Bool) : Type 0 where
  egress : Egress
  wanted : has_exit exits egress ≡ true
  is : g egress ≡ true

pub some_wanted : (exits : Exits) (g : Egress → Bool) → any_wanted exits g ≡ true → IsSomewhere exits g
some_wanted exits g h =
    Rattle.std.proofs.Common.⊎_elim
    (λ four. Rattle.std.proofs.Common.⊎_elim
    (λ three. Rattle.std.proofs.Common.⊎_elim
    (λ two. Rattle.std.proofs.Common.⊎_elim (at up exits.up refl) (at a exits.a refl) (or_cases (exits.up && g up) (exits.a && g a) two))
    (at b exits.b refl)
    (or_cases ((exits.up && g up) || (exits.a && g a)) (exits.b && g b) three))
    (at c exits.c refl)
    (or_cases (((exits.up && g up) || (exits.a && g a)) || (exits.b && g b)) (exits.c && g c) four))
    (at d exits.d refl)
    (or_cases ((((exits.up && g up) || (exits.a && g a)) || (exits.b && g b)) || (exits.c && g c)) (exits.d && g d) h)
  where
    at : (e : Egress) (w : Bool) → has_exit exits e ≡ w → (w && g e) ≡ true → IsSomewhere exits g
    at e w same both = let parts = and_parts w (g e) both in record { egress = e; wanted = same ∙ parts.0; is = parts.1 }

-- ---- one arrival

kept : (rem all : Bool) → (not rem && all) ≡ false → all ≡ true → rem ≡ true
kept true all h n = refl
kept false all h n = absurd (false≢true (sym h ∙ n))

lost : (rem all : Bool) → (not rem && all) ≡ true → (all ≡ true) × (rem ≡ false)
lost true all h = absurd (false≢true h)
lost false all h = (h, refl)

module _ (capacity : ℕ) (owner : Owner) (past : List Entry) (at : ℕ) (here : Probe) (port : ℕ) (copy : Carried) where
  abbrev exits : Exits
  exits = wanted_in owner.place (knows owner.place past at (Arrive port copy)) (Arrive port copy)

  abbrev gone : Egress → Bool
  gone e = is_gone capacity at copy.probe (notes owner e past)

  abbrev mixed : Egress → Bool
  mixed e = is_mixed_up capacity at (key_in (classified copy.octets) None) copy.probe (notes owner e past)

  remembers_arrival : any_wanted exits gone ≡ false → Remembers capacity owner past at (Arrive port copy)
  remembers_arrival h = λ ring e wanted noted.
      let here_wanted = wanted_is owner past at here port copy e (record { ring = ring; wanted = wanted }) in
      kept (list_any (is_note_of copy.probe) (remembered capacity at (notes owner e past))) (list_any (is_note_of copy.probe) (notes owner e past)) (none_wanted exits gone h e here_wanted) noted

  forgets_arrival : any_wanted exits gone ≡ true → Remembers capacity owner past at (Arrive port copy) → ⊥
  forgets_arrival h remembers =
      let s = some_wanted exits gone h in
      let w = is_wanted owner past at here port copy s.egress s.wanted in
      let two = lost (list_any (is_note_of copy.probe) (remembered capacity at (notes owner s.egress past))) (list_any (is_note_of copy.probe) (notes owner s.egress past)) s.is in
      false≢true (sym two.1 ∙ remembers w.ring s.egress w.wanted two.0)

  own_by : (o : Option Key) (key : Key) (e : Egress) → o ≡ Some key → is_mixed_up capacity at o copy.probe (notes owner e past) ≡ false →
      list_any (is_mistaken key copy.probe) (remembered capacity at (notes owner e past)) ≡ false
  own_by o key e is h = subst (λ p. is_mixed_up capacity at p copy.probe (notes owner e past) ≡ false) is h

  other_by : (o : Option Key) (e : Egress) → is_mixed_up capacity at o copy.probe (notes owner e past) ≡ true →
      (key : Key) × (o ≡ Some key) × (list_any (is_mistaken key copy.probe) (remembered capacity at (notes owner e past)) ≡ true)
  other_by None e h = absurd (false≢true h)
  other_by (Some key) e h = (key, refl, h)

  knows_arrival : any_wanted exits mixed ≡ false → KnowsOwn capacity owner past at (Arrive port copy)
  knows_arrival h = λ ring e wanted key is.
      let here_wanted = wanted_is owner past at here port copy e (record { ring = ring; wanted = wanted }) in
      own_by (key_in (classified copy.octets) None) key e is (none_wanted exits mixed h e here_wanted)

  mistakes_arrival : any_wanted exits mixed ≡ true → KnowsOwn capacity owner past at (Arrive port copy) → ⊥
  mistakes_arrival h own =
      let s = some_wanted exits mixed h in
      let w = is_wanted owner past at here port copy s.egress s.wanted in
      let other = other_by (key_in (classified copy.octets) None) s.egress s.is in
      false≢true (sym (own w.ring s.egress w.wanted other.0 other.1) ∙ other.2)

-- ---- any entry

module _ (capacity : ℕ) (owner : Owner) (past : List Entry) where
  abbrev at_here : Probe
  at_here = record { node = owner.number; place = length past }

  remembers_by : (worker given : ℕ) (event : Event) (outcome : Outcome) → forgets_of capacity owner (record { worker = worker; at = given; event = event; outcome = outcome } ∷ past) ≡ false →
      Remembers capacity owner past (now (record { worker = worker; at = given; event = event; outcome = outcome } ∷ past)) event
  remembers_by worker given (Arrive port copy) outcome h =
      remembers_arrival capacity owner past (now (record { worker = worker; at = given; event = Arrive port copy; outcome = outcome } ∷ past)) at_here port copy h
  remembers_by worker given (Send from dst vlan kind payload) outcome h = tt
  remembers_by worker given (Supervise about) outcome h = tt
  remembers_by worker given Age outcome h = tt

  pub remembers : (x : Entry) → forgets_of capacity owner (x ∷ past) ≡ false → Remembers capacity owner past (now (x ∷ past)) x.event
  remembers x h = remembers_by x.worker x.at x.event x.outcome h

  forgotten_by : (worker given : ℕ) (event : Event) (outcome : Outcome) → forgets_of capacity owner (record { worker = worker; at = given; event = event; outcome = outcome } ∷ past) ≡ true →
      Remembers capacity owner past (now (record { worker = worker; at = given; event = event; outcome = outcome } ∷ past)) event → ⊥
  forgotten_by worker given (Arrive port copy) outcome h =
      forgets_arrival capacity owner past (now (record { worker = worker; at = given; event = Arrive port copy; outcome = outcome } ∷ past)) at_here port copy h
  forgotten_by worker given (Send from dst vlan kind payload) outcome h = λ all. false≢true h
  forgotten_by worker given (Supervise about) outcome h = λ all. false≢true h
  forgotten_by worker given Age outcome h = λ all. false≢true h

  pub forgotten : (x : Entry) → forgets_of capacity owner (x ∷ past) ≡ true → Remembers capacity owner past (now (x ∷ past)) x.event → ⊥
  forgotten x h = forgotten_by x.worker x.at x.event x.outcome h

  knows_own_by : (worker given : ℕ) (event : Event) (outcome : Outcome) → mistakes_of capacity owner (record { worker = worker; at = given; event = event; outcome = outcome } ∷ past) ≡ false →
      KnowsOwn capacity owner past (now (record { worker = worker; at = given; event = event; outcome = outcome } ∷ past)) event
  knows_own_by worker given (Arrive port copy) outcome h =
      knows_arrival capacity owner past (now (record { worker = worker; at = given; event = Arrive port copy; outcome = outcome } ∷ past)) at_here port copy h
  knows_own_by worker given (Send from dst vlan kind payload) outcome h = tt
  knows_own_by worker given (Supervise about) outcome h = tt
  knows_own_by worker given Age outcome h = tt

  pub knows_own : (x : Entry) → mistakes_of capacity owner (x ∷ past) ≡ false → KnowsOwn capacity owner past (now (x ∷ past)) x.event
  knows_own x h = knows_own_by x.worker x.at x.event x.outcome h

  mistaken_by : (worker given : ℕ) (event : Event) (outcome : Outcome) → mistakes_of capacity owner (record { worker = worker; at = given; event = event; outcome = outcome } ∷ past) ≡ true →
      KnowsOwn capacity owner past (now (record { worker = worker; at = given; event = event; outcome = outcome } ∷ past)) event → ⊥
  mistaken_by worker given (Arrive port copy) outcome h =
      mistakes_arrival capacity owner past (now (record { worker = worker; at = given; event = Arrive port copy; outcome = outcome } ∷ past)) at_here port copy h
  mistaken_by worker given (Send from dst vlan kind payload) outcome h = λ all. false≢true h
  mistaken_by worker given (Supervise about) outcome h = λ all. false≢true h
  mistaken_by worker given Age outcome h = λ all. false≢true h

  pub mistaken : (x : Entry) → mistakes_of capacity owner (x ∷ past) ≡ true → KnowsOwn capacity owner past (now (x ∷ past)) x.event → ⊥
  mistaken x h = mistaken_by x.worker x.at x.event x.outcome h
