-- Steps one after the other: what is left answers for all.
use Rattle.std.proofs.Common.{◌≡◌, ℕ, suc, ◌+◌, add-one, drop-cons, ◌<◌, List, [], ◌∷◌, ◌++◌, length, get_or, drop, sym, ap, subst, ◌∙◌, Option, Result, Ok, Err}
use Rattle.hsr_capture_reader.specs.Fields.{InterfaceFields, PacketFields}
use Rattle.hsr_tap_device.specs.declared.device.Named.{Named}
use Rattle.hsr_tap_device.specs.declared.device.Tap.{Tap}
use Rattle.hsr_node_lines.specs.Faults.{Fails, ◌>>=◌}
use Rattle.hsr_node_lines.specs.Lines.{SceneFields, ToldFields, packet_told, told_from}
use Rattle.hsr_node_lines.specs.Taps.{on_ethernet, tap_of, taps_from}
use Rattle.hsr_node_lines.specs.declared.fault.LinesFault.{LinesFault}
use Rattle.hsr_node_lines.specs.declared.fault.LinesFault.TheVariants.{Role, Link, NoSuchName, NoDirection, NoMemory}

-- what stands at a place
pub drop_here : {X : Type 0} (xs : List X) (i : ℕ) (x : X) → i < length xs → x ≡ get_or xs i x → drop i xs ≡ x ∷ drop (i + 1) xs
drop_here xs i x h here = drop-cons xs i x h ∙ ap (λ z. z ∷ drop (suc i) xs) (sym here) ∙ ap (λ n. x ∷ drop n xs) (sym (add-one i))

-- ---- faults

pub fails_exact : {A : Type 0} (e : LinesFault) (said : Result A LinesFault) → said ≡ Err e → Fails e said
fails_exact Role said h = h
fails_exact (Link link) said h = h
fails_exact (NoSuchName name) said h = h
fails_exact (NoDirection packet) said h = h
fails_exact NoMemory said h = tt

pub fails_on : {A B : Type 0} (e : LinesFault) (step : Result A LinesFault) (f : A → Result B LinesFault) → Fails e step → Fails e (step >>= f)
fails_on Role step f h = ap (λ r. r >>= f) h
fails_on (Link link) step f h = ap (λ r. r >>= f) h
fails_on (NoSuchName name) step f h = ap (λ r. r >>= f) h
fails_on (NoDirection packet) step f h = ap (λ r. r >>= f) h
fails_on NoMemory step f h = tt

-- ---- interfaces

module _ (named : Option (List Named)) (taps : List (Option Tap)) (is : List InterfaceFields) (i : ℕ) (x : InterfaceFields) where
  first_tap : i < length is → x ≡ get_or is i x → taps_from named taps (drop i is)
      ≡ (on_ethernet x.link (tap_of named (length taps) x.name) >>= λ tap. taps_from named (taps ++ tap ∷ []) (drop (i + 1) is))
  first_tap h here = ap (taps_from named taps) (drop_here is i x h here)

  pub taps_step : (tap : Option Tap) → i < length is → x ≡ get_or is i x → on_ethernet x.link (tap_of named (length taps) x.name) ≡ Ok tap
      → taps_from named taps (drop i is) ≡ taps_from named (taps ++ tap ∷ []) (drop (i + 1) is)
  taps_step tap h here e = first_tap h here ∙ ap (λ r. r >>= λ tap. taps_from named (taps ++ tap ∷ []) (drop (i + 1) is)) e

  pub taps_fail : (e : LinesFault) (whole : Result (List (Option Tap)) LinesFault) → i < length is → x ≡ get_or is i x → taps_from named taps (drop i is) ≡ whole
      → on_ethernet x.link (tap_of named (length taps) x.name) ≡ Err e → Fails e whole
  taps_fail e whole h here same fault = fails_exact e whole (sym same ∙ first_tap h here ∙ ap (λ r. r >>= λ tap. taps_from named (taps ++ tap ∷ []) (drop (i + 1) is)) fault)

-- ---- packets

module _ (scene : SceneFields) (t : ToldFields) (ps : List PacketFields) (i : ℕ) (x : PacketFields) where
  first_packet : i < length ps → x ≡ get_or ps i x → told_from scene t (drop i ps) ≡ (packet_told scene t x >>= λ told. told_from scene told (drop (i + 1) ps))
  first_packet h here = ap (told_from scene t) (drop_here ps i x h here)

  pub told_step : (next : ToldFields) → i < length ps → x ≡ get_or ps i x → packet_told scene t x ≡ Ok next
      → told_from scene t (drop i ps) ≡ told_from scene next (drop (i + 1) ps)
  told_step next h here e = first_packet h here ∙ ap (λ r. r >>= λ told. told_from scene told (drop (i + 1) ps)) e

  pub told_fail : (e : LinesFault) (whole : Result ToldFields LinesFault) → i < length ps → x ≡ get_or ps i x → told_from scene t (drop i ps) ≡ whole
      → Fails e (packet_told scene t x) → Fails e whole
  told_fail e whole h here same fails =
      subst (Fails e) (sym (first_packet h here) ∙ same) (fails_on e (packet_told scene t x) (λ told. told_from scene told (drop (i + 1) ps)) fails)
