-- Copies that are on their way, without those at their front that don't wait any more.
use Rattle.std.proofs.Common.{◌≡◌, ◌∙◌, ℕ, zero, suc, ◌+◌, ◌∷◌, ◌++◌, [], List, replicate, Some, length, true, false, cond, slice_get, drop, ap, refl, sym}
use Rattle.std.proofs.Math.Seq.{drop-length}
use Rattle.std.proofs.lemmas.List.{drop-drop, replicate_more}
use Rattle.hsr_world_laws.specs.World.{World}
use Rattle.hsr_plan_hops.specs.Flights.{Channel, is_on_way, no_channel, on_way}
use Rattle.hsr_plan_hops.specs.declared.flights.Flight.{Flight}

pub first_waits : (w : World) (flights : List Flight) (f : Flight) → slice_get flights 0 ≡ Some f → is_on_way w f ≡ true → on_way w flights ≡ flights
first_waits w [] f is waits = absurd (cc)
first_waits w (g ∷ flights) f is waits =
    let same : g ≡ f = cc in
    ap (λ b. cond b (g ∷ flights) (on_way w flights)) (ap (is_on_way w) same ∙ waits)

pub first_gone : (w : World) (flights : List Flight) (f : Flight) → slice_get flights 0 ≡ Some f → is_on_way w f ≡ false → on_way w (drop 1 flights) ≡ on_way w flights
first_gone w [] f is gone = absurd (cc)
first_gone w (g ∷ flights) f is gone =
    let same : g ≡ f = cc in
    sym (ap (λ b. cond b (g ∷ flights) (on_way w flights)) (ap (is_on_way w) same ∙ gone))

-- ---- at a place

pub get_front : {A : Type 0} (xs : List A) (i : ℕ) → slice_get (drop i xs) 0 ≡ slice_get xs i
get_front [] zero = refl
get_front [] (suc i) = refl
get_front (x ∷ xs) zero = refl
get_front (x ∷ xs) (suc i) = get_front xs i

pub waits_at : (w : World) (flights : List Flight) (i : ℕ) (f : Flight) → slice_get flights i ≡ Some f → is_on_way w f ≡ true
    → on_way w (drop i flights) ≡ on_way w flights → drop i flights ≡ on_way w flights
waits_at w flights i f is waits h = sym (first_waits w (drop i flights) f (get_front flights i ∙ is) waits) ∙ h

pub gone_at : (w : World) (flights : List Flight) (i : ℕ) (f : Flight) → slice_get flights i ≡ Some f → is_on_way w f ≡ false
    → on_way w (drop i flights) ≡ on_way w flights → on_way w (drop (i + 1) flights) ≡ on_way w flights
gone_at w flights i f is gone h = ap (on_way w) (sym (drop-drop 1 i flights)) ∙ (first_gone w (drop i flights) f (get_front flights i ∙ is) gone ∙ h)

pub all_gone : (w : World) (flights : List Flight) → on_way w (drop (length flights) flights) ≡ on_way w flights → drop (length flights) flights ≡ on_way w flights
all_gone w flights h = drop-length flights ∙ (ap (on_way w) (sym (drop-length flights)) ∙ h)

-- ---- channels

pub one_more : (list more : List Channel) (n : ℕ) → list ≡ replicate n no_channel → more ≡ list ++ no_channel ∷ [] → more ≡ replicate (n + 1) no_channel
one_more list more n is pushed = pushed ∙ (ap (λ l. l ++ no_channel ∷ []) is ∙ replicate_more n no_channel)
