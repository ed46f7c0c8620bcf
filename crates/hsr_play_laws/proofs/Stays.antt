-- What is told of sends and records stays told behind a step.
use Rattle.std.proofs.Common.{◌≡◌, ◌⊎◌, inl, inr, ℕ, ◌+◌, ◌<◌, ◌≤◌, Bool, true, false, List, [], ◌∷◌, length, count_by, Option, Some, None, refl, sym, ap, ◌∙◌, subst, arith, ⊎_elim}
use Rattle.std.specs.List.{AllByRecursion, list_any}
use Rattle.hsr_node.specs.declared.entry.Entry.{Entry}
use Rattle.hsr_node.specs.declared.event.Carried.{Carried}
use Rattle.hsr_node.specs.declared.event.Event.{Event}
use Rattle.hsr_node.specs.declared.event.Event.TheVariants.{Send, Supervise, Arrive, Age}
use Rattle.hsr_node.specs.declared.event.Probe.{Probe}
use Rattle.hsr_run_laws.specs.Once.{is_copy}
use Rattle.hsr_run_laws.proofs.Lists.{any_with}
use Rattle.hsr_run_laws.proofs.Same.{is_of_itself, probe_is}
use Rattle.hsr_run_laws.specs.Run.{is_of}
use Rattle.std.proofs.lemmas.Bool.{or_left, or_right}
use Rattle.hsr_world_laws.specs.World.{World, record_at}
use Rattle.hsr_plays.specs.Law.{IsSpanOf, mains_below}
use Rattle.hsr_plays.specs.Plays.{given_moment, under_way}
use Rattle.hsr_plays.specs.Setup.{Setup}
use Rattle.hsr_plays.specs.Spans.{is_open_at}
use Rattle.hsr_plays.specs.declared.span.SendSpan.{SendSpan}
use Rattle.hsr_under_way.specs.StepsOn.{is_under_way}
use Rattle.hsr_play_laws.specs.Told.{IsAt, IsOpenCopy, IsOpenSend, Timed, is_main_at}
use Rattle.hsr_play_laws.proofs.Mains.{given_stays, main_below, main_stays, mains_stay}

-- ---- records

-- a record is as it was, or has one entry more
abbrev pub Grows : List Entry → List Entry → Type 0
Grows old new = (new ≡ old) ⊎ ((x : Entry) × (new ≡ x ∷ old))

module _ (s : Setup) (w after : World) (grows : (k : ℕ) → Grows (record_at w k) (record_at after k)) where
  pub main_kept : (send : Probe) → is_main_at send.place (record_at w send.node) ≡ true → is_main_at send.place (record_at after send.node) ≡ true
  main_kept send main =
      ⊎_elim (λ same. ap (is_main_at send.place) same ∙ main)
      (λ more. ap (is_main_at send.place) more.1 ∙ main_stays send.place more.0 (record_at w send.node) main)
      (grows send.node)

  pub span_kept : (send : Probe) (span : SendSpan) → is_main_at send.place (record_at w send.node) ≡ true → IsSpanOf s w send span → IsSpanOf s after send span
  span_kept send span main is =
      let low = main_below send.place (record_at w send.node) main in
      let same : mains_below send.place (record_at after send.node) ≡ mains_below send.place (record_at w send.node) =
      ⊎_elim (λ e. ap (mains_below send.place) e) (λ more. ap (mains_below send.place) more.1 ∙ mains_stay send.place more.0 (record_at w send.node) (omega (arith, low))) (grows send.node) in
      record { at = is.at; listed = is.listed; node = is.node; step = same ∙ is.step }

  pub given_kept : (send : Probe) → is_main_at send.place (record_at w send.node) ≡ true → given_moment send.place (record_at after send.node) ≡ given_moment send.place (record_at w send.node)
  given_kept send main =
      let low = main_below send.place (record_at w send.node) main in
      ⊎_elim (λ e. ap (given_moment send.place) e) (λ more. ap (given_moment send.place) more.1 ∙ given_stays send.place more.0 (record_at w send.node) low) (grows send.node)

  pub open_kept : (send : Probe) (time : ℕ) → IsOpenSend s w send time → IsOpenSend s after send time
  open_kept send time o = record {
    span = o.span;
    is = span_kept send o.span o.main o.is;
    main = main_kept send o.main;
    given = given_kept send o.main ∙ o.given;
    open_then = o.open_then;
  }

  at_kept : (k time : ℕ) (event : Event) (past : List Entry) → IsAt s w k time event past → IsAt s after k time event past
  unfolding open_kept
  at_kept k time (Send from dst vlan ethertype payload) past at = (open_kept _ time at.0, at.1, at.2)
  at_kept k time (Supervise about) past at = (open_kept _ time at.0, at.1, at.2)
  at_kept k time (Arrive port copy) past at = λ send named. open_kept send time (at send named)
  at_kept k time Age past at = tt

  pub timed_kept : (k last later : ℕ) (h : List Entry) → last ≤ later → Timed s w k last h → Timed s after k later h
  timed_kept k last later [] low timed = tt
  timed_kept k last later (x ∷ past) low (time, below, at, is, rest) =
      (time, (omega (arith, below, low)), at, at_kept k time x.event past is, timed_kept k time time past (omega arith) rest)

-- ---- copies

-- what holds of each send of which a copy is there holds of the copies
pub each_copy : (Q : Probe → Type 0) (xs : List Carried) → ((send : Probe) → list_any (is_copy send) xs ≡ true → Q send) →
    AllByRecursion (λ (c : Carried). (send : Probe) → c.probe ≡ Some send → Q send) xs
each_copy Q [] so = tt
each_copy Q (c ∷ cs) so = (
  λ send named. so send (or_left (is_copy send c) (list_any (is_copy send) cs) (ap (is_of send) named ∙ is_of_itself send)),
  each_copy Q cs (λ send later. so send (or_right (is_copy send c) (list_any (is_copy send) cs) later)),
)

-- and the other way round
pub of_copy : (Q : Probe → Type 0) (xs : List Carried) → AllByRecursion (λ (c : Carried). (send : Probe) → c.probe ≡ Some send → Q send) xs →
    (send : Probe) → list_any (is_copy send) xs ≡ true → Q send
of_copy Q xs all send some =
    let c = any_with (λ (d : Carried). (q : Probe) → d.probe ≡ Some q → Q q) (is_copy send) xs all some in
    c.1 send (probe_is send c.0.probe c.2)

pub open_now : (s : Setup) (w : World) (time : ℕ) → AllByRecursion (IsOpenCopy s w time) (under_way w) → (send : Probe) → is_under_way send w ≡ true → IsOpenSend s w send time
open_now s w time fresh send some = of_copy (λ q. IsOpenSend s w q time) (under_way w) fresh send some
