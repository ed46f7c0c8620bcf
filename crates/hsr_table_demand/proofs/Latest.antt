-- The latest note of a send, as it is found and as it stands among all.
use Rattle.std.proofs.Common.{◌≡◌, ℕ, ◌+◌, ◌-◌, ◌<◌, Bool, true, false, cond, ◌&&◌, ◌||◌, List, [], ◌∷◌, ◌++◌, length, Option, Some, None, refl, sym, ap, ◌∙◌, arith, length-append}
use Rattle.std.specs.Prelude.{is_some}
use Rattle.std.specs.List.{list_any, cons_option}
use Rattle.std.proofs.lemmas.Bool.{or_parts}
use Rattle.std.proofs.lemmas.Option.{none-some}
use Rattle.hsr_duptable.specs.Key.{Key}
use Rattle.hsr_node.specs.Record.{Noted, note_if}
use Rattle.hsr_node.specs.declared.event.Probe.{Probe}
use Rattle.hsr_run_laws.specs.Premises.{is_note_of}
use Rattle.hsr_run_laws.specs.Run.{is_same_send}
use Rattle.hsr_table_demand.specs.Needs.{IsLatest, is_unexpired}
use Rattle.hsr_table_demand.specs.Tallied.{IsTalliedAfter, Tells, latest_in, latest_of, reach_from, reach_in, reach_of}
use Rattle.hsr_table_demand.specs.declared.tally.Latest.{Latest}
use Rattle.hsr_table_demand.specs.declared.tally.Tally.{Tally}

-- ---- the latest note

found : ℕ → ℕ → Latest
found index moment = record { index = index; moment = moment }

-- the latest one is found
pub latest_found : (send : Option Probe) (noted younger : List Noted) (note : Noted) (l : IsLatest send noted younger note) →
    latest_in send noted ≡ Some (record { index = length l.older; moment = note.moment })
latest_found send noted younger note l = ap (latest_in send) l.all ∙ skip younger l.none_later
  where
    here : latest_in send (note ∷ l.older) ≡ Some (record { index = length l.older; moment = note.moment })
    here = ap (λ b. cond b (Some (record { index = length l.older; moment = note.moment })) (latest_in send l.older)) l.of_send

    skip : (ys : List Noted) → list_any (is_note_of send) ys ≡ false → latest_in send (ys ++ note ∷ l.older) ≡ Some (record { index = length l.older; moment = note.moment })
    skip [] none = here
    skip (y ∷ ys) none =
        let parts = or_parts (is_note_of send y) (list_any (is_note_of send) ys) none in
        ap (λ b. cond b (Some (record { index = length (ys ++ note ∷ l.older); moment = y.moment })) (latest_in send (ys ++ note ∷ l.older))) parts.0 ∙ skip ys parts.1

-- what is found is the latest one
pub record IsFound (send : Option Probe) (noted : List Noted) (latest : Latest) : Type 0 where
  pub younger : List Noted
  pub note : Noted
  pub is : IsLatest send noted younger note
  pub index : latest.index ≡ length is.older
  pub moment : latest.moment ≡ note.moment

pub found_latest : (send : Option Probe) (noted : List Noted) (latest : Latest) → latest_in send noted ≡ Some latest → IsFound send noted latest
found_latest send [] latest h = absurd (none-some latest h)
found_latest send (n ∷ ns) latest h = by_head (is_note_of send n) refl h (found_latest send ns latest)
  where
    by_head : (b : Bool) → is_note_of send n ≡ b → cond b (Some (record { index = length ns; moment = n.moment })) (latest_in send ns) ≡ Some latest →
        (latest_in send ns ≡ Some latest → IsFound send ns latest) → IsFound send (n ∷ ns) latest
    by_head true on h rest =
        let there : Latest = record { index = length ns; moment = n.moment } in
        let same : there ≡ latest = cc in
        record {
          younger = [];
          note = n;
          is = record { older = ns; all = refl; of_send = on; none_later = refl };
          index = sym (ap (λ (l : Latest). l.index) same);
          moment = sym (ap (λ (l : Latest). l.moment) same);
        }
    by_head false off h rest =
        let f = rest h in
        record {
          younger = n ∷ f.younger;
          note = f.note;
          is = record { older = f.is.older; all = ap (λ xs. n ∷ xs) f.is.all; of_send = f.is.of_send; none_later = ap (λ b. b || list_any (is_note_of send) f.younger) off ∙ f.is.none_later };
          index = f.index;
          moment = f.moment;
        }

-- ---- how many notes there are from it on

many : (send : Option Probe) (noted younger : List Noted) (note : Noted) (l : IsLatest send noted younger note) → length noted - length l.older ≡ length younger + 1
many send noted younger note l =
    let all = ap length l.all in
    let parts = length-append younger (note ∷ l.older) in
    omega (arith, all, parts)

-- from the latest one on, where it isn't expired
pub reach_latest : (at : ℕ) (send : Option Probe) (noted younger : List Noted) (note : Noted) → IsLatest send noted younger note → is_unexpired at note ≡ true →
    reach_in at send noted ≡ length younger + 1
reach_latest at send noted younger note l young =
    ap (reach_from (length noted) at) (latest_found send noted younger note l)
    ∙ (ap (λ b. cond b (length noted - length l.older) 0) young ∙ many send noted younger note l)

-- where there are some, the latest one isn't expired
pub record Reaches (at : ℕ) (send : Option Probe) (noted : List Noted) : Type 0 where
  pub younger : List Noted
  pub note : Noted
  pub latest : IsLatest send noted younger note
  pub unexpired : is_unexpired at note ≡ true
  pub count : reach_in at send noted ≡ length younger + 1

pub reached : (at : ℕ) (send : Option Probe) (noted : List Noted) → 0 < reach_in at send noted → Reaches at send noted
reached at send noted some = by_latest (latest_in send noted) refl
  where
    by_age : (latest : Latest) (f : IsFound send noted latest) → latest_in send noted ≡ Some latest → (b : Bool) → is_unexpired at f.note ≡ b → Reaches at send noted
    by_age latest f is true young =
        record { younger = f.younger; note = f.note; latest = f.is; unexpired = young; count = reach_latest at send noted f.younger f.note f.is young }
    by_age latest f is false old =
        let none : reach_in at send noted ≡ 0 = ap (reach_from (length noted) at) (latest_found send noted f.younger f.note f.is) ∙ ap (λ b. cond b (length noted - length f.is.older) 0) old in
        absurd (omega (arith, some, none))

    by_latest : (o : Option Latest) → latest_in send noted ≡ o → Reaches at send noted
    by_latest None is = let none : reach_in at send noted ≡ 0 = ap (reach_from (length noted) at) is in absurd (omega (arith, some, none))
    by_latest (Some latest) is = let f = found_latest send noted latest is in by_age latest f is (is_unexpired at f.note) refl

-- ---- what is kept

pub none_of_none : (noted : List Noted) → latest_in None noted ≡ None
none_of_none [] = refl
none_of_none (note ∷ past) = none_of_none past

pub reach_told : (tally : Tally) (at : ℕ) (send : Option Probe) (noted : List Noted) → Tells tally noted → reach_of tally at send ≡ reach_in at send noted
reach_told tally at None noted t = sym (ap (reach_from (length noted) at) (none_of_none noted))
reach_told tally at (Some send) noted t = ap (λ n. reach_from n at (latest_of tally.sends send)) t.count ∙ ap (reach_from (length noted) at) (t.latest send)

pub told_more : (old new : Tally) (is : Bool) (key : Option Key) (at : ℕ) (send : Option Probe) (noted : List Noted) → IsTalliedAfter old (is && is_some key) at send new → Tells old noted →
    Tells new (cons_option (note_if is key at send) noted)
told_more old new is None at send noted after t = by_noted is after
  where
    by_noted : (b : Bool) → IsTalliedAfter old (b && false) at send new → Tells new noted
    by_noted true after = record { count = after.count ∙ t.count; latest = λ p. after.latest p ∙ t.latest p }
    by_noted false after = record { count = after.count ∙ t.count; latest = λ p. after.latest p ∙ t.latest p }
told_more old new false (Some key) at send noted after t = record { count = after.count ∙ t.count; latest = λ p. after.latest p ∙ t.latest p }
told_more old new true (Some key) at send noted after t = record {
  count = let a = after.count in let b = t.count in omega (arith, a, b);
  latest = λ p. after.latest p
      ∙ (ap (λ n. cond (is_same_send (Some p) send) (Some (record { index = n; moment = at })) (latest_of old.sends p)) t.count
      ∙ ap (λ o. cond (is_same_send (Some p) send) (Some (record { index = length noted; moment = at })) o) (t.latest p));
}
