-- The first doubt that tests find, by what was tested before it.
use Rattle.std.proofs.Common.{◌≡◌, ℕ, true, length, Some, None}
use Rattle.std.specs.List.{list_any}
use Rattle.hsr_network_laws.specs.Network.{IsNetwork}
use Rattle.hsr_routes.specs.Networks.{AreGoingRound, HaveOwnAddresses, IsFirstUnlike}
use Rattle.hsr_plays.specs.Conditions.{is_covered_send}
use Rattle.hsr_plays.specs.Law.{is_send}
use Rattle.hsr_certify.specs.Doubts.{IsFirst}
use Rattle.hsr_certify.specs.Firsts.{first_send, first_step}
use Rattle.hsr_certify.specs.Served.{IsCutAt, ServedBelow}
use Rattle.hsr_certify.specs.Tested.{IsPassed, IsTestedSo, Subject, tests}
use Rattle.hsr_certify.specs.Tests.{first_back, has_room, is_accepted, is_brief, is_coarse, is_ended, is_uncrowded, is_unwrapped}
use Rattle.hsr_certify.specs.Verdict.{IsBegun, IsKept, IsWelcome}
use Rattle.hsr_certify.specs.declared.doubt.Doubt.TheVariants.{Fine, Open, Mode, SameAddress, Side, Refused, Back, Late, Crowded, Wrapped, Uncovered, Queue, CutOff}

module _ (t : Subject) where
  pub fine_first : list_any is_send t.orders ≡ true → (i : ℕ) → first_step is_coarse 0 t.orders ≡ Some i → IsFirst IsTestedSo tests t (Fine i)
  fine_first sends i so = (sends, so)

  pub open_first : list_any is_send t.orders ≡ true → first_step is_coarse 0 t.orders ≡ None → (i : ℕ) → first_send (is_ended (length t.orders)) t.spans ≡ Some i → IsFirst IsTestedSo tests t (Open i)
  open_first sends fine i so = (sends, (fine, so))

  -- ---- once each span ends

  pub mode_first : IsBegun t → ¬ AreGoingRound t.net → IsFirst IsTestedSo tests t Mode
  mode_first b so = (b.sends, (b.fine, (b.ended, so)))

  pub address_first : IsBegun t → AreGoingRound t.net → ¬ HaveOwnAddresses t.net → IsFirst IsTestedSo tests t SameAddress
  address_first b round so = (b.sends, (b.fine, (b.ended, (round, so))))

  pub side_first : IsBegun t → AreGoingRound t.net → HaveOwnAddresses t.net → (l : ℕ) → IsFirstUnlike t.net l → IsFirst IsTestedSo tests t (Side l)
  side_first b round own l so = (b.sends, (b.fine, (b.ended, (round, (own, so)))))

  pub refused_first : IsBegun t → AreGoingRound t.net → HaveOwnAddresses t.net → IsNetwork t.net → (i : ℕ) → first_step (is_accepted t.net t.orders t.spans) 0 t.orders ≡ Some i →
      IsFirst IsTestedSo tests t (Refused i)
  refused_first b round own network i so = (b.sends, (b.fine, (b.ended, (round, (own, (network, so))))))

  -- ---- once no play refuses a step

  module _ (w : IsWelcome t) where
    pub back_first : (i : ℕ) → first_back 0 0 t.orders ≡ Some i → IsFirst IsTestedSo tests t (Back i)
    back_first i so = (w.begun.sends, (w.begun.fine, (w.begun.ended, (w.round, (w.own, (w.network, (w.accepted, so)))))))

    pub late_first : first_back 0 0 t.orders ≡ None → (i : ℕ) → first_send (is_brief t.orders) t.spans ≡ Some i → IsFirst IsTestedSo tests t (Late i)
    late_first not_back i so = (w.begun.sends, (w.begun.fine, (w.begun.ended, (w.round, (w.own, (w.network, (w.accepted, (not_back, so))))))))

    pub crowded_first : first_back 0 0 t.orders ≡ None → first_send (is_brief t.orders) t.spans ≡ None → (i : ℕ) → first_send (is_uncrowded t.capacity t.spans) t.spans ≡ Some i →
        IsFirst IsTestedSo tests t (Crowded i)
    crowded_first not_back brief i so = (w.begun.sends, (w.begun.fine, (w.begun.ended, (w.round, (w.own, (w.network, (w.accepted, (not_back, (brief, so)))))))))

    pub wrapped_first : first_back 0 0 t.orders ≡ None → first_send (is_brief t.orders) t.spans ≡ None → first_send (is_uncrowded t.capacity t.spans) t.spans ≡ None →
        (i : ℕ) → first_send (is_unwrapped t.net t.spans) t.spans ≡ Some i → IsFirst IsTestedSo tests t (Wrapped i)
    wrapped_first not_back brief uncrowded i so = (w.begun.sends, (w.begun.fine, (w.begun.ended, (w.round, (w.own, (w.network, (w.accepted, (not_back, (brief, (uncrowded, so))))))))))

  -- ---- once the clock and tables are as they should

  module _ (k : IsKept t) where
    pub uncovered_first : (i : ℕ) → first_send (is_covered_send t.net) t.spans ≡ Some i → IsFirst IsTestedSo tests t (Uncovered i)
    uncovered_first i so =
        let w = k.welcome in
        (w.begun.sends, (w.begun.fine, (w.begun.ended, (w.round, (w.own, (w.network, (w.accepted, (k.not_back, (k.brief, (k.uncrowded, (k.unwrapped, so)))))))))))

    pub queue_first : first_send (is_covered_send t.net) t.spans ≡ None → (i : ℕ) → first_send (has_room t.room t.spans) t.spans ≡ Some i → IsFirst IsTestedSo tests t (Queue i)
    queue_first covered i so =
        let w = k.welcome in
        (w.begun.sends, (w.begun.fine, (w.begun.ended, (w.round, (w.own, (w.network, (w.accepted, (k.not_back, (k.brief, (k.uncrowded, (k.unwrapped, (covered, so))))))))))))

    pub cut_first : first_send (is_covered_send t.net) t.spans ≡ None → first_send (has_room t.room t.spans) t.spans ≡ None →
        (i n : ℕ) → IsCutAt t.net t.orders t.spans (record { step = i; node = n }) → IsFirst IsTestedSo tests t (CutOff i n)
    cut_first covered room i n so =
        let w = k.welcome in
        (w.begun.sends, (w.begun.fine, (w.begun.ended, (w.round, (w.own, (w.network, (w.accepted, (k.not_back, (k.brief, (k.uncrowded, (k.unwrapped, (covered, (room, so)))))))))))))

    pub all_passed : first_send (is_covered_send t.net) t.spans ≡ None → first_send (has_room t.room t.spans) t.spans ≡ None → ServedBelow t.net t.orders t.spans (length t.spans) → IsPassed t
    all_passed covered room served =
        let w = k.welcome in
        (w.begun.sends, (w.begun.fine, (w.begun.ended, (w.round, (w.own, (w.network, (w.accepted, (k.not_back, (k.brief, (k.uncrowded, (k.unwrapped, (covered, (room, (served, tt))))))))))))))
