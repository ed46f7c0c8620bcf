-- The first doubt that tests find is the first by the conditions; and where there is one, some condition doesn't hold.
use Rattle.std.proofs.Common.{◌≡◌, ℕ, ◌==◌, Bool, true, false, List, [], ◌∷◌, length, refl, subst}
use Rattle.hsr_link.specs.declared.row.Dir.TheVariants.{Forth}
use Rattle.hsr_topology.specs.Wired.{IsWired}
use Rattle.hsr_plays.specs.Conditions.{HasRoom, IsBrief, IsCovered, IsEnded, IsUncrowded, IsUnwrapped, is_covered_send}
use Rattle.hsr_plays.specs.Setup.{Setup, net_of}
use Rattle.hsr_plays.specs.Spans.{spans}
use Rattle.hsr_certify.specs.Doubts.{IsDoubted, IsFirst, IsFirstFault, IsSo, IsPremised, Row, either, number, table}
use Rattle.hsr_certify.specs.Tested.{IsFirstFound, IsTestedSo, Subject, subject_of, tests}
use Rattle.hsr_certify.specs.Tests.{has_room, is_brief, is_ended, is_uncrowded, is_unwrapped}
use Rattle.hsr_certify.specs.declared.doubt.CertifyFault.{CertifyFault}
use Rattle.hsr_certify.specs.declared.doubt.CertifyFault.TheVariants as fault
use Rattle.hsr_certify.specs.declared.doubt.Doubt.{Doubt}
use Rattle.hsr_certify.specs.declared.doubt.Doubt.TheVariants.{Empty, Fine, Open, Mode, SameAddress, Side, Refused, Back, Late, Crowded, Wrapped, Uncovered, Queue, CutOff}
use Rattle.hsr_certify.proofs.Meaning.{accepted_doubt, accepted_holds, back_doubt, brief, covered, cut_doubt, empty_doubt, ended, fine_doubt, fine_holds, not_back_holds, room, send_doubt, sends_hold, served_holds, some_sent, uncrowded, unwrapped}

-- ---- tables

-- rows one beside the other: of one number, and what holds of tests holds of conditions
abbrev AreAlike : Setup → List (Row Subject) → List (Row Setup) → Type 0
AreAlike s [] [] = Unit {0}
AreAlike s [] (q ∷ more) = ⊥
AreAlike s (r ∷ rows) [] = ⊥
AreAlike s (r ∷ rows) (q ∷ more) = (r.number ≡ q.number) × ((r.Holds (subject_of s) → q.Holds s) × AreAlike s rows more)

first_so : (s : Setup) (rows : List (Row Subject)) (more : List (Row Setup)) → AreAlike s rows more → ((d : Doubt) → IsTestedSo (subject_of s) d → IsSo s d) →
    (d : Doubt) → IsFirst IsTestedSo rows (subject_of s) d → IsFirst IsSo more s d
first_so s [] [] alike so d h = h
first_so s [] (q ∷ more) alike so d h = absurd alike
first_so s (r ∷ rows) [] alike so d h = absurd alike
first_so s (r ∷ rows) (q ∷ more) alike so d h =
    let P : ℕ → Type 0 = λ n. either (n == number d) (IsSo s d) (q.Holds s × IsFirst IsSo more s d) in
    subst P alike.0 (by_test (r.number == number d) h (λ rest. first_so s rows more alike.1.1 so d rest))
  where
    by_test : (b : Bool) → either b (IsTestedSo (subject_of s) d) (r.Holds (subject_of s) × IsFirst IsTestedSo rows (subject_of s) d) →
        (IsFirst IsTestedSo rows (subject_of s) d → IsFirst IsSo more s d) → either b (IsSo s d) (q.Holds s × IsFirst IsSo more s d)
    by_test true h rest = so d h
    by_test false h rest = (alike.1.0 h.0, rest h.1)

is_so : (s : Setup) (rows : List (Row Setup)) (d : Doubt) → IsFirst IsSo rows s d → IsSo s d
is_so s [] d h = absurd h
is_so s (r ∷ rows) d h = by_test (r.number == number d) h (λ rest. is_so s rows d rest)
  where
    by_test : (b : Bool) → either b (IsSo s d) (r.Holds s × IsFirst IsSo rows s d) → (IsFirst IsSo rows s d → IsSo s d) → IsSo s d
    by_test true h rest = h
    by_test false h rest = rest h.1

-- ---- doubts

module _ (s : Setup) (wired : IsWired s.places s.links) where
  so : (d : Doubt) → IsTestedSo (subject_of s) d → IsSo s d
  so Empty h = empty_doubt s h
  so (Fine i) h = fine_doubt s i h
  so (Open i) h = send_doubt s IsEnded (is_ended (length s.orders)) (ended s) i h
  so Mode h = h
  so SameAddress h = h
  so (Side l) h = h
  so (Refused i) h = accepted_doubt s wired i h
  so (Back i) h = back_doubt s i h
  so (Late i) h = send_doubt s IsBrief (is_brief s.orders) (brief s) i h
  so (Crowded i) h = send_doubt s IsUncrowded (is_uncrowded s.capacity (spans s)) (uncrowded s) i h
  so (Wrapped i) h = send_doubt s IsUnwrapped (is_unwrapped (net_of s) (spans s)) (unwrapped s) i h
  so (Uncovered i) h = send_doubt s IsCovered (is_covered_send (net_of s)) (covered s) i h
  so (Queue i) h = send_doubt s HasRoom (has_room s.room (spans s)) (room s) i h
  so (CutOff i k) h = cut_doubt s i k h

  alike : AreAlike s tests table
  alike = (
    refl,
    (
      λ h. some_sent s h,
      (
        refl,
        (
          λ h. fine_holds s h,
          (
            refl,
            (
              λ h. sends_hold s IsEnded (is_ended (length s.orders)) (ended s) h,
              (
                refl,
                (
                  λ h. h,
                  (
                    refl,
                    (
                      λ h. h,
                      (
                        refl,
                        (
                          λ h. h,
                          (
                            refl,
                            (
                              λ h. accepted_holds s wired h,
                              (
                                refl,
                                (
                                  λ h. not_back_holds s h,
                                  (
                                    refl,
                                    (
                                      λ h. sends_hold s IsBrief (is_brief s.orders) (brief s) h,
                                      (
                                        refl,
                                        (
                                          λ h. sends_hold s IsUncrowded (is_uncrowded s.capacity (spans s)) (uncrowded s) h,
                                          (
                                            refl,
                                            (
                                              λ h. sends_hold s IsUnwrapped (is_unwrapped (net_of s) (spans s)) (unwrapped s) h,
                                              (
                                                refl,
                                                (
                                                  λ h. sends_hold s IsCovered (is_covered_send (net_of s)) (covered s) h,
                                                  (
                                                    refl,
                                                    (
                                                      λ h. sends_hold s HasRoom (has_room s.room (spans s)) (room s) h,
                                                      (
                                                        refl,
                                                        (λ h. served_holds s h, tt),
                                                      ),
                                                    ),
                                                  ),
                                                ),
                                              ),
                                            ),
                                          ),
                                        ),
                                      ),
                                    ),
                                  ),
                                ),
                              ),
                            ),
                          ),
                        ),
                      ),
                    ),
                  ),
                ),
              ),
            ),
          ),
        ),
      ),
    ),
  )

  pub first_doubt : (d : Doubt) → IsFirst IsTestedSo tests (subject_of s) d → IsFirst IsSo table s d
  first_doubt d h = first_so s tests table alike so d h

  -- ---- and no conditions

  refuted : (d : Doubt) → IsSo s d → IsPremised s → ⊥
  refuted Empty h sure = h sure.sends
  refuted (Fine i) h sure = h.fails (sure.clear.fine i h.order h.listed)
  refuted (Open i) h sure = h.fails (sure.clear.ended h.at h.span h.listed)
  refuted Mode h sure = h sure.clear.network.modes
  refuted SameAddress h sure = h sure.clear.network.differ
  refuted (Side l) h sure = h.unlike (sure.clear.network.sides (record { link = l; dir = Forth }) h.below)
  refuted (Refused i) h sure = h.fails (sure.clear.accepted i h.order h.listed)
  refuted (Back i) h sure = h.fails (sure.clear.not_back i h.order h.listed)
  refuted (Late i) h sure = h.fails (sure.clear.brief h.at h.span h.listed)
  refuted (Crowded i) h sure = h.fails (sure.clear.uncrowded h.at h.span h.listed)
  refuted (Wrapped i) h sure = h.fails (sure.clear.unwrapped h.at h.span h.listed)
  refuted (Uncovered i) h sure = h.fails (sure.clear.covered h.at h.span h.listed)
  refuted (Queue i) h sure = h.fails (sure.clear.room h.at h.span h.listed)
  refuted (CutOff i k) h sure = h.0.fails (sure.clear.served h.0.at h.0.span h.0.listed)

  pub not_premised : (d : Doubt) → IsFirst IsTestedSo tests (subject_of s) d → IsPremised s → ⊥
  not_premised d h sure = refuted d (is_so s table d (first_doubt d h)) sure

  -- ---- faults

  pub first_fault : (f : CertifyFault) → IsFirstFound (subject_of s) f → IsFirstFault s f
  first_fault (fault.Doubt d) h = first_doubt d h
  first_fault fault.NoMemory h = tt

  pub doubted_by : (f : CertifyFault) → IsFirstFound (subject_of s) f → IsDoubted s f
  doubted_by (fault.Doubt d) h = not_premised d h
  doubted_by fault.NoMemory h = tt
