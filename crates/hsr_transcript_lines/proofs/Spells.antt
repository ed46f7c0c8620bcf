-- Lines that were written are lines, and are read again: all kinds but entries.
use Rattle.std.proofs.Common.{◌≡◌, ◌==◌, ◌<◌, ◌≤◌, ◌^◌, nat_lt, ℕ, zero, suc, true, false, List, [], ◌∷◌, ◌++◌, length, map, slice_index_or, Some, None, refl, sym, ap, subst, arith, inl, codes, ◌∙◌}
use Rattle.std.specs.Fmt.{decimal}
use Rattle.std.specs.List.{AllByRecursion}
use Rattle.std.proofs.lemmas.Bool.Decides.{nat_tests}
use Rattle.hsr_frame.specs.Address.{IsAddress}
use Rattle.hsr_text.specs.Words.{cut, mac_text}
use Rattle.hsr_text.specs.declared.time_unit.TimeUnit.{TimeUnit}
use Rattle.hsr_text.specs.declared.time_unit.TimeUnit.TheVariants.{Milliseconds, Microseconds}
use Rattle.hsr_frame.specs.declared.node.Mode.{Mode}
use Rattle.hsr_frame.specs.declared.node.Mode.TheVariants.{H, N, U}
use Rattle.hsr_node.specs.declared.event.Probe.{Probe}
use Rattle.hsr_node.specs.declared.place.Place.{Place}
use Rattle.hsr_node.specs.declared.place.Place.TheVariants.{Danh, RedBox, QuadBox, Station}
use Rattle.hsr_link.specs.declared.row.Dir.{Dir}
use Rattle.hsr_link.specs.declared.row.Dir.TheVariants.{Forth, Back}
use Rattle.hsr_link.specs.declared.row.Fate.{Fate}
use Rattle.hsr_link.specs.declared.row.Fate.TheVariants.{Queued, Taken, LostDown, LostCut, LostOverrun}
use Rattle.hsr_link.specs.declared.row.Row.{Row}
use Rattle.hsr_topology.specs.Wired.{HasAddresses, IsJoin}
use Rattle.hsr_node.specs.Place.{ports}
use Rattle.hsr_topology.specs.declared.end.End.{End}
use Rattle.hsr_transcript_lines.proofs.WordTexts.{line_end, word_octets}
use Rattle.hsr_transcript_lines.specs.Fits.{IsPlaceFit}
use Rattle.hsr_transcript_lines.specs.Parsed.{only, count_of, read_end, link_of, read_link, number_in, place_of, read_place, read_port, row_of, turn_of, version_of}
use Rattle.hsr_transcript_lines.specs.Lines.{head}
use Rattle.hsr_frame.specs.Words.{mode_of, mode_word}
use Rattle.hsr_transcript_lines.specs.Readable.{IsSpelled, Lacks}
use Rattle.hsr_transcript_lines.specs.Spelled.{end_text, link_text, octets_text, place_text, probe_text, row_text, spaced, version_text}
use Rattle.hsr_node.specs.Words.{letter}
use Rattle.hsr_link.specs.Words.{dir_word, fate_word}
use Rattle.hsr_transcript_lines.proofs.Again.{IsFinishedRow, exactly_again, lacks_decimal, number_again, row_read, turn_read}
use Rattle.hsr_transcript_lines.proofs.CutWords.{cut_end, cut_word, lacks_more}
use Rattle.hsr_transcript_lines.proofs.Addressed.{mac_again, mac_lacks, macs_again}

-- ---- octets that lines lack

pub lacks_spaced : (word : List ℕ) (others : List (List ℕ)) → Lacks 10 word → AllByRecursion (Lacks 10) others → Lacks 10 (spaced word others)
lacks_spaced word [] h k = h
lacks_spaced word (next ∷ others) h k = lacks_more 10 word (32 ∷ spaced next others) h (refl, lacks_spaced next others k.0 k.1)

pub decimal_lacks : (n : ℕ) → n < 2 ^ 64 → Lacks 10 (decimal n)
decimal_lacks n h = lacks_decimal 10 n h (inl (omega arith))

-- ---- lines of one word or two

pub fixed_spelled : (word : List ℕ) → Lacks 10 word → IsSpelled (only word) (λ _. word) tt
fixed_spelled word h = record { read = exactly_again (λ _. word) (λ _. Some tt) tt refl; line = h }

pub version_spelled : (unit : TimeUnit) → IsSpelled version_of version_text unit
unfolding version_of
version_spelled Milliseconds = record { read = refl; line = (refl, (refl, (refl, (refl, (refl, (refl, (refl, (refl, (refl, (refl, (refl, tt))))))))))) }
version_spelled Microseconds = record { read = refl; line = (refl, (refl, (refl, (refl, (refl, (refl, (refl, (refl, (refl, (refl, (refl, tt))))))))))) }

pub turn_spelled : (n : ℕ) → n < 2 ^ 64 → IsSpelled turn_of decimal n
turn_spelled n h = record { read = turn_read n h; line = decimal_lacks n h }

count_read : (name : List ℕ) (n : ℕ) → Lacks 32 name → n < 2 ^ 64 → count_of name (head name n) ≡ Some n
unfolding count_of
count_read name n h k =
    exactly_again (head name) (λ line. number_in (cut 32 line).1) n (ap (λ c. number_in c.1) (cut_word 32 name (decimal n) h) ∙ number_again n k)

pub count_spelled : (name : List ℕ) (n : ℕ) → Lacks 32 name → Lacks 10 name → n < 2 ^ 64 → IsSpelled (count_of name) (head name) n
count_spelled name n h l k = record { read = count_read name n h k; line = lacks_more 10 name (32 ∷ decimal n) l (refl, decimal_lacks n k) }

-- ---- rows

dir_lacks : (d : Dir) → Lacks 10 (dir_word d)
dir_lacks Forth = (refl, (refl, (refl, (refl, (refl, tt)))))
dir_lacks Back = (refl, (refl, (refl, (refl, tt))))

fate_lacks : (f : Fate) → Lacks 10 (fate_word f)
fate_lacks Queued = (refl, (refl, (refl, (refl, (refl, (refl, tt))))))
fate_lacks Taken = (refl, (refl, (refl, (refl, (refl, tt)))))
fate_lacks LostDown = (refl, (refl, (refl, (refl, tt))))
fate_lacks LostCut = (refl, (refl, (refl, tt)))
fate_lacks LostOverrun = (refl, (refl, (refl, (refl, (refl, (refl, (refl, tt)))))))

pub probe_lacks : (p : Probe) → p.node < 2 ^ 64 → p.place < 2 ^ 64 → Lacks 10 (probe_text (Some p))
probe_lacks p h k = lacks_more 10 _ _ (decimal_lacks p.node h) (refl, decimal_lacks p.place k)

row_lacks : (row : Row) → IsFinishedRow row → Lacks 10 (row_text row)
unfolding row_text
row_lacks row f =
    let probe = subst (λ p. Lacks 10 (probe_text p)) (sym f.named) (probe_lacks f.probe f.node f.place) in
    lacks_spaced (dir_word row.dir) (probe_text row.carried.probe ∷ octets_text row.carried.octets ∷ fate_word row.fate ∷ []) (dir_lacks row.dir) (probe, (line_end (octets_text row.carried.octets) (word_octets row.carried.octets f.octets), (fate_lacks row.fate, tt)))

pub row_spelled : (row : Row) → IsFinishedRow row → IsSpelled row_of row_text row
row_spelled row f = record { read = row_read row f; line = row_lacks row f }

-- ---- nodes

mode_again : (mode : Mode) → mode_of (cut 32 (mode_word mode)).0 ≡ Some mode
mode_again H = refl
mode_again N = refl
mode_again U = refl

mode_lacks : (mode : Mode) → Lacks 10 (mode_word mode)
mode_lacks H = (refl, tt)
mode_lacks N = (refl, tt)
mode_lacks U = (refl, tt)

-- an address and a mode, as they stand behind a node's name
mac_first : (mac : List ℕ) (mode : Mode) → cut 32 (mac_text mac ++ 32 ∷ mode_word mode) ≡ (mac_text mac, Some (mode_word mode))
mac_first mac mode = cut_word 32 (mac_text mac) (mode_word mode) (mac_lacks 32 mac (omega arith))

-- a station's addresses
station_again : (macs : List (List ℕ)) → AllByRecursion IsAddress macs → length macs ≤ 16 → 0 < length macs
    → read_place (place_text (Station (record { items = macs }))) ≡ Some (Station (record { items = macs }))
unfolding read_place place_text
station_again [] a h k = absurd (omega arith)
station_again (mac ∷ macs) a h k =
    let some : nat_lt 0 (length (mac ∷ macs)) ≡ true = grind (arith, nat_tests) in
    rw (macs_again 16 mac macs a h, some) refl

place_again : (place : Place) → IsPlaceFit place → HasAddresses place → read_place (place_text place) ≡ Some place
unfolding read_place place_text
place_again (Danh mac mode) a h = rw (mac_first mac mode, mac_again mac a, mode_again mode) refl
place_again (RedBox mac mode) a h = rw (mac_first mac mode, mac_again mac a, mode_again mode) refl
place_again QuadBox a h = refl
place_again (Station macs) a h = station_again macs.items a.0 a.1 h.some

macs_lack : (macs : List (List ℕ)) → AllByRecursion (Lacks 10) (map mac_text macs)
macs_lack [] = tt
macs_lack (mac ∷ macs) = (mac_lacks 10 mac (omega arith), macs_lack macs)

place_lacks : (place : Place) → Lacks 10 (place_text place)
unfolding place_text
place_lacks (Danh mac mode) =
    lacks_spaced (codes "danh") (mac_text mac ∷ mode_word mode ∷ []) (refl, (refl, (refl, (refl, tt)))) (mac_lacks 10 mac (omega arith), (mode_lacks mode, tt))
place_lacks (RedBox mac mode) =
    lacks_spaced (codes "redbox") (mac_text mac ∷ mode_word mode ∷ []) (refl, (refl, (refl, (refl, (refl, (refl, tt)))))) (mac_lacks 10 mac (omega arith), (mode_lacks mode, tt))
place_lacks QuadBox = (refl, (refl, (refl, (refl, (refl, (refl, (refl, tt)))))))
place_lacks (Station macs) =
    lacks_spaced (codes "station") (map mac_text macs.items) (refl, (refl, (refl, (refl, (refl, (refl, (refl, tt))))))) (macs_lack macs.items)

place_read : (place : Place) → IsPlaceFit place → HasAddresses place → place_of (place_text place) ≡ Some place
unfolding place_of
place_read place a h = exactly_again place_text read_place place (place_again place a h)

pub place_spelled : (place : Place) → IsPlaceFit place → HasAddresses place → IsSpelled place_of place_text place
place_spelled place a h = record { read = place_read place a h; line = place_lacks place }

-- ---- links

-- a port's letter names it, and parts no words or lines
record IsLetter (place : Place) (port : ℕ) : Type 0 where
  read : read_port place (letter place port ∷ []) ≡ Some port
  space : (letter place port == 32) ≡ false
  feed : (letter place port == 10) ≡ false

letter_known : (place : Place) (port : ℕ) → port < ports place → IsLetter place port
letter_known (Danh mac mode) zero h = record { read = refl; space = refl; feed = refl }
letter_known (Danh mac mode) (suc zero) h = record { read = refl; space = refl; feed = refl }
letter_known (Danh mac mode) (suc (suc n)) h = absurd (omega arith)
letter_known (RedBox mac mode) zero h = record { read = refl; space = refl; feed = refl }
letter_known (RedBox mac mode) (suc zero) h = record { read = refl; space = refl; feed = refl }
letter_known (RedBox mac mode) (suc (suc zero)) h = record { read = refl; space = refl; feed = refl }
letter_known (RedBox mac mode) (suc (suc (suc n))) h = absurd (omega arith)
letter_known QuadBox zero h = record { read = refl; space = refl; feed = refl }
letter_known QuadBox (suc zero) h = record { read = refl; space = refl; feed = refl }
letter_known QuadBox (suc (suc zero)) h = record { read = refl; space = refl; feed = refl }
letter_known QuadBox (suc (suc (suc zero))) h = record { read = refl; space = refl; feed = refl }
letter_known QuadBox (suc (suc (suc (suc n)))) h = absurd (omega arith)
letter_known (Station macs) zero h = record { read = refl; space = refl; feed = refl }
letter_known (Station macs) (suc n) h = absurd (omega arith)

-- an end's word is read again, and parts no words or lines
record IsEndWord (places : List Place) (end : End) : Type 0 where
  read : read_end places (end_text places end) ≡ Some end
  space : Lacks 32 (end_text places end)
  feed : Lacks 10 (end_text places end)

small : (n : ℕ) → n < 64 → n < 2 ^ 64
small n h = omega arith

end_word : (places : List Place) (end : End) → length places ≤ 64 → end.node < length places → end.port < ports (slice_index_or places end.node QuadBox) → IsEndWord places end
end_word places end few node port =
    let known = letter_known (slice_index_or places end.node QuadBox) end.port port in
    let big : end.node < 2 ^ 64 = small end.node (omega arith) in
    let word = letter (slice_index_or places end.node QuadBox) end.port ∷ [] in
    let parts : cut 46 (decimal end.node ++ 46 ∷ word) ≡ (decimal end.node, Some word) = cut_word 46 (decimal end.node) word (lacks_decimal 46 end.node big (inl (omega arith))) in
    let there : nat_lt end.node (length places) ≡ true = grind (arith, nat_tests) in
    record {
      read = rw (parts, number_again end.node big, there, known.read) refl;
      space = lacks_more 32 (decimal end.node) (46 ∷ word) (lacks_decimal 32 end.node big (inl (omega arith))) (refl, (known.space, tt));
      feed = lacks_more 10 (decimal end.node) (46 ∷ word) (lacks_decimal 10 end.node big (inl (omega arith))) (refl, (known.feed, tt));
    }

link_again : (places : List Place) (a b : End) → IsEndWord places a → IsEndWord places b → read_link places (link_text places (a ∷ b ∷ [])) ≡ Some (a ∷ b ∷ [])
unfolding read_link link_text
link_again places a b first second =
    let first_cut : cut 32 (end_text places a ++ 32 ∷ end_text places b) ≡ (end_text places a, Some (end_text places b)) = cut_word 32 (end_text places a) (end_text places b) first.space in
    let second_cut : cut 32 (end_text places b) ≡ (end_text places b, None) = cut_end 32 (end_text places b) second.space in
    rw (first_cut, first.read, second_cut, second.read) refl

link_lacks : (places : List Place) (a b : End) → IsEndWord places a → IsEndWord places b → Lacks 10 (link_text places (a ∷ b ∷ []))
unfolding link_text
link_lacks places a b first second = lacks_spaced (end_text places a) (end_text places b ∷ []) first.feed (second.feed, tt)

link_read : (places : List Place) (ends : List End) → read_link places (link_text places ends) ≡ Some ends → link_of places (link_text places ends) ≡ Some ends
unfolding link_of
link_read places ends e = exactly_again (link_text places) (read_link places) ends e

pub link_spelled : (places : List Place) (ends : List End) → length places ≤ 64 → IsJoin places ends → IsSpelled (link_of places) (link_text places) ends
link_spelled places [] few h = absurd h
link_spelled places (a ∷ []) few h = absurd h
link_spelled places (a ∷ b ∷ []) few h =
    let first = end_word places a few h.first.node (h.first.port QuadBox) in
    let second = end_word places b few h.second.node (h.second.port QuadBox) in
    record { read = link_read places (a ∷ b ∷ []) (link_again places a b first second); line = link_lacks places a b first second }
link_spelled places (a ∷ b ∷ c ∷ ends) few h = absurd h
