use Rattle.std.proofs.Common.{rules, ◌≡◌, ◌<◌, ◌^◌, ◌&&◌, not, ℕ, length, bit_and, refl, w64}
use Rattle.std.specs.Prelude.{slice_index_or}
use Rattle.std.specs.Int.{bit_not}
use Rattle.hsr_faults.proofs.Words.{each_word, without_bit}
use Rattle.hsr_faults.proofs.channels.Channels.without.Goals as goal

pub returns : goal.returns
returns c =
    let mine : length c.args.self.now.words ≡ 4 = search rules in
    let theirs : length c.args.other.now.words ≡ 4 = search rules in
    let fits : (i : ℕ) → slice_index_or c.args.other.now.words i 0 < 2 ^ 64 = λ i. search (rules, c.type_inv.other) in
    each_word (λ x y. bit_and x (bit_not w64 y)) refl c.args.self.now.words c.args.other.now.words mine theirs (λ x y. x && not y)
    (λ i n below. without_bit (slice_index_or c.args.self.now.words i 0) (slice_index_or c.args.other.now.words i 0) n (fits i) below)
