use Rattle.std.proofs.Common.{rules, ◌≡◌, ◌&&◌, length, bit_and, refl}
use Rattle.hsr_faults.proofs.Words.{and_bit, each_word}
use Rattle.hsr_faults.proofs.channels.Channels.both.Goals as goal

pub returns : goal.returns
returns c =
    let mine : length c.args.self.now.words ≡ 4 = search rules in
    let theirs : length c.args.other.now.words ≡ 4 = search rules in
    each_word bit_and refl c.args.self.now.words c.args.other.now.words mine theirs (λ x y. x && y) (λ i n below. and_bit _ _ n)
