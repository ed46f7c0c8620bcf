use Rattle.std.proofs.Common.{rules, ◌≡◌, ◌||◌, length, bit_or, refl}
use Rattle.hsr_faults.proofs.Words.{each_word, or_bit}
use Rattle.hsr_faults.proofs.channels.Channels.with.Goals as goal

pub returns : goal.returns
returns c =
    let mine : length c.args.self.now.words ≡ 4 = search rules in
    let theirs : length c.args.other.now.words ≡ 4 = search rules in
    each_word bit_or refl c.args.self.now.words c.args.other.now.words mine theirs (λ x y. x || y) (λ i n below. or_bit _ _ n)
