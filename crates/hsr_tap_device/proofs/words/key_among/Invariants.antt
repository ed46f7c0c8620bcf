use Rattle.std.proofs.Common.{◌≡◌, drop}
use Rattle.hsr_tap_device.specs.Words.{key_among}
use Rattle.hsr_tap_device.proofs.words.key_among.Given as goal

abbrev pub invariant-loop-key : goal.invariant-loop-key
invariant-loop-key l = key_among (drop l.key-index l.keys) l.word ≡ key_among l.keys l.word
