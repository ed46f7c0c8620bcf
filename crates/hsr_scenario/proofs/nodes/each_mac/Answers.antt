use Rattle.std.proofs.Common.{◌∙◌, ◌++◌, ◌+◌, ap, sym, arith, drop, map, option_map}
use Rattle.std.specs.Result.{result_ok}
use Rattle.hsr_scenario.specs.Tables.{each_of}
use Rattle.hsr_toml.specs.Names.{mac_of}
use Rattle.hsr_scenario.proofs.Macs.{macs_step}
use Rattle.hsr_scenario.proofs.nodes.each_mac.Goals as goal

pub loop-text-preserved : goal.loop-text-preserved
loop-text-preserved c = (
  omega (arith, c.push.ensures.len, c.loop-text.invariant.0),
  ap (λ ms. option_map (λ xs. ms ++ xs) (each_of mac_of (map (λ s. s.now) (drop (c.loop-text.text-index + 1) c.args.texts.now)))) c.push.ensures.items
      ∙ sym (macs_step c.loop-text.macs.items c.args.texts.now c.loop-text.text-index _ c.in-Ok.mac c.loop-text-test.true (ap result_ok (sym c.in-Ok.ensures.exact)))
      ∙ c.loop-text.invariant.1,
)
