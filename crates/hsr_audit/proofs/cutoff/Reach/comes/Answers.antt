use Rattle.std.proofs.Common.{rules, ◌≡◌, ◌<◌, ◌∙◌, true, length, sym}
use Rattle.hsr_link.specs.declared.row.Dir.TheVariants.{Forth, Back}
use Rattle.hsr_run_laws.specs.Run.{Run, place_of}
use Rattle.hsr_audit.specs.Coming.{is_to_station}
use Rattle.hsr_audit.proofs.Coming.{found_same, none_more, none_same}
use Rattle.hsr_audit.proofs.cutoff.Reach.comes.Goals as goal
use Rattle.hsr_audit.proofs.cutoff.Reach.comes.Goals.{then-is_last-via-then-is_last, then-is_last-via-else-is_last+then-is_last-2}

pub returns-then-is_last : goal.returns-then-is_last
returns-then-is_last g c =
    let run : Run = c.args.self.now in
    let inside : c.loop-link.link < length run.links = search rules in
    let asked : c.is_to_station.result ≡ is_to_station c.args.frame.now (place_of run c.args.node) = search rules in
    let below : is_to_station c.args.frame.now (place_of run c.args.node) ≡ true = sym asked ∙ c.if-not-is_to_station.false in
    elim c.then-is_last.branch [
      | then-is_last-via-then-is_last w ↦
          found_same run c.args.send c.args.frame.now c.args.spread.now c.requires.spread c.args.node below (record { link = c.loop-link.link; dir = Forth }) inside (sym c.is_last.ensures ∙ w.if-is_last.true)
      | then-is_last-via-else-is_last+then-is_last-2 w ↦
          found_same run c.args.send c.args.frame.now c.args.spread.now c.requires.spread c.args.node below (record { link = c.loop-link.link; dir = Back }) inside (sym w.is_last-else-is_last.ensures ∙ w.if-is_last-2.true)
    ]

pub loop-link-preserved : goal.loop-link-preserved
loop-link-preserved g c =
    none_more c.args.self.now c.args.send.node c.args.spread.now c.args.node c.loop-link.link (sym c.is_last.ensures ∙ c.if-is_last.false) (sym c.is_last-else-is_last.ensures ∙ c.if-is_last-2.false) c.loop-link.invariant

pub returns : goal.returns
returns g c =
    let run : Run = c.args.self.now in
    let all : length run.links ≡ c.loop-link.link = search rules in
    let asked : c.is_to_station.result ≡ is_to_station c.args.frame.now (place_of run c.args.node) = search rules in
    let below : is_to_station c.args.frame.now (place_of run c.args.node) ≡ true = sym asked ∙ c.if-not-is_to_station.false in
    none_same run c.args.send c.args.frame.now c.args.spread.now c.requires.spread c.args.node below c.loop-link.link all c.loop-link.invariant
