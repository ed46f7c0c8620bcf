-- Outcomes that are equal by their fields.
use Rattle.std.proofs.Common.{rules, ◌≡◌, Bool, List, Option, ℕ, ◌==◌, ◌&&◌, refl}
use Rattle.std.specs.Bool.{Decides, beq}
use Rattle.std.specs.Option.{option_eq}
use Rattle.std.specs.Cmp.{booleans_Decides}
use Rattle.std.specs.Cmp.Lexicographic.{pointwise}
use Rattle.std.proofs.lemmas.Slice.Eq.{slice_eq-Decides}
use Rattle.hsr_frame.specs.declared.node.Cause.{Cause}
use Rattle.hsr_frame.specs.contracts.node.CausePartialEq.TheImpl as cause_impl
use Rattle.hsr_node.specs.declared.event.Outcome.{Outcome}
use Rattle.hsr_node.specs.declared.event.Outcome.TheVariants.{Sent, Life, Judged}
use Rattle.hsr_node.specs.contracts.event.OutcomePartialEq.TheImpl as impl

same_ports : (a b : List Bool) → Decides (pointwise beq a b) (a ≡ b)
same_ports a b = slice_eq-Decides booleans_Decides a b (pointwise beq a b) refl

same_cause : (a b : Cause) → Decides (cause_impl.ghosts.eq a b) (a ≡ b)
same_cause a b = search rules

same_judged : (up raised : Bool) (ports exits : List Bool) (seq number : Option ℕ) (why cause : Cause) (r : Bool) → Decides r (why ≡ cause) →
    Decides (beq up raised && (pointwise beq ports exits && (option_eq ◌==◌ seq number && r))) (Judged up ports seq why ≡ Judged raised exits number cause)
same_judged up raised ports exits seq number why cause r c = search (rules, same_ports)

pub same_outcome : (a b : Outcome) → Decides (impl.ghosts.eq a b) (a ≡ b)
same_outcome (Sent seq ports) (Sent number exits) = search (rules, same_ports)
same_outcome (Life seq life ports) (Life number count exits) = search (rules, same_ports)
same_outcome (Judged up ports seq why) (Judged raised exits number cause) = same_judged up raised ports exits seq number why cause (cause_impl.ghosts.eq why cause) (same_cause why cause)
same_outcome a b = search rules
