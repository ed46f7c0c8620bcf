use Rattle.std.proofs.Common.{◌≡◌, ◌<◌, ℕ, true, List, length, sym, subst}
use Rattle.std.specs.Prelude.{◌↔◌}
use Rattle.hsr_frame.specs.Grammar.{Fields}
use Rattle.hsr_run_laws.specs.Run.{Run}
use Rattle.hsr_bitset.specs.Numbers.{has}
use Rattle.hsr_routes.specs.Numbered.{is_in}
use Rattle.hsr_routes.specs.Routes.{IsLedTo, bare, heading, sender_at}
use Rattle.hsr_audit.proofs.Routed.{reached_is}
use Rattle.hsr_audit.proofs.cutoff.Reach.search.Goals as goal

pub reached-requires : goal.reached-requires
reached-requires g c =
    let P : Run → Type 0 = λ run. c.args.send.node < length run.places in
    record { sender = subst P (sym c.self.invariant.0) (subst P (sym c.self.view_is) c.requires.node) }

pub returns : goal.returns
returns g c =
    let run : Run = c.args.self.now in
    let Q : Run → List ℕ → ℕ → Type 0 = λ r dst kind. (k : ℕ) → k < length r.places → (has c.reached.result k ≡ true) ↔ IsLedTo r (sender_at c.args.send.node) (heading dst kind) (is_in c.args.lossy.now) k in
    let inside = subst (λ (r : Run). Q r c.frame.inside.dst c.frame.inside.kind) c.self.invariant.0 c.reached.ensures in
    let own = subst (λ (r : Run). Q (bare r.places r.links) c.frame.inside.dst c.frame.inside.kind) c.self.view_is inside in
    reached_is run c.args.send c.args.frame.now c.args.lossy.now c.reached.result c.requires.lossy
    (subst (λ (frame : Fields). Q (bare run.places run.links) frame.dst frame.kind) c.frame.view_is own)
