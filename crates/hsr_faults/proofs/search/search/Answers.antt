use Rattle.std.proofs.Common.{rules, ◌<◌, ◌*◌, ℕ, length, sym, subst, None, Some, refl}
use Rattle.hsr_run_laws.specs.Run.{Run}
use Rattle.hsr_topology.specs.Wired.{IsWired}
use Rattle.hsr_routes.specs.Routes.{bare, heading, sender_at}
use Rattle.hsr_routes.specs.Numbered.{channel_at, is_in}
use Rattle.hsr_routes.proofs.Spreading.{front_start, searched, went_on}
use Rattle.hsr_faults.specs.Onward.{AreFollowing}
use Rattle.hsr_faults.specs.declared.channels.Channels.{Channels}
use Rattle.hsr_faults.proofs.Going.{gone_spread, taken_out}
use Rattle.hsr_faults.proofs.search.search.Goals as goal

pub loop-number-init : goal.loop-number-init
loop-number-init c =
    let net : Run = bare c.args.topology.now.places c.args.topology.now.links in
    let wired : IsWired net.places net.links = search rules in
    let spread = gone_spread net (sender_at c.args.frame.now.sender) (heading c.args.frame.now.dst c.args.frame.now.kind) c.args.avoid.now.words None c.args.onward.now.first.words
    c.new.result.words c.new-2.result.words c.add.new.self.found.words c.add.new.self.waiting.words c.requires.sender c.add.ensures in
    front_start net (sender_at c.args.frame.now.sender) (heading c.args.frame.now.dst c.args.frame.now.kind) (is_in c.args.avoid.now.words) wired.few_links
    c.new.result.words c.new-2.result.words c.add.new.self.found.words c.add.new.self.waiting.words c.new.ensures c.new-2.ensures spread

pub loop-number-smaller : goal.loop-number-smaller
loop-number-smaller c =
    let net : Run = bare c.args.topology.now.places c.args.topology.now.links in
    let wired : IsWired net.places net.links = search rules in
    let n : ℕ = c.in-Some.number in
    let taken = taken_out n c.loop-number.front.waiting.words c.take.new.self.words c.in-Some.ensures.taken in
    let low : n < 2 * length net.links = (c.loop-number.invariant.waits n taken.below taken.waited).1 in
    let following : AreFollowing net (sender_at c.args.frame.now.sender) (heading c.args.frame.now.dst c.args.frame.now.kind) (Some (channel_at n)) c.index.result.now.words =
    subst (λ (x : Channels). AreFollowing net (sender_at c.args.frame.now.sender) (heading c.args.frame.now.dst c.args.frame.now.kind) (Some (channel_at n)) x.words) (sym c.index.ensures)
    (c.requires.channel n c.index.result.now low) in
    let spread = gone_spread net (sender_at c.args.frame.now.sender) (heading c.args.frame.now.dst c.args.frame.now.kind) c.args.avoid.now.words (Some (channel_at n)) c.index.result.now.words
    c.loop-number.front.found.words c.take.new.self.words c.add-in-Some.new.self.found.words c.add-in-Some.new.self.waiting.words following c.add-in-Some.ensures in
    (went_on net (sender_at c.args.frame.now.sender) (heading c.args.frame.now.dst c.args.frame.now.kind) (is_in c.args.avoid.now.words) wired.few_links (channel_at n) n
    c.loop-number.front.found.words c.loop-number.front.found.words c.loop-number.front.waiting.words c.take.new.self.words c.add-in-Some.new.self.found.words c.add-in-Some.new.self.waiting.words
    refl refl c.loop-number.invariant taken spread).1

pub loop-number-preserved : goal.loop-number-preserved
loop-number-preserved c =
    let net : Run = bare c.args.topology.now.places c.args.topology.now.links in
    let wired : IsWired net.places net.links = search rules in
    let n : ℕ = c.in-Some.number in
    let taken = taken_out n c.loop-number.front.waiting.words c.take.new.self.words c.in-Some.ensures.taken in
    let low : n < 2 * length net.links = (c.loop-number.invariant.waits n taken.below taken.waited).1 in
    let following : AreFollowing net (sender_at c.args.frame.now.sender) (heading c.args.frame.now.dst c.args.frame.now.kind) (Some (channel_at n)) c.index.result.now.words =
    subst (λ (x : Channels). AreFollowing net (sender_at c.args.frame.now.sender) (heading c.args.frame.now.dst c.args.frame.now.kind) (Some (channel_at n)) x.words) (sym c.index.ensures)
    (c.requires.channel n c.index.result.now low) in
    let spread = gone_spread net (sender_at c.args.frame.now.sender) (heading c.args.frame.now.dst c.args.frame.now.kind) c.args.avoid.now.words (Some (channel_at n)) c.index.result.now.words
    c.loop-number.front.found.words c.take.new.self.words c.add-in-Some.new.self.found.words c.add-in-Some.new.self.waiting.words following c.add-in-Some.ensures in
    (went_on net (sender_at c.args.frame.now.sender) (heading c.args.frame.now.dst c.args.frame.now.kind) (is_in c.args.avoid.now.words) wired.few_links (channel_at n) n
    c.loop-number.front.found.words c.loop-number.front.found.words c.loop-number.front.waiting.words c.take.new.self.words c.add-in-Some.new.self.found.words c.add-in-Some.new.self.waiting.words
    refl refl c.loop-number.invariant taken spread).0

pub returns : goal.returns
returns c =
    let net : Run = bare c.args.topology.now.places c.args.topology.now.links in
    let wired : IsWired net.places net.links = search rules in
    searched net (sender_at c.args.frame.now.sender) (heading c.args.frame.now.dst c.args.frame.now.kind) (is_in c.args.avoid.now.words) wired.few_links
    c.loop-number.front.found.words c.loop-number.front.waiting.words c.loop-number.invariant (λ n low. c.in_default.ensures.none n)
