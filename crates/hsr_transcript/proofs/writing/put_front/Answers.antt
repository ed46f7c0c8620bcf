use Rattle.std.proofs.Common.{◌≡◌, ◌++◌, ◌∙◌, ◌∷◌, [], codes, map, ap, sym}
use Rattle.std.specs.Fmt.{decimal}
use Rattle.hsr_text.specs.declared.time_unit.TimeUnit.TheVariants.{Microseconds}
use Rattle.hsr_transcript_lines.specs.Lines.{head, section, text_of}
use Rattle.hsr_transcript_lines.specs.Spelled.{link_text, place_text}
use Rattle.hsr_transcript.specs.Transcript.{said_front, said_in}
use Rattle.hsr_transcript.proofs.Grown.{front_text}
use Rattle.hsr_transcript.proofs.writing.put_front.Goals as goal

pub returns-clause-written : goal.returns-clause-written
unfolding said_front
returns-clause-written g c =
    let run = c.args.closed.now.run in
    let capacity : run.capacity ≡ g.row.C = c.topology-topology.ensures.capacity in
    let places : c.places-places.result.now ≡ run.places = c.places-places.ensures.value ∙ c.topology-topology.ensures.places in
    let links : c.links.result.now ≡ run.links = c.links.ensures.value ∙ c.topology-topology.ensures.links in
    let h2 : c.put_head.new.text.items ≡ c.extend_from_slice.new.self.items ++ text_of (head (codes "table") run.capacity ∷ []) =
    c.in_ok-put_head.ensures ∙ ap (λ n. c.extend_from_slice.new.self.items ++ text_of (head (codes "table") n ∷ [])) (sym capacity) in
    let h3 : c.put_section.new.text.items ≡ c.put_head.new.text.items ++ text_of (section (codes "nodes") place_text run.places) =
    c.in_ok-put_section.ensures.written ∙ ap (λ l. c.put_head.new.text.items ++ text_of (section (codes "nodes") place_text l)) places in
    let h4 : c.put_section-2.new.text.items ≡ c.put_section.new.text.items ++ text_of (section (codes "links") (link_text run.places) run.links) =
    c.in_ok-put_section-2.ensures.written ∙ ap (λ l. c.put_section.new.text.items ++ text_of (section (codes "links") (link_text l) c.links.result.now)) places
    ∙ ap (λ l. c.put_section.new.text.items ++ text_of (section (codes "links") (link_text run.places) l)) links in
    let order : c.as_slice.result.now ≡ (said_in Microseconds c.args.closed.now).main = c.as_slice.ensures.value ∙ c.in_ok-order.ensures ∙ ap (map (λ p. p.node)) c.plan.ensures in
    let h5 : c.put_section-3.new.text.items ≡ c.put_section-2.new.text.items ++ text_of (section (codes "main") decimal (said_in Microseconds c.args.closed.now).main) =
    c.in_ok-put_section-3.ensures.written ∙ ap (λ l. c.put_section-2.new.text.items ++ text_of (section (codes "main") decimal l)) order in
    front_text c.args.text.now.items c.extend_from_slice.new.self.items c.put_head.new.text.items c.put_section.new.text.items c.put_section-2.new.text.items c.put_section-3.new.text.items
    (codes "hsr-bench 2") (head (codes "table") run.capacity) (section (codes "nodes") place_text run.places) (section (codes "links") (link_text run.places) run.links)
    (section (codes "main") decimal (said_in Microseconds c.args.closed.now).main)
    c.in_ok-extend_from_slice.ensures.items h2 h3 h4 h5
