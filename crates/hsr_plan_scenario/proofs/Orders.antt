-- Orders with the streams of the frames that they send, one after another.
use Rattle.std.proofs.Common.{◌≡◌, ℕ, ◌+◌, ◌≤◌, ◌∙◌, List, [], ◌∷◌, ◌++◌, length, min, ap, sym, append_assoc, arith}
use Rattle.std.proofs.lemmas.List.{length-append}
use Rattle.hsr_scenario.specs.Streams.{Sending}
use Rattle.hsr_scenario.specs.declared.steps.Order.{Order}
use Rattle.hsr_plan_network.specs.Nodes.{Node}
use Rattle.hsr_plan_scenario.specs.Sends.{next_stream, sends_behind, sent_by, sent_by_all}
use Rattle.hsr_plan_scenario.specs.Spelled.{order_line, order_lines}

module _ (streams : List (List ℕ)) (sends next : List ℕ) (o : Order) (rest left : List Order) (split : left ≡ o ∷ rest) (behind : next ≡ sends_behind o sends) where
  -- what an order sends joins what those before it send
  pub sent_on : (seen after before : List Sending) → after ≡ seen ++ sent_by (next_stream streams sends) o → seen ++ sent_by_all streams sends left ≡ before
      → after ++ sent_by_all streams next rest ≡ before
  sent_on seen after before pushed so_far =
      ap (λ xs. xs ++ sent_by_all streams next rest) pushed
      ∙ append_assoc seen (sent_by (next_stream streams sends) o) (sent_by_all streams next rest)
      ∙ ap (λ n. seen ++ (sent_by (next_stream streams sends) o ++ sent_by_all streams n rest)) behind
      ∙ ap (λ os. seen ++ sent_by_all streams sends os) (sym split) ∙ so_far

  module _ (nodes : List Node) where
    -- the line of an order joins those before it
    pub lines_on : (text after before : List ℕ) → after ≡ text ++ order_line nodes (next_stream streams sends) o → text ++ order_lines nodes streams sends left ≡ before
        → after ++ order_lines nodes streams next rest ≡ before
    lines_on text after before put so_far =
        ap (λ t. t ++ order_lines nodes streams next rest) put
        ∙ append_assoc text (order_line nodes (next_stream streams sends) o) (order_lines nodes streams next rest)
        ∙ ap (λ n. text ++ (order_line nodes (next_stream streams sends) o ++ order_lines nodes streams n rest)) behind
        ∙ ap (λ os. text ++ order_lines nodes streams sends os) (sym split) ∙ so_far

    lines_long : length (order_lines nodes streams sends left) ≡ length (order_line nodes (next_stream streams sends) o) + length (order_lines nodes streams next rest)
    lines_long =
        ap (λ os. length (order_lines nodes streams sends os)) split
        ∙ length-append (order_line nodes (next_stream streams sends) o) (order_lines nodes streams (sends_behind o sends) rest)
        ∙ ap (λ n. length (order_line nodes (next_stream streams sends) o) + length (order_lines nodes streams n rest)) (sym behind)

    -- so with how many octets they have
    pub measured_on : (octets one more most whole : ℕ) → one ≡ length (order_line nodes (next_stream streams sends) o) → more ≡ min (octets + one) most
        → min (octets + length (order_lines nodes streams sends left)) most ≡ whole → min (more + length (order_lines nodes streams next rest)) most ≡ whole
    measured_on octets one more most whole is added so_far = let long = lines_long in omega (arith, long, is, added, so_far)

-- where no order is left, that is all
pub measured_end : (nodes : List Node) (streams : List (List ℕ)) (sends : List ℕ) (left : List Order) (octets most whole : ℕ) → length left ≡ 0 → octets ≤ most
    → min (octets + length (order_lines nodes streams sends left)) most ≡ whole → octets ≡ whole
measured_end nodes streams sends [] octets most whole none fits so_far = omega (arith, fits, so_far)
measured_end nodes streams sends (o ∷ left) octets most whole none fits so_far = absurd (omega (arith, none))

pub measured_fits : (octets one more most : ℕ) → more ≡ min (octets + one) most → more ≤ most
measured_fits octets one more most added = omega (arith, added)
