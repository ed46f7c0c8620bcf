-- What a text says, as the program holds it.
use Rattle.hsr_transcript.specs.Items.{entries_of, rows_of}
use Rattle.hsr_transcript.specs.Transcript.{Said}
use Rattle.hsr_transcript.specs.declared.plain.Plain.{Plain}

abbrev pub plain_view : Plain → Said
plain_view p = record { unit = p.unit; nodes = p.nodes.items; links = p.links.items; main = p.main.items; records = entries_of p.records; carried = rows_of p.carried }
