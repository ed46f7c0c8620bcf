use Rattle.hsr_capture_reader.proofs.ReadBack.{header_read, interface_read, packet_read}
use Rattle.hsr_capture_reader.proofs.law.written_is_read.Goals as goal

pub returns : goal.returns
returns c = record { header = header_read; interface = interface_read; packet = packet_read }
