-- What a file told, without references into it.
use Rattle.std.specs.Prelude.{◌≡◌, ℕ, List, Result, Ok, Err}
use Rattle.hsr_capture_reader.specs.declared.fault.ReadFault.{ReadFault}
use Rattle.hsr_capture_reader.specs.declared.fault.Refusal.{Refusal}
use Rattle.hsr_capture_reader.specs.declared.told.Told.{Told}
use Rattle.hsr_capture_reader.specs.Capture.{CaptureFields}
use Rattle.hsr_capture_reader.specs.Names.{interfaces_by}
use Rattle.hsr_capture_reader.specs.Reading.{Fails}
use Rattle.hsr_capture_reader.specs.Rooms.{packets_by}

-- the capture that it is, beside the file
abbrev pub capture_by : List ℕ → Told → CaptureFields
capture_by file told = record {
  interfaces = interfaces_by told.names.names.items told.names.interfaces.items;
  losses = told.losses.items;
  packets = packets_by file 0 told.rooms.items;
  end = told.end;
  is_short = told.is_short;
}

abbrev pub Tells : List ℕ → Result Told ReadFault → Result CaptureFields Refusal → Type 0
Tells file (Ok told) read = read ≡ Ok (capture_by file told)
Tells file (Err fault) read = Fails fault read
