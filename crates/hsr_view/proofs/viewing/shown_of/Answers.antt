use Rattle.std.specs.Prelude.{option_map}
use Rattle.std.proofs.lemmas.Result.{err_from_is_err_and}
use Rattle.hsr_view.proofs.Showing.{shown_capture, shown_devices, shown_page, shown_picture}
use Rattle.hsr_view.proofs.Unshown.{stray_send, unshown_capture, unshown_page, unshown_picture}
use Rattle.hsr_view.proofs.viewing.shown_of.Goals as goal

pub returns-in-Devices-clause-shown : goal.returns-in-Devices-clause-shown
returns-in-Devices-clause-shown g c =
    shown_devices c.args.closed.now c.topology.result.now (option_map (λ s. s.now) c.args.scenario) c.in_ok-names.names.items c.topology.ensures.places c.topology.ensures.links c.in_ok-names.ensures.names
    c.args.what.now c.as_slice.result.now c.in_ok-devices-in-Devices.field-0.items c.in-Devices.is c.as_slice.ensures.value c.in_ok-devices-in-Devices.ensures.listing

pub returns-in-Capture-clause-shown : goal.returns-in-Capture-clause-shown
returns-in-Capture-clause-shown g c =
    shown_capture c.args.closed.now c.topology.result.now (option_map (λ s. s.now) c.args.scenario) c.in_ok-names.names.items c.topology.ensures.places c.topology.ensures.links c.in_ok-names.ensures.names
    c.args.what.now c.as_slice-in-Capture.result.now c.as_slice-in-Capture-2.result.now c.in-Capture.link c.in-Capture.send c.in_ok-send-in-Capture.send c.capture_of.result
    c.in-Capture.is c.as_slice-in-Capture.ensures.value c.in_ok-send-in-Capture.ensures.known c.as_slice-in-Capture-2.ensures.value c.capture_of.ensures.capture

pub returns-in-Picture-clause-shown : goal.returns-in-Picture-clause-shown
returns-in-Picture-clause-shown g c =
    shown_picture c.args.closed.now c.topology.result.now (option_map (λ s. s.now) c.args.scenario) c.in_ok-names.names.items c.topology.ensures.places c.topology.ensures.links c.in_ok-names.ensures.names
    c.args.what.now c.as_slice-in-Picture.result.now c.in-Picture.sends c.as_slice-in-Picture-2.result.now c.in-Picture.span c.picture_of.result
    c.in-Picture.is c.as_slice-in-Picture.ensures.value c.as_slice-in-Picture-2.ensures.value c.picture_of.ensures.picture

pub returns-clause-shown : goal.returns-clause-shown
returns-clause-shown g c =
    shown_page c.args.closed.now c.topology.result.now (option_map (λ s. s.now) c.args.scenario) c.in_ok-names.names.items c.topology.ensures.places c.topology.ensures.links c.in_ok-names.ensures.names
    c.args.what.now c.as_slice-in-Page.result.now c.in-Page.sends c.as_slice-in-Page-2.result.now c.in-Page.span c.in-Page.title c.page_of.result
    c.in-Page.is c.as_slice-in-Page.ensures.value c.as_slice-in-Page-2.ensures.value c.page_of.ensures.page

pub returns-in-Capture-clause-unshown : goal.returns-in-Capture-clause-unshown
returns-in-Capture-clause-unshown g c =
    unshown_capture c.args.closed.now c.topology.result.now (option_map (λ s. s.now) c.args.scenario) c.in_ok-names.names.items c.topology.ensures.places c.topology.ensures.links c.in_ok-names.ensures.names
    c.args.what.now c.as_slice-in-Capture.result.now c.as_slice-in-Capture-2.result.now c.in-Capture.link c.in-Capture.send c.in_ok-send-in-Capture.send c.capture_of.result
    c.in-Capture.is c.as_slice-in-Capture.ensures.value c.in_ok-send-in-Capture.ensures.known c.as_slice-in-Capture-2.ensures.value c.capture_of.ensures.missing

pub returns-in-Picture-clause-unshown : goal.returns-in-Picture-clause-unshown
returns-in-Picture-clause-unshown g c =
    unshown_picture c.args.closed.now c.topology.result.now (option_map (λ s. s.now) c.args.scenario) c.in_ok-names.names.items c.topology.ensures.places c.topology.ensures.links c.in_ok-names.ensures.names
    c.args.what.now c.as_slice-in-Picture.result.now c.in-Picture.sends c.as_slice-in-Picture-2.result.now c.in-Picture.span c.picture_of.result
    c.in-Picture.is c.as_slice-in-Picture.ensures.value c.as_slice-in-Picture-2.ensures.value c.picture_of.ensures.undrawn

pub returns-clause-unshown : goal.returns-clause-unshown
returns-clause-unshown g c =
    unshown_page c.args.closed.now c.topology.result.now (option_map (λ s. s.now) c.args.scenario) c.in_ok-names.names.items c.topology.ensures.places c.topology.ensures.links c.in_ok-names.ensures.names
    c.args.what.now c.as_slice-in-Page.result.now c.in-Page.sends c.as_slice-in-Page-2.result.now c.in-Page.span c.in-Page.title c.page_of.result
    c.in-Page.is c.as_slice-in-Page.ensures.value c.as_slice-in-Page-2.ensures.value c.page_of.ensures.unpaged

pub returns-in_err-send-in-Capture-clause-unshown : goal.returns-in_err-send-in-Capture-clause-unshown
returns-in_err-send-in-Capture-clause-unshown g c =
    let exit = err_from_is_err_and c.from_residual-in_err-send-in-Capture.result c.from_residual-in_err-send-in-Capture.ensures.1 in
    rw (exit.1, exit.2) (stray_send c.args.closed.now c.topology.result.now (option_map (λ s. s.now) c.args.scenario) c.in_ok-names.names.items c.topology.ensures.places c.topology.ensures.links c.in_ok-names.ensures.names
    c.args.what.now c.as_slice-in-Capture.result.now c.in-Capture.link c.in-Capture.send _ c.in-Capture.is c.as_slice-in-Capture.ensures.value c.in_err-send-in-Capture.ensures.stray)
