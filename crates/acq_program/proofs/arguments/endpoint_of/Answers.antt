use Rattle.std.proofs.lemmas.Result.{err_from_is_err_and}
use Rattle.std.specs.Prelude.{Err, Ok, Result}
use Rattle.std.specs.declared.net.socket_addr.SocketAddrV4.{SocketAddrV4}
use Rattle.clap.specs.Words.{found_of}
use Rattle.acq_program.specs.declared.usage_fault.UsageFault.{UsageFault}
use Rattle.acq_program.specs.Arguments.{EndpointAt, IsEndpoint}
use Rattle.acq_program.specs.Options.{AddressIs, PortIs, found_texts}
use Rattle.acq_program.proofs.OptionsRead.{first_fails, then_rest}
use Rattle.acq_program.proofs.arguments.endpoint_of.Goals as goal

pub returns-in_err-port : goal.returns-in_err-port
returns-in_err-port c =
    let texts = found_texts (found_of c.args.options.now) in
    let p = err_from_is_err_and c.from_residual.result c.from_residual.ensures.1 in
    rw (p.1, p.2)
    (first_fails (PortIs texts) (EndpointAt texts) c.in_err-port.field-0.0 c.in_err-port.ensures)

pub returns-in_err-address : goal.returns-in_err-address
returns-in_err-address c =
    let texts = found_texts (found_of c.args.options.now) in
    let p = err_from_is_err_and c.from_residual-in_err-address.result
    c.from_residual-in_err-address.ensures.1 in
    rw (p.1, p.2)
    (then_rest (PortIs texts) (EndpointAt texts) c.in_ok-port.port
    (Err c.in_err-address.field-0.0) c.in_ok-port.ensures
    (first_fails (AddressIs texts) (IsEndpoint c.in_ok-port.port) c.in_err-address.field-0.0
    c.in_err-address.ensures))

pub returns : goal.returns
returns c =
    let texts = found_texts (found_of c.args.options.now) in
    let read : Result SocketAddrV4 UsageFault = Ok c.new.result in
    then_rest (PortIs texts) (EndpointAt texts) c.in_ok-port.port read c.in_ok-port.ensures
    (then_rest (AddressIs texts) (IsEndpoint c.in_ok-port.port) c.in_ok-address.address read
    c.in_ok-address.ensures (c.new.ensures.ip, c.new.ensures.port))
