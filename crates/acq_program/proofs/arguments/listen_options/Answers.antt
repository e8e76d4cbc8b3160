use Rattle.std.proofs.Common.{refl}
use Rattle.std.proofs.lemmas.Result.{err_from_is_err_and}
use Rattle.std.specs.Prelude.{Err, Ok, Result}
use Rattle.clap.specs.Words.{found_of}
use Rattle.acq_faults.specs.declared.listen_options.ListenOptions.{ListenOptions}
use Rattle.acq_program.specs.declared.usage_fault.UsageFault.{UsageFault}
use Rattle.acq_program.specs.Arguments.{BoundsAre, IsListened, ListenAt}
use Rattle.acq_program.specs.Options.{CountIs, FileIs}
use Rattle.acq_program.specs.Arguments.{ListenBeside, ListenFor, ListenIn, ListenOn, ListenedIs}
use Rattle.acq_program.specs.Arguments.{EndpointIs, PatienceIs}
use Rattle.acq_program.specs.Options.{MomentIfThere}
use Rattle.acq_program.specs.Options.{found_texts}
use Rattle.acq_program.proofs.OptionsRead.{first_fails, no_memory, then_rest}
use Rattle.acq_program.proofs.arguments.listen_options.Goals as goal

pub returns-in_err-path : goal.returns-in_err-path
returns-in_err-path c =
    let texts = found_texts (found_of c.args.options.now) in
    let p = err_from_is_err_and c.from_residual.result c.from_residual.ensures.1 in
    rw (p.1, p.2)
    (first_fails (FileIs texts) (ListenIn texts) c.in_err-path.field-0.0 c.in_err-path.ensures)

pub returns-in_err-endpoint : goal.returns-in_err-endpoint
returns-in_err-endpoint c =
    let texts = found_texts (found_of c.args.options.now) in
    let p = err_from_is_err_and c.from_residual-in_err-endpoint.result
    c.from_residual-in_err-endpoint.ensures.1 in
    rw (p.1, p.2)
    (then_rest (FileIs texts) (ListenIn texts) c.in_ok-path.path
    (Err c.in_err-endpoint.field-0.0) c.in_ok-path.ensures
    (first_fails (EndpointIs texts) (ListenOn texts c.in_ok-path.path) c.in_err-endpoint.field-0.0
    c.in_err-endpoint.ensures))

pub returns-in_err-count : goal.returns-in_err-count
returns-in_err-count c =
    let texts = found_texts (found_of c.args.options.now) in
    let p = err_from_is_err_and c.from_residual-in_err-count.result
    c.from_residual-in_err-count.ensures.1 in
    rw (p.1, p.2)
    (then_rest (FileIs texts) (ListenIn texts) c.in_ok-path.path
    (Err c.in_err-count.field-0.0) c.in_ok-path.ensures
    (then_rest (EndpointIs texts) (ListenOn texts c.in_ok-path.path) c.in_ok-endpoint.endpoint
    (Err c.in_err-count.field-0.0) c.in_ok-endpoint.ensures
    (first_fails (CountIs texts) (ListenFor texts c.in_ok-path.path c.in_ok-endpoint.endpoint)
    c.in_err-count.field-0.0 c.in_err-count.ensures)))

pub returns-in_err-moment : goal.returns-in_err-moment
returns-in_err-moment c =
    let texts = found_texts (found_of c.args.options.now) in
    let p = err_from_is_err_and c.from_residual-in_err-moment.result
    c.from_residual-in_err-moment.ensures.1 in
    rw (p.1, p.2)
    (then_rest (FileIs texts) (ListenIn texts) c.in_ok-path.path (Err c.in_err-moment.field-0.0)
    c.in_ok-path.ensures
    (then_rest (EndpointIs texts) (ListenOn texts c.in_ok-path.path) c.in_ok-endpoint.endpoint
    (Err c.in_err-moment.field-0.0) c.in_ok-endpoint.ensures
    (then_rest (CountIs texts) (ListenFor texts c.in_ok-path.path c.in_ok-endpoint.endpoint)
    c.in_ok-count.count (Err c.in_err-moment.field-0.0) c.in_ok-count.ensures
    (first_fails (MomentIfThere texts)
    (ListenAt texts c.in_ok-path.path c.in_ok-endpoint.endpoint c.in_ok-count.count)
    c.in_err-moment.field-0.0 c.in_err-moment.ensures))))

pub returns-in_err-patience : goal.returns-in_err-patience
returns-in_err-patience c =
    let texts = found_texts (found_of c.args.options.now) in
    let p = err_from_is_err_and c.from_residual-in_err-patience.result
    c.from_residual-in_err-patience.ensures.1 in
    rw (p.1, p.2)
    (then_rest (FileIs texts) (ListenIn texts) c.in_ok-path.path
    (Err c.in_err-patience.field-0.0) c.in_ok-path.ensures
    (then_rest (EndpointIs texts) (ListenOn texts c.in_ok-path.path) c.in_ok-endpoint.endpoint
    (Err c.in_err-patience.field-0.0) c.in_ok-endpoint.ensures
    (then_rest (CountIs texts) (ListenFor texts c.in_ok-path.path c.in_ok-endpoint.endpoint)
    c.in_ok-count.count (Err c.in_err-patience.field-0.0) c.in_ok-count.ensures
    (then_rest (MomentIfThere texts)
    (ListenAt texts c.in_ok-path.path c.in_ok-endpoint.endpoint c.in_ok-count.count)
    c.in_ok-moment.moment (Err c.in_err-patience.field-0.0) c.in_ok-moment.ensures
    (first_fails (PatienceIs texts)
    (ListenBeside texts c.in_ok-path.path c.in_ok-endpoint.endpoint c.in_ok-count.count
    c.in_ok-moment.moment)
    c.in_err-patience.field-0.0 c.in_err-patience.ensures)))))

pub returns-in_err-bounds : goal.returns-in_err-bounds
returns-in_err-bounds c =
    let texts = found_texts (found_of c.args.options.now) in
    let p = err_from_is_err_and c.from_residual-in_err-bounds.result
    c.from_residual-in_err-bounds.ensures.1 in
    rw (p.1, p.2)
    (then_rest (FileIs texts) (ListenIn texts) c.in_ok-path.path (Err c.in_err-bounds.field-0.0)
    c.in_ok-path.ensures
    (then_rest (EndpointIs texts) (ListenOn texts c.in_ok-path.path) c.in_ok-endpoint.endpoint
    (Err c.in_err-bounds.field-0.0) c.in_ok-endpoint.ensures
    (then_rest (CountIs texts) (ListenFor texts c.in_ok-path.path c.in_ok-endpoint.endpoint)
    c.in_ok-count.count (Err c.in_err-bounds.field-0.0) c.in_ok-count.ensures
    (then_rest (MomentIfThere texts)
    (ListenAt texts c.in_ok-path.path c.in_ok-endpoint.endpoint c.in_ok-count.count)
    c.in_ok-moment.moment (Err c.in_err-bounds.field-0.0) c.in_ok-moment.ensures
    (then_rest (PatienceIs texts)
    (ListenBeside texts c.in_ok-path.path c.in_ok-endpoint.endpoint c.in_ok-count.count
    c.in_ok-moment.moment) c.in_ok-patience.patience
    (Err c.in_err-bounds.field-0.0) c.in_ok-patience.ensures
    (first_fails (BoundsAre texts)
    (IsListened texts c.in_ok-path.path c.in_ok-endpoint.endpoint c.in_ok-count.count
    c.in_ok-moment.moment c.in_ok-patience.patience)
    c.in_err-bounds.field-0.0 c.in_err-bounds.ensures))))))

pub returns-in_err-issuers : goal.returns-in_err-issuers
returns-in_err-issuers c =
    let texts = found_texts (found_of c.args.options.now) in
    let p = err_from_is_err_and c.from_residual-in_err-issuers.result
    c.from_residual-in_err-issuers.ensures.1 in
    rw (p.1, p.2)
    (no_memory (ListenedIs texts) c.in_err-issuers.field-0.0 c.in_err-issuers.ensures.refused)

pub returns-in_err-gateway : goal.returns-in_err-gateway
returns-in_err-gateway c =
    let texts = found_texts (found_of c.args.options.now) in
    let p = err_from_is_err_and c.from_residual-in_err-gateway.result
    c.from_residual-in_err-gateway.ensures.1 in
    rw (p.1, p.2)
    (no_memory (ListenedIs texts) c.in_err-gateway.field-0.0 c.in_err-gateway.ensures.refused)

pub returns-in_err-control : goal.returns-in_err-control
returns-in_err-control c =
    let texts = found_texts (found_of c.args.options.now) in
    let p = err_from_is_err_and c.from_residual-in_err-control.result
    c.from_residual-in_err-control.ensures.1 in
    rw (p.1, p.2)
    (no_memory (ListenedIs texts) c.in_err-control.field-0.0 c.in_err-control.ensures.refused)

pub returns-in_err-log : goal.returns-in_err-log
returns-in_err-log c =
    let texts = found_texts (found_of c.args.options.now) in
    let p = err_from_is_err_and c.from_residual-in_err-log.result
    c.from_residual-in_err-log.ensures.1 in
    rw (p.1, p.2)
    (no_memory (ListenedIs texts) c.in_err-log.field-0.0 c.in_err-log.ensures.refused)

pub returns : goal.returns
returns c =
    let texts = found_texts (found_of c.args.options.now) in
    let read : Result ListenOptions UsageFault = Ok (record {
      path = c.in_ok-path.path;
      endpoint = c.in_ok-endpoint.endpoint;
      count = c.in_ok-count.count;
      together = c.in_ok-bounds.bounds.together;
      from_one_address = c.in_ok-bounds.bounds.from_one_address;
      proxy_protocol = c.is_set.result;
      patience = c.in_ok-patience.patience;
      issuers = c.in_ok-issuers.issuers;
      gateway = c.in_ok-gateway.gateway;
      end_waiting = c.is_set-2.result;
      moment = c.in_ok-moment.moment;
      control = c.in_ok-control.control;
      log = c.in_ok-log.log;
      log_bytes = c.in_ok-bounds.bounds.log_bytes;
    }) in
    then_rest (FileIs texts) (ListenIn texts) c.in_ok-path.path read c.in_ok-path.ensures
    (then_rest (EndpointIs texts) (ListenOn texts c.in_ok-path.path) c.in_ok-endpoint.endpoint read
    c.in_ok-endpoint.ensures
    (then_rest (CountIs texts) (ListenFor texts c.in_ok-path.path c.in_ok-endpoint.endpoint)
    c.in_ok-count.count read c.in_ok-count.ensures
    (then_rest (MomentIfThere texts)
    (ListenAt texts c.in_ok-path.path c.in_ok-endpoint.endpoint c.in_ok-count.count)
    c.in_ok-moment.moment read c.in_ok-moment.ensures
    (then_rest (PatienceIs texts)
    (ListenBeside texts c.in_ok-path.path c.in_ok-endpoint.endpoint c.in_ok-count.count
    c.in_ok-moment.moment)
    c.in_ok-patience.patience read c.in_ok-patience.ensures
    (then_rest (BoundsAre texts)
    (IsListened texts c.in_ok-path.path c.in_ok-endpoint.endpoint c.in_ok-count.count
    c.in_ok-moment.moment c.in_ok-patience.patience)
    c.in_ok-bounds.bounds read c.in_ok-bounds.ensures (
      refl,
      refl,
      refl,
      c.in_ok-issuers.ensures.given,
      c.in_ok-gateway.ensures.given,
      c.is_set-2.ensures,
      refl,
      refl,
      refl,
      refl,
      c.is_set.ensures,
      c.in_ok-control.ensures.given,
      c.in_ok-log.ensures.given,
      refl,
    ))))))
