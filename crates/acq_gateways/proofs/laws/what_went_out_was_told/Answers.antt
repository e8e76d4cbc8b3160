use Rattle.std.proofs.Common.{◌∙◌, ◌++◌, ap, sym}
use Rattle.acq_gateway.specs.declared.gateway.Gateway.{Gateway}
use Rattle.acq_gateway.specs.Telling.{unsent_of}
use Rattle.acq_gateway_stream.specs.Stream.{wrote_by}
use Rattle.acq_gateway_stream.proofs.Following.{new_connection}
use Rattle.acq_gateways.proofs.laws.what_went_out_was_told.Goals as goal

pub returns : goal.returns
returns c t steps went gateway is =
    ap (λ l. l ++ unsent_of gateway) (sym is.wrote)
    ∙ ap (λ (g : Gateway). wrote_by is.did ++ unsent_of g) (sym is.stands)
    ∙ new_connection is.first is.did is.new is.are
