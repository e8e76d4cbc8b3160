use Rattle.acq_tcp.proofs.arrivals.Arrivals.end.Goals as goal

pub returns-clause-others : goal.returns-clause-others
returns-clause-others g c = λ t steps f. record {
  controls = c.end.ensures.stays t steps f.controls;
  gateways = c.close_gateway.ensures.stays t steps f.gateways;
}
