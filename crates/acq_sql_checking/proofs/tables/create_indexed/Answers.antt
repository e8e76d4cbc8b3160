use Rattle.acq_sql_checking.proofs.Reaching.{fails_next}
use Rattle.acq_sql_checking.proofs.TablesMade.{table_reached}
use Rattle.acq_sql_checking.proofs.tables.create_indexed.Goals as goal

pub returns-clause-fails : goal.returns-clause-fails
returns-clause-fails g c schema table at placed index takes indexes =
    fails_next c.create_index.result
    (table_reached c.create.ensures.survives c.create.ensures.kept c.in_ok-create.ensures.inside
    takes c.in_ok-create.ensures.adds)
    c.create_index.ensures.survives
    (c.create_index.ensures.fails _ at placed index indexes)
