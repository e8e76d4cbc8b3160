use Rattle.sqlite.specs.Held.{state}
use Rattle.acq_sql_checking.proofs.Versions.{has_number}
use Rattle.acq_sql_opening.proofs.laws.a_book_is_as_it_says.Goals as goal

pub returns : goal.returns
returns g c =
    let now = (state g.S.Store c.args.conn.now).now in
    record {
      number = λ version t at. has_number now t at.holds;
      six = λ t six. record {
        version = has_number now t six.at.holds;
        six = λ says. (t, six);
      };
    }
