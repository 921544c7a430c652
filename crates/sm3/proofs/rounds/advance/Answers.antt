use Rattle.sm3.proofs.Stepping.{advanced_table, advanced_rounds}
use Rattle.sm3.proofs.rounds.advance.Goals as goal

pub returns : goal.returns
returns g c =
    let table = advanced_table g.row.K c.args.ws.now c.extend.ensures c.extend-2.ensures c.extend-3.ensures c.extend-4.ensures in
    record {
      table = table;
      registers = advanced_rounds g.row.K c.args.v table c.round_with-v1.ensures c.round_with-v2.ensures c.round_with-v3.ensures c.round_with.ensures;
    }
