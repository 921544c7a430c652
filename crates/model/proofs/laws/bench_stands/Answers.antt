use Rattle.model.proofs.Tlcp.{bench_stands}
use Rattle.model.proofs.laws.bench_stands.Goals as goal

pub returns : goal.returns
returns c = bench_stands
