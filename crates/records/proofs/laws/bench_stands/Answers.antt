use Rattle.std.proofs.Common.{refl}
use Rattle.records.proofs.laws.bench_stands.Goals as goal

pub returns : goal.returns
returns c =
    record { headers = (refl, refl, refl, refl, refl); unknown = (refl, refl, refl); alerts = (refl, refl, refl, refl, refl, refl) }
