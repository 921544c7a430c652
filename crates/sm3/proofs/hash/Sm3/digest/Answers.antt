use Rattle.std.proofs.Common.{◌∙◌}
use Rattle.sm3.specs.View.{view}
use Rattle.sm3.proofs.Updating.{finished_by}
use Rattle.sm3.proofs.hash.Sm3.digest.Goals as goal

pub returns : goal.returns
returns c =
    c.octets.ensures
    ∙ finished_by (view c.args.self.now) (view c.update.new.self) _ c.padding_octets-tail.result c.padding_len.result
    c.padding_len.ensures c.padding_octets-tail.ensures c.update.ensures
