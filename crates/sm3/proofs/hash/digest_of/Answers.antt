use Rattle.std.proofs.Common.{ap, ◌∙◌}
use Rattle.sm3.specs.Hash.{finished}
use Rattle.sm3.proofs.Running.{finished_is}
use Rattle.sm3.proofs.hash.digest_of.Goals as goal

pub returns : goal.returns
returns c = c.digest.ensures ∙ ap finished c.begun.ensures ∙ finished_is c.args.octets.now
