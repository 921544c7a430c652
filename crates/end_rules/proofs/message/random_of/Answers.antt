use Rattle.std.proofs.Common.{refl, ◌∙◌}
use Rattle.end_rules.proofs.Hellos.{whole_laid}
use Rattle.end_rules.proofs.message.random_of.Goals as goal

pub returns : goal.returns
returns c = λ e. c.lay.ensures.after ∙ whole_laid _ _ refl e
