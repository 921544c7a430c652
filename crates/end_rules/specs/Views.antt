-- How an answer is seen by the definitions.
use Rattle.std.specs.Prelude.{[], map}
use Rattle.model.specs.Endpoint as ends
use Rattle.end_rules.specs.declared.answer.AnswerParts.{AnswerParts}
use Rattle.end_rules.specs.declared.answer.Answer.{Answer}
use Rattle.end_rules.specs.declared.answer.Answer.TheVariants.{Yes, No}

-- the octets of every part
abbrev pub seen_parts : AnswerParts → ends.Parts
seen_parts p =
    record {
      random = p.random.now;
      session = p.session.now;
      certificates = map (λ x. x.now) p.certificates.now;
      signature = p.signature.now;
      premaster = p.premaster.now;
      wrapped = p.wrapped.now;
    }

-- nothing in any part
abbrev pub no_parts : ends.Parts
no_parts = record { random = []; session = []; certificates = []; signature = []; premaster = []; wrapped = [] }

-- a yes with its parts, a no with its number
abbrev pub seen_answer : Answer → ends.Answer
seen_answer (Yes p) = ends.yes (seen_parts p)
seen_answer (No n) = ends.no n
