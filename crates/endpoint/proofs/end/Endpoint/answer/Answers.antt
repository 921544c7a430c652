use Rattle.std.proofs.Common.{length, sym, refl, ◌∙◌}
use Rattle.end_rules.specs.Views.{seen_answer}
use Rattle.end_writer.specs.Kind.{kind_of}
use Rattle.endpoint.specs.View.{view}
use Rattle.end_answering.proofs.Answered.{accepted, by_tests, answer_refused, answer_accepted}
use Rattle.endpoint.proofs.end.Endpoint.answer.Goals as goal

pub take_answer-requires : goal.take_answer-requires
take_answer-requires g c =
    let t = accepted _ c.args.question _ _ _ _ (sym c.answer_refusal.ensures ∙ c.in-None.is) in
    record {
      running = t.running;
      fresh = t.fresh;
      room = t.room;
      lengths = sym c.lengths_fit-fits.ensures ∙ t.lengths;
      taken = sym c.takes_answer-taken.ensures ∙ t.taken;
    }

pub returns-in-Some : goal.returns-in-Some
returns-in-Some g c =
    let P = kind_of g.P.RecordProtection.serves g.P.RecordProtection.size g.P.RecordProtection.sealing g.P.RecordProtection.opening in
    let e = view g.P.RecordProtection.holds c.args.self.now in
    let q = c.args.question in
    let a = seen_answer c.args.answer in
    let f = c.args.fresh.now in
    let out = c.args.out.now in
    let h = by_tests e.stage q a (length f) (length out) c.lengths_fit-fits.ensures c.takes_answer-taken.ensures c.answer_refusal.ensures c.in-Some.is in
    record { yields = answer_refused P e q a f out _ h; kept = refl }

pub returns-in-None : goal.returns-in-None
returns-in-None g c =
    let P = kind_of g.P.RecordProtection.serves g.P.RecordProtection.size g.P.RecordProtection.sealing g.P.RecordProtection.opening in
    let e = view g.P.RecordProtection.holds c.args.self.now in
    let q = c.args.question in
    let a = seen_answer c.args.answer in
    let f = c.args.fresh.now in
    let out = c.args.out.now in
    let h = by_tests e.stage q a (length f) (length out) c.lengths_fit-fits.ensures c.takes_answer-taken.ensures c.answer_refusal.ensures c.in-None.is in
    record { yields = answer_accepted P e q a f out h c.take_answer.ensures; kept = tt }
