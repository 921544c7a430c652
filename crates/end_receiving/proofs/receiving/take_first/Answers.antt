use Rattle.std.proofs.Common.{◌≡◌, length, Ok, sym, ap, ◌∙◌, rules}
use Rattle.end_writer.specs.Kind.{kind_of}
use Rattle.end_state.specs.View.{view}
use Rattle.records.specs.Records.{received, limit_of}
use Rattle.records.specs.Seen.{seen as record_seen}
use Rattle.model.specs.Results.{seen}
use Rattle.model.specs.Steps.{taken}
use Rattle.model.specs.Tlcp.{tlcp}
use Rattle.model.proofs.Accepting.{taken_accepted}
use Rattle.end_receiving.proofs.Receives.{wanted-seen, seen_lengths}
use Rattle.end_receiving.proofs.receiving.take_first.Goals as goal

pub returns-in-More : goal.returns-in-More
returns-in-More g c =
    let P = kind_of g.P.RecordProtection.serves g.P.RecordProtection.size g.P.RecordProtection.sealing g.P.RecordProtection.opening in
    let e = view g.P.RecordProtection.holds c.args.end.now in
    wanted-seen P c.args.fresh.now e c.args.out.now c.args.place.now c.wipe.new.place c.wipe.ensures (received (limit_of e.reads_protected) c.args.octets.now) (sym (ap (λ u. record_seen (Ok u)) c.in-More.is) ∙ c.in-Ok.ensures.says ∙ ap (λ n. received n c.args.octets.now) c.record_limit.ensures)

pub returns-in-Whole : goal.returns-in-Whole
returns-in-Whole g c =
    let P = kind_of g.P.RecordProtection.serves g.P.RecordProtection.size g.P.RecordProtection.sealing g.P.RecordProtection.opening in
    let e = view g.P.RecordProtection.holds c.args.end.now in
    let z = received (limit_of e.reads_protected) c.args.octets.now in
    let says = sym (ap (λ u. record_seen (Ok u)) c.in-Whole.is) ∙ c.in-Ok.ensures.says ∙ ap (λ n. received n c.args.octets.now) c.record_limit.ensures in
    let lp : length c.wipe.new.place ≡ length c.args.place.now = search rules in
    c.take_whole.ensures ∙ ap (λ u. seen P (taken tlcp P c.args.fresh.now e u) c.args.out.now c.wipe.new.place) says
    ∙ seen_lengths P (taken tlcp P c.args.fresh.now e z) c.args.out.now c.wipe.new.place c.args.place.now (taken_accepted tlcp P c.args.fresh.now e z) lp
