use Rattle.std.proofs.Common.{◌≡◌, false, refl, rules}
use Rattle.end_writer.specs.Kind.{kind_of}
use Rattle.end_state.specs.View.{view}
use Rattle.end_receiving.proofs.Contents.{bare_answer, bare_placed, bare_after}
use Rattle.end_receiving.proofs.receiving.unprotect.Goals as goal

pub returns-then-not-end : goal.returns-then-not-end
returns-then-not-end g c =
    let P = kind_of g.P.RecordProtection.serves g.P.RecordProtection.size g.P.RecordProtection.sealing g.P.RecordProtection.opening in
    let e = view g.P.RecordProtection.holds c.args.end.now in
    let b = c.args.end.now.state.reads_protected in
    let q : b ≡ false = search rules in
    let x = c.args.content.now in
    let pl = c.args.place.now in
    record {
      answer = bare_answer b P e c.args.kind x pl q c.requires.room c.requires.fits c.lay.ensures.end;
      place = bare_placed b P e c.args.kind x pl q c.requires.room c.requires.fits c.requires.clean c.lay.ensures.after;
      end = bare_after b P e c.args.kind x q;
      buffer = refl;
    }
