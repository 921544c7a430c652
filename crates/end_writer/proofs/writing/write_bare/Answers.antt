use Rattle.end_writer.proofs.Framed.{bare_end, bare_after}
use Rattle.end_writer.proofs.writing.write_bare.Goals as goal

pub returns : goal.returns
returns c =
    let o = c.args.out.now in
    let x = c.args.content.now in
    record {
      end = bare_end o x c.args.at c.args.kind c.requires.most c.requires.room c.write_record.ensures.end c.unwrap_or.ensures;
      after = bare_after o x c.args.at c.args.kind c.requires.most c.requires.room c.write_record.ensures.after;
    }
