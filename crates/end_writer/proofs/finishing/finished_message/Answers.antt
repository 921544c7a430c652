use Rattle.std.proofs.Common.{replicate, refl, arith}
use Rattle.end_writer.proofs.Following.{finished_whole}
use Rattle.end_writer.proofs.finishing.finished_message.Goals as goal

pub returns : goal.returns
returns c = finished_whole (replicate 16 0) c.args.verify_data.now refl (omega arith) c.write_message.ensures.after
