use Rattle.sm3.specs.View.{view}
use Rattle.sm3.proofs.Updating.{held_after, filled_up, parts_are, cut_is}
use Rattle.sm3.proofs.hash.Sm3.update.Goals as goal

pub take_aligned-requires : goal.take_aligned-requires
take_aligned-requires c =
    filled_up c.args.self.now.count c.complete.new.self.count c.held-room.result c.args.octets.now
    c.held-room.ensures c.if-octets-room.false
    (held_after (view c.args.self.now) (view c.complete.new.self) _ c.complete.ensures)

pub returns-then-room-lt-BLOCK : goal.returns-then-room-lt-BLOCK
returns-then-room-lt-BLOCK c =
    parts_are (view c.args.self.now) (view c.complete.new.self) (view c.take_aligned.new.self) _ _ c.args.octets.now
    c.complete.ensures c.take_aligned.ensures (cut_is _ c.args.octets.now)
