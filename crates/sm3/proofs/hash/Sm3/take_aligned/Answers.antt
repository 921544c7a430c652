use Rattle.std.proofs.Common.{refl}
use Rattle.sm3.specs.View.{view}
use Rattle.sm3.proofs.Updating.{held_after, rest_fits, parts_are, cut_is}
use Rattle.sm3.proofs.hash.Sm3.take_aligned.Goals as goal

pub hold-requires : goal.hold-requires
hold-requires c =
    rest_fits c.args.self.now.count c.take_blocks.new.self.count _ c.args.octets.now c.requires refl
    (held_after (view c.args.self.now) (view c.take_blocks.new.self) _ c.take_blocks.ensures)

pub returns : goal.returns
returns c =
    parts_are (view c.args.self.now) (view c.take_blocks.new.self) (view c.hold.new.self) _ _ c.args.octets.now
    c.take_blocks.ensures c.hold.ensures (cut_is _ c.args.octets.now)
