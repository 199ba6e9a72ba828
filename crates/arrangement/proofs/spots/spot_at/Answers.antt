use Rattle.std.proofs.Common.{sym, ◌∙◌}
use Rattle.arrangement.proofs.spots.spot_at.Goals as goal

pub locate-requires : goal.locate-requires
locate-requires c = let w = c.requires.layer in record {
  map = c.requires.map;
  past = record { sound = w.sound; curves = w.curves; fit = w.lawful.fit; strands = w.strands };
  indexed = sym c.is_indexed.ensures ∙ c.if-is_indexed.true;
}
