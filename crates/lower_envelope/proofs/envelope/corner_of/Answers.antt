use Rattle.std.proofs.Common.{◌<◌, subst, sym}
use Rattle.lower_envelope.proofs.Told.{right_place}
use Rattle.lower_envelope.proofs.envelope.corner_of.Goals as goal

pub is_hidden-requires : goal.is_hidden-requires
is_hidden-requires c = right_place c.args.slabs.now c.requires.fitted _ c.place_right-stands.result c.place_right-stands.ensures

pub dart_of-requires : goal.dart_of-requires
dart_of-requires c = λ a e. subst (λ n. a < n) (sym c.requires.fitted.paired) (right_place c.args.slabs.now c.requires.fitted _ c.place_right-stands.result c.place_right-stands.ensures a e)
