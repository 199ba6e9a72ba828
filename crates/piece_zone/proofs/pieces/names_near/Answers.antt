use Rattle.std.proofs.Common.{false, refl, subst}
use Rattle.exact_plane.specs.declared.whole_parts.BoundingBox.{BoundingBox}
use Rattle.piece_zone.specs.Told.{AreNamesIn}
use Rattle.piece_zone.proofs.Shown.{all_known, all_shown, none_shown}
use Rattle.piece_zone.proofs.pieces.names_near.Goals as goal

pub visit-requires-clause-ready : goal.visit-requires-clause-ready
visit-requires-clause-ready c = none_shown _ c.new.ensures.items

pub visit-requires-clause-known : goal.visit-requires-clause-known
visit-requires-clause-known c = all_known (record { history = c.args.history; names = c.new.result; failed = false }) c.args.history.now _ refl

pub returns : goal.returns
returns c =
    let h = c.args.history.now in
    let l = c.visit.new.visitor in
    subst (λ (a : BoundingBox). AreNamesIn h a l.names.items) c.of.ensures
    (all_shown h (c.row_laws.ensures.low c.requires) c.of.result _ l refl c.visit.ensures.ready c.if-shown.false c.visit.ensures.seen)
