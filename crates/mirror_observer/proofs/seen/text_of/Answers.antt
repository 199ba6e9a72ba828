use Rattle.std.proofs.Common.{◌∙◌, sym, ap, subst}
use Rattle.arr_notes.specs.CurvedView.{CurvedView, IsSoundView, curves_seen}
use Rattle.arr_text.specs.Reading.{text_in}
use Rattle.arr_text.proofs.RecordTexts.{records_tell_their_graph}
use Rattle.mirror_observer.specs.Standing.{view_in}
use Rattle.mirror_observer.specs.SeenCurves.{curve_list_of}
use Rattle.mirror_observer.proofs.GraphSeen.{edge_curves, forward_curves}
use Rattle.mirror_observer.proofs.seen.text_of.Goals as goal

pub text-requires : goal.text-requires
text-requires c =
    let s : IsSoundView c.in_ok-seen.seen = subst (λ w. IsSoundView w) (sym c.in_ok-seen.ensures) c.requires in
    s.map

pub returns : goal.returns
returns c =
    let w : CurvedView = view_in c.args.tables.now in
    c.in_ok-bytes.ensures ∙ ap (λ z. text_in z.graph (curve_list_of z)) c.in_ok-seen.ensures
    ∙ records_tell_their_graph w.graph (curves_seen w) (curve_list_of w) c.requires.map.graph (edge_curves w c.requires) (forward_curves w c.requires)
