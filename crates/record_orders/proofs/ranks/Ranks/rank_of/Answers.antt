use Rattle.std.proofs.Common.{◌≡◌, None, get_or, ◌∙◌, sym, ap, arith, length}
use Rattle.std.specs.List.{position_or_len}
use Rattle.record_orders.specs.CycleKeys.{same_face}
use Rattle.record_orders.proofs.BodiesGrown.{found_none}
use Rattle.record_orders.proofs.ranks.Ranks.rank_of.Goals as goal

pub returns-in-None : goal.returns-in-None
returns-in-None c =
    let inside = c.self.inside in
    let empty : get_or inside.ranks.items c.args.face.0 None ≡ None = sym (c.read_at.ensures ∙ ap (λ rs. get_or rs c.args.face.0 None) c.deref.ensures.value) ∙ c.in-None.is in
    let none : length inside.faces.items ≡ position_or_len (same_face c.args.face) c.args.self.now = found_none inside.ranks.items inside.faces.items c.self.invariant c.args.face empty ∙ ap (position_or_len (same_face c.args.face)) c.self.view_is in
    let long = inside.faces.ok.0 in
    omega arith
