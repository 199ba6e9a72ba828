use Rattle.std.proofs.Common.{Some, None, is_some, true, false, cond, get_or, ◌∙◌, sym, ap, subst, ◌++◌, ◌∷◌, []}
use Rattle.std.specs.Prelude.{◌==◌}
use Rattle.record_orders.specs.CycleKeys.{AreRanks}
use Rattle.record_orders.proofs.BodiesGrown.{stands, ranks_more}
use Rattle.record_orders.proofs.ranks.add_face.Goals as goal

pub returns-in_ok-push-clause-ranks : goal.returns-in_ok-push-clause-ranks
returns-in_ok-push-clause-ranks c =
    let ranks = c.args.ranks.now.items in
    let new = stands ranks c.args.faces.now.items c.requires c.args.face false (sym c.if-not-ranked.true ∙ c.is_some-ranked.ensures ∙ ap is_some (c.read_at.ensures ∙ ap (λ rs. get_or rs c.args.face.0 None) c.deref.ensures.value)) in
    subst (AreRanks c.write_at.new.table.items) (sym c.in_ok-push.ensures.items) (ranks_more ranks c.args.faces.now.items c.requires c.write_at.new.table.items c.args.face new (λ n. c.in_ok-write_at.ensures n ∙ ap (λ m. cond (n == c.args.face.0) (Some m) (get_or ranks n None)) (c.len.ensures ∙ c.args.faces.now.ok.0)))

pub returns-in_ok-push-clause-faces : goal.returns-in_ok-push-clause-faces
returns-in_ok-push-clause-faces c =
    let new = stands c.args.ranks.now.items c.args.faces.now.items c.requires c.args.face false (sym c.if-not-ranked.true ∙ c.is_some-ranked.ensures ∙ ap is_some (c.read_at.ensures ∙ ap (λ rs. get_or rs c.args.face.0 None) c.deref.ensures.value)) in
    c.in_ok-push.ensures.items ∙ sym (ap (λ b. cond b c.args.faces.now.items (c.args.faces.now.items ++ c.args.face ∷ [])) new)

pub returns-else-not-ranked-clause-faces : goal.returns-else-not-ranked-clause-faces
returns-else-not-ranked-clause-faces c =
    let there = stands c.args.ranks.now.items c.args.faces.now.items c.requires c.args.face true (sym c.if-not-ranked.false ∙ c.is_some-ranked.ensures ∙ ap is_some (c.read_at.ensures ∙ ap (λ rs. get_or rs c.args.face.0 None) c.deref.ensures.value)) in
    sym (ap (λ b. cond b c.args.faces.now.items (c.args.faces.now.items ++ c.args.face ∷ [])) there)
