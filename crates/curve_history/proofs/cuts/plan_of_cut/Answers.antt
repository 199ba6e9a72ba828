use Rattle.std.proofs.Common.{ℕ, ◌≡◌, ◌<◌, ◌^◌, ◌∷◌, ◌++◌, [], List, length, map, refl, sym, ap, subst, ◌∙◌, arith, Bor}
use Rattle.std.proofs.lemmas.List.{append_assoc, append-nil, length-append, length-map, map-append}
use Rattle.slab_laws.specs.Pieces.{piece_of}
use Rattle.slab_laws.specs.declared.present.Piece.{Piece}
use Rattle.curve_pieces.specs.PieceRows.{Rowed, items}
use Rattle.curve_history.specs.Cuts.{IsPlanOfCut}
use Rattle.curve_history.proofs.Cutting.{first_plan, plan_fits, plan_more}
use Rattle.curve_history.proofs.cuts.plan_of_cut.Goals as goal

few_in : (r : Rowed) (front rest : List Piece) → items r ≡ front ++ rest → length r.rows < 2 ^ 32 → length (front ++ rest) < 2 ^ 32
few_in r front rest e h = subst (λ n. n < 2 ^ 32) (sym (length-map r.rows (λ (z : ℕ × Piece). z.1)) ∙ ap length e) h

pub each-init : goal.each-init
each-init c = record { plan = first_plan c.args.p.now c.args.q.now _ refl refl refl; all = sym c.iter-piece-items.ensures; place = refl }

pub with_next-plan-requires-clause-place : goal.with_next-plan-requires-clause-place
with_next-plan-requires-clause-place c =
    let l = few_in c.args.pieces.now (map (λ (x : Bor Piece). x.now) c.each.yielded) c.each.piece-iterator c.each.invariant.all c.requires in
    omega (arith, l, length-append (map (λ (x : Bor Piece). x.now) c.each.yielded) c.each.piece-iterator, length-map c.each.yielded (λ (x : Bor Piece). x.now), c.each.invariant.place)

pub with_next-plan-requires-clause-left : goal.with_next-plan-requires-clause-left
with_next-plan-requires-clause-left c =
    plan_fits c.args.p.now c.args.q.now (map (λ (x : Bor Piece). x.now) c.each.yielded) c.each.piece-iterator c.each.place (c.each.invariant.place ∙ sym (length-map c.each.yielded (λ (x : Bor Piece). x.now))) c.each.plan c.each.invariant.plan
    (few_in c.args.pieces.now (map (λ (x : Bor Piece). x.now) c.each.yielded) c.each.piece-iterator c.each.invariant.all c.requires)

pub each-preserved : goal.each-preserved
each-preserved c =
    let now = λ (x : Bor Piece). x.now in
    let grown = map-append now c.each.yielded (c.in-Some.piece ∷ []) in
    record {
      plan = subst (λ l. IsPlanOfCut c.args.p.now c.args.q.now (map piece_of l) c.with_next-plan.result) (sym grown) (plan_more c.args.p.now c.args.q.now (map now c.each.yielded) c.each.piece-iterator c.each.place (c.each.invariant.place ∙ sym (length-map c.each.yielded now)) c.each.plan c.each.invariant.plan c.in-Some.piece.now c.with_next-plan.result c.with_next-plan.ensures);
      all = c.each.invariant.all ∙ ap (λ l. map now c.each.yielded ++ l) c.in-Some.ensures.steps ∙ sym (append_assoc (map now c.each.yielded) (c.in-Some.piece.now ∷ []) c.next.new.self) ∙ ap (λ l. l ++ c.next.new.self) (sym grown);
      place = let l = length-append c.each.yielded (c.in-Some.piece ∷ []) in omega (arith, l, c.each.invariant.place);
    }

pub returns : goal.returns
returns c =
    let now = λ (x : Bor Piece). x.now in
    subst (λ l. IsPlanOfCut c.args.p.now c.args.q.now (map piece_of l) c.each.plan) (sym (c.each.invariant.all ∙ ap (λ l. map now c.each.yielded ++ l) c.in-None.ensures.steps.0 ∙ append-nil (map now c.each.yielded))) c.each.invariant.plan
