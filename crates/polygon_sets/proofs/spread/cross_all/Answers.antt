use Rattle.std.proofs.Common.{◌≡◌, ℕ, List, length, arith, sym, ap, ◌∙◌, subst}
use Rattle.std.specs.Prelude.{Option, None, Some, slice_index_or}
use Rattle.polygon_sets.specs.declared.crossings.Inside.{Inside}
use Rattle.polygon_sets.specs.Crossings.{crossing_at}
use Rattle.polygon_sets.specs.Chains.{IsLastOf}
use Rattle.polygon_sets.specs.Spread.{set_at, held, IsCrossed}
use Rattle.polygon_sets.proofs.Spreading.{enter, go_on, face_within, IsChaining, IsDartOf}
use Rattle.polygon_sets.proofs.spread.cross_all.Goals as goal

pub held_at-inside-requires : goal.held_at-inside-requires
held_at-inside-requires c =
    let w = face_within c.args.crossings.now (length c.args.spread.now.sets.items) c.args.place c.args.place c.args.spread.now c.requires.spreading c.requires.reached in
    let f = c.face_at-face.ensures ∙ ap (λ (xs : List ℕ). slice_index_or xs c.args.place 0) c.deref.ensures.value in
    let l = ap length c.deref-2.ensures.value in
    omega arith

pub place_at-current-requires : goal.place_at-current-requires
place_at-current-requires c =
    let w = face_within c.args.crossings.now (length c.args.spread.now.sets.items) c.args.place c.args.place c.args.spread.now c.requires.spreading c.requires.reached in
    let f = c.face_at-face.ensures ∙ ap (λ (xs : List ℕ). slice_index_or xs c.args.place 0) c.deref.ensures.value in
    let l = ap length c.deref-3.ensures.value in
    let m = c.requires.chains.of_faces in
    omega arith

pub darts-init : goal.darts-init
darts-init c =
    let cs = c.args.crossings.now in
    let n = length c.args.spread.now.sets.items in
    let w = face_within cs n c.args.place c.args.place c.args.spread.now c.requires.spreading c.requires.reached in
    let f = c.face_at-face.ensures ∙ ap (λ (xs : List ℕ). slice_index_or xs c.args.place 0) c.deref.ensures.value in
    let o : c.place_at-current.result ≡ slice_index_or c.args.chains.now.last.items c.face_at-face.result None = c.place_at-current.ensures ∙ ap (λ (xs : List (Option ℕ)). slice_index_or xs c.face_at-face.result None) c.deref-3.ensures.value in
    enter cs n c.args.place c.face_at-face.result c.held_at-inside.result c.place_at-current.result c.args.spread.now
    (subst (IsLastOf cs c.face_at-face.result (length cs)) (sym o) (c.requires.chains.last c.face_at-face.result (omega arith)))
    c.requires.spreading c.requires.reached f
    (c.held_at-inside.ensures ∙ ap (λ (xs : List (Option Inside)). held (set_at xs c.face_at-face.result)) c.deref-2.ensures.value)

pub crossing_at-requires : goal.crossing_at-requires
crossing_at-requires c = (subst (IsDartOf c.args.crossings.now c.face_at-face.result) c.in-Some.is c.darts.invariant.dart).0

pub place_at-current-requires-in-Some : goal.place_at-current-requires-in-Some
place_at-current-requires-in-Some c =
    let d = (subst (IsDartOf c.args.crossings.now c.face_at-face.result) c.in-Some.is c.darts.invariant.dart).0 in
    let m = c.requires.chains.of_darts in
    let l = ap length c.deref-in-Some.ensures.value in
    omega arith

pub darts-preserved : goal.darts-preserved
darts-preserved c =
    let cs = c.args.crossings.now in
    let n = length c.args.spread.now.sets.items in
    let j = c.in-Some.dart in
    let f = c.face_at-face.result in
    let i = c.held_at-inside.result in
    let t : IsChaining cs n c.args.place f i (Some j) c.darts.spread = subst (λ o. IsChaining cs n c.args.place f i o c.darts.spread) c.in-Some.is c.darts.invariant in
    let d = t.dart in
    let o : c.place_at-current-in-Some.result ≡ slice_index_or c.args.chains.now.before.items j None = c.place_at-current-in-Some.ensures ∙ ap (λ (xs : List (Option ℕ)). slice_index_or xs j None) c.deref-in-Some.ensures.value in
    go_on cs n c.args.place f i j c.place_at-current-in-Some.result c.darts.spread c.cross.new.spread t (c.requires.within j d.0).right
    (subst (λ x. IsCrossed x i c.darts.spread c.cross.new.spread) c.crossing_at.ensures c.in_ok-cross.ensures)
    (subst (IsLastOf cs (crossing_at cs j).left j) (sym o) (c.requires.chains.before j d.0))
