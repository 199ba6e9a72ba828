use Rattle.std.proofs.Common.{ℕ, length, List, map, arith, sym, ap, subst, ◌∙◌}
use Rattle.std.specs.Prelude.{Option}
use Rattle.std.specs.List.{filter}
use Rattle.exact_plane.specs.Point.{Point}
use Rattle.subdivision_rows.specs.Listed.{skeleton_in}
use Rattle.polygon_sets.specs.declared.crossings.Crossing.{Crossing}
use Rattle.polygon_sets.specs.declared.crossings.Inside.{Inside}
use Rattle.polygon_sets.specs.Borders.{ends_at, is_turn}
use Rattle.polygon_sets.specs.Crossings.{AreWithin, AreBetween}
use Rattle.polygon_sets.specs.Spread.{AreSpread}
use Rattle.polygon_sets.proofs.RegionRows.{rows_told, points_told, faces_told, edge_in, has_name, faces_some, crossed_within, crossed_between, border_told}
use Rattle.polygon_sets.proofs.region.border_between.Goals as goal

pub crossings_of-requires-clause-named : goal.crossings_of-requires-clause-named
crossings_of-requires-clause-named c =
    let d = c.args.rows.now in
    let told = rows_told c.lists-lists.result.now d c.lists-lists.ensures.sound c.lists-lists.ensures.drawing c.deref.result.now c.deref.ensures.value in
    has_name d c.laws.ensures.plane c.laws.ensures.stands c.deref.result.now told

pub crossings_of-requires-clause-red : goal.crossings_of-requires-clause-red
crossings_of-requires-clause-red c =
    let d = c.args.rows.now in
    let told = rows_told c.lists-lists.result.now d c.lists-lists.ensures.sound c.lists-lists.ensures.drawing c.deref.result.now c.deref.ensures.value in
    λ k l. edge_in d c.laws.ensures.plane c.laws.ensures.stands c.deref.result.now told k c.args.red.now c.requires.red l

pub crossings_of-requires-clause-blue : goal.crossings_of-requires-clause-blue
crossings_of-requires-clause-blue c =
    let d = c.args.rows.now in
    let told = rows_told c.lists-lists.result.now d c.lists-lists.ensures.sound c.lists-lists.ensures.drawing c.deref.result.now c.deref.ensures.value in
    λ k l. edge_in d c.laws.ensures.plane c.laws.ensures.stands c.deref.result.now told k c.args.blue.now c.requires.blue l

pub sets_of-requires-clause-some : goal.sets_of-requires-clause-some
sets_of-requires-clause-some c =
    let d = c.args.rows.now in
    let a = c.lists-lists.result.now in
    let told = rows_told a d c.lists-lists.ensures.sound c.lists-lists.ensures.drawing c.deref.result.now c.deref.ensures.value in
    let n = faces_told a d c.lists-lists.ensures.sound c.lists-lists.ensures.drawing in
    let some = faces_some d c.laws.ensures.plane c.laws.ensures.stands c.deref.result.now told in
    omega arith

pub sets_of-requires-clause-within : goal.sets_of-requires-clause-within
sets_of-requires-clause-within c =
    let d = c.args.rows.now in
    let a = c.lists-lists.result.now in
    let told = rows_told a d c.lists-lists.ensures.sound c.lists-lists.ensures.drawing c.deref.result.now c.deref.ensures.value in
    let n = faces_told a d c.lists-lists.ensures.sound c.lists-lists.ensures.drawing in
    let w = crossed_within d c.laws.ensures.plane c.laws.ensures.stands c.deref.result.now told c.args.red.now c.args.blue.now c.in_ok-crossings.crossings c.in_ok-crossings.ensures in
    subst (λ (cs : List Crossing). AreWithin a.faces cs) (sym c.deref-2.ensures.value) (subst (λ (m : ℕ). AreWithin m c.in_ok-crossings.crossings.items) (sym n) w)

pub border_of-requires-clause-faces : goal.border_of-requires-clause-faces
border_of-requires-clause-faces c =
    let d = c.args.rows.now in
    let a = c.lists-lists.result.now in
    let told = rows_told a d c.lists-lists.ensures.sound c.lists-lists.ensures.drawing c.deref.result.now c.deref.ensures.value in
    let n = faces_told a d c.lists-lists.ensures.sound c.lists-lists.ensures.drawing in
    let w = crossed_within d c.laws.ensures.plane c.laws.ensures.stands c.deref.result.now told c.args.red.now c.args.blue.now c.in_ok-crossings.crossings c.in_ok-crossings.ensures in
    let m = ap length c.deref-4.ensures.value ∙ c.in_ok-sets.ensures.counted ∙ n in
    subst (λ (cs : List Crossing). AreWithin (length c.deref-4.result.now) cs) (sym c.deref-5.ensures.value) (subst (λ (m : ℕ). AreWithin m c.in_ok-crossings.crossings.items) (sym m) w)

pub border_of-requires-clause-ends : goal.border_of-requires-clause-ends
border_of-requires-clause-ends c =
    let d = c.args.rows.now in
    let a = c.lists-lists.result.now in
    let told = rows_told a d c.lists-lists.ensures.sound c.lists-lists.ensures.drawing c.deref.result.now c.deref.ensures.value in
    let points = points_told a d c.lists-lists.ensures.sound c.lists-lists.ensures.drawing c.deref-3.result.now c.deref-3.ensures.value in
    let w = crossed_between d c.laws.ensures.plane c.laws.ensures.stands c.deref.result.now told c.args.red.now c.args.blue.now c.in_ok-crossings.crossings c.in_ok-crossings.ensures in
    subst (λ (cs : List Crossing). AreBetween (length c.deref-3.result.now) cs) (sym c.deref-5.ensures.value) (subst (λ (m : ℕ). AreBetween m c.in_ok-crossings.crossings.items) (sym (ap length points)) w)

pub returns : goal.returns
returns c =
    let d = c.args.rows.now in
    let a = c.lists-lists.result.now in
    let told = rows_told a d c.lists-lists.ensures.sound c.lists-lists.ensures.drawing c.deref.result.now c.deref.ensures.value in
    let points = points_told a d c.lists-lists.ensures.sound c.lists-lists.ensures.drawing c.deref-3.result.now c.deref-3.ensures.value in
    let spread : AreSpread c.in_ok-crossings.crossings.items a.faces c.in_ok-sets.sets.items = subst (λ (cs : List Crossing). AreSpread cs a.faces c.in_ok-sets.sets.items) c.deref-2.ensures.value c.in_ok-sets.ensures in
    let b = border_told d c.laws.ensures.plane c.laws.ensures.stands c.deref.result.now told c.args.red.now c.args.blue.now c.in_ok-crossings.crossings c.in_ok-crossings.ensures a.faces c.in_ok-sets.sets.items spread c.requires.red_closed c.requires.blue_closed c.args.op in
    c.in_ok-found.ensures
    ∙ ap (λ (ps : List Point). map (ends_at ps) (filter (is_turn c.args.op c.deref-4.result.now) c.deref-5.result.now)) points
    ∙ ap (λ (sets : List (Option Inside)). map (ends_at (skeleton_in d).vertices) (filter (is_turn c.args.op sets) c.deref-5.result.now)) c.deref-4.ensures.value
    ∙ ap (λ (cs : List Crossing). map (ends_at (skeleton_in d).vertices) (filter (is_turn c.args.op c.in_ok-sets.sets.items) cs)) c.deref-5.ensures.value
    ∙ b
