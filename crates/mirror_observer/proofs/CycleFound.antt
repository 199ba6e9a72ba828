-- A cycle that goes is that of a dart beside the edge: else its darts would go on following each other as they did, and could not be on one cycle with what is left.
use Rattle.std.proofs.Common.{◌≡◌, ◌≢◌, ◌==◌, ◌⊎◌, inl, inr, Bool, true, false, cond, Option, Some, None, is_some, IsSome, option_map, eq-eqb, refl, sym, ap, ◌∙◌, subst}
use Rattle.std.proofs.lemmas.Bool.{false≢true, eqb-true}
use Rattle.exact_plane.specs.Line.{Line}
use Rattle.slab_laws.specs.declared.names.CurveId.{CurveId}
use Rattle.slab_laws.specs.declared.names.CycleId.{CycleId}
use Rattle.slab_laws.specs.declared.names.DartId.{DartId}
use Rattle.slab_laws.specs.declared.names.VertexId.{VertexId}
use Rattle.slab_laws.specs.FacesSound.{IsSound}
use Rattle.slab_laws.specs.Tables.{row_at}
use Rattle.slab_laws.specs.View.{View, Faces, HasDart, cycle_id, cycle_or, cycle_in, twin_in, next_in}
use Rattle.arr_notes.specs.CurvedView.{step_view}
use Rattle.arr_notes.specs.NamedRows.{put}
use Rattle.arr_notes.specs.Reads.{IsSameDart}
use Rattle.arr_notes.specs.Step.{followed, led}
use Rattle.arr_notes.specs.ViewChanges.{with_pair}
use Rattle.arr_notes.specs.declared.change.Change.TheVariants.{AddEdge}
use Rattle.arr_notes.specs.declared.faces.Linked.{Linked}
use Rattle.arr_notes.specs.declared.faces.Linked.TheVariants.{NewHole, Grows, Joins, Splits}
use Rattle.arr_notes.proofs.DartReads.{next_is_set}
use Rattle.arr_notes.proofs.PairReads.{pair_is_added}
use Rattle.arr_notes.proofs.Reading.{dart_number, same_dart}
use Rattle.arr_notes.proofs.RowLaws.{row_at-each}
use Rattle.arr_notes.proofs.VertexReads.{put_hit, put_miss}
use Rattle.boundary_cycles.proofs.NamedWalks.{along, lead_step}
use Rattle.integers.proofs.Tests.{same_number}
use Rattle.mirror_observer.specs.declared.tables.Tables.{Tables}
use Rattle.mirror_observer.specs.FaceParts.{AreJoinedAt, before_place}
use Rattle.mirror_observer.specs.FaceTables.{faces_in}
use Rattle.mirror_observer.specs.Standing.{view_in, AreToChange}
use Rattle.mirror_observer.specs.Tables.{darts_of}
use Rattle.mirror_observer.proofs.CycleGone.{either_way}

-- ---- whether a dart is on the cycle, as a test
on_gone : CycleId → Option CycleId → Bool
on_gone gone None = false
on_gone gone (Some c) = c.0 == gone.0

on_true : (gone : CycleId) (o : Option CycleId) → on_gone gone o ≡ true → IsSome o × (cycle_or o ≡ gone)
unfolding on_gone
on_true gone None h = absurd (false≢true h)
on_true gone (Some c) h = (refl, ap cycle_id (eqb-true c.0 gone.0 h))

true_on : (gone : CycleId) (o : Option CycleId) → IsSome o → cycle_or o ≡ gone → on_gone gone o ≡ true
unfolding on_gone
true_on gone None h e = absurd (false≢true h)
true_on gone (Some c) h e = eq-eqb c.0 gone.0 (ap (λ (z : CycleId). z.0) e)

-- the cycle of a dart after those of one cycle were put on another
pub swapped_row : (gone kept : CycleId) (o : Option CycleId) → IsSome o → (cycle_or o ≡ gone) ⊎ (cycle_or o ≡ kept) → cycle_or (option_map (λ c. cond (c.0 == gone.0) kept c) o) ≡ kept
swapped_row gone kept None h e = absurd (false≢true h)
swapped_row gone kept (Some c) h (inl e) = ap (λ (z : CycleId). cond (z.0 == gone.0) kept z) e ∙ ap (λ b. cond b kept gone) (same_number gone.0)
swapped_row gone kept (Some c) h (inr e) = ap (λ (z : CycleId). cond (z.0 == gone.0) kept z) e ∙ either_way (kept.0 == gone.0) kept

-- ---- v is the view before the change and w the one after it
module _ (v w : View) (f s : Faces) (before : IsSound v f) (after : IsSound w s) (gone kept : CycleId)
    (stays : (x : DartId) → HasDart v x → cycle_in f x ≡ gone → HasDart w x × (next_in w x ≡ next_in v x))
    (moves : (x : DartId) → HasDart v x → cycle_in f x ≡ gone → cycle_in s x ≡ kept) where
  is_gone : DartId → Bool
  is_gone x = on_gone gone (row_at f.cycle_of x.0)

  closed : (x : DartId) → HasDart w x → is_gone x ≡ true → is_gone (next_in w x) ≡ true
  unfolding is_gone
  closed x h t =
      let r = on_true gone (row_at f.cycle_of x.0) t in
      let h' : HasDart v x = (before.complete.cycle_rows x).1 r.0 in
      let n : HasDart v (next_in v x) = before.graph.linked.has x h' in
      let c : cycle_in f (next_in v x) ≡ gone = (before.cycled.orbits (next_in v x) x n h').1 (lead_step v before.graph x h') ∙ r.1 in
      subst (λ z. is_gone z ≡ true) (sym ((stays x h' r.1).1)) (true_on gone (row_at f.cycle_of (next_in v x).0) ((before.complete.cycle_rows (next_in v x)).0 n) c)

  -- where gone had a dart, all that are on kept were on gone
  pub all_gone : (k : DartId) → HasDart v k → cycle_in f k ≡ gone → (x : DartId) → HasDart w x → cycle_in s x ≡ kept → HasDart v x × (cycle_in f x ≡ gone)
  unfolding is_gone
  all_gone k h e x hx ex =
      let hk : HasDart w k = (stays k h e).0 in
      let t : is_gone x ≡ true =
      along w after.graph is_gone closed x k hx hk ((after.cycled.orbits x k hx hk).0 (ex ∙ sym (moves k h e))) ∙ true_on gone (row_at f.cycle_of k.0) ((before.complete.cycle_rows k).0 h) e in
      let r = on_true gone (row_at f.cycle_of x.0) t in
      ((before.complete.cycle_rows x).1 r.0, r.1)

-- ---- two cycles that are joined
led_same : (v h : View) (o : Option DartId) (x e : DartId) → ((y : DartId) → before_place v o ≡ Some y → e ≢ y) → IsSameDart h (led v o x h) e
led_same v h None x e n = same_dart h h e refl
led_same v h (Some a) x e n = (next_is_set h (twin_in v a) x).others e (n (twin_in v a) refl)

module _ (t : Tables) (d m : DartId) (p q : VertexId) (at_p at_q : Option DartId) (l : Line) (curve : CurveId) (kept gone : CycleId) (c : AreToChange t (AddEdge d m p q at_p at_q l curve (Joins kept gone))) where
  abbrev v : View
  v = (view_in t).graph

  abbrev f : Faces
  f = (view_in t).faces

  abbrev w : View
  w = (step_view (view_in t) (AddEdge d m p q at_p at_q l curve (Joins kept gone))).graph

  abbrev s : Faces
  s = (step_view (view_in t) (AddEdge d m p q at_p at_q l curve (Joins kept gone))).faces

  module _ (first : (y : DartId) → before_place v at_p ≡ Some y → cycle_in f y ≢ gone) (second : (y : DartId) → before_place v at_q ≡ Some y → cycle_in f y ≢ gone) where
    old : (x : DartId) → HasDart v x → (x ≢ d) × (x ≢ m)
    old x h = (λ e. c.fits.first (subst (HasDart (view_in t).graph) e h), λ e. c.fits.second (subst (HasDart (view_in t).graph) e h))

    stays : (x : DartId) → HasDart v x → cycle_in f x ≡ gone → HasDart w x × (next_in w x ≡ next_in v x)
    stays x h e =
        let g : View = (view_in t).graph in
        let n = old x h in
        let a : View = with_pair g d m (record { source = p; twin = m; next = followed g at_q m; line = l }) (record { source = q; twin = d; next = followed g at_p d; line = l }) in
        let b : View = led g at_p d a in
        let i : IsSameDart g a x = (pair_is_added g d m _ _ c.fits.differ).others x n.0 n.1 in
        let j : IsSameDart a b x = led_same g a at_p d x (λ y r z. first y r (ap (cycle_in (view_in t).faces) (sym z) ∙ e)) in
        let k : IsSameDart b (led g at_q m b) x = led_same g b at_q m x (λ y r z. second y r (ap (cycle_in (view_in t).faces) (sym z) ∙ e)) in
        (k.has (j.has (i.has h)), k.next ∙ j.next ∙ i.next)

    moves : (x : DartId) → HasDart v x → cycle_in f x ≡ gone → cycle_in s x ≡ kept
    moves x h e =
        let g : Faces = (view_in t).faces in
        let n = old x h in
        ap cycle_or (row_at-each (λ k b. cond (b.0 == gone.0) kept b) (put m.0 kept (put d.0 kept g.cycle_of)) x.0
        ∙ ap (option_map (λ b. cond (b.0 == gone.0) kept b)) (put_miss m.0 kept (put d.0 kept g.cycle_of) x.0 (dart_number x m n.1) ∙ put_miss d.0 kept g.cycle_of x.0 (dart_number x d n.0)))
        ∙ swapped_row gone kept (row_at g.cycle_of x.0) ((c.standing.sound.map.complete.cycle_rows x).0 h) (inl e)

    -- the new dart is on kept
    row_new : row_at s.cycle_of d.0 ≡ Some (cond (kept.0 == gone.0) kept kept)
    row_new =
        let g : Faces = (view_in t).faces in
        row_at-each (λ k b. cond (b.0 == gone.0) kept b) (put m.0 kept (put d.0 kept g.cycle_of)) d.0
        ∙ ap (option_map (λ b. cond (b.0 == gone.0) kept b)) (put_miss m.0 kept (put d.0 kept g.cycle_of) d.0 (dart_number d m c.fits.differ) ∙ put_hit d.0 kept g.cycle_of)

    pub none_gone : (k : DartId) → HasDart v k → cycle_in f k ≢ gone
    none_gone k h e =
        let hd : HasDart w d = (c.sound.map.complete.cycle_rows d).1 (ap is_some row_new) in
        let r = all_gone v w f s c.standing.sound.map c.sound.map gone kept stays moves k h e d hd (ap cycle_or row_new ∙ either_way (kept.0 == gone.0) kept) in
        c.fits.first r.0

pub joined_at : (t : Tables) (d m : DartId) (p q : VertexId) (at_p at_q : Option DartId) (l : Line) (curve : CurveId) (told : Linked) → AreToChange t (AddEdge d m p q at_p at_q l curve told) →
    AreJoinedAt t.darts.entries (faces_in t.faces) (before_place (darts_of t.darts.entries) at_p) (before_place (darts_of t.darts.entries) at_q) told
joined_at t d m p q at_p at_q l curve (NewHole cycle face) c = tt
joined_at t d m p q at_p at_q l curve (Grows cycle) c = tt
joined_at t d m p q at_p at_q l curve (Joins kept gone) c = λ first second k h e. none_gone t d m p q at_p at_q l curve kept gone c first second k h e
joined_at t d m p q at_p at_q l curve (Splits kept fresh fresh_dart fresh_face moved) c = tt
