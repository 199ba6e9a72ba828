-- Where an edge goes between two faces, the cycle that goes is that of one of its darts.
use Rattle.std.proofs.Common.{◌≡◌, ◌≢◌, ℕ, ◌==◌, ◌⊎◌, inl, inr, cond, List, is_some, option_map, refl, sym, ap, ◌∙◌, subst}
use Rattle.slab_laws.specs.declared.names.CycleId.{CycleId}
use Rattle.slab_laws.specs.declared.names.DartId.{DartId}
use Rattle.slab_laws.specs.declared.names.FaceId.{FaceId}
use Rattle.slab_laws.specs.declared.names.VertexId.{VertexId}
use Rattle.slab_laws.specs.FaceLists.{MovedView}
use Rattle.slab_laws.specs.Sound.{IsNamed}
use Rattle.slab_laws.specs.Tables.{row_at}
use Rattle.slab_laws.specs.View.{View, Faces, CycleRecord, HasVertex, HasDart, HasCycle, HasBareFace, IsOutOf, cycle_id, cycle_or, cycle_in, face_in, twin_in, next_in, source_in}
use Rattle.arr_notes.specs.CurvedView.{step_view}
use Rattle.arr_notes.specs.FaceWriters.{lists_cycle}
use Rattle.arr_notes.specs.NamedRows.{del, each}
use Rattle.arr_notes.specs.Reads.{IsSameDart}
use Rattle.arr_notes.specs.ViewChanges.{redirect}
use Rattle.arr_notes.specs.declared.change.Change.TheVariants.{RemoveEdge}
use Rattle.arr_notes.specs.declared.faces.Unlinked.{Unlinked}
use Rattle.arr_notes.specs.declared.faces.Unlinked.TheVariants.{Vanishes, Shrinks, Breaks, Unites}
use Rattle.arr_notes.proofs.DartReads.{darts_are_redirected}
use Rattle.arr_notes.proofs.Names.{cases_dart}
use Rattle.arr_notes.proofs.PairReads.{pair_is_removed, names_stay}
use Rattle.arr_notes.proofs.Reading.{dart_number, some_mapped, none_there}
use Rattle.arr_notes.proofs.RowLaws.{row_at-each, ascend-del, ascend-each}
use Rattle.arr_notes.proofs.VertexReads.{del_hit, del_miss}
use Rattle.rotation_order.proofs.Circuits.{alone}
use Rattle.boundary_cycles.proofs.NamedWalks.{lead_step}
use Rattle.mirror_observer.specs.declared.tables.Tables.{Tables}
use Rattle.mirror_observer.specs.FaceParts.{AreUnitedAt}
use Rattle.mirror_observer.specs.FaceTables.{faces_in}
use Rattle.mirror_observer.specs.Standing.{view_in, AreToChange}
use Rattle.mirror_observer.proofs.Loops.{no_loop}
use Rattle.mirror_observer.proofs.CycleFound.{swapped_row, all_gone}

module _ (t : Tables) (d m : DartId) (kept gone : CycleId) (gone_face : FaceId) (moved : MovedView) (c : AreToChange t (RemoveEdge d m (Unites kept gone gone_face moved))) where
  abbrev before : View
  before = (view_in t).graph

  abbrev f : Faces
  f = (view_in t).faces

  abbrev after : View
  after = (step_view (view_in t) (RemoveEdge d m (Unites kept gone gone_face moved))).graph

  abbrev s : Faces
  s = (step_view (view_in t) (RemoveEdge d m (Unites kept gone gone_face moved))).faces

  abbrev half : View
  half = redirect before d (next_in before m)

  abbrev whole : View
  whole = redirect half m (next_in before d)

  abbrev swap : ℕ → CycleId → CycleId
  swap n b = cond (b.0 == gone.0) kept b

  named : IsNamed whole
  named = (names_stay half ((names_stay before c.standing.sound.map.graph.named).redirected d (next_in before m))).redirected m (next_in before d)

  left : (x : DartId) → x ≢ d → x ≢ m → IsSameDart whole after x
  left = (pair_is_removed whole d m named).others

  has_left : (x : DartId) → x ≢ d → x ≢ m → HasDart before x → HasDart after x
  has_left x nd nm h = (left x nd nm).has ((darts_are_redirected half m (next_in before d)).relinked.has x ((darts_are_redirected before d (next_in before m)).relinked.has x h))

  -- the cycle of a dart that is left
  cycle_left : (x : DartId) → x ≢ d → x ≢ m → row_at s.cycle_of x.0 ≡ option_map (swap x.0) (row_at f.cycle_of x.0)
  cycle_left x nd nm =
      let up = c.standing.sound.map.complete.cycle_of_ascend in
      let o : DartId = twin_in before d in
      row_at-each swap (del o.0 (del d.0 f.cycle_of)) x.0
      ∙ ap (option_map (swap x.0)) (del_miss o.0 (del d.0 f.cycle_of) x.0 (ascend-del d.0 f.cycle_of up) (dart_number x o (λ e. nm (e ∙ sym c.fits.1))) ∙ del_miss d.0 f.cycle_of x.0 up (dart_number x d nd))

  module _ (first : cycle_in f d ≢ gone) (second : cycle_in f m ≢ gone) where
    others : (x : DartId) → cycle_in f x ≡ gone → (x ≢ d) × (x ≢ m)
    others x e = (λ q. first (ap (cycle_in f) (sym q) ∙ e), λ q. second (ap (cycle_in f) (sym q) ∙ e))

    stays : (x : DartId) → HasDart before x → cycle_in f x ≡ gone → HasDart after x × (next_in after x ≡ next_in before x)
    stays x h e =
        let g = c.standing.sound.map in
        let n = others x e in
        let y = others (next_in before x) ((g.cycled.orbits (next_in before x) x (g.graph.linked.has x h) h).1 (lead_step before g.graph x h) ∙ e) in
        let i : IsSameDart before half x = (darts_are_redirected before d (next_in before m)).others x y.0 in
        let j : IsSameDart half whole x = (darts_are_redirected half m (next_in before d)).others x (λ q. y.1 (sym i.next ∙ q)) in
        let k : IsSameDart whole after x = left x n.0 n.1 in
        (k.has (j.has (i.has h)), k.next ∙ j.next ∙ i.next)

    moves : (x : DartId) → HasDart before x → cycle_in f x ≡ gone → cycle_in s x ≡ kept
    moves x h e =
        let n = others x e in
        ap cycle_or (cycle_left x n.0 n.1) ∙ swapped_row gone kept (row_at f.cycle_of x.0) ((c.standing.sound.map.complete.cycle_rows x).0 h) (inl e)

    module _ (k : DartId) (h : HasDart before k) (e : cycle_in f k ≡ gone) where
      abbrev records : List (ℕ × CycleRecord)
      records = each (λ n r. cond (lists_cycle moved.cycles n) (record { kind = r.kind; face = face_in f kept }) r) f.cycles

      stands : HasCycle s kept
      stands = subst (λ z. HasCycle s z) (moves k h e) (c.sound.map.complete.cycle_has k (stays k h e).0)

      two : kept ≢ gone
      two q = none_there (row_at s.cycles gone.0) (del_hit gone.0 records (ascend-each _ f.cycles c.standing.sound.map.complete.cycles_ascend)) (subst (λ z. HasCycle s z) q stands)

      stood : HasCycle f kept
      stood =
          sym (ap is_some (del_miss gone.0 records kept.0 (ascend-each _ f.cycles c.standing.sound.map.complete.cycles_ascend) (λ q. two (ap cycle_id q))
          ∙ row_at-each _ f.cycles kept.0) ∙ some_mapped _ (row_at f.cycles kept.0)) ∙ stands

      -- only the edge's darts are on the cycle that stays
      only : (x : DartId) → HasDart before x → cycle_in f x ≡ kept → (x ≡ d) ⊎ (x ≡ m)
      only x hx ex = elim (cases_dart x d) [
        | inl q ↦ inl q
        | inr nd ↦ elim (cases_dart x m) [
          | inl q ↦ inr q
          | inr nm ↦
              let on : cycle_in s x ≡ kept = ap cycle_or (cycle_left x nd nm) ∙ swapped_row gone kept (row_at f.cycle_of x.0) ((c.standing.sound.map.complete.cycle_rows x).0 hx) (inr ex) in
              absurd (two (sym ex ∙ (all_gone before after f s c.standing.sound.map c.sound.map gone kept stays moves k h e x (has_left x nd nm hx) on).1))
        ]
      ]

      -- and a vertex that they alone leave would have no dart, and no face of its own
      lone : (x o : DartId) → HasDart before x → o ≡ twin_in before x → cycle_in f x ≡ kept → ((y : DartId) → HasDart before y → cycle_in f y ≡ kept → (y ≡ x) ⊎ (y ≡ o)) → ((y : DartId) → y ≢ d → y ≢ m → y ≢ x) → ⊥
      lone x o hx eo ex these apart =
          let g = c.standing.sound.map in
          let on : (y : DartId) → HasDart before y → cycle_in f y ≡ kept → cycle_in f (next_in before y) ≡ kept = λ y hy ey. (g.cycled.orbits (next_in before y) y (g.graph.linked.has y hy) hy).1 (lead_step before g.graph y hy) ∙ ey in
          let a : next_in before x ≡ o = other_one (these (next_in before x) (g.graph.linked.has x hx) (on x hx ex)) (no_loop before g.graph x hx) in
          let ho : HasDart before o = subst (λ z. HasDart before z) a (g.graph.linked.has x hx) in
          let eo' : cycle_in f o ≡ kept = subst (λ z. cycle_in f z ≡ kept) a (on x hx ex) in
          let b : next_in before o ≡ x = first_one (these (next_in before o) (g.graph.linked.has o ho) (on o ho eo')) (no_loop before g.graph o ho) in
          let alone_there = alone before g.graph x hx (ap (next_in before) (sym eo) ∙ b) in
          let u : VertexId = source_in before x in
          let hu : HasVertex before u = g.graph.linked.source x hx in
          let gone_pair = pair_is_removed whole d m named in
          let none : (y : DartId) → ¬ IsOutOf after u y = λ y out.
          let nd : y ≢ d = λ q. gone_pair.first (subst (λ z. HasDart after z) q out.0) in
          let nm : y ≢ m = λ q. gone_pair.second (subst (λ z. HasDart after z) q out.0) in
          let i = darts_are_redirected before d (next_in before m) in
          let j = darts_are_redirected half m (next_in before d) in
          let l : IsSameDart whole after y = left y nd nm in
          apart y nd nm (alone_there y (i.relinked.had y (j.relinked.had y (l.had out.0)), sym (l.source ∙ j.relinked.source y ∙ i.relinked.source y) ∙ out.1)) in
          let bare : HasBareFace s u = (c.sound.map.complete.bare u hu).1 none in
          let was : HasBareFace f u = sym (ap is_some (row_at-each _ f.bare u.0) ∙ some_mapped _ (row_at f.bare u.0)) ∙ bare in
          (g.complete.bare u hu).0 was x (hx, refl)
        where
          other_one : {y x o : DartId} → (y ≡ x) ⊎ (y ≡ o) → y ≢ x → y ≡ o
          other_one (inl q) n = absurd (n q)
          other_one (inr q) n = q

          first_one : {y x o : DartId} → (y ≡ x) ⊎ (y ≡ o) → y ≢ o → y ≡ x
          first_one (inl q) n = q
          first_one (inr q) n = absurd (n q)

      pub none_left : ⊥
      none_left =
          let g = c.standing.sound.map in
          let j = g.complete.dart_has kept stood in
          elim (only j.0 j.1 j.2) [
            | inl q ↦ lone d m c.fits.0 c.fits.1 (ap (cycle_in f) (sym q) ∙ j.2) only (λ y nd nm. nd)
            | inr q ↦
                let back : d ≡ twin_in before m = sym (ap (twin_in before) c.fits.1 ∙ g.graph.twinned.back d c.fits.0) in
                lone m d (subst (λ z. HasDart before z) q j.1) back (ap (cycle_in f) (sym q) ∙ j.2) (λ y hy ey. elim (only y hy ey) [ inl r ↦ inr r | inr r ↦ inl r ]) (λ y nd nm. nm)
          ]

pub united_at : (t : Tables) (d m : DartId) (told : Unlinked) → AreToChange t (RemoveEdge d m told) → AreUnitedAt t.darts.entries (faces_in t.faces) d m told
united_at t d m (Vanishes cycle face) c = tt
united_at t d m (Shrinks cycle face) c = tt
united_at t d m (Breaks kept fresh fresh_dart) c = tt
united_at t d m (Unites kept gone gone_face moved) c = λ first second k h e. none_left t d m kept gone gone_face moved c (first d refl) (second m refl) k h e
