-- The tables of darts after each change: what they say is the model's, and each dart is still known by the one that follows.
use Rattle.std.proofs.Common.{◌≡◌, ◌≢◌, inl, inr, ◌==◌, Bool, true, false, cond, ℕ, List, Option, Some, None, option_map, refl, sym, ap, ◌∙◌}
use Rattle.std.proofs.lemmas.Bool.{cases_eq}
use Rattle.exact_plane.specs.Line.{Line}
use Rattle.exact_plane.specs.Point.{Point}
use Rattle.slab_laws.specs.declared.names.DartId.{DartId}
use Rattle.slab_laws.specs.declared.names.VertexId.{VertexId}
use Rattle.slab_laws.specs.Tables.{row_at, names, NamesAscend}
use Rattle.slab_laws.specs.View.{View, VertexRecord, DartRecord, HasDart, dart_id, next_in, twin_in, source_in, line_in}
use Rattle.arr_notes.specs.NamedRows.{put, del, each, edit}
use Rattle.arr_notes.specs.Step.{followed, led, add_edge, remove_edge, split_edge, merge_edge}
use Rattle.arr_notes.specs.ViewChanges.{turned, followed_by, leaving, with_pair, with_next}
use Rattle.arr_notes.proofs.RowLaws.{ascend-put, ascend-del, ascend-each, one_table, edit_hit, edit_miss}
use Rattle.arr_notes.proofs.VertexReads.{put_hit, put_miss}
use Rattle.arr_notes.proofs.Reading.{dart_number}
use Rattle.mirror_observer.specs.declared.tables.DartEntry.{DartEntry}
use Rattle.mirror_observer.specs.Tables.{rows, dart_of, darts_of, previous_at, with_follower, with_previous, with_start, diverted, led_from, linked, unlinked, parted, merged}
use Rattle.mirror_observer.specs.Standing.{IsBackLinked, IsLedByOne}
use Rattle.mirror_observer.proofs.Entries.{rows_put, rows_del, rows_each, rows_edit, rows_silent}
use Rattle.mirror_observer.proofs.Readers.{has_each}
use Rattle.mirror_observer.proofs.Around.{via, via_hit, via_miss, around_unlinked, around_parted, around_merged, around_linked, IsEnd}
use Rattle.mirror_observer.proofs.Told.{IsTold, told_first, back_linked, told_followed, told_preceded, told_started, told_diverted, told_put, told_gone, put_or, not_gone, was_there, previous_after}
use Rattle.arr_notes.proofs.Names.{cases_dart}

-- ---- what the rows say
pub rows_diverted : (x y : DartId) (ds : List (ℕ × DartEntry)) → rows dart_of (each (λ k e. diverted x y e) ds) ≡ each (λ k r. turned x y r) (rows dart_of ds)
rows_diverted x y ds = rows_each dart_of (λ k e. diverted x y e) (λ k r. turned x y r) (λ k e. pick e (e.next.0 == x.0)) ds
  where
    pick : (e : DartEntry) (b : Bool) → dart_of (cond b (with_follower y e) e) ≡ cond b (followed_by y (dart_of e)) (dart_of e)
    pick e true = refl
    pick e false = refl

pub rows_followed : (a b : DartId) (ds : List (ℕ × DartEntry)) → rows dart_of (edit a.0 (with_follower b) ds) ≡ edit a.0 (followed_by b) (rows dart_of ds)
rows_followed a b ds = rows_edit dart_of a.0 (with_follower b) (followed_by b) (λ e. refl) ds

pub rows_preceded : (a b : DartId) (ds : List (ℕ × DartEntry)) → rows dart_of (edit a.0 (with_previous b) ds) ≡ rows dart_of ds
rows_preceded a b ds = rows_silent dart_of a.0 (with_previous b) (λ e. refl) ds

pub rows_started : (a : DartId) (w : VertexId) (ds : List (ℕ × DartEntry)) → rows dart_of (edit a.0 (with_start w) ds) ≡ edit a.0 (leaving w) (rows dart_of ds)
rows_started a w ds = rows_edit dart_of a.0 (with_start w) (leaving w) (λ e. refl) ds

pub unlinked_rows : (ds : List (ℕ × DartEntry)) (d m : DartId) → rows dart_of (unlinked ds d m) ≡ (remove_edge (darts_of ds) d m).darts
unlinked_rows ds d m =
    rows_del dart_of m.0 _ ∙ ap (del m.0) (rows_del dart_of d.0 _ ∙ ap (del d.0) (
    rows_preceded _ _ _ ∙ rows_preceded _ _ _ ∙ rows_diverted _ _ _ ∙ ap (each (λ k r. turned m (next_in (darts_of ds) d) r)) (rows_diverted _ _ ds)))

pub parted_rows : (ds : List (ℕ × DartEntry)) (d : DartId) (w : VertexId) (n m : DartId) (p : Point) → rows dart_of (parted ds d w n m) ≡ (split_edge (darts_of ds) d w p n m).darts
parted_rows ds d w n m p =
    rows_preceded _ _ _ ∙ rows_preceded _ _ _ ∙ rows_followed d n _ ∙ ap (edit d.0 (followed_by n)) (
    rows_started (twin_in (darts_of ds) d) w _ ∙ ap (edit (twin_in (darts_of ds) d).0 (leaving w)) (
    rows_put dart_of m.0 _ _ ∙ ap (put m.0 _) (rows_put dart_of n.0 _ _ ∙ ap (put n.0 _) (rows_diverted _ _ ds))))

pub merged_rows : (ds : List (ℕ × DartEntry)) (w : VertexId) (d n : DartId) → rows dart_of (merged ds d n) ≡ (merge_edge (darts_of ds) w d n).darts
merged_rows ds w d n =
    let v : View = darts_of ds in
    let t : DartId = twin_in v d in
    let m : DartId = twin_in v n in
    rows_del dart_of m.0 _ ∙ ap (del m.0) (rows_del dart_of n.0 _ ∙ ap (del n.0) (
    rows_preceded _ _ _ ∙ rows_preceded _ _ _ ∙ rows_followed d (cond ((next_in v n).0 == m.0) t (next_in v n)) _
    ∙ ap (edit d.0 (followed_by (cond ((next_in v n).0 == m.0) t (next_in v n)))) (rows_started t (source_in v m) _ ∙ ap (edit t.0 (leaving (source_in v m))) (rows_diverted _ _ ds))))

-- ---- who is before
module _ (ds : List (ℕ × DartEntry)) (asc : NamesAscend (names ds)) (back : IsBackLinked ds) where
  pub led_first : (x : DartId) → IsLedByOne ds x
  led_first x a h q = ap (previous_at ds) (sym q) ∙ back a h

  pub led_second : (d m : DartId) → next_in (darts_of ds) m ≢ m → IsLedByOne (each (λ k e. diverted d (next_in (darts_of ds) m) e) ds) m
  led_second d m loop a h q =
      let v : View = darts_of ds in
      let ts : List (ℕ × DartEntry) = each (λ k e. diverted d (next_in v m) e) ds in
      let t : IsTold ts (via d (next_in v m) (next_in v)) (previous_at ds) = told_diverted ds (next_in v) (previous_at ds) (told_first ds) d (next_in v m) in
      let s : HasDart v a = has_each _ ds a h in
      previous_same m ∙ elim (cases_dart (next_in v a) d) [
        | inl e ↦ absurd (loop (sym (via_hit d (next_in v m) (next_in v) a e) ∙ sym (t a h).0 ∙ q))
        | inr ne ↦ ap (previous_at ds) (sym (sym (via_miss d (next_in v m) (next_in v) a ne) ∙ sym (t a h).0 ∙ q)) ∙ back a s
      ]
    where
      previous_same : (z : DartId) → previous_at (each (λ k e. diverted d (next_in (darts_of ds) m) e) ds) z ≡ previous_at ds z
      previous_same z = previous_after d (next_in (darts_of ds) m) ds z

  module _ (d m : DartId) (hd : HasDart (darts_of ds) d) (hm : HasDart (darts_of ds) m) (dm : d ≢ m) (loop : next_in (darts_of ds) m ≢ m)
      (closed : (z : DartId) → HasDart (darts_of (unlinked ds d m)) z → HasDart (darts_of (unlinked ds d m)) (next_in (darts_of (unlinked ds d m)) z)) where
    pub unlinked_back : IsBackLinked (unlinked ds d m)
    unlinked_back =
        let v : View = darts_of ds in
        let n : DartId → DartId = next_in v in
        let p : DartId → DartId = previous_at ds in
        let t1 = told_diverted ds n p (told_first ds) d (n m) in
        let t2 = told_diverted _ _ _ t1 m (n d) in
        let t3 = told_preceded _ _ _ t2 (n m) (p d) in
        let t4 = told_preceded _ _ _ t3 (n d) (p m) in
        let c1 : List (ℕ × DartEntry) = each (λ k e. diverted d (n m) e) ds in
        let c2 : List (ℕ × DartEntry) = each (λ k e. diverted m (n d) e) c1 in
        let c3 : List (ℕ × DartEntry) = edit (n m).0 (with_previous (p d)) c2 in
        let c4 : List (ℕ × DartEntry) = edit (n d).0 (with_previous (p m)) c3 in
        let a1 : NamesAscend (names c1) = ascend-each _ ds asc in
        let a2 : NamesAscend (names c2) = ascend-each _ c1 a1 in
        let a3 : NamesAscend (names c3) = ascend-each _ c2 a2 in
        let a4 : NamesAscend (names c4) = ascend-each _ c3 a3 in
        let a5 : NamesAscend (names (del d.0 c4)) = ascend-del d.0 c4 a4 in
        back_linked (unlinked ds d m) _ _ (told_gone _ _ _ (told_gone c4 _ _ t4 a4 d) a5 m) closed
        (λ z h.
        let h5 : HasDart (darts_of (del d.0 c4)) z = was_there (del d.0 c4) a5 m z h in
        let h4 : HasDart (darts_of c4) z = was_there c4 a4 d z h5 in
        let h0 : HasDart v z = has_each _ ds z (has_each _ c1 z (has_each _ c2 z (has_each _ c3 z h4))) in
        around_unlinked (λ w. HasDart v w) n p back d m z hd hm h0 dm loop (not_gone c4 a4 d z h5) (not_gone (del d.0 c4) a5 m z h))

  module _ (d : DartId) (w : VertexId) (k m : DartId) (hd : HasDart (darts_of ds) d) (ht : HasDart (darts_of ds) (twin_in (darts_of ds) d))
      (kept : (z : DartId) → HasDart (darts_of ds) z → HasDart (darts_of ds) (next_in (darts_of ds) z))
      (nk : ¬ HasDart (darts_of ds) k) (nm : ¬ HasDart (darts_of ds) m) (km : k ≢ m)
      (closed : (z : DartId) → HasDart (darts_of (parted ds d w k m)) z → HasDart (darts_of (parted ds d w k m)) (next_in (darts_of (parted ds d w k m)) z)) where
    pub parted_back : IsBackLinked (parted ds d w k m)
    parted_back =
        let v : View = darts_of ds in
        let n : DartId → DartId = next_in v in
        let p : DartId → DartId = previous_at ds in
        let t : DartId = twin_in v d in
        let forth : DartEntry = record { source = w; twin = m; next = cond ((n d).0 == t.0) m (n d); previous = d; line = line_in v d } in
        let again : DartEntry = record { source = source_in v t; twin = k; next = t; previous = cond ((n d).0 == t.0) k (p t); line = line_in v d } in
        let c1 : List (ℕ × DartEntry) = each (λ j e. diverted t m e) ds in
        let c2 : List (ℕ × DartEntry) = put k.0 forth c1 in
        let c3 : List (ℕ × DartEntry) = put m.0 again c2 in
        let c4 : List (ℕ × DartEntry) = edit t.0 (with_start w) c3 in
        let c5 : List (ℕ × DartEntry) = edit d.0 (with_follower k) c4 in
        let c6 : List (ℕ × DartEntry) = edit (n d).0 (with_previous k) c5 in
        let t1 = told_diverted ds n p (told_first ds) t m in
        let t2 = told_put c1 _ _ t1 k forth in
        let t3 = told_put c2 _ _ t2 m again in
        let t4 = told_started c3 _ _ t3 t w in
        let t5 = told_followed c4 _ _ t4 d k in
        let t6 = told_preceded c5 _ _ t5 (n d) k in
        let t7 = told_preceded c6 _ _ t6 t m in
        back_linked (parted ds d w k m) _ _ t7 closed
        (λ z h.
        let h3 : HasDart (darts_of c3) z = has_each _ c3 z (has_each _ c4 z (has_each _ c5 z (has_each _ c6 z h))) in
        around_parted (λ x. HasDart v x) n p back d t k m hd ht kept nk nm km z (elim (put_or c2 m again z h3) [
          | inl q ↦ inr (inl q)
          | inr h2 ↦ elim (put_or c1 k forth z h2) [ inl q ↦ inl q | inr h1 ↦ inr (inr (has_each _ ds z h1)) ]
        ]))

  module _ (d k : DartId) (hd : HasDart (darts_of ds) d) (hk : HasDart (darts_of ds) k) (hm : HasDart (darts_of ds) (twin_in (darts_of ds) k))
      (goes : next_in (darts_of ds) d ≡ k) (comes : next_in (darts_of ds) (twin_in (darts_of ds) k) ≡ twin_in (darts_of ds) d) (km : k ≢ twin_in (darts_of ds) k)
      (closed : (z : DartId) → HasDart (darts_of (merged ds d k)) z → HasDart (darts_of (merged ds d k)) (next_in (darts_of (merged ds d k)) z)) where
    pub merged_back : IsBackLinked (merged ds d k)
    merged_back =
        let v : View = darts_of ds in
        let n : DartId → DartId = next_in v in
        let p : DartId → DartId = previous_at ds in
        let t : DartId = twin_in v d in
        let m : DartId = twin_in v k in
        let a : DartId = cond ((n k).0 == m.0) t (n k) in
        let b : DartId = cond ((n k).0 == m.0) d (p m) in
        let c1 : List (ℕ × DartEntry) = each (λ j e. diverted m t e) ds in
        let c2 : List (ℕ × DartEntry) = edit t.0 (with_start (source_in v m)) c1 in
        let c3 : List (ℕ × DartEntry) = edit d.0 (with_follower a) c2 in
        let c4 : List (ℕ × DartEntry) = edit (n k).0 (with_previous d) c3 in
        let c5 : List (ℕ × DartEntry) = edit t.0 (with_previous b) c4 in
        let t1 = told_diverted ds n p (told_first ds) m t in
        let t2 = told_started c1 _ _ t1 t (source_in v m) in
        let t3 = told_followed c2 _ _ t2 d a in
        let t4 = told_preceded c3 _ _ t3 (n k) d in
        let t5 = told_preceded c4 _ _ t4 t b in
        let a1 : NamesAscend (names c1) = ascend-each _ ds asc in
        let a2 : NamesAscend (names c2) = ascend-each _ c1 a1 in
        let a3 : NamesAscend (names c3) = ascend-each _ c2 a2 in
        let a4 : NamesAscend (names c4) = ascend-each _ c3 a3 in
        let a5 : NamesAscend (names c5) = ascend-each _ c4 a4 in
        let a6 : NamesAscend (names (del k.0 c5)) = ascend-del k.0 c5 a5 in
        back_linked (merged ds d k) _ _ (told_gone _ _ _ (told_gone c5 _ _ t5 a5 k) a6 m) closed
        (λ z h.
        let h6 : HasDart (darts_of (del k.0 c5)) z = was_there (del k.0 c5) a6 m z h in
        let h5 : HasDart (darts_of c5) z = was_there c5 a5 k z h6 in
        let h0 : HasDart v z = has_each _ ds z (has_each _ c1 z (has_each _ c2 z (has_each _ c3 z (has_each _ c4 z h5)))) in
        around_merged (λ x. HasDart v x) n p back d t k m hd hk hm goes comes km z h0 (not_gone c5 a5 k z h6) (not_gone (del k.0 c5) a6 m z h))

  module _ (d m : DartId) (u w : VertexId) (at_u at_w : Option DartId) (l : Line) (dm : d ≢ m) (nd : ¬ HasDart (darts_of ds) d) (nm : ¬ HasDart (darts_of ds) m)
      (kept : (z : DartId) → HasDart (darts_of ds) z → HasDart (darts_of ds) (next_in (darts_of ds) z))
      (start : IsEnd (λ x. HasDart (darts_of ds) x) (next_in (darts_of ds)) d m (led_from (darts_of ds) at_u m) (followed (darts_of ds) at_u d))
      (finish : IsEnd (λ x. HasDart (darts_of ds) x) (next_in (darts_of ds)) m d (led_from (darts_of ds) at_w d) (followed (darts_of ds) at_w m))
      (apart : HasDart (darts_of ds) (led_from (darts_of ds) at_u m) → HasDart (darts_of ds) (led_from (darts_of ds) at_w d) → led_from (darts_of ds) at_u m ≢ led_from (darts_of ds) at_w d)
      (closed : (z : DartId) → HasDart (darts_of (linked ds d m u w at_u at_w l)) z → HasDart (darts_of (linked ds d m u w at_u at_w l)) (next_in (darts_of (linked ds d m u w at_u at_w l)) z)) where
    pub linked_back : IsBackLinked (linked ds d m u w at_u at_w l)
    linked_back =
        let v : View = darts_of ds in
        let n : DartId → DartId = next_in v in
        let p : DartId → DartId = previous_at ds in
        let x : DartId = led_from v at_u m in
        let y : DartId = followed v at_u d in
        let x2 : DartId = led_from v at_w d in
        let y2 : DartId = followed v at_w m in
        let forth : DartEntry = record { source = u; twin = m; next = y2; previous = x; line = l } in
        let again : DartEntry = record { source = w; twin = d; next = y; previous = x2; line = l } in
        let c1 : List (ℕ × DartEntry) = put d.0 forth ds in
        let c2 : List (ℕ × DartEntry) = put m.0 again c1 in
        let c3 : List (ℕ × DartEntry) = edit x.0 (with_follower d) c2 in
        let c4 : List (ℕ × DartEntry) = edit y.0 (with_previous m) c3 in
        let c5 : List (ℕ × DartEntry) = edit x2.0 (with_follower m) c4 in
        let t1 = told_put ds n p (told_first ds) d forth in
        let t2 = told_put c1 _ _ t1 m again in
        let t3 = told_followed c2 _ _ t2 x d in
        let t4 = told_preceded c3 _ _ t3 y m in
        let t5 = told_followed c4 _ _ t4 x2 m in
        let t6 = told_preceded c5 _ _ t5 y2 d in
        back_linked (linked ds d m u w at_u at_w l) _ _ t6 closed
        (λ z h.
        let h2 : HasDart (darts_of c2) z = has_each _ c2 z (has_each _ c3 z (has_each _ c4 z (has_each _ c5 z h))) in
        around_linked (λ e. HasDart v e) n p back d m x y x2 y2 dm nd nm kept start finish apart z (elim (put_or c1 m again z h2) [
          | inl q ↦ inr (inl q)
          | inr h1 ↦ elim (put_or ds d forth z h1) [ inl q ↦ inl q | inr h0 ↦ inr (inr h0) ]
        ]))

-- ---- an edge more, as the model makes it
still : (k : ℕ) (f : DartRecord → DartRecord) (rs : List (ℕ × DartRecord)) → NamesAscend (names rs) → option_map f (row_at rs k) ≡ row_at rs k → edit k f rs ≡ rs
still k f rs a e = one_table _ _ (ascend-each _ rs a) a (λ n. elim (cases_eq n k) [
  | inl q ↦ ap (row_at (edit k f rs)) q ∙ edit_hit k f rs ∙ e ∙ ap (row_at rs) (sym q)
  | inr ne ↦ edit_miss k f rs n ne
])

-- an end where the dart that comes back is followed as it should be already
led_end : (v h : View) (o : Option DartId) (out again : DartId) (r : DartRecord) → NamesAscend (names h.darts) → row_at h.darts again.0 ≡ Some r → r.next ≡ followed v o out → with_next h (led_from v o again) out ≡ led v o out h
led_end v h None out again r a e q =
    let s : edit again.0 (followed_by out) h.darts ≡ h.darts = still again.0 (followed_by out) h.darts a (ap (option_map (followed_by out)) e ∙ ap (λ n. Some (followed_by n r)) (sym q) ∙ sym e) in
    λ i. record { vertices = h.vertices; darts = s i }
led_end v h (Some b) out again r a e q = refl

pub linked_rows : (vs : List (ℕ × VertexRecord)) (ds : List (ℕ × DartEntry)) (asc : NamesAscend (names (rows dart_of ds))) (d m : DartId) (u w : VertexId) (at_u at_w : Option DartId) (l : Line) → d ≢ m → led_from (darts_of ds) at_u m ≢ d →
    rows dart_of (linked ds d m u w at_u at_w l) ≡ (add_edge (record { vertices = vs; darts = rows dart_of ds }) d m u w at_u at_w l).darts
linked_rows vs ds asc d m u w at_u at_w l dm xd =
    let v : View = record { vertices = vs; darts = rows dart_of ds } in
    let x : DartId = led_from v at_u m in
    let x2 : DartId = led_from v at_w d in
    let r : DartRecord = record { source = u; twin = m; next = followed v at_w m; line = l } in
    let s : DartRecord = record { source = w; twin = d; next = followed v at_u d; line = l } in
    let b1 : List (ℕ × DartRecord) = put d.0 r v.darts in
    let b2 : List (ℕ × DartRecord) = put m.0 s b1 in
    let b3 : List (ℕ × DartRecord) = edit x.0 (followed_by d) b2 in
    let pair : View = with_pair v d m r s in
    let a2 : NamesAscend (names b2) = ascend-put m.0 s b1 (ascend-put d.0 r v.darts asc) in
    let e1 : with_next pair x d ≡ led v at_u d pair = led_end v pair at_u d m s a2 (put_hit m.0 s b1) refl in
    let row_d : row_at b3 d.0 ≡ Some r = edit_miss x.0 (followed_by d) b2 d.0 (λ e. xd (ap dart_id (sym e))) ∙ put_miss m.0 s b1 d.0 (dart_number d m dm) ∙ put_hit d.0 r v.darts in
    let e2 : with_next (with_next pair x d) x2 m ≡ led v at_w m (with_next pair x d) = led_end v (with_next pair x d) at_w m d r (ascend-each _ b2 a2) row_d refl in
    rows_preceded _ _ _ ∙ rows_followed x2 m _ ∙ ap (edit x2.0 (followed_by m)) (rows_preceded _ _ _ ∙ rows_followed x d _ ∙ ap (edit x.0 (followed_by d)) (rows_put dart_of m.0 _ _ ∙ ap (put m.0 s) (rows_put dart_of d.0 _ ds)))
    ∙ ap (λ z. z.darts) (e2 ∙ ap (led v at_w m) e1)
