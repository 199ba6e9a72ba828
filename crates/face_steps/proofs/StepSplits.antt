-- Splits: the tables that the step makes stand.
use Rattle.std.proofs.Common.{◌≡◌, ◌≢◌, ◌↔◌, ◌==◌, ℕ, Bool, true, false, cond, List, Option, Some, None, IsSome, option_map, refl, sym, ap, ◌∙◌, subst, ◌⊎◌, inl, inr}
use Rattle.std.proofs.lemmas.Bool.{cases_Bool, false≢true, true≢false, false_from_ne_true}
use Rattle.std.specs.List.{Contains}
use Rattle.exact_plane.specs.Line.{Line}
use Rattle.slab_laws.specs.declared.names.CycleId.{CycleId}
use Rattle.slab_laws.specs.declared.names.CycleKind.TheVariants.{Outer}
use Rattle.slab_laws.specs.declared.names.DartId.{DartId}
use Rattle.slab_laws.specs.declared.names.FaceId.{FaceId}
use Rattle.slab_laws.specs.declared.names.VertexId.{VertexId}
use Rattle.slab_laws.specs.FacesSound.{lead_in, IsComplete}
use Rattle.slab_laws.specs.Sound.{dart_in}
use Rattle.slab_laws.specs.Tables.{row_at, names, NamesAscend}
use Rattle.slab_laws.specs.View.{View, Faces, CycleRecord, HasDart, HasCycle, HasFace, HasBareFace, dart_id, next_in, cycle_or, kind_or, face_or, bare_or, cycle_in, kind_in, face_in, bare_face_in}
use Rattle.arr_notes.specs.CycleNames.{cycle_label}
use Rattle.arr_notes.specs.FaceSteps.{step_faces, splits}
use Rattle.arr_notes.specs.FaceWriters.{put_name, lists_cycle, lists_vertex}
use Rattle.arr_notes.proofs.Names.{cases_dart}
use Rattle.arr_notes.proofs.RowLaws.{row_at-each, ascend-put, ascend-each}
use Rattle.arr_notes.proofs.Reading.{dart_number}
use Rattle.arr_notes.proofs.VertexReads.{put_hit, put_miss}
use Rattle.sound_views.proofs.ListedRows.{is_some_by}
use Rattle.face_changes.specs.FacesByPairs.{round, HasItem, first_or}
use Rattle.face_changes.specs.RecordsAfterSplits.{IsLinkedWithin, IsSplitInto}
use Rattle.face_changes.proofs.CycleParities.{choose}
use Rattle.face_changes.proofs.RecordsAfterSplits.{records_after_splits}
use Rattle.face_steps.specs.EdgePairs.{IsEdgeApart}
use Rattle.face_steps.specs.StepPremises.{FitsSplitting}
use Rattle.face_steps.specs.Tabled.{AreTabled}
use Rattle.face_steps.proofs.CyclesApart.{cycle_cases}
use Rattle.face_steps.proofs.EdgePairs.{turned_round, up, sorted, bare_below, vertex_above, vertex_below, listed, lead_old, lead_second}
use Rattle.face_steps.proofs.FaceRows.{map_some, map_cycle, cycle_number, orbit_hit, orbit_miss, put_name_has, put_name_ascends, first_before}
use Rattle.face_steps.proofs.StepJoins.{bare_up}
use Rattle.face_steps.proofs.TwoFaces.{two_faces_apart}

-- another face for a listed cycle
abbrev pub in_face : List CycleId → ℕ → FaceId → CycleRecord → CycleRecord
in_face cs n a r = cond (lists_cycle cs n) (record { kind = r.kind; face = a }) r

-- what the tables hold after the step, row by row; x is the fresh dart, and the order in which x and y were written doesn't show
pub record AreSplitRows (w : View) (f s : Faces) (x y : DartId) (kept fresh : CycleId) (face : FaceId) (cs : List CycleId) (us : List VertexId) : Type 0 where
  pub old : (k : DartId) → k ≢ x → k ≢ y → row_at s.cycle_of k.0 ≡ option_map (λ b. cond ((cycle_label w k).0 == (cycle_label w x).0) fresh b) (row_at f.cycle_of k.0)
  pub first : row_at s.cycle_of x.0 ≡ Some (cond ((cycle_label w x).0 == (cycle_label w x).0) fresh kept)
  pub second : row_at s.cycle_of y.0 ≡ Some (cond ((cycle_label w y).0 == (cycle_label w x).0) fresh kept)
  pub cycle_new : row_at s.cycles fresh.0 ≡ Some (in_face cs fresh.0 face (record { kind = Outer; face = face }))
  pub cycle_old : (e : CycleId) → e ≢ fresh → row_at s.cycles e.0 ≡ option_map (in_face cs e.0 face) (row_at f.cycles e.0)
  pub bare : (u : VertexId) → row_at s.bare u.0 ≡ option_map (λ b. cond (lists_vertex us u.0) face b) (row_at f.bare u.0)
  pub faces : s.faces ≡ put_name face.0 f.faces
  pub cycles_ascend : NamesAscend (names s.cycles)
  pub cycle_of_ascend : NamesAscend (names s.cycle_of)
  pub bare_ascend : NamesAscend (names s.bare)

pub map_kind : (cs : List CycleId) (n : ℕ) (a : FaceId) (o : Option CycleRecord) → kind_or (option_map (in_face cs n a) o) ≡ kind_or o
map_kind cs n a None = refl
map_kind cs n a (Some r) = go (lists_cycle cs n)
  where
    go : (b : Bool) → (cond {A = CycleRecord} b (record { kind = r.kind; face = a }) r).kind ≡ r.kind
    go true = refl
    go false = refl

pub map_face : (cs : List CycleId) (n : ℕ) (a : FaceId) (o : Option CycleRecord) → IsSome o → face_or (option_map (in_face cs n a) o) ≡ cond (lists_cycle cs n) a (face_or o)
map_face cs n a None h = absurd (false≢true h)
map_face cs n a (Some r) h = go (lists_cycle cs n)
  where
    go : (b : Bool) → (cond {A = CycleRecord} b (record { kind = r.kind; face = a }) r).face ≡ cond b a r.face
    go true = refl
    go false = refl

pub map_bare : (b : Bool) (a : FaceId) (o : Option FaceId) → IsSome o → bare_or (option_map (λ z. cond b a z) o) ≡ cond b a (bare_or o)
map_bare b a None h = absurd (false≢true h)
map_bare b a (Some z) h = refl

module _ (v w : View) (x y : DartId) (p q : VertexId) (l : Line) (m : IsEdgeApart v w x y p q l) (a b : DartId) (A : HasDart v a) (B : HasDart v b) (na : next_in w a ≡ x) (nb : next_in w b ≡ y) (f s : Faces) (kept fresh : CycleId) (face : FaceId) (cs : List CycleId) (us : List VertexId) (t : FitsSplitting v w f x a b kept fresh face cs us) (r : AreSplitRows w f s x y kept fresh face cs us) (h : AreTabled v f) where
  one : lead_in v a ≡ lead_in v b
  one = (h.cycled.orbits a b A B).0 (t.first ∙ sym t.second)

  link : IsLinkedWithin v w x y a
  link = two_faces_apart.linked v w x y p q l a b m A B na nb one

  two : lead_in w x ≢ lead_in w y
  two = (two_faces_apart.within v w x y p q l a b m A B na nb).0 one

  not_x : (k : DartId) → HasDart v k → k ≢ x
  not_x k o e = m.more.first_new (subst (HasDart v) e o)

  not_y : (k : DartId) → HasDart v k → k ≢ y
  not_y k o e = m.more.second_new (subst (HasDart v) e o)

  -- ---- the cycles of darts
  first_is : cycle_in s x ≡ fresh
  first_is = ap cycle_or r.first ∙ orbit_hit w x fresh kept x m.sound_more m.more.first m.more.first refl

  second_is : cycle_in s y ≡ kept
  second_is = ap cycle_or r.second ∙ orbit_miss w x fresh kept y m.sound_more m.more.second m.more.first (λ e. two (sym e))

  reads : (k : DartId) → HasDart v k → cycle_in s k ≡ cond ((cycle_label w k).0 == (cycle_label w x).0) fresh (cycle_in f k)
  reads k o = ap cycle_or (r.old k (not_x k o) (not_y k o)) ∙ map_cycle _ (row_at f.cycle_of k.0) ((h.complete.cycle_rows k).0 o)

  old_on : (k : DartId) → HasDart v k → lead_in w k ≡ lead_in w x → cycle_in s k ≡ fresh
  old_on k o e = reads k o ∙ orbit_hit w x fresh (cycle_in f k) k m.sound_more (up v w x y p q l m k o) m.more.first e

  old_off : (k : DartId) → HasDart v k → lead_in w k ≢ lead_in w x → cycle_in s k ≡ cycle_in f k
  old_off k o n = reads k o ∙ orbit_miss w x fresh (cycle_in f k) k m.sound_more (up v w x y p q l m k o) m.more.first n

  from_x : (k : DartId) → HasDart v k → lead_in w k ≡ lead_in w x → cycle_in f k ≡ kept
  from_x k o e = (h.cycled.orbits k a o A).1 (link.parted.cycles.from_d (dart_in v k) (listed v w x y p q l m k o) (sym (lead_old v w x y p q l m k o) ∙ e)) ∙ t.first

  from_y : (k : DartId) → HasDart v k → lead_in w k ≡ lead_in w y → cycle_in f k ≡ kept
  from_y k o e = (h.cycled.orbits k a o A).1 (link.parted.cycles.from_m (dart_in v k) (listed v w x y p q l m k o) (sym (lead_old v w x y p q l m k o) ∙ e ∙ lead_second v w x y p q l m)) ∙ t.first

  not_new : (e : CycleId) → HasCycle f e → e ≢ fresh
  not_new e o z = t.new_cycle (subst (HasCycle f) z o)

  has_kept : HasCycle f kept
  has_kept = subst (HasCycle f) t.first (h.complete.cycle_has a A)

  -- ---- the records of cycles
  kind_still : (e : CycleId) → HasCycle f e → kind_in s e ≡ kind_in f e
  kind_still e o = ap kind_or (r.cycle_old e (not_new e o)) ∙ map_kind cs e.0 face (row_at f.cycles e.0)

  face_reads : (e : CycleId) → HasCycle f e → face_in s e ≡ cond (lists_cycle cs e.0) face (face_in f e)
  face_reads e o = ap face_or (r.cycle_old e (not_new e o)) ∙ map_face cs e.0 face (row_at f.cycles e.0) o

  face_hit : (e : CycleId) → HasCycle f e → lists_cycle cs e.0 ≡ true → face_in s e ≡ face
  face_hit e o g = face_reads e o ∙ ap (λ b. cond b face (face_in f e)) g

  face_miss : (e : CycleId) → HasCycle f e → ¬ (lists_cycle cs e.0 ≡ true) → face_in s e ≡ face_in f e
  face_miss e o n = face_reads e o ∙ ap (λ b. cond b face (face_in f e)) (false_from_ne_true _ n)

  kind_new : kind_in s fresh ≡ Outer
  kind_new = ap kind_or (r.cycle_new ∙ same_record) ∙ map_kind cs fresh.0 face (Some (record { kind = Outer; face = face }))
    where
      same_record : Some (in_face cs fresh.0 face (record { kind = Outer; face = face })) ≡ option_map (in_face cs fresh.0 face) (Some (record { kind = Outer; face = face }))
      same_record = refl

  face_new : face_in s fresh ≡ face
  face_new = ap face_or r.cycle_new ∙ go (lists_cycle cs fresh.0)
    where
      go : (b : Bool) → (cond {A = CycleRecord} b (record { kind = Outer; face = face }) (record { kind = Outer; face = face })).face ≡ face
      go true = refl
      go false = refl

  -- ---- vertices
  bare_reads : (u : VertexId) → HasBareFace f u → bare_face_in s u ≡ cond (lists_vertex us u.0) face (bare_face_in f u)
  bare_reads u o = ap bare_or (r.bare u) ∙ map_bare (lists_vertex us u.0) face (row_at f.bare u.0) o

  row_of : (u : VertexId) → HasItem v (round u) → HasBareFace f u
  row_of u i = (h.complete.bare u i.0).1 i.1

  bare_hit : (u : VertexId) → HasBareFace f u → lists_vertex us u.0 ≡ true → bare_face_in s u ≡ face
  bare_hit u o g = bare_reads u o ∙ ap (λ b. cond b face (bare_face_in f u)) g

  bare_miss : (u : VertexId) → HasBareFace f u → ¬ (lists_vertex us u.0 ≡ true) → bare_face_in s u ≡ bare_face_in f u
  bare_miss u o n = bare_reads u o ∙ ap (λ b. cond b face (bare_face_in f u)) (false_from_ne_true _ n)

  -- ---- names of faces
  has_faces : (c : FaceId) → HasFace s c ↔ (HasFace f c ⊎ (c ≡ face))
  has_faces c =
      let z = put_name_has face.0 f.faces c.0 in (
        λ o. elim (z.0 (subst (λ ns. Contains ns c.0) r.faces o)) [ inl k ↦ inl k | inr e ↦ inr (λ i. record { 0 = e i }) ],
        λ o. subst (λ ns. Contains ns c.0) (sym r.faces) (z.1 (elim o [ inl k ↦ inl k | inr e ↦ inr (ap (λ (y : FaceId). y.0) e) ])),
      )

  cut : cycle_in f a ≡ kept
  cut = t.first

  split : IsSplitInto v w f s x y a fresh face
  split = record {
    new_cycle = t.new_cycle;
    new_face = t.new_face;
    first_stays = ap first_or r.faces ∙ first_before face.0 f.faces h.told.there t.later;
    cycles = λ c. (
      λ o. elim (cycle_cases c fresh) [ inl e ↦ inr e | inr n ↦ inl ((map_some (in_face cs c.0 face) (row_at f.cycles c.0)).1 (subst IsSome (r.cycle_old c n) o)) ],
      λ o. elim o [
        | inl k ↦ subst IsSome (sym (r.cycle_old c (not_new c k))) ((map_some (in_face cs c.0 face) (row_at f.cycles c.0)).0 k)
        | inr e ↦ is_some_by _ _ (ap (λ z. row_at s.cycles z.0) e ∙ r.cycle_new)
      ],
    );
    faces = has_faces;
    on_fresh = λ k o e. elim (sorted v w x y p q l m k o) [
      | inl z ↦ old_on k z e
      | inr z ↦ elim z [ inl i ↦ ap (cycle_in s) i ∙ first_is | inr i ↦ absurd (two (sym (ap (lead_in w) (sym i) ∙ e))) ]
    ];
    on_kept = λ k o e. elim (sorted v w x y p q l m k o) [
      | inl z ↦ old_off k z (λ i. two (sym i ∙ e)) ∙ from_y k z e ∙ sym t.first
      | inr z ↦ elim z [ inl i ↦ absurd (two (ap (lead_in w) (sym i) ∙ e)) | inr i ↦ ap (cycle_in s) i ∙ second_is ∙ sym t.first ]
    ];
    on_other = λ k o n. old_off k o (λ e. n (from_x k o e ∙ sym t.first));
    kind_fresh = kind_new;
    kind_old = λ c o. kind_still c o;
    face_fresh = face_new;
    face_kept = face_miss (cycle_in f a) (h.complete.cycle_has a A) (λ g. (t.cycles (cycle_in f a) (h.complete.cycle_has a A) g).0 t.first);
    moved = λ k o n e i. face_hit (cycle_in f k) (h.complete.cycle_has k o) ((t.within k o (λ z. n (z ∙ sym t.first)) (e ∙ ap (face_in f) t.first)).1 i);
    left = λ k o n e i. face_miss (cycle_in f k) (h.complete.cycle_has k o) (λ g. i ((t.within k o (λ z. n (z ∙ sym t.first)) (e ∙ ap (face_in f) t.first)).0 g)) ∙ e;
    off = λ k o n. face_miss (cycle_in f k) (h.complete.cycle_has k o) (λ g. n ((t.cycles (cycle_in f k) (h.complete.cycle_has k o) g).1 ∙ ap (face_in f) (sym t.first)));
    bare_moved = λ u o e i. bare_hit u (row_of u o) ((t.within_bare u (row_of u o) (e ∙ ap (face_in f) t.first)).1 i);
    bare_left = λ u o e i. bare_miss u (row_of u o) (λ g. i ((t.within_bare u (row_of u o) (e ∙ ap (face_in f) t.first)).0 g)) ∙ e;
    bare_off = λ u o n. bare_miss u (row_of u o) (λ g. n (t.vertices u (row_of u o) g ∙ ap (face_in f) (sym t.first)));
  }

  -- ---- every row is there
  cycle_up : (c : CycleId) → HasCycle f c → HasCycle s c
  cycle_up c o = (split.cycles c).1 (inl o)

  face_up : (c : FaceId) → HasFace f c → HasFace s c
  face_up c o = (has_faces c).1 (inl o)

  rows : (k : DartId) → HasDart w k ↔ IsSome (row_at s.cycle_of k.0)
  rows k = (
    λ o. elim (sorted v w x y p q l m k o) [
      | inl z ↦ subst IsSome (sym (r.old k (not_x k z) (not_y k z))) ((map_some _ (row_at f.cycle_of k.0)).0 ((h.complete.cycle_rows k).0 z))
      | inr z ↦ elim z [ inl e ↦ is_some_by _ _ (ap (λ j. row_at s.cycle_of j.0) e ∙ r.first) | inr e ↦ is_some_by _ _ (ap (λ j. row_at s.cycle_of j.0) e ∙ r.second) ]
    ],
    λ o. elim (cases_dart k x) [
      | inl e ↦ subst (HasDart w) (sym e) m.more.first
      | inr n ↦ elim (cases_dart k y) [
        | inl e ↦ subst (HasDart w) (sym e) m.more.second
        | inr n' ↦ up v w x y p q l m k ((h.complete.cycle_rows k).1 ((map_some _ (row_at f.cycle_of k.0)).1 (subst IsSome (r.old k n n') o)))
      ]
    ],
  )

  cycle_there : (k : DartId) → HasDart w k → HasCycle s (cycle_in s k)
  cycle_there k o = elim (choose (lead_in w k) (lead_in w x)) [
    | inl e ↦ subst (HasCycle s) (sym (split.on_fresh k o e)) ((split.cycles fresh).1 (inr refl))
    | inr n ↦ elim (sorted v w x y p q l m k o) [
      | inl z ↦ subst (HasCycle s) (sym (old_off k z n)) (cycle_up (cycle_in f k) (h.complete.cycle_has k z))
      | inr z ↦ elim z [ inl i ↦ absurd (n (ap (lead_in w) i)) | inr i ↦ subst (HasCycle s) (sym (ap (cycle_in s) i ∙ second_is)) (cycle_up kept has_kept) ]
    ]
  ]

  dart_there : (c : CycleId) → HasCycle s c → (d : DartId) × HasDart w d × (cycle_in s d ≡ c)
  dart_there c o = elim (cycle_cases c kept) [
    | inl e ↦ (y, m.more.second, second_is ∙ sym e)
    | inr n ↦ elim ((split.cycles c).0 o) [
      | inr e ↦ (x, m.more.first, first_is ∙ sym e)
      | inl k ↦ let d = h.complete.dart_has c k in (d.0, up v w x y p q l m d.0 d.1, old_off d.0 d.1 (λ e. n (sym d.2 ∙ from_x d.0 d.1 e)) ∙ d.2)
    ]
  ]

  face_there : (c : CycleId) → HasCycle s c → HasFace s (face_in s c)
  face_there c o = elim ((split.cycles c).0 o) [
    | inr e ↦ subst (HasFace s) (sym (ap (face_in s) e ∙ face_new)) ((has_faces face).1 (inr refl))
    | inl k ↦ elim (cases_Bool (lists_cycle cs c.0)) [
      | inl g ↦ subst (HasFace s) (sym (face_hit c k g)) ((has_faces face).1 (inr refl))
      | inr g ↦ subst (HasFace s) (sym (face_miss c k (λ z. true≢false (sym z ∙ g)))) (face_up (face_in f c) (h.complete.face_has c k))
    ]
  ]

  bare_row : (u : VertexId) → HasBareFace s u ↔ HasBareFace f u
  bare_row u = let z = map_some (λ b. cond (lists_vertex us u.0) face b) (row_at f.bare u.0) in (λ o. z.1 (subst IsSome (r.bare u) o), λ o. subst IsSome (sym (r.bare u)) (z.0 o))

  complete : IsComplete w s
  complete = record {
    cycles_ascend = r.cycles_ascend;
    faces_ascend = subst NamesAscend (sym r.faces) (put_name_ascends face.0 f.faces h.complete.faces_ascend);
    cycle_of_ascend = r.cycle_of_ascend;
    bare_ascend = r.bare_ascend;
    cycle_rows = rows;
    cycle_has = cycle_there;
    dart_has = dart_there;
    face_has = face_there;
    bare = λ u o.
        let z = h.complete.bare u (vertex_below v w x y p q l m u o) in
        (λ k. bare_up v w x y p q l m a b A B na nb u (z.0 ((bare_row u).0 k)), λ k. (bare_row u).1 (z.1 (bare_below v w x y p q l m u k)));
    bare_vertex = λ u o. vertex_above v w x y p q l m u (h.complete.bare_vertex u ((bare_row u).0 o));
    bare_has = λ u o.
        let k = (bare_row u).0 o in
        elim (cases_Bool (lists_vertex us u.0)) [
          | inl g ↦ subst (HasFace s) (sym (bare_hit u k g)) ((has_faces face).1 (inr refl))
          | inr g ↦ subst (HasFace s) (sym (bare_miss u k (λ z. true≢false (sym z ∙ g)))) (face_up (bare_face_in f u) (h.complete.bare_has u k))
        ];
  }

  pub split_rows : AreTabled w s
  split_rows = record {
    complete = complete;
    cycled = records_after_splits.cycled v w f s x y a fresh face link h.complete h.cycled split t.outer;
    told = records_after_splits.told v w f s x y a fresh face link h.complete h.cycled h.told split t.outer;
  }

-- ---- the rows that the step makes: c is x or y
module _ (w : View) (f : Faces) (x y : DartId) (kept fresh : CycleId) (c : DartId) (face : FaceId) (cs : List CycleId) (us : List VertexId) where
  abbrev written : Faces
  written = step_faces w f (splits x y kept fresh c face cs us)

  pub cycle_row_new : row_at written.cycles fresh.0 ≡ Some (in_face cs fresh.0 face (record { kind = Outer; face = face }))
  cycle_row_new = row_at-each (λ n r. in_face cs n face r) _ fresh.0 ∙ ap (option_map (in_face cs fresh.0 face)) (put_hit fresh.0 _ f.cycles)

  pub cycle_row_old : (e : CycleId) → e ≢ fresh → row_at written.cycles e.0 ≡ option_map (in_face cs e.0 face) (row_at f.cycles e.0)
  cycle_row_old e n = row_at-each (λ n r. in_face cs n face r) _ e.0 ∙ ap (option_map (in_face cs e.0 face)) (put_miss fresh.0 _ f.cycles e.0 (cycle_number e fresh n))

module _ (w : View) (f : Faces) (x y : DartId) (two : x ≢ y) (kept fresh : CycleId) (c : DartId) (face : FaceId) (cs : List CycleId) (us : List VertexId) (full : NamesAscend (names f.cycle_of)) (full_cycles : NamesAscend (names f.cycles)) (full_bare : NamesAscend (names f.bare)) where
  abbrev S : Faces
  S = written w f x y kept fresh c face cs us

  abbrev label : ℕ → CycleId → CycleId
  label n b = cond ((cycle_label w (dart_id n)).0 == (cycle_label w c).0) fresh b

  at_old : (k : DartId) → k ≢ x → k ≢ y → row_at S.cycle_of k.0 ≡ option_map (label k.0) (row_at f.cycle_of k.0)
  at_old k i j = row_at-each label _ k.0 ∙ ap (option_map (label k.0)) (put_miss y.0 kept _ k.0 (dart_number k y j) ∙ put_miss x.0 kept _ k.0 (dart_number k x i))

  at_first : row_at S.cycle_of x.0 ≡ Some (label x.0 kept)
  at_first = row_at-each label _ x.0 ∙ ap (option_map (label x.0)) (put_miss y.0 kept _ x.0 (dart_number x y two) ∙ put_hit x.0 kept f.cycle_of)

  at_second : row_at S.cycle_of y.0 ≡ Some (label y.0 kept)
  at_second = row_at-each label _ y.0 ∙ ap (option_map (label y.0)) (put_hit y.0 kept _)

  at_bare : (u : VertexId) → row_at S.bare u.0 ≡ option_map (λ b. cond (lists_vertex us u.0) face b) (row_at f.bare u.0)
  at_bare u = row_at-each (λ n b. cond (lists_vertex us n) face b) f.bare u.0

  cycles_up : NamesAscend (names S.cycles)
  cycles_up = ascend-each _ _ (ascend-put fresh.0 _ f.cycles full_cycles)

  cycle_of_up : NamesAscend (names S.cycle_of)
  cycle_of_up = ascend-each _ _ (ascend-put y.0 kept _ (ascend-put x.0 kept f.cycle_of full))

  bare_ups : NamesAscend (names S.bare)
  bare_ups = ascend-each _ f.bare full_bare

-- the fresh dart is the first of the pair, or the second
pub split_first : (v w : View) (x y : DartId) (p q : VertexId) (l : Line) (m : IsEdgeApart v w x y p q l) (a b : DartId) (A : HasDart v a) (B : HasDart v b) (na : next_in w a ≡ x) (nb : next_in w b ≡ y) (f : Faces) (kept fresh : CycleId) (face : FaceId) (cs : List CycleId) (us : List VertexId) → FitsSplitting v w f x a b kept fresh face cs us → AreTabled v f → AreTabled w (step_faces w f (splits x y kept fresh x face cs us))
split_first v w x y p q l m a b A B na nb f kept fresh face cs us t h =
    split_rows v w x y p q l m a b A B na nb f (step_faces w f (splits x y kept fresh x face cs us)) kept fresh face cs us t (record {
      old = at_old w f x y m.more.two_names kept fresh x face cs us h.complete.cycle_of_ascend h.complete.cycles_ascend h.complete.bare_ascend;
      first = at_first w f x y m.more.two_names kept fresh x face cs us h.complete.cycle_of_ascend h.complete.cycles_ascend h.complete.bare_ascend;
      second = at_second w f x y m.more.two_names kept fresh x face cs us h.complete.cycle_of_ascend h.complete.cycles_ascend h.complete.bare_ascend;
      cycle_new = cycle_row_new w f x y kept fresh x face cs us;
      cycle_old = cycle_row_old w f x y kept fresh x face cs us;
      bare = at_bare w f x y m.more.two_names kept fresh x face cs us h.complete.cycle_of_ascend h.complete.cycles_ascend h.complete.bare_ascend;
      faces = refl;
      cycles_ascend = cycles_up w f x y m.more.two_names kept fresh x face cs us h.complete.cycle_of_ascend h.complete.cycles_ascend h.complete.bare_ascend;
      cycle_of_ascend = cycle_of_up w f x y m.more.two_names kept fresh x face cs us h.complete.cycle_of_ascend h.complete.cycles_ascend h.complete.bare_ascend;
      bare_ascend = bare_ups w f x y m.more.two_names kept fresh x face cs us h.complete.cycle_of_ascend h.complete.cycles_ascend h.complete.bare_ascend;
    }) h

pub split_second : (v w : View) (x y : DartId) (p q : VertexId) (l : Line) (m : IsEdgeApart v w x y p q l) (a b : DartId) (A : HasDart v a) (B : HasDart v b) (na : next_in w a ≡ x) (nb : next_in w b ≡ y) (f : Faces) (kept fresh : CycleId) (face : FaceId) (cs : List CycleId) (us : List VertexId) → FitsSplitting v w f y b a kept fresh face cs us → AreTabled v f → AreTabled w (step_faces w f (splits x y kept fresh y face cs us))
split_second v w x y p q l m a b A B na nb f kept fresh face cs us t h =
    split_rows v w y x q p l (turned_round v w x y p q l m) b a B A nb na f (step_faces w f (splits x y kept fresh y face cs us)) kept fresh face cs us t (record {
      old = λ k i j. at_old w f x y m.more.two_names kept fresh y face cs us h.complete.cycle_of_ascend h.complete.cycles_ascend h.complete.bare_ascend k j i;
      first = at_second w f x y m.more.two_names kept fresh y face cs us h.complete.cycle_of_ascend h.complete.cycles_ascend h.complete.bare_ascend;
      second = at_first w f x y m.more.two_names kept fresh y face cs us h.complete.cycle_of_ascend h.complete.cycles_ascend h.complete.bare_ascend;
      cycle_new = cycle_row_new w f x y kept fresh y face cs us;
      cycle_old = cycle_row_old w f x y kept fresh y face cs us;
      bare = at_bare w f x y m.more.two_names kept fresh y face cs us h.complete.cycle_of_ascend h.complete.cycles_ascend h.complete.bare_ascend;
      faces = refl;
      cycles_ascend = cycles_up w f x y m.more.two_names kept fresh y face cs us h.complete.cycle_of_ascend h.complete.cycles_ascend h.complete.bare_ascend;
      cycle_of_ascend = cycle_of_up w f x y m.more.two_names kept fresh y face cs us h.complete.cycle_of_ascend h.complete.cycles_ascend h.complete.bare_ascend;
      bare_ascend = bare_ups w f x y m.more.two_names kept fresh y face cs us h.complete.cycle_of_ascend h.complete.cycles_ascend h.complete.bare_ascend;
    }) h
