-- Reading the lists of a face, and what is made of them.
use Rattle.std.proofs.Common.{◌≡◌, ◌<◌, Bool, true, false, cond, refl, sym, ap, ◌∙◌, subst, ◌⊎◌, inl, inr, List, [], ◌∷◌, ◌++◌, map}
use Rattle.std.specs.Prelude.{IfOk, Option, None, Some, Result}
use Rattle.std.specs.List.{filter}
use Rattle.std.proofs.lemmas.List.{map-append}
use Rattle.std.proofs.lemmas.Result.{IfOk-weaker}
use Rattle.std.proofs.lemmas.List.Elements.{filter-append}
use Rattle.plane_graphs.specs.Ascending.{Member}
use Rattle.plane_graphs.proofs.Lists.{in_filter, of_filter, of_map}
use Rattle.slab_laws.specs.declared.names.CycleId.{CycleId}
use Rattle.slab_laws.specs.declared.names.CycleKind.{CycleKind}
use Rattle.slab_laws.specs.declared.names.DartId.{DartId}
use Rattle.slab_laws.specs.declared.names.FaceId.{FaceId}
use Rattle.slab_laws.specs.declared.names.VertexId.{VertexId}
use Rattle.slab_laws.specs.FaceLists.{AreOnce, AreDartsOn, AreFacesListed, Lists, first_of, vertex_follower}
use Rattle.slab_laws.specs.View.{View, Faces, HasDart, HasCycle, HasBareFace, cycle_in, face_in, kind_in, bare_face_in}
use Rattle.dcel_records.specs.RecordsView.{RecordsView, lists_of, tables_of}
use Rattle.dcel_records.specs.SoundMaps.{IsSoundMap}
use Rattle.counted_looks.proofs.ListReads.{IsReading, reads_first, one_more_read, fewer_left, there, all_read}
use Rattle.counted_looks.proofs.PartsSeen.{vertex_same, vertex_exact, vertex_itself, isolated_left}
pub use Rattle.lower_envelope.proofs.Boundaries.{AreCyclesRead, cycles_begin, cycles_end, cycle_listed, cycles_nearer, cycles_go_on}
use Rattle.dart_walks.specs.DartWalks.{AreJust}
use Rattle.listed_faces.specs.FaceParts.{AreBoundariesOf, IsBoundaryOf, IsIsolatedIn, is_kind}
use Rattle.listed_faces.proofs.KeptDarts.{kind_is, itself}
use Rattle.sound_views.proofs.OnceFiltered.{filtered_once}
use Rattle.arrangement.specs.FacesRead.{kept_darts}

-- one more is taken, where it passes
pub taken : {X Y : Type 0} (g : X → Y) (p : X → Bool) (done : List X) (c : X) (items : List Y) → items ≡ map g (filter p done) → items ++ cond (p c) (g c ∷ []) [] ≡ map g (filter p (done ++ (c ∷ [])))
taken {X} {Y} g p done c items e =
    ap (λ (z : List Y). z ++ cond (p c) (g c ∷ []) []) e
    ∙ sym (ap (map g) (filter-append p done (c ∷ [])) ∙ map-append g (filter p done) (filter p (c ∷ [])) ∙ ap (λ (z : List Y). map g (filter p done) ++ z) (alone (p c)))
  where
    alone : (b : Bool) → map g (cond b (c ∷ []) []) ≡ cond b (g c ∷ []) []
    alone true = refl
    alone false = refl

-- ---- its isolated vertices
abbrev pub AreIsolatedRead : Lists → FaceId → (List VertexId → Type 0) → Option VertexId → Type 0
AreIsolatedRead l a T at = IsReading vertex_same vertex_exact vertex_itself (l.bare a) at T

module _ (f : Faces) (l : Lists) (a : FaceId) (ls : AreFacesListed f l) (at : Option VertexId) (T : List VertexId → Type 0) where
  pub isolated_begin : at ≡ first_of (l.bare a) → T [] → AreIsolatedRead l a T at
  isolated_begin e t = subst (λ o. AreIsolatedRead l a T o) (sym e) (reads_first vertex_same vertex_exact vertex_itself (l.bare a) T t)

  module _ (r : AreIsolatedRead l a T at) where
    pub isolated_end : at ≡ None → T (l.bare a)
    isolated_end e = all_read vertex_same vertex_exact vertex_itself (l.bare a) T (subst (λ o. AreIsolatedRead l a T o) e r)

    module _ (w : VertexId) (e : at ≡ Some w) where
      come_to : AreIsolatedRead l a T (Some w)
      come_to = subst (λ o. AreIsolatedRead l a T o) e r

      pub vertex_listed : HasBareFace f w × (bare_face_in f w ≡ a)
      vertex_listed = (ls.bare a w).0 (there vertex_same vertex_exact vertex_itself (l.bare a) w T come_to)

      module _ (next : Option VertexId) (n : next ≡ vertex_follower w (l.bare (bare_face_in f w))) where
        then_is : vertex_follower w (l.bare a) ≡ next
        then_is = sym (n ∙ ap (λ b. vertex_follower w (l.bare b)) vertex_listed.1)

        pub isolated_nearer : isolated_left l a next < isolated_left l a at
        isolated_nearer =
            subst (λ (z : Option VertexId × Option VertexId). isolated_left l a z.0 < isolated_left l a z.1) (λ i. (then_is i, sym e i))
            (fewer_left vertex_same vertex_exact vertex_itself (l.bare a) w T (ls.bare_once a) come_to)

        pub isolated_go_on : (S : List VertexId → Type 0) → ((done : List VertexId) → T done → S (done ++ (w ∷ []))) → AreIsolatedRead l a S next
        isolated_go_on S k =
            subst (λ o. AreIsolatedRead l a S o) then_is
            (one_more_read vertex_same vertex_exact vertex_itself (l.bare a) w T S (ls.bare_once a) come_to k)

-- ---- what the lists mean
pub isolated_are : (f : Faces) (l : Lists) (a : FaceId) (ws : List VertexId) → AreFacesListed f l → ws ≡ l.bare a → AreJust (IsIsolatedIn f a) ws
isolated_are f l a ws ls e = subst (AreJust (IsIsolatedIn f a)) (sym e) (record { just = λ w. ls.bare a w; once = ls.bare_once a })

module _ (v : View) (f : Faces) (l : Lists) (a : FaceId) (k : CycleKind) (ls : AreFacesListed f l) (on : AreDartsOn v f l) where
  abbrev chosen : List CycleId
  chosen = filter (λ c. is_kind k (kind_in f c)) (l.cycles a)

  -- a cycle of the face
  own : (c : CycleId) → Member c chosen → HasCycle f c × (face_in f c ≡ a)
  own c m = (ls.cycles a c).0 ((of_filter (λ c. is_kind k (kind_in f c)) c (l.cycles a) m).0)

  -- the dart that is kept for a cycle is on it
  back : (cs : List CycleId) → ((c : CycleId) → Member c cs → HasCycle f c) → map (cycle_in f) (map l.dart_on cs) ≡ cs
  back [] h = refl
  back (c ∷ cs) h =
      let e : cycle_in f (l.dart_on c) ≡ c = (on c (h c (inl refl))).1 in
      let r = back cs (λ x m. h x (inr m)) in
      λ i. e i ∷ r i

  pub boundaries_are : (ds : List DartId) → ds ≡ kept_darts f l a k → AreBoundariesOf v f a k ds
  boundaries_are ds e = subst (AreBoundariesOf v f a k) (sym e) (record {
    darts = λ d m. (let w = of_map l.dart_on d chosen m in subst (HasDart v) (sym w.2) ((on w.0 ((own w.0 w.1).0)).0));
    cycles = subst (AreJust (IsBoundaryOf f a k)) (sym (back chosen (λ c m. (own c m).0))) (record {
      just = λ c. (
        λ m. record { has = (own c m).0; face = (own c m).1; kind = kind_is k (kind_in f c) ((of_filter (λ c. is_kind k (kind_in f c)) c (l.cycles a) m).1) },
        λ b. in_filter (λ c. is_kind k (kind_in f c)) c (l.cycles a) ((ls.cycles a c).1 (b.has, b.face)) (ap (is_kind k) b.kind ∙ itself k),
      );
      once = filtered_once (λ c. is_kind k (kind_in f c)) (l.cycles a) (ls.cycles_once a);
    });
  })

-- ---- what calls answer
pub boundaries_told : {T E : Type 0} (h : RecordsView) (r : Result T E) (items : T → List DartId) (a : FaceId) (k : CycleKind) → IsSoundMap h → AreFacesListed (tables_of h) (lists_of h) → IfOk r (λ t. items t ≡ kept_darts (tables_of h) (lists_of h) a k) → IfOk r (λ t. AreBoundariesOf h.graph (tables_of h) a k (items t))
boundaries_told h r items a k m ls e =
    IfOk-weaker r (λ t. items t ≡ kept_darts (tables_of h) (lists_of h) a k) (λ t. AreBoundariesOf h.graph (tables_of h) a k (items t)) (λ t. boundaries_are h.graph (tables_of h) (lists_of h) a k ls m.darts (items t)) e

pub isolated_told : {T E : Type 0} (h : RecordsView) (r : Result T E) (items : T → List VertexId) (a : FaceId) → IsSoundMap h → AreFacesListed (tables_of h) (lists_of h) → IfOk r (λ t. items t ≡ (lists_of h).bare a) → IfOk r (λ t. AreJust (IsIsolatedIn (tables_of h) a) (items t))
isolated_told h r items a m ls e =
    IfOk-weaker r (λ t. items t ≡ (lists_of h).bare a) (λ t. AreJust (IsIsolatedIn (tables_of h) a) (items t)) (λ t q. isolated_are (tables_of h) (lists_of h) a (items t) ls q) e
