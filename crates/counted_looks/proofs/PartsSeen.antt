-- What is known once some cycles of a face, or some of its isolated vertices, were looked at.
use Rattle.std.proofs.Common.{◌≡◌, ℕ, ◌+◌, ◌≤◌, ◌<◌, Bool, true, false, cond, arith, refl, sym, ap, ◌∙◌, subst, ◌⊎◌, inl, inr, List, [], ◌∷◌, ◌++◌, length}
use Rattle.std.specs.Prelude.{◌==◌, ◌&&◌, Option, None, Some, IsSome}
use Rattle.std.specs.List.{count_by, sum_by}
use Rattle.std.proofs.lemmas.Bool.{false≢true, and_parts, eqb-true, eq-eqb, cases_Bool, false_from_ne_true}
use Rattle.std.proofs.lemmas.List.Sums.{sum_by-cons}
use Rattle.plane_graphs.specs.Ascending.{Member}
use Rattle.slab_laws.specs.declared.names.CycleId.{CycleId}
use Rattle.slab_laws.specs.declared.names.DartId.{DartId}
use Rattle.slab_laws.specs.declared.names.FaceId.{FaceId}
use Rattle.slab_laws.specs.declared.names.VertexId.{VertexId}
use Rattle.slab_laws.specs.FaceLists.{Lists, AreDartsOn, AreLists, first_of, cycle_follower, vertex_follower}
use Rattle.slab_laws.specs.FacesSound.{IsSound, lead_in}
use Rattle.slab_laws.specs.Rotation.{same_dart}
use Rattle.slab_laws.specs.Tables.{row_at}
use Rattle.slab_laws.specs.View.{View, Faces, HasDart, HasCycle, HasBareFace, cycle_id, vertex_id, cycle_in, face_in, bare_face_in, bare_or}
use Rattle.slab_faces.proofs.NextLemmas.{darts_exact}
use Rattle.slab_faces.proofs.Sums.{each, sum_by-same}
use Rattle.arr_notes.specs.CycleNames.{dart_names}
use Rattle.boundary_cycles.specs.Counted.{is_on_cycle, cycle_length}
use Rattle.boundary_cycles.proofs.LengthsMet.{fewer_met}
use Rattle.boundary_cycles.proofs.NamedWalks.{begins, of_list}
use Rattle.counted_looks.specs.declared.boundary_part.BoundaryPart.{BoundaryPart}
use Rattle.counted_looks.specs.declared.boundary_part.BoundaryPart.TheVariants.{Dart, Isolated}
use Rattle.counted_looks.specs.Boundaries.{IsOnBoundary, cycle_size, dart_size, isolated_size}
use Rattle.counted_looks.proofs.ListReads.{IsReading, left_at, reads_first, one_more_read, fewer_left, there, all_read}
use Rattle.counted_looks.proofs.Tallies.{matched, at_least, once_at_most}

-- ---- names
abbrev pub cycle_same : CycleId → CycleId → Bool
cycle_same x y = x.0 == y.0

abbrev pub vertex_same : VertexId → VertexId → Bool
vertex_same x y = x.0 == y.0

pub cycle_exact : (x y : CycleId) → cycle_same x y ≡ true → x ≡ y
cycle_exact x y h = ap cycle_id (eqb-true x.0 y.0 h)

pub cycle_itself : (x : CycleId) → cycle_same x x ≡ true
cycle_itself x = eq-eqb x.0 x.0 refl

pub vertex_exact : (x y : VertexId) → vertex_same x y ≡ true → x ≡ y
vertex_exact x y h = ap vertex_id (eqb-true x.0 y.0 h)

pub vertex_itself : (x : VertexId) → vertex_same x x ≡ true
vertex_itself x = eq-eqb x.0 x.0 refl

-- ---- one more at the end
member_cases : {X : Type 0} (x c : X) (done : List X) → Member x (done ++ (c ∷ [])) → Member x done ⊎ (c ≡ x)
member_cases x c [] m = elim m [ inl q ↦ inr (sym q) | inr k ↦ absurd k ]
member_cases x c (y ∷ ys) m = elim m [ inl q ↦ inl (inl q) | inr k ↦ elim (member_cases x c ys k) [ inl l ↦ inl (inr l) | inr q ↦ inr q ] ]

sum_one : {X : Type 0} (g : X → ℕ) (done : List X) (c : X) → sum_by g (done ++ (c ∷ [])) ≡ sum_by g done + g c
sum_one g [] c = let a = sum_by-cons g c [] in omega arith
sum_one g (y ∷ ys) c =
    let a = sum_by-cons g y (ys ++ (c ∷ [])) in
    let b = sum_by-cons g y ys in
    let d = sum_one g ys c in
    omega arith

-- ---- cycles
-- the orbit of a dart is its cycle
size_is : (v : View) (f : Faces) → IsSound v f → (e : DartId) → HasDart v e → cycle_length v e ≡ cycle_size v f (cycle_in f e)
size_is v f s e E =
    sum_by-same (λ d. cond {A = ℕ} (is_on_cycle v e d) 1 0) (λ d. cond {A = ℕ} (cycle_same (cycle_in f d) (cycle_in f e)) 1 0) (dart_names v)
    (each (λ d. cond {A = ℕ} (is_on_cycle v e d) 1 0 ≡ cond {A = ℕ} (cycle_same (cycle_in f d) (cycle_in f e)) 1 0) (dart_names v) (λ d m. ap (λ b. cond {A = ℕ} b 1 0) (both d (of_list v s.graph d m))))
  where
    both : (d : DartId) → HasDart v d → is_on_cycle v e d ≡ cycle_same (cycle_in f d) (cycle_in f e)
    both d D = elim (cases_Bool (is_on_cycle v e d)) [
      | inl t ↦ t ∙ sym (subst (λ z. cycle_same z (cycle_in f e) ≡ true) (sym ((s.cycled.orbits d e D E).1 (darts_exact.path (lead_in v d) (lead_in v e) t))) (cycle_itself (cycle_in f e)))
      | inr t ↦ t ∙ sym (false_from_ne_true (cycle_same (cycle_in f d) (cycle_in f e))
          (λ q. false≢true (sym t ∙ subst (λ z. same_dart z (lead_in v e) ≡ true) (sym ((s.cycled.orbits d e D E).0 (cycle_exact (cycle_in f d) (cycle_in f e) q))) (darts_exact.itself (lead_in v e)))))
    ]

-- the darts of these cycles were seen, from one count to another
pub record AreCyclesSeen (v : View) (f : Faces) (P : BoundaryPart → Type 0) (start now : ℕ) (done : List CycleId) : Type 0 where
  pub seen : (c : CycleId) → Member c done → (d : DartId) → HasDart v d → cycle_in f d ≡ c → P (Dart d)
  pub count : now ≤ start + sum_by (cycle_size v f) done

-- one more
one_cycle_seen : (v : View) (f : Faces) (P Q : BoundaryPart → Type 0) (start now later : ℕ) (c : CycleId) → ((t : BoundaryPart) → P t → Q t) → ((d : DartId) → HasDart v d → cycle_in f d ≡ c → Q (Dart d)) → later ≤ now + cycle_size v f c → (done : List CycleId) → AreCyclesSeen v f P start now done → AreCyclesSeen v f Q start later (done ++ (c ∷ []))
one_cycle_seen v f P Q start now later c still all n done k = record {
  seen = λ x m d D q. elim (member_cases x c done m) [ inl l ↦ still (Dart d) (k.seen x l d D q) | inr r ↦ all d D (q ∙ sym r) ];
  count = (
      let a = sum_one (cycle_size v f) done c in
      let b = k.count in
      omega arith
      );
}

-- ---- one cycle
module _ (v : View) (f : Faces) (l : Lists) (s : IsSound v f) (on : AreDartsOn v f l) (c : CycleId) (has : HasCycle f c) where
  length_is : cycle_length v (l.dart_on c) ≡ cycle_size v f c
  length_is = size_is v f s (l.dart_on c) (on c has).0 ∙ ap (cycle_size v f) (on c has).1

  -- a look at its first dart is one of as many as it has darts
  pub one_look : (start now : ℕ) → now ≡ start + 1 → now ≤ start + cycle_size v f c
  one_look start now n =
      let a = fewer_met v s.graph (l.dart_on c) (on c has).0 (l.dart_on c) (λ x. false) (begins v s.graph (l.dart_on c) (on c has).0) in
      let b = length_is in
      omega arith

  -- a round from there goes on with the others
  module _ (d : DartId) (e : d ≡ l.dart_on c) where
    pub round_count : (start one now : ℕ) → one ≡ start + 1 → now + 1 ≡ one + cycle_length v d → now ≤ start + cycle_size v f c
    round_count start one now n m =
        let a : cycle_length v d ≡ cycle_size v f c = ap (cycle_length v) e ∙ length_is in
        omega arith

    pub round_seen : (P : BoundaryPart → Type 0) → ((x : DartId) → HasDart v x → lead_in v x ≡ lead_in v d → P (Dart x)) → (x : DartId) → HasDart v x → cycle_in f x ≡ c → P (Dart x)
    round_seen P all x X q = all x X ((s.cycled.orbits x (l.dart_on c) X (on c has).0).0 (q ∙ sym (on c has).1) ∙ ap (lead_in v) (sym e))

-- all cycles of a face
face_cycles_seen : (v : View) (f : Faces) (l : Lists) (a : FaceId) (P : BoundaryPart → Type 0) (start now : ℕ) → IsSound v f → AreLists v f l → AreCyclesSeen v f P start now (l.cycles a) → ((d : DartId) → IsOnBoundary v f a (Dart d) → P (Dart d)) × (now ≤ start + dart_size v f a)
face_cycles_seen v f l a P start now s ls k =
    let m = matched (λ (c : CycleId) (d : DartId). cycle_same (cycle_in f d) c) (λ d. (face_in f (cycle_in f d)).0 == a.0) (l.cycles a) (dart_names v)
    (λ d. once_at_most (λ (c : CycleId). cycle_same (cycle_in f d) c) ((face_in f (cycle_in f d)).0 == a.0) (l.cycles a) (ls.listed.cycles_once a)
    (λ x y p q. sym (cycle_exact (cycle_in f d) x p) ∙ cycle_exact (cycle_in f d) y q)
    (λ x h p. eq-eqb _ a.0 (ap (λ (z : FaceId). z.0) (ap (face_in f) (cycle_exact (cycle_in f d) x p) ∙ ((ls.listed.cycles a x).0 h).1)))) in
    let n = k.count in (
      λ d o. k.seen (cycle_in f d) ((ls.listed.cycles a (cycle_in f d)).1 (s.complete.cycle_has d o.0, o.1)) d o.0 refl,
      omega arith,
    )

-- the face's cycles are read up to `at`, and what was read was seen
abbrev pub AreCyclesRead : View → Faces → Lists → FaceId → (BoundaryPart → Type 0) → ℕ → ℕ → Option CycleId → Type 0
AreCyclesRead v f l a P start now at = IsReading cycle_same cycle_exact cycle_itself (l.cycles a) at (AreCyclesSeen v f P start now)

abbrev pub cycles_left : Lists → FaceId → Option CycleId → ℕ
cycles_left l a at = left_at cycle_same cycle_exact cycle_itself (l.cycles a) at

module _ (v : View) (f : Faces) (l : Lists) (a : FaceId) (s : IsSound v f) (ls : AreLists v f l) (P : BoundaryPart → Type 0) (start now : ℕ) (at : Option CycleId) where
  pub cycles_begin : at ≡ first_of (l.cycles a) → now ≡ start → AreCyclesRead v f l a P start now at
  cycles_begin e n =
      subst (λ o. AreCyclesRead v f l a P start now o) (sym e)
      (reads_first cycle_same cycle_exact cycle_itself (l.cycles a) (AreCyclesSeen v f P start now) (record { seen = λ c m. absurd m; count = omega (n, arith) }))

  module _ (r : AreCyclesRead v f l a P start now at) where
    pub cycles_end : at ≡ None → ((d : DartId) → IsOnBoundary v f a (Dart d) → P (Dart d)) × (now ≤ start + dart_size v f a)
    cycles_end e =
        face_cycles_seen v f l a P start now s ls
        (all_read cycle_same cycle_exact cycle_itself (l.cycles a) (AreCyclesSeen v f P start now) (subst (λ o. AreCyclesRead v f l a P start now o) e r))

    module _ (c : CycleId) (e : at ≡ Some c) where
      here : AreCyclesRead v f l a P start now (Some c)
      here = subst (λ o. AreCyclesRead v f l a P start now o) e r

      pub cycle_listed : HasCycle f c × (face_in f c ≡ a)
      cycle_listed = (ls.listed.cycles a c).0 (there cycle_same cycle_exact cycle_itself (l.cycles a) c (AreCyclesSeen v f P start now) here)

      module _ (next : Option CycleId) (n : next ≡ cycle_follower c (l.cycles (face_in f c))) where
        next_is : cycle_follower c (l.cycles a) ≡ next
        next_is = sym (n ∙ ap (λ b. cycle_follower c (l.cycles b)) cycle_listed.1)

        pub cycles_nearer : cycles_left l a next < cycles_left l a at
        cycles_nearer =
            subst (λ (z : Option CycleId × Option CycleId). cycles_left l a z.0 < cycles_left l a z.1) (λ i. (next_is i, sym e i))
            (fewer_left cycle_same cycle_exact cycle_itself (l.cycles a) c (AreCyclesSeen v f P start now) (ls.listed.cycles_once a) here)

        pub cycles_go_on : (Q : BoundaryPart → Type 0) (later : ℕ) → ((t : BoundaryPart) → P t → Q t) → ((x : DartId) → HasDart v x → cycle_in f x ≡ c → Q (Dart x)) → later ≤ now + cycle_size v f c → AreCyclesRead v f l a Q start later next
        cycles_go_on Q later still all count =
            subst (λ o. AreCyclesRead v f l a Q start later o) next_is
            (one_more_read cycle_same cycle_exact cycle_itself (l.cycles a) c (AreCyclesSeen v f P start now) (AreCyclesSeen v f Q start later) (ls.listed.cycles_once a) here
            (one_cycle_seen v f P Q start now later c still all count))

-- ---- isolated vertices
-- these were seen
pub record AreIsolatedSeen (P : BoundaryPart → Type 0) (start now : ℕ) (done : List VertexId) : Type 0 where
  pub seen : (w : VertexId) → Member w done → P (Isolated w)
  pub count : now ≤ start + length done

one_isolated_seen : (P Q : BoundaryPart → Type 0) (start now later : ℕ) (c : VertexId) → ((t : BoundaryPart) → P t → Q t) → Q (Isolated c) → later ≡ now + 1 → (done : List VertexId) → AreIsolatedSeen P start now done → AreIsolatedSeen Q start later (done ++ (c ∷ []))
one_isolated_seen P Q start now later c still one n done k = record {
  seen = λ w m. elim (member_cases w c done m) [ inl l ↦ still (Isolated w) (k.seen w l) | inr q ↦ subst (λ z. Q (Isolated z)) q one ];
  count = let a = longer done c in let b = k.count in omega arith;
}
  where
    longer : {X : Type 0} (xs : List X) (c : X) → length (xs ++ (c ∷ [])) ≡ length xs + 1
    longer [] c = refl
    longer (x ∷ xs) c = let a = longer xs c in omega arith

-- a row of that name passes the test, where its value does
in_rows_with : {X : Type 0} (p : X → Bool) (rs : List (ℕ × X)) (n : ℕ) (x : X) → row_at rs n ≡ Some x → p x ≡ true → 1 ≤ count_by (λ (r : ℕ × X). (r.0 == n) && p r.1) rs
unfolding row_at
in_rows_with {X} p [] n x h k = absurd (false≢true (ap (λ (o : Option X). is_there o) h))
  where
    is_there : Option X → Bool
    is_there None = false
    is_there (Some y) = true
in_rows_with {X} p (r ∷ rs) n x h k = go (r.0 == n) refl (in_rows_with p rs n x) h
  where
    or_else : X → Option X → X
    or_else d None = d
    or_else d (Some y) = y

    go : (b : Bool) → (r.0 == n) ≡ b → (row_at rs n ≡ Some x → p x ≡ true → 1 ≤ count_by (λ (r : ℕ × X). (r.0 == n) && p r.1) rs) → cond (r.0 == n) (Some r.1) (row_at rs n) ≡ Some x → 1 ≤ count_by (λ (r : ℕ × X). (r.0 == n) && p r.1) (r ∷ rs)
    go true q f h =
        let a = sum_by-cons (λ (r : ℕ × X). cond ((r.0 == n) && p r.1) 1 0) r rs in
        let e : Some r.1 ≡ Some x = subst (λ b. cond b (Some r.1) (row_at rs n) ≡ Some x) q h in
        let d : r.1 ≡ x = ap (λ o. or_else r.1 o) e in
        let b : cond {A = ℕ} ((r.0 == n) && p r.1) 1 0 ≡ 1 = rw (q, d, k) refl in
        omega arith
    go false q f h =
        let a = sum_by-cons (λ (r : ℕ × X). cond ((r.0 == n) && p r.1) 1 0) r rs in
        let c = f (subst (λ b. cond b (Some r.1) (row_at rs n) ≡ Some x) q h) k in
        omega arith

-- all isolated vertices of a face
face_isolated_seen : (v : View) (f : Faces) (l : Lists) (a : FaceId) (P : BoundaryPart → Type 0) (start now : ℕ) → AreLists v f l → AreIsolatedSeen P start now (l.bare a) → ((w : VertexId) → IsOnBoundary v f a (Isolated w) → P (Isolated w)) × (now ≤ start + isolated_size f a)
face_isolated_seen v f l a P start now ls k =
    let m = matched (λ (w : VertexId) (r : ℕ × FaceId). (r.0 == w.0) && (r.1.0 == a.0)) (λ (r : ℕ × FaceId). r.1.0 == a.0) (l.bare a) f.bare
    (λ r. once_at_most (λ (w : VertexId). (r.0 == w.0) && (r.1.0 == a.0)) (r.1.0 == a.0) (l.bare a) (ls.listed.bare_once a)
    (λ x y p q. vertex_exact x y (eq-eqb x.0 y.0 (sym (eqb-true r.0 x.0 (and_parts (r.0 == x.0) (r.1.0 == a.0) p).0) ∙ eqb-true r.0 y.0 (and_parts (r.0 == y.0) (r.1.0 == a.0) q).0)))
    (λ x h p. (and_parts (r.0 == x.0) (r.1.0 == a.0) p).1)) in
    let b = at_least (λ (w : VertexId). count_by (λ (r : ℕ × FaceId). (r.0 == w.0) && (r.1.0 == a.0)) f.bare) (l.bare a) (λ w h. row_of w ((ls.listed.bare a w).0 h)) in
    let n = k.count in (
      λ w o. k.seen w ((ls.listed.bare a w).1 o),
      omega arith,
    )
  where
    row_of : (w : VertexId) → HasBareFace f w × (bare_face_in f w ≡ a) → 1 ≤ count_by (λ (r : ℕ × FaceId). (r.0 == w.0) && (r.1.0 == a.0)) f.bare
    row_of w h = go (row_at f.bare w.0) refl h.0 h.1
      where
        go : (o : Option FaceId) → row_at f.bare w.0 ≡ o → IsSome o → bare_or o ≡ a → 1 ≤ count_by (λ (r : ℕ × FaceId). (r.0 == w.0) && (r.1.0 == a.0)) f.bare
        go None q i e = absurd (false≢true i)
        go (Some x) q i e = in_rows_with (λ (y : FaceId). y.0 == a.0) f.bare w.0 x q (eq-eqb x.0 a.0 (ap (λ (z : FaceId). z.0) e))

-- the face's isolated vertices are read up to `at`, and what was read was seen
abbrev pub AreIsolatedRead : Lists → FaceId → (BoundaryPart → Type 0) → ℕ → ℕ → Option VertexId → Type 0
AreIsolatedRead l a P start now at = IsReading vertex_same vertex_exact vertex_itself (l.bare a) at (AreIsolatedSeen P start now)

abbrev pub isolated_left : Lists → FaceId → Option VertexId → ℕ
isolated_left l a at = left_at vertex_same vertex_exact vertex_itself (l.bare a) at

module _ (v : View) (f : Faces) (l : Lists) (a : FaceId) (ls : AreLists v f l) (P : BoundaryPart → Type 0) (start now : ℕ) (at : Option VertexId) where
  pub isolated_begin : at ≡ first_of (l.bare a) → now ≡ start → AreIsolatedRead l a P start now at
  isolated_begin e n =
      subst (λ o. AreIsolatedRead l a P start now o) (sym e)
      (reads_first vertex_same vertex_exact vertex_itself (l.bare a) (AreIsolatedSeen P start now) (record { seen = λ w m. absurd m; count = omega (n, arith) }))

  module _ (r : AreIsolatedRead l a P start now at) where
    pub isolated_end : at ≡ None → ((w : VertexId) → IsOnBoundary v f a (Isolated w) → P (Isolated w)) × (now ≤ start + isolated_size f a)
    isolated_end e =
        face_isolated_seen v f l a P start now ls
        (all_read vertex_same vertex_exact vertex_itself (l.bare a) (AreIsolatedSeen P start now) (subst (λ o. AreIsolatedRead l a P start now o) e r))

    module _ (w : VertexId) (e : at ≡ Some w) where
      reached : AreIsolatedRead l a P start now (Some w)
      reached = subst (λ o. AreIsolatedRead l a P start now o) e r

      pub vertex_listed : HasBareFace f w × (bare_face_in f w ≡ a)
      vertex_listed = (ls.listed.bare a w).0 (there vertex_same vertex_exact vertex_itself (l.bare a) w (AreIsolatedSeen P start now) reached)

      module _ (next : Option VertexId) (n : next ≡ vertex_follower w (l.bare (bare_face_in f w))) where
        then_is : vertex_follower w (l.bare a) ≡ next
        then_is = sym (n ∙ ap (λ b. vertex_follower w (l.bare b)) vertex_listed.1)

        pub isolated_nearer : isolated_left l a next < isolated_left l a at
        isolated_nearer =
            subst (λ (z : Option VertexId × Option VertexId). isolated_left l a z.0 < isolated_left l a z.1) (λ i. (then_is i, sym e i))
            (fewer_left vertex_same vertex_exact vertex_itself (l.bare a) w (AreIsolatedSeen P start now) (ls.listed.bare_once a) reached)

        pub isolated_go_on : (Q : BoundaryPart → Type 0) (later : ℕ) → ((t : BoundaryPart) → P t → Q t) → Q (Isolated w) → later ≡ now + 1 → AreIsolatedRead l a Q start later next
        isolated_go_on Q later still one count =
            subst (λ o. AreIsolatedRead l a Q start later o) then_is
            (one_more_read vertex_same vertex_exact vertex_itself (l.bare a) w (AreIsolatedSeen P start now) (AreIsolatedSeen Q start later) (ls.listed.bare_once a) reached
            (one_isolated_seen P Q start now later w still one count))
