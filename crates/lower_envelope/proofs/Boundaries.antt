-- The darts on the boundaries of a face, each boundary walked from the dart that is kept for it.
use Rattle.std.proofs.Common.{◌≡◌, ◌≢◌, ℕ, ◌<◌, Bool, true, false, arith, sym, ap, ◌∙◌, subst, ◌⊎◌, inl, inr, List, [], ◌∷◌, ◌++◌}
use Rattle.std.specs.Prelude.{◌↔◌, IfOk, Option, None, Some, Result}
use Rattle.std.specs.Option.{option_map}
use Rattle.std.specs.List.{Contains}
use Rattle.std.proofs.lemmas.Bool.{false≢true, or_cases, or_left, or_right, eqb-true, eq-eqb}
use Rattle.std.proofs.lemmas.Result.{IfOk-weaker}
use Rattle.plane_graphs.specs.Ascending.{Member}
use Rattle.plane_graphs.proofs.Lists.{in_left, in_right, in_either}
use Rattle.slab_laws.specs.declared.names.CycleId.{CycleId}
use Rattle.slab_laws.specs.declared.names.DartId.{DartId}
use Rattle.slab_laws.specs.declared.names.FaceId.{FaceId}
use Rattle.slab_laws.specs.FaceLists.{AreFacesListed, Lists, first_of, cycle_follower}
use Rattle.slab_laws.specs.FacesSound.{IsSound, lead_in}
use Rattle.slab_laws.specs.Rotation.{same_dart}
use Rattle.slab_laws.specs.Sound.{IsGraphSound}
use Rattle.slab_laws.specs.Tables.{name_after}
use Rattle.slab_laws.specs.View.{View, Faces, HasDart, HasCycle, HasFace, face_id, next_in, cycle_in, face_in, face_after_in}
use Rattle.slab_faces.proofs.NextLemmas.{darts_exact}
use Rattle.arr_notes.specs.CycleNames.{same_name}
use Rattle.sound_views.proofs.NameTables.{names_exact}
use Rattle.boundary_cycles.proofs.NamedWalks.{IsWalked, begins, goes_on, smaller, more, there_more, ends, ways}
use Rattle.counted_looks.proofs.ListReads.{IsReading, reads_first, one_more_read, fewer_left, there, all_read}
use Rattle.counted_looks.proofs.PartsSeen.{cycle_same, cycle_exact, cycle_itself, cycles_left}
use Rattle.lower_envelope.specs.Edges.{is_named, AreDartsOfFace, AreOuterDarts, AreWithCycle}

-- ---- along one boundary
-- the walk from d has come to `at`; the darts that it has met were put to the old ones
pub record IsGoneAlong (v : View) (d at : DartId) (old ds : List DartId) : Type 0 where
  pub passed : DartId → Bool
  pub walked : IsWalked v d at passed
  pub just : (x : DartId) → Member x ds ↔ (Member x old ⊎ (passed x ≡ true))

module _ (v : View) (s : IsGraphSound v) (d : DartId) (D : HasDart v d) (old : List DartId) where
  pub along_begins : IsGoneAlong v d d old old
  along_begins = record {
    passed = λ x. false;
    walked = begins v s d D;
    just = λ x. (λ m. inl m, λ h. elim h [ inl m ↦ m | inr e ↦ absurd (false≢true e) ]);
  }

  module _ (at : DartId) (ds : List DartId) (w : IsGoneAlong v d at old ds) where
    met_in : (x : DartId) → Member x (ds ++ (at ∷ [])) → Member x old ⊎ (more at w.passed x ≡ true)
    met_in x m = elim (in_either x ds (at ∷ []) m) [
      | inl k ↦ elim ((w.just x).0 k) [ inl o ↦ inl o | inr p ↦ inr (or_left (w.passed x) (same_name at x) p) ]
      | inr k ↦ elim k [
        | inl e ↦ inr (or_right (w.passed x) (same_name at x) (subst (λ z. same_name at z ≡ true) (sym e) (names_exact.itself at)))
        | inr z ↦ absurd z
      ]
    ]

    met_out : (x : DartId) → Member x old ⊎ (more at w.passed x ≡ true) → Member x (ds ++ (at ∷ []))
    met_out x h = elim h [
      | inl o ↦ in_left x ds (at ∷ []) ((w.just x).1 (inl o))
      | inr p ↦ elim (or_cases (w.passed x) (same_name at x) p) [
        | inl t ↦ in_left x ds (at ∷ []) ((w.just x).1 (inr t))
        | inr t ↦ in_right x ds (at ∷ []) (inl (sym (names_exact.path at x t)))
      ]
    ]

    pub along_nearer : next_in v at ≢ d → ways v d (next_in v (next_in v at)) < ways v d (next_in v at)
    along_nearer ne = smaller v s d D at w.passed w.walked ne

    pub along_goes_on : next_in v at ≢ d → IsGoneAlong v d (next_in v at) old (ds ++ (at ∷ []))
    along_goes_on ne = record {
      passed = more at w.passed;
      walked = goes_on v s d D at w.passed w.walked ne;
      just = λ x. (met_in x, met_out x);
    }

    pub along_ends : (f : Faces) → IsSound v f → next_in v at ≡ d → AreWithCycle v f d old (ds ++ (at ∷ []))
    along_ends f i e x = (
      λ m. elim (met_in x m) [
        | inl o ↦ inl o
        | inr p ↦ (let h = there_more v s d D at w.passed w.walked x p in inr (h.0, (i.cycled.orbits x d h.0 D).1 h.1))
      ],
      λ h. elim h [
        | inl o ↦ met_out x (inl o)
        | inr h ↦ met_out x (inr (ends v s d D at w.passed w.walked e x h.0 ∙ same_on (lead_in v x) (lead_in v d) ((i.cycled.orbits x d h.0 D).0 h.1)))
      ],
    )
      where
        same_on : (p q : _) → p ≡ q → same_dart p q ≡ true
        same_on p q h = subst (λ z. same_dart z q ≡ true) (sym h) (darts_exact.itself q)

-- ---- from boundary to boundary
-- the darts are those of these cycles
abbrev pub AreOfCycles : View → Faces → List CycleId → List DartId → Type 0
AreOfCycles v f cs ds = (x : DartId) → Member x ds ↔ (HasDart v x × Member (cycle_in f x) cs)

pub of_none : (v : View) (f : Faces) (ds : List DartId) → ds ≡ [] → AreOfCycles v f [] ds
of_none v f ds e x = (λ m. absurd (subst (Member x) e m), λ h. absurd h.1)

pub one_more : (v : View) (f : Faces) (cs : List CycleId) (c : CycleId) (d : DartId) (old new : List DartId) → cycle_in f d ≡ c → AreOfCycles v f cs old → AreWithCycle v f d old new → AreOfCycles v f (cs ++ (c ∷ [])) new
one_more v f cs c d old new on h w x = (
  λ m. elim ((w x).0 m) [
    | inl o ↦ (let r = (h x).0 o in (r.0, in_left (cycle_in f x) cs (c ∷ []) r.1))
    | inr r ↦ (r.0, in_right (cycle_in f x) cs (c ∷ []) (inl (r.1 ∙ on)))
  ],
  λ r. elim (in_either (cycle_in f x) cs (c ∷ []) r.1) [
    | inl k ↦ (w x).1 (inl ((h x).1 (r.0, k)))
    | inr k ↦ elim k [ inl e ↦ (w x).1 (inr (r.0, e ∙ sym on)) | inr z ↦ absurd z ]
  ],
)

abbrev pub AreCyclesRead : Lists → FaceId → (List CycleId → Type 0) → Option CycleId → Type 0
AreCyclesRead l a T at = IsReading cycle_same cycle_exact cycle_itself (l.cycles a) at T

module _ (f : Faces) (l : Lists) (a : FaceId) (ls : AreFacesListed f l) (at : Option CycleId) (T : List CycleId → Type 0) where
  pub cycles_begin : at ≡ first_of (l.cycles a) → T [] → AreCyclesRead l a T at
  cycles_begin e t = subst (λ o. AreCyclesRead l a T o) (sym e) (reads_first cycle_same cycle_exact cycle_itself (l.cycles a) T t)

  module _ (r : AreCyclesRead l a T at) where
    pub cycles_end : at ≡ None → T (l.cycles a)
    cycles_end e = all_read cycle_same cycle_exact cycle_itself (l.cycles a) T (subst (λ o. AreCyclesRead l a T o) e r)

    module _ (c : CycleId) (e : at ≡ Some c) where
      reached : AreCyclesRead l a T (Some c)
      reached = subst (λ o. AreCyclesRead l a T o) e r

      pub cycle_listed : HasCycle f c × (face_in f c ≡ a)
      cycle_listed = (ls.cycles a c).0 (there cycle_same cycle_exact cycle_itself (l.cycles a) c T reached)

      module _ (next : Option CycleId) (n : next ≡ cycle_follower c (l.cycles (face_in f c))) where
        next_is : cycle_follower c (l.cycles a) ≡ next
        next_is = sym (n ∙ ap (λ b. cycle_follower c (l.cycles b)) cycle_listed.1)

        pub cycles_nearer : cycles_left l a next < cycles_left l a at
        cycles_nearer =
            subst (λ (z : Option CycleId × Option CycleId). cycles_left l a z.0 < cycles_left l a z.1) (λ i. (next_is i, sym e i))
            (fewer_left cycle_same cycle_exact cycle_itself (l.cycles a) c T (ls.cycles_once a) reached)

        pub cycles_go_on : (S : List CycleId → Type 0) → ((done : List CycleId) → T done → S (done ++ (c ∷ []))) → AreCyclesRead l a S next
        cycles_go_on S k =
            subst (λ o. AreCyclesRead l a S o) next_is
            (one_more_read cycle_same cycle_exact cycle_itself (l.cycles a) c T S (ls.cycles_once a) reached k)

-- ---- the unbounded face, which is the first by name
pub face_first : (f : Faces) (a : FaceId) → face_after_in f None ≡ Some a → HasFace f a
unfolding name_after
face_first f a e = go f.faces e
  where
    go : (ns : List ℕ) → option_map face_id (name_after ns None) ≡ Some a → Contains ns a.0
    go [] e = absurd cc
    go (n ∷ ns) e = let q : face_id n ≡ a = cc in (0, omega arith, ap (λ z. z.0) q)

pub all_of_face : (v : View) (f : Faces) → IsSound v f → (l : Lists) → AreFacesListed f l → (a : FaceId) (ds : List DartId) → AreOfCycles v f (l.cycles a) ds → AreDartsOfFace v f a ds
all_of_face v f s l ls a ds h x = (
  λ m. (let r = (h x).0 m in (r.0, ((ls.cycles a (cycle_in f x)).0 r.1).1)),
  λ o. (h x).1 (o.0, (ls.cycles a (cycle_in f x)).1 (s.complete.cycle_has x o.0, o.1)),
)

pub none_outer : (v : View) (f : Faces) (ds : List DartId) → ds ≡ [] → face_after_in f None ≡ None → AreOuterDarts v f ds
none_outer v f ds e n x = (λ m. absurd (subst (Member x) e m), λ o. absurd (false≢true (subst (λ a. is_named a (face_in f (cycle_in f x)) ≡ true) n o.1)))

pub all_outer : (v : View) (f : Faces) (a : FaceId) (ds : List DartId) → face_after_in f None ≡ Some a → AreDartsOfFace v f a ds → AreOuterDarts v f ds
all_outer v f a ds e h x = (
  λ m.
      let r = (h x).0 m in
      (r.0, subst (λ o. is_named o (face_in f (cycle_in f x)) ≡ true) (sym e) (eq-eqb (face_in f (cycle_in f x)).0 a.0 (ap (λ z. z.0) r.1))),
  λ o.
      let n : is_named (Some a) (face_in f (cycle_in f x)) ≡ true = subst (λ b. is_named b (face_in f (cycle_in f x)) ≡ true) e o.1 in
      (h x).1 (o.0, ap face_id (eqb-true (face_in f (cycle_in f x)).0 a.0 n)),
)

pub outer_if : {T E : Type 0} (v : View) (f : Faces) (a : FaceId) (r : Result T E) (items : T → List DartId) → face_after_in f None ≡ Some a → IfOk r (λ t. AreDartsOfFace v f a (items t)) → IfOk r (λ t. AreOuterDarts v f (items t))
outer_if v f a r items e h = IfOk-weaker r (λ t. AreDartsOfFace v f a (items t)) (λ t. AreOuterDarts v f (items t)) (λ t k. all_outer v f a (items t) e k) h
