-- What the code may choose, and what the tables decide.
use Rattle.std.proofs.Common.{◌≡◌, ◌≢◌, ◌↔◌, Bool, true, false, refl, sym, ap, ◌∙◌, inl, inr}
use Rattle.std.specs.Prelude.{not, ◌||◌}
use Rattle.std.proofs.lemmas.Bool.{false≢true, true≢false, cases_Bool}
use Rattle.slab_laws.specs.declared.names.CycleKind.TheVariants.{Inner, Outer}
use Rattle.slab_laws.specs.declared.names.DartId.{DartId}
use Rattle.slab_laws.specs.declared.names.VertexId.{VertexId}
use Rattle.slab_laws.specs.FacesSound.{lead_in}
use Rattle.slab_laws.specs.Rotation.{twin}
use Rattle.slab_laws.specs.Sound.{skeleton_of, dart_in, IsGraphSound}
use Rattle.slab_laws.specs.View.{View, Faces, HasDart, cycle_in, kind_in}
use Rattle.face_changes.specs.Kinds.{is_outer}
use Rattle.face_changes.specs.OneMoreEdge.{PartsCycle, JoinsCycles}
use Rattle.face_changes.proofs.FacesByPairs.{faces_told_by_pairs}
use Rattle.face_changes.proofs.OneMoreEdge.{cycles_with_one_more_edge}
use Rattle.face_steps.specs.Choices.{ChoicesOfKinds}
use Rattle.face_steps.specs.StepPremises.{IsBetween}
use Rattle.face_steps.specs.Tabled.{TablesAreSound, AreTabled}
use Rattle.face_steps.proofs.Alike.{kind_at, not_both_kinds}
use Rattle.face_steps.proofs.EdgePairs.{is_more, is_dart, comes, twins}
use Rattle.face_steps.proofs.StepHoles.{kinds_are_two}
use Rattle.face_steps.proofs.TwoFaces.{parted, comes_twin, two_faces_apart}

pub tables_are_sound : TablesAreSound
tables_are_sound v f s = (
  λ h. record { graph = s; complete = h.complete; cycled = h.cycled; faced = faces_told_by_pairs.cells v f s h.complete h.cycled h.told },
  λ h. record { complete = h.complete; cycled = h.cycled; told = faces_told_by_pairs.pairs v f h.faced.0 s h.complete h.cycled h.faced.1 },
)

outer_is : (v : View) (f : Faces) (k : DartId) → IsGraphSound v → AreTabled v f → HasDart v k → kind_in f (cycle_in f k) ≡ Outer → is_outer (skeleton_of v) (dart_in v k) ≡ true
outer_is v f k s h o e = (kind_at v f k s h.cycled o).0 e

inner_is : (v : View) (f : Faces) (k : DartId) → IsGraphSound v → AreTabled v f → HasDart v k → kind_in f (cycle_in f k) ≡ Inner → is_outer (skeleton_of v) (dart_in v k) ≡ false
inner_is v f k s h o e = elim (cases_Bool (is_outer (skeleton_of v) (dart_in v k))) [
  | inl z ↦ absurd (not_both_kinds _ e ((kind_at v f k s h.cycled o).1 z))
  | inr z ↦ z
]

module _ (v w : View) (d m : DartId) (p q : VertexId) (a b : DartId) (i : IsBetween v w d m p q a b) where
  twin_m : is_outer (skeleton_of w) (dart_in w m) ≡ is_outer (skeleton_of w) (twin (dart_in w d))
  twin_m = ap (is_outer (skeleton_of w)) (twins v w d m p q i.line i.edge)

  part : lead_in v a ≡ lead_in v b → PartsCycle (skeleton_of v) (skeleton_of w) (dart_in w d) (dart_in v a)
  part one = parted v w d m p q i.line i.edge a b i.first i.second i.after_first i.after_second one

  join : (lead_in v a ≡ lead_in v b → ⊥) → JoinsCycles (skeleton_of v) (skeleton_of w) (dart_in w d) (dart_in v a) (dart_in v b)
  join two =
      cycles_with_one_more_edge.joined (skeleton_of v) (skeleton_of w) (dart_in w d) (dart_in v a) (dart_in v b) (is_more v w d m p q i.line i.edge)
      (is_dart v w d m p q i.line i.edge a i.first) (is_dart v w d m p q i.line i.edge b i.second) (comes v w d m p q i.line i.edge a i.first i.after_first)
      (comes_twin v w d m p q i.line i.edge a b i.first i.second i.after_first i.after_second) two

  both : (lead_in v a ≡ lead_in v b) ↔ (lead_in w d ≢ lead_in w m)
  both = two_faces_apart.within v w d m p q i.line a b i.edge i.first i.second i.after_first i.after_second

  module _ (f : Faces) (h : AreTabled v f) where
    one_lead : cycle_in f a ≡ cycle_in f b → lead_in v a ≡ lead_in v b
    one_lead e = (h.cycled.orbits a b i.first i.second).0 e

    split_outer : cycle_in f a ≡ cycle_in f b → kind_in f (cycle_in f a) ≡ Outer → (is_outer (skeleton_of w) (dart_in w d) ≡ true) × (is_outer (skeleton_of w) (dart_in w m) ≡ true)
    split_outer e k = let r = (part (one_lead e)).of_outer (outer_is v f a i.edge.sound h i.first k) in (r.0, twin_m ∙ r.1)

    split_inner : cycle_in f a ≡ cycle_in f b → kind_in f (cycle_in f a) ≡ Inner → is_outer (skeleton_of w) (dart_in w m) ≡ not (is_outer (skeleton_of w) (dart_in w d))
    split_inner e k = twin_m ∙ (part (one_lead e)).of_inner (inner_is v f a i.edge.sound h i.first k)

    join_kinds : (cycle_in f a ≡ cycle_in f b → ⊥) → kind_in f (cycle_in f a) ≡ Outer → kind_in f (cycle_in f b) ≡ Inner
    join_kinds n k =
        let j = join (λ e. n ((h.cycled.orbits a b i.first i.second).1 e)) in
        kinds_are_two (kind_in f (cycle_in f b)) (λ k'. j.not_both (outer_is v f a i.edge.sound h i.first k) (outer_is v f b i.edge.sound h i.second k'))

  module _ (s : Faces) (h : AreTabled w s) where
    two_leads : cycle_in s d ≡ cycle_in s m → lead_in v a ≡ lead_in v b → ⊥
    two_leads e z = both.0 z ((h.cycled.orbits d m i.edge.more.first i.edge.more.second).0 e)

    break_inner : cycle_in s d ≡ cycle_in s m → kind_in s (cycle_in s d) ≡ Inner → (is_outer (skeleton_of v) (dart_in v a) ≡ false) × (is_outer (skeleton_of v) (dart_in v b) ≡ false)
    break_inner e k = parts _ _ (sym (join (two_leads e)).kind ∙ inner_is w s d i.edge.sound_more h i.edge.more.first k)
      where
        parts : (x y : Bool) → (x || y) ≡ false → (x ≡ false) × (y ≡ false)
        parts false y z = (refl, z)
        parts true y z = absurd (true≢false z)

    break_outer : cycle_in s d ≡ cycle_in s m → kind_in s (cycle_in s d) ≡ Outer → is_outer (skeleton_of v) (dart_in v b) ≡ not (is_outer (skeleton_of v) (dart_in v a))
    break_outer e k =
        let j = join (two_leads e) in
        just_one _ _ (sym j.kind ∙ outer_is w s d i.edge.sound_more h i.edge.more.first k) j.not_both
      where
        just_one : (x y : Bool) → (x || y) ≡ true → (x ≡ true → y ≡ true → ⊥) → y ≡ not x
        just_one true true z n = absurd (n refl refl)
        just_one true false z n = refl
        just_one false true z n = refl
        just_one false false z n = absurd (false≢true z)

    unite_kinds : (cycle_in s d ≡ cycle_in s m → ⊥) → kind_in s (cycle_in s d) ≡ Inner → kind_in s (cycle_in s m) ≡ Outer
    unite_kinds n k =
        let one = both.1 (λ e. n ((h.cycled.orbits d m i.edge.more.first i.edge.more.second).1 e)) in
        let r = part one in
        let x = inner_is w s d i.edge.sound_more h i.edge.more.first k in
        (kind_at w s m i.edge.sound_more h.cycled i.edge.more.second).1 (twin_m ∙ go (is_outer (skeleton_of v) (dart_in v a)) refl r x)
      where
        go : (c : Bool) → is_outer (skeleton_of v) (dart_in v a) ≡ c → PartsCycle (skeleton_of v) (skeleton_of w) (dart_in w d) (dart_in v a) → is_outer (skeleton_of w) (dart_in w d) ≡ false → is_outer (skeleton_of w) (twin (dart_in w d)) ≡ true
        go true e r x = (r.of_outer e).1
        go false e r x = r.of_inner e ∙ ap not x

pub choices_of_kinds : ChoicesOfKinds
choices_of_kinds = record {
  split_outer = λ v w f d m p q a b i h. split_outer v w d m p q a b i f h;
  split_inner = λ v w f d m p q a b i h. split_inner v w d m p q a b i f h;
  join = λ v w f d m p q a b i h. join_kinds v w d m p q a b i f h;
  break_inner = λ v w s d m p q a b i h. break_inner v w d m p q a b i s h;
  break_outer = λ v w s d m p q a b i h. break_outer v w d m p q a b i s h;
  unite = λ v w s d m p q a b i h. unite_kinds v w d m p q a b i s h;
}
