-- Which dart follows which where an edge comes or goes, by name: v is without it, w with it.
use Rattle.std.proofs.Common.{◌≡◌, ◌≢◌, refl, sym, ap, ◌∙◌, inl, inr}
use Rattle.exact_plane.specs.Line.{Line}
use Rattle.slab_laws.specs.declared.names.DartId.{DartId}
use Rattle.slab_laws.specs.declared.names.VertexId.{VertexId}
use Rattle.slab_laws.specs.Darts.{Dart, darts}
use Rattle.slab_laws.specs.FacesSound.{lead_in}
use Rattle.slab_laws.specs.Rotation.{next}
use Rattle.slab_laws.specs.Sound.{skeleton_of, dart_in}
use Rattle.slab_laws.specs.View.{View, HasDart, next_in}
use Rattle.sound_views.proofs.NamedDarts.{names_are_darts}
use Rattle.sound_changes.specs.NextLaws.{IsNextWithLess}
use Rattle.sound_changes.proofs.NextDarts.{next_with_one_edge_fewer}
use Rattle.face_changes.proofs.CycleParities.{choose}
use Rattle.face_steps.specs.EdgePairs.{IsEdgeApart}
use Rattle.face_steps.specs.StepPremises.{IsBetween}
use Rattle.face_steps.proofs.EdgePairs.{turned_round, up, sorted, drawn_old, twins, is_dart, is_more, not_along}
use Rattle.face_steps.proofs.TwoFaces.{two_faces_apart}

-- seen from the other end
pub turned : (v w : View) (d m : DartId) (p q : VertexId) (a b : DartId) → IsBetween v w d m p q a b → IsBetween v w m d q p b a
turned v w d m p q a b t = record {
  line = t.line;
  edge = turned_round v w d m p q t.line t.edge;
  first = t.second;
  second = t.first;
  after_first = t.after_second;
  after_second = t.after_first;
}

module _ (v w : View) (x y : DartId) (p q : VertexId) (l : Line) (m : IsEdgeApart v w x y p q l) where
  less : IsNextWithLess (skeleton_of v) (skeleton_of w) (dart_in w x).edge
  less = next_with_one_edge_fewer (skeleton_of v) (skeleton_of w) (dart_in w x).edge m.sound.plane m.sound_more.plane (is_more v w x y p q l m).more

  by_names : (i j : DartId) → HasDart v i → HasDart w j → dart_in v i ≡ dart_in w j → i ≡ j
  by_names i j I J e = m.sound_more.turned.differ i j (up v w x y p q l m i I) J (drawn_old v w x y p q l m i I ∙ e)

  has_next : (k : DartId) → HasDart v k → HasDart w (next_in w k)
  has_next k o = m.sound_more.linked.has k (up v w x y p q l m k o)

  drawn_next : (k : DartId) → HasDart v k → next (darts (skeleton_of w)) (dart_in v k) ≡ dart_in w (next_in w k)
  drawn_next k o = ap (next (darts (skeleton_of w))) (sym (drawn_old v w x y p q l m k o)) ∙ sym (names_are_darts.next w k m.sound_more (up v w x y p q l m k o))

  -- a dart that neither new one follows
  pub follows : (k : DartId) → HasDart v k → next_in w k ≢ x → next_in w k ≢ y → next_in v k ≡ next_in w k
  follows k o i j = elim (sorted v w x y p q l m (next_in w k) (has_next k o)) [
    | inl z ↦
        let e = drawn_next k o in
        let r = less.elsewhere (dart_in v k) (is_dart v w x y p q l m k o) (λ t. not_along v w x y p q l m (next_in w k) z (sym (ap (λ (d : Dart). d.edge) e) ∙ t)) in
        by_names (next_in v k) (next_in w k) (m.sound.linked.has k o) (has_next k o) (names_are_darts.next v k m.sound o ∙ r ∙ e)
    | inr z ↦ elim z [ inl e ↦ absurd (i e) | inr e ↦ absurd (j e) ]
  ]

  -- the dart that x follows
  pub follows_past : (a : DartId) → HasDart v a → next_in w a ≡ x → next_in v a ≡ next_in w y
  follows_past a A e =
      by_names (next_in v a) (next_in w y) (m.sound.linked.has a A) (m.sound_more.linked.has y m.more.second)
      (names_are_darts.next v a m.sound A ∙ less.onward (dart_in v a) (dart_in w x) (is_dart v w x y p q l m a A) refl (drawn_next a A ∙ ap (dart_in w) e) ∙ ap (next (darts (skeleton_of w))) (sym (twins v w x y p q l m)) ∙ sym (names_are_darts.next w y m.sound_more m.more.second))

  -- it alone has x after it
  pub one_before : (k a : DartId) → HasDart v k → HasDart v a → next_in w a ≡ x → next_in w k ≡ x → k ≡ a
  one_before k a K A e e' = m.sound_more.linked.once k a (up v w x y p q l m k K) (up v w x y p q l m a A) (e' ∙ sym e)

-- ---- between two places
module _ (v w : View) (x y : DartId) (p q : VertexId) (a b : DartId) (t : IsBetween v w x y p q a b) where
  pub past_first : next_in v a ≡ next_in w y
  past_first = follows_past v w x y p q t.line t.edge a t.first t.after_first

  -- two cycles with the edge are one without it, and two without it are one with it
  pub one_below : lead_in w x ≢ lead_in w y → lead_in v a ≡ lead_in v b
  one_below two = (two_faces_apart.within v w x y p q t.line a b t.edge t.first t.second t.after_first t.after_second).1 two

  pub one_above : lead_in v a ≢ lead_in v b → lead_in w x ≡ lead_in w y
  one_above two = elim (choose (lead_in w x) (lead_in w y)) [ inl e ↦ e | inr n ↦ absurd (two (one_below n)) ]
