-- The classes that `next` makes of the names of darts are the orbits of the darts that the view draws.
use Rattle.std.proofs.Common.{◌≡◌, Bool, true, refl, sym, ap, ◌∙◌, subst, inl, inr}
use Rattle.std.specs.Prelude.{◌&&◌}
use Rattle.std.specs.List.{Contains, list_any}
use Rattle.std.proofs.lemmas.Bool.{false≢true, and_parts, and_from, cases_Bool, false_from_ne_true}
use Rattle.plane_graphs.proofs.Ascending.{to_member, from_member}
use Rattle.slab_laws.specs.declared.classes.Link.{Link}
use Rattle.slab_laws.specs.declared.names.DartId.{DartId}
use Rattle.slab_laws.specs.Darts.{Dart, darts}
use Rattle.slab_laws.specs.FacesSound.{lead_in}
use Rattle.slab_laws.specs.Rotation.{same_dart, next}
use Rattle.slab_laws.specs.Rows.{least_dart_of}
use Rattle.slab_laws.specs.Sound.{skeleton_of, dart_in, IsGraphSound}
use Rattle.slab_laws.specs.View.{View, HasDart, next_in}
use Rattle.slab_faces.proofs.Member.{Member, member_in, in_member, map_in, map_out, none_passes, none_passing}
use Rattle.slab_faces.proofs.ClassesLemmas.{IsEquivalence, along_link, connected}
use Rattle.slab_faces.proofs.NextLemmas.{darts_exact}
use Rattle.sound_views.proofs.NamedDarts.{names_are_darts, dart_name, named_dart}
use Rattle.sound_views.proofs.NameTables.{names_exact}
use Rattle.arr_notes.specs.CycleNames.{same_name, lower_name, dart_names, name_links, cycle_label}
use Rattle.face_changes.specs.CycleNames.{NamesTellCycles}
use Rattle.face_changes.proofs.OrbitSplices.{told}
use Rattle.face_changes.proofs.LinkedCycles.{labelled}

module _ (v : View) (s : IsGraphSound v) where
  listed : (d : DartId) → HasDart v d → Member (dart_names v) d
  listed d h = in_member (dart_names v) d (from_member (dart_names v) d (dart_name v d h))

  of_list : (d : DartId) → Member (dart_names v) d → HasDart v d
  of_list d m = named_dart v d (to_member (dart_names v) d (member_in (dart_names v) d m))

  step : (d : DartId) → HasDart v d → cycle_label v d ≡ cycle_label v (next_in v d)
  unfolding cycle_label
  step d h = along_link same_name lower_name names_exact (name_links v) (record { one = d; other = next_in v d }) (map_in (λ d. record { one = d; other = next_in v d }) (dart_names v) d (listed d h))

  -- ---- from labels of names to leads of darts
  pub lead_step : (d : DartId) → HasDart v d → lead_in v d ≡ lead_in v (next_in v d)
  lead_step d h = (labelled (skeleton_of v)).step (dart_in v d) (names_are_darts.known v d s h) ∙ ap (least_dart_of (skeleton_of v)) (sym (names_are_darts.next v d s h))

  same_is : IsEquivalence (λ d e. (HasDart v d → HasDart v e) × (HasDart v e → HasDart v d) × (HasDart v d → lead_in v d ≡ lead_in v e))
  same_is = record {
    itself = λ d. (λ k. k, λ k. k, λ k. refl);
    back = λ d e k. (k.1, k.0, λ m. sym (k.2 (k.1 m)));
    on = λ d e f k l. (λ m. l.0 (k.0 m), λ m. k.1 (l.1 m), λ m. k.2 m ∙ l.2 (k.0 m));
  }

  to_label : (d : DartId) → (HasDart v d → HasDart v (cycle_label v d)) × (HasDart v (cycle_label v d) → HasDart v d) × (HasDart v d → lead_in v d ≡ lead_in v (cycle_label v d))
  unfolding cycle_label
  to_label d =
      connected same_name lower_name names_exact (λ d e. (HasDart v d → HasDart v e) × (HasDart v e → HasDart v d) × (HasDart v d → lead_in v d ≡ lead_in v e)) same_is (name_links v) (λ m h. go m (map_out (λ d. record { one = d; other = next_in v d }) (dart_names v) m h)) d
    where
      go : (m : Link DartId) → ((d : DartId) × Member (dart_names v) d × (◌≡◌ {A = Link DartId} (record { one = d; other = next_in v d }) m)) → (HasDart v m.one → HasDart v m.other) × (HasDart v m.other → HasDart v m.one) × (HasDart v m.one → lead_in v m.one ≡ lead_in v m.other)
      go m w =
          let h = of_list w.0 w.1 in
          subst (λ (l : Link DartId). (HasDart v l.one → HasDart v l.other) × (HasDart v l.other → HasDart v l.one) × (HasDart v l.one → lead_in v l.one ≡ lead_in v l.other)) w.2
          (λ _. s.linked.has w.0 h, λ _. h, λ _. lead_step w.0 h)

  there : (d e : DartId) → HasDart v d → HasDart v e → cycle_label v d ≡ cycle_label v e → lead_in v d ≡ lead_in v e
  there d e hd he q = (to_label d).2 hd ∙ ap (lead_in v) q ∙ sym ((to_label e).2 he)

  -- ---- and back: a dart of the drawing passes where its name has e's label
  module _ (e : DartId) where
    has_label : Dart → DartId → Bool
    has_label z d = same_dart (dart_in v d) z && same_name (cycle_label v d) (cycle_label v e)

    passes : Dart → Bool
    passes z = list_any (has_label z) (dart_names v)

    passes_is : (k : DartId) → HasDart v k → passes (dart_in v k) ≡ same_name (cycle_label v k) (cycle_label v e)
    unfolding passes has_label
    passes_is k h = elim (cases_Bool (same_name (cycle_label v k) (cycle_label v e))) [
      | inl t ↦ any (and_from _ _ (darts_exact.itself (dart_in v k)) t) ∙ sym t
      | inr t ↦ none_passing (λ d. same_dart (dart_in v d) (dart_in v k) && same_name (cycle_label v d) (cycle_label v e)) (dart_names v) (λ d m. false_from_ne_true _ (λ w.
          let a = and_parts (same_dart (dart_in v d) (dart_in v k)) (same_name (cycle_label v d) (cycle_label v e)) w in
          let q = s.turned.differ d k (of_list d m) h (darts_exact.path (dart_in v d) (dart_in v k) a.0) in
          false≢true (sym t ∙ subst (λ z. same_name (cycle_label v z) (cycle_label v e) ≡ true) q a.1))) ∙ sym t
    ]
      where
        any : (same_dart (dart_in v k) (dart_in v k) && same_name (cycle_label v k) (cycle_label v e)) ≡ true → list_any (λ d. same_dart (dart_in v d) (dart_in v k) && same_name (cycle_label v d) (cycle_label v e)) (dart_names v) ≡ true
        any w = elim (cases_Bool (list_any (λ d. same_dart (dart_in v d) (dart_in v k) && same_name (cycle_label v d) (cycle_label v e)) (dart_names v))) [
          | inl y ↦ y
          | inr n ↦ absurd (false≢true (sym (none_passes (λ d. same_dart (dart_in v d) (dart_in v k) && same_name (cycle_label v d) (cycle_label v e)) (dart_names v) n k (listed k h)) ∙ w))
        ]

    along : (z : Dart) → Contains (darts (skeleton_of v)) z → passes z ≡ passes (next (darts (skeleton_of v)) z)
    along z Z =
        let k = names_are_darts.there v z s Z in
        let a = passes_is k.0 k.1 ∙ ap (λ l. same_name l (cycle_label v e)) (step k.0 k.1) ∙ sym (passes_is (next_in v k.0) (s.linked.has k.0 k.1)) in
        subst (λ y. passes y ≡ passes (next (darts (skeleton_of v)) y)) k.2 (a ∙ ap passes (names_are_darts.next v k.0 s k.1))

    back : (d : DartId) → HasDart v d → HasDart v e → lead_in v d ≡ lead_in v e → cycle_label v d ≡ cycle_label v e
    back d hd he q =
        let t = told (next (darts (skeleton_of v))) (darts (skeleton_of v)) (least_dart_of (skeleton_of v)) (labelled (skeleton_of v)) passes along (dart_in v d) (dart_in v e) q in
        names_exact.path _ _ (sym (passes_is d hd) ∙ t ∙ passes_is e he ∙ names_exact.itself (cycle_label v e))

pub names_tell_cycles : NamesTellCycles
names_tell_cycles v d e s hd he = (there v s d e hd he, back v s e d hd he)
