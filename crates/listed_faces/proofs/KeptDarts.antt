-- A dart on each boundary, by one look at each dart; and those of the boundaries of a face.
use Rattle.std.proofs.Common.{◌≡◌, ℕ, suc, ◌+◌, ◌<◌, Bool, true, List, [], ◌∷◌, map, filter, length, get_or, set, Option, Some, None, refl, sym, ap, subst, ◌∙◌, inl, inr, arith}
use Rattle.std.specs.Prelude.{IsSome, slice_get, ◌==◌}
use Rattle.std.specs.Option.{option_map}
use Rattle.std.proofs.lemmas.Bool.{cases_eq, and_parts, and_from, eqb-true, eq-eqb, false≢true}
use Rattle.std.proofs.lemmas.Grind.{get_or-set_at}
use Rattle.std.proofs.lemmas.List.{length-map, length-set, get_or-set_other}
use Rattle.std.proofs.lemmas.Option.{slice_get-map, slice_get_within, slice_get_cases}
use Rattle.plane_graphs.specs.Ascending.{Member}
use Rattle.plane_graphs.proofs.Ascending.{from_member}
use Rattle.plane_graphs.proofs.Lists.{in_map, of_map, in_filter, of_filter}
use Rattle.plane_graphs.proofs.Sorting.{any_default}
use Rattle.slab_laws.specs.declared.names.CycleId.{CycleId}
use Rattle.slab_laws.specs.declared.names.CycleKind.{CycleKind}
use Rattle.slab_laws.specs.declared.names.CycleKind.TheVariants.{Outer, Inner}
use Rattle.slab_laws.specs.declared.names.DartId.{DartId}
use Rattle.slab_laws.specs.declared.names.FaceId.{FaceId}
use Rattle.slab_laws.specs.FaceLists.{AreOnce}
use Rattle.slab_laws.specs.FacesSound.{IsComplete}
use Rattle.slab_laws.specs.Subdivision.{Cycle}
use Rattle.slab_laws.specs.Tables.{names, NamesAscend}
use Rattle.slab_laws.specs.Text.{numbered}
use Rattle.slab_laws.specs.View.{View, Faces, HasDart, HasCycle, cycle_id, dart_id, face_id, cycle_in, face_in, kind_in, dart_after_in}
use Rattle.sound_views.proofs.ListedRows.{is_some_by, numbered_row}
use Rattle.sound_views.proofs.NamesMet.{AllDarts, no_dart_yet, one_dart_more, darts_still}
use Rattle.sound_views.proofs.NameTables.{has_name, name_has}
use Rattle.subdivision_rows.specs.Listed.{Drawing, cycle_record, subdivision_in, view_of, faces_of}
use Rattle.subdivision_rows.proofs.ListedRecords.{mapped_value}
use Rattle.listed_faces.specs.Boundaries.{bounds, AreDartsOnCycles}
use Rattle.listed_faces.specs.FaceParts.{is_kind, AreBoundariesOf, IsBoundaryOf}
use Rattle.listed_faces.proofs.OnceListed.{names_once, once_kept}

-- ---- the names of cycles are the numbers below how many there are
pub cycle_below : (d : Drawing) (c : CycleId) → HasCycle (faces_of d) c → c.0 < length (subdivision_in d).cycles
unfolding faces_of
cycle_below d c h =
    let cs : List Cycle = (subdivision_in d).cycles in
    let e = numbered_row (map (cycle_record d) cs) c.0 ∙ slice_get-map (cycle_record d) cs c.0 in
    let w = mapped_value (cycle_record d) (slice_get cs c.0) (subst IsSome e h) in
    slice_get_within cs c.0 w.0 w.1

cycle_there : (d : Drawing) (k : ℕ) → k < length (subdivision_in d).cycles → HasCycle (faces_of d) (cycle_id k)
unfolding faces_of
cycle_there d k l =
    let cs : List Cycle = (subdivision_in d).cycles in
    let e = numbered_row (map (cycle_record d) cs) k ∙ slice_get-map (cycle_record d) cs k in
    elim ((slice_get_cases cs k).1) [
      | inl w ↦ is_some_by _ (cycle_record d w.0) (e ∙ ap (option_map (cycle_record d)) w.2)
      | inr n ↦ (let z = n.0 in absurd (omega arith))
    ]

-- ---- the darts that are kept
abbrev pub kept_at : List DartId → CycleId → DartId
kept_at ds c = get_or ds c.0 (dart_id 0)

-- one on the cycle of d is kept for it
pub record IsKept (v : View) (f : Faces) (ds : List DartId) (d : DartId) : Type 0 where
  pub has : HasDart v (kept_at ds (cycle_in f d))
  pub on : cycle_in f (kept_at ds (cycle_in f d)) ≡ cycle_in f d

-- there is room for all, and for the cycle of each dart that was met one is kept
pub record AreKept (v : View) (f : Faces) (n : ℕ) (last : Option DartId) (ds : List DartId) : Type 0 where
  pub counted : length ds ≡ n
  pub kept : AllDarts v (IsKept v f ds) last

module _ (v : View) (f : Faces) where
  pub none_kept : (n : ℕ) (ds : List DartId) → length ds ≡ n → AreKept v f n None ds
  none_kept n ds e = record { counted = e; kept = no_dart_yet v (IsKept v f ds) }

  module _ (n : ℕ) (last : Option DartId) (u : DartId) (ds more : List DartId) (k : AreKept v f n last ds) (U : HasDart v u) (l : (cycle_in f u).0 < length ds) (e : more ≡ set ds (cycle_in f u).0 u) where
    now_kept : (x : DartId) → (cycle_in f x).0 ≡ (cycle_in f u).0 → IsKept v f more x
    now_kept x q =
        let at : kept_at more (cycle_in f x) ≡ u = ap (λ (es : List DartId). kept_at es (cycle_in f x)) e ∙ get_or-set_at ds (cycle_in f u).0 (cycle_in f x).0 u (dart_id 0) q l in
        record { has = subst (HasDart v) (sym at) U; on = ap (cycle_in f) at ∙ ap cycle_id (sym q) }

    still_kept : (x : DartId) → IsKept v f ds x → IsKept v f more x
    still_kept x h = elim (cases_eq (cycle_in f x).0 (cycle_in f u).0) [
      | inl q ↦ now_kept x q
      | inr ne ↦
          let at : kept_at more (cycle_in f x) ≡ kept_at ds (cycle_in f x) = ap (λ (es : List DartId). kept_at es (cycle_in f x)) e ∙ get_or-set_other ds (cycle_in f u).0 (cycle_in f x).0 u (dart_id 0) ne in
          record { has = subst (HasDart v) (sym at) h.has; on = ap (cycle_in f) at ∙ h.on }
    ]

    pub one_kept : NamesAscend (names v.darts) → Some u ≡ dart_after_in v last → AreKept v f n (Some u) more
    one_kept ascend after = record {
      counted = ap length e ∙ length-set ds (cycle_in f u).0 u ∙ k.counted;
      kept = one_dart_more v last u ascend after (IsKept v f more) (darts_still v (IsKept v f ds) (IsKept v f more) last still_kept k.kept) (now_kept u refl);
    }

-- ---- all are kept
same_names : {X : Type 0} (g : DartId → CycleId) (ds : List DartId) (xs : List X) (i : ℕ) → length ds ≡ length xs → ((k : ℕ) → k < length xs → g (get_or ds k (dart_id 0)) ≡ cycle_id (i + k)) → map g ds ≡ map cycle_id (names (numbered i xs))
unfolding numbered
same_names g [] [] i e h = refl
same_names g [] (x ∷ xs) i e h = absurd (omega arith)
same_names g (d ∷ ds) [] i e h = absurd (omega arith)
same_names g (d ∷ ds) (x ∷ xs) i e h =
    let z : i + 0 ≡ i = omega arith in
    let a : g d ≡ cycle_id i = h 0 (omega arith) ∙ ap cycle_id z in
    let r = same_names g ds xs (suc i) (omega arith) (λ k l. let q : i + suc k ≡ suc i + k = omega arith in h (suc k) (omega arith) ∙ ap cycle_id q) in
    λ j. a j ∷ r j

module _ (d : Drawing) (full : IsComplete (view_of d) (faces_of d)) (ds : List DartId) (many : length ds ≡ length (subdivision_in d).cycles) (all : (u : DartId) → HasDart (view_of d) u → IsKept (view_of d) (faces_of d) ds u) where
  at : (k : ℕ) → k < length (subdivision_in d).cycles → HasDart (view_of d) (get_or ds k (dart_id 0)) × (cycle_in (faces_of d) (get_or ds k (dart_id 0)) ≡ cycle_id k)
  at k l =
      let w = full.dart_has (cycle_id k) (cycle_there d k l) in
      let h = all w.0 w.1 in
      (subst (λ c. HasDart (view_of d) (kept_at ds c)) w.2 h.has, subst (λ c. cycle_in (faces_of d) (kept_at ds c) ≡ c) w.2 h.on)

  cycles_are : map (cycle_in (faces_of d)) ds ≡ map cycle_id (names (faces_of d).cycles)
  unfolding faces_of
  cycles_are =
      let n = length-map (subdivision_in d).cycles (cycle_record d) in
      same_names (cycle_in (faces_of d)) ds (map (cycle_record d) (subdivision_in d).cycles) 0 (omega arith) (λ k l. let z : k ≡ 0 + k = omega arith in (at k (omega arith)).1 ∙ ap cycle_id z)

  pub kept_all : AreDartsOnCycles (view_of d) (faces_of d) ds
  kept_all = record {
    have = λ x m.
        let c = from_member ds x m in
        subst (HasDart (view_of d)) (any_default ds c.0 (dart_id 0) x c.1 ∙ c.2) ((at c.0 (omega (arith, c.1))).0);
    cycles = cycles_are;
  }

-- ---- those on boundaries of a face
pub kind_is : (k m : CycleKind) → is_kind k m ≡ true → m ≡ k
kind_is Outer Outer h = refl
kind_is Outer Inner h = absurd (false≢true h)
kind_is Inner Outer h = absurd (false≢true h)
kind_is Inner Inner h = refl

pub itself : (k : CycleKind) → is_kind k k ≡ true
itself Outer = refl
itself Inner = refl

module _ (v : View) (f : Faces) (a : FaceId) (k : CycleKind) (ascend : NamesAscend (names f.cycles)) (ds : List DartId) (on : AreDartsOnCycles v f ds) where
  abbrev passes : DartId → Bool
  passes d = bounds f a k (cycle_in f d)

  bound_by : (c : CycleId) → HasCycle f c → bounds f a k c ≡ true → IsBoundaryOf f a k c
  bound_by c h e =
      let w = and_parts ((face_in f c).0 == a.0) (is_kind k (kind_in f c)) e in
      record { has = h; face = ap face_id (eqb-true (face_in f c).0 a.0 w.0); kind = kind_is k (kind_in f c) w.1 }

  by_bound : (c : CycleId) → IsBoundaryOf f a k c → bounds f a k c ≡ true
  by_bound c b = and_from _ _ (eq-eqb (face_in f c).0 a.0 (ap (λ (x : FaceId). x.0) b.face)) (ap (is_kind k) b.kind ∙ itself k)

  cycle_has : (x : DartId) → Member x ds → HasCycle f (cycle_in f x)
  cycle_has x m =
      let w = of_map cycle_id (cycle_in f x) (names f.cycles) (subst (λ (cs : List CycleId). Member (cycle_in f x) cs) on.cycles (in_map (cycle_in f) x ds m)) in
      subst (HasCycle f) (sym w.2) (name_has f.cycles w.0 w.1)

  told : (c : CycleId) → Member c (map (cycle_in f) (filter passes ds)) → IsBoundaryOf f a k c
  told c m =
      let w = of_map (cycle_in f) c (filter passes ds) m in
      let r = of_filter passes w.0 ds w.1 in
      subst (IsBoundaryOf f a k) (sym w.2) (bound_by (cycle_in f w.0) (cycle_has w.0 r.0) r.1)

  listed : (c : CycleId) → IsBoundaryOf f a k c → Member c (map (cycle_in f) (filter passes ds))
  listed c b =
      let n = in_map cycle_id c.0 (names f.cycles) (has_name f.cycles c.0 b.has) in
      let w = of_map (cycle_in f) c ds (subst (λ (cs : List CycleId). Member c cs) (sym on.cycles) n) in
      subst (λ (x : CycleId). Member x (map (cycle_in f) (filter passes ds))) (sym w.2)
      (in_map (cycle_in f) w.0 (filter passes ds) (in_filter passes w.0 ds w.1 (subst (λ (x : CycleId). bounds f a k x ≡ true) w.2 (by_bound c b))))

  pub boundaries_are : (xs : List DartId) → xs ≡ filter passes ds → AreBoundariesOf v f a k xs
  boundaries_are xs e = subst (AreBoundariesOf v f a k) (sym e) (record {
    darts = λ x m. on.have x ((of_filter passes x ds m).0);
    cycles = record {
      just = λ c. (told c, listed c);
      once = once_kept (cycle_in f) passes ds (subst (λ (cs : List CycleId). AreOnce cs) (sym on.cycles) (names_once cycle_id (λ (c : CycleId). c.0) (λ n. refl) (names f.cycles) ascend));
    };
  })
