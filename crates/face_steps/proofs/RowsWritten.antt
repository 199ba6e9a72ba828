-- Rows that are written one after another are those of the step, and readers decide tables.
use Rattle.std.proofs.Common.{◌≡◌, ◌↔◌, ◌==◌, ℕ, cond, List, [], ◌∷◌, Option, Some, None, IsSome, option_map, refl, sym, ap, ◌∙◌, subst, ◌⊎◌, inl, inr}
use Rattle.std.specs.List.{Contains}
use Rattle.std.specs.Prelude.{is_some}
use Rattle.std.proofs.lemmas.Bool.{cases_Bool, false≢true, true≢false}
use Rattle.slab_laws.specs.declared.names.CycleId.{CycleId}
use Rattle.slab_laws.specs.declared.names.DartId.{DartId}
use Rattle.slab_laws.specs.declared.names.VertexId.{VertexId}
use Rattle.slab_laws.specs.FacesSound.{lead_in, IsComplete}
use Rattle.slab_laws.specs.Sound.{IsGraphSound}
use Rattle.slab_laws.specs.Tables.{row_at, names, NamesAscend}
use Rattle.slab_laws.specs.View.{View, Faces, HasVertex, HasDart, HasCycle, HasBareFace, dart_id, cycle_id, vertex_id, cycle_or, kind_or, face_or, bare_or, cycle_in, kind_in, face_in, bare_face_in}
use Rattle.slab_faces.proofs.Member.{Member, member_in, in_member}
use Rattle.arr_notes.specs.NamedRows.{put, each}
use Rattle.arr_notes.specs.CycleNames.{cycle_label}
use Rattle.arr_notes.specs.FaceWriters.{on_cycle, orbit_on, recycled}
use Rattle.arr_notes.proofs.Names.{cases_dart}
use Rattle.arr_notes.proofs.RowLaws.{row_at-each, ascend-put, ascend-each, one_table}
use Rattle.arr_notes.proofs.Reading.{dart_number}
use Rattle.arr_notes.proofs.VertexReads.{put_hit, put_miss}
use Rattle.rotation_order.specs.VertexRings.{IsBare}
use Rattle.face_changes.proofs.CycleParities.{choose}
use Rattle.face_steps.specs.RowsWritten.{all_on, AreDartRows, RowsWritten}
use Rattle.face_steps.proofs.CyclesApart.{cycle_cases}
use Rattle.face_steps.proofs.FaceRows.{swap_hit, swap_miss, orbit_hit, orbit_miss}

-- ---- what a list of writes leaves
pub none_of : {X : Type 0} (o : Option X) → ¬ IsSome o → o ≡ None
none_of None n = refl
none_of (Some x) n = absurd (n refl)

some_of : (o : Option CycleId) → IsSome o → o ≡ Some (cycle_or o)
some_of None h = absurd (false≢true h)
some_of (Some c) h = refl

on_listed : (ds : List DartId) (c : CycleId) (f : Faces) (k : DartId) → Member ds k ⊎ (row_at f.cycle_of k.0 ≡ Some c) → row_at (all_on ds c f).cycle_of k.0 ≡ Some c
unfolding all_on
on_listed [] c f k (inl m) = absurd m
on_listed [] c f k (inr e) = e
on_listed (d ∷ ds) c f k (inl (inl e)) = on_listed ds c (on_cycle d c f) k (inr (ap (λ (z : DartId). row_at (put d.0 c f.cycle_of) z.0) (sym e) ∙ put_hit d.0 c f.cycle_of))
on_listed (d ∷ ds) c f k (inl (inr m)) = on_listed ds c (on_cycle d c f) k (inl m)
on_listed (d ∷ ds) c f k (inr e) = on_listed ds c (on_cycle d c f) k (inr (elim (cases_dart k d) [
  | inl q ↦ ap (λ (z : DartId). row_at (put d.0 c f.cycle_of) z.0) q ∙ put_hit d.0 c f.cycle_of
  | inr n ↦ put_miss d.0 c f.cycle_of k.0 (dart_number k d n) ∙ e
]))

off_listed : (ds : List DartId) (c : CycleId) (f : Faces) (k : DartId) → ¬ Member ds k → row_at (all_on ds c f).cycle_of k.0 ≡ row_at f.cycle_of k.0
unfolding all_on
off_listed [] c f k n = refl
off_listed (d ∷ ds) c f k n = off_listed ds c (on_cycle d c f) k (λ m. n (inr m)) ∙ put_miss d.0 c f.cycle_of k.0 (dart_number k d (λ e. n (inl (sym e))))

ascends : (ds : List DartId) (c : CycleId) (f : Faces) → NamesAscend (names f.cycle_of) → NamesAscend (names (all_on ds c f).cycle_of)
unfolding all_on
ascends [] c f h = h
ascends (d ∷ ds) c f h = ascends ds c (on_cycle d c f) (ascend-put d.0 c f.cycle_of h)

-- the other tables aren't touched
stay : (ds : List DartId) (c : CycleId) (f : Faces) → ((all_on ds c f).bare ≡ f.bare) × ((all_on ds c f).cycles ≡ f.cycles) × ((all_on ds c f).faces ≡ f.faces)
unfolding all_on
stay [] c f = (refl, refl, refl)
stay (d ∷ ds) c f = stay ds c (on_cycle d c f)

whole : (f s : Faces) → f.cycle_of ≡ s.cycle_of → f.bare ≡ s.bare → f.cycles ≡ s.cycles → f.faces ≡ s.faces → f ≡ s
whole f s a b c d = λ i. record { cycle_of = a i; bare = b i; cycles = c i; faces = d i }

module _ (ds : List DartId) (c : CycleId) (f : Faces) (up : NamesAscend (names f.cycle_of)) (F : ℕ → CycleId → CycleId) (listed : (k : DartId) → Contains ds k → IsSome (row_at f.cycle_of k.0)) (sort : (k : DartId) → IsSome (row_at f.cycle_of k.0) → (Contains ds k × (F k.0 (cycle_in f k) ≡ c)) ⊎ ((¬ Contains ds k) × (F k.0 (cycle_in f k) ≡ cycle_in f k))) where
  row_is : (n : ℕ) → row_at (all_on ds c f).cycle_of n ≡ row_at (each F f.cycle_of) n
  row_is n = elim (cases_Bool (is_some (row_at f.cycle_of n))) [
    | inl o ↦
        let k : DartId = dart_id n in
        let r : row_at f.cycle_of n ≡ Some (cycle_in f k) = some_of (row_at f.cycle_of n) o in
        let e : row_at (each F f.cycle_of) n ≡ Some (F n (cycle_in f k)) = row_at-each F f.cycle_of n ∙ ap (option_map (F n)) r in
        elim (sort k o) [
          | inl z ↦ on_listed ds c f k (inl (in_member ds k z.0)) ∙ ap (λ b. Some b) (sym z.1) ∙ sym e
          | inr z ↦ off_listed ds c f k (λ m. z.0 (member_in ds k m)) ∙ r ∙ ap (λ b. Some b) (sym z.1) ∙ sym e
        ]
    | inr o ↦
        let k : DartId = dart_id n in
        let r : row_at f.cycle_of n ≡ None = none_of (row_at f.cycle_of n) (λ h. true≢false (sym h ∙ o)) in
        off_listed ds c f k (λ m. true≢false (sym (listed k (member_in ds k m)) ∙ o)) ∙ r ∙ sym (row_at-each F f.cycle_of n ∙ ap (option_map (F n)) r)
  ]

  written : all_on ds c f ≡ record { cycle_of = each F f.cycle_of; bare = f.bare; cycles = f.cycles; faces = f.faces }
  written =
      let r = stay ds c f in
      whole (all_on ds c f) (record { cycle_of = each F f.cycle_of; bare = f.bare; cycles = f.cycles; faces = f.faces })
      (one_table (all_on ds c f).cycle_of (each F f.cycle_of) (ascends ds c f up) (ascend-each F f.cycle_of up) row_is) r.0 r.1 r.2

orbit : (v : View) (f : Faces) (d : DartId) (c : CycleId) (ds : List DartId) → IsGraphSound v → AreDartRows v f → HasDart v d → ((k : DartId) → Contains ds k ↔ (HasDart v k × (lead_in v k ≡ lead_in v d))) → all_on ds c f ≡ orbit_on v d c f
orbit v f d c ds s full D met =
    written ds c f full.cycle_of_ascend (λ n b. cond ((cycle_label v (dart_id n)).0 == (cycle_label v d).0) c b) (λ k m. (full.cycle_rows k).0 ((met k).0 m).0)
    (λ k o.
    let K = (full.cycle_rows k).1 o in
    elim (choose (lead_in v k) (lead_in v d)) [
      | inl e ↦ inl ((met k).1 (K, e), orbit_hit v d c (cycle_in f k) k s K D e)
      | inr n ↦ inr (λ m. n ((met k).0 m).1, orbit_miss v d c (cycle_in f k) k s K D n)
    ])

cycle : (v : View) (f : Faces) (gone kept : CycleId) (ds : List DartId) → AreDartRows v f → ((k : DartId) → Contains ds k ↔ (HasDart v k × (cycle_in f k ≡ gone))) → all_on ds kept f ≡ recycled gone kept f
cycle v f gone kept ds full met =
    written ds kept f full.cycle_of_ascend (λ n b. cond (b.0 == gone.0) kept b) (λ k m. (full.cycle_rows k).0 ((met k).0 m).0)
    (λ k o.
    let K = (full.cycle_rows k).1 o in
    elim (cycle_cases (cycle_in f k) gone) [
      | inl e ↦ inl ((met k).1 (K, e), swap_hit gone kept (cycle_in f k) e)
      | inr n ↦ inr (λ m. n ((met k).0 m).1, swap_miss gone kept (cycle_in f k) n)
    ])

-- ---- readers decide
same_option : {X : Type 0} (n : ℕ) (a b : Option X) → (IsSome a → IsSome b) → (IsSome b → IsSome a) → ((x y : X) → a ≡ Some x → b ≡ Some y → x ≡ y) → a ≡ b
same_option n None None f g h = refl
same_option n None (Some y) f g h = absurd (false≢true (g refl))
same_option n (Some x) None f g h = absurd (false≢true (f refl))
same_option n (Some x) (Some y) f g h = ap (λ z. Some z) (h x y refl refl)

module _ (v : View) (f s : Faces) (full : IsComplete v f) (full' : IsComplete v s) (darts : (k : DartId) → HasDart v k → cycle_in f k ≡ cycle_in s k) (cycles : (c : CycleId) → HasCycle f c ↔ HasCycle s c) (records : (c : CycleId) → HasCycle f c → (kind_in f c ≡ kind_in s c) × (face_in f c ≡ face_in s c)) (bare : (u : VertexId) → HasVertex v u → IsBare v u → bare_face_in f u ≡ bare_face_in s u) (faces : f.faces ≡ s.faces) where
  dart_rows : (n : ℕ) → row_at f.cycle_of n ≡ row_at s.cycle_of n
  dart_rows n =
      let k : DartId = dart_id n in
      same_option n (row_at f.cycle_of n) (row_at s.cycle_of n) (λ o. (full'.cycle_rows k).0 ((full.cycle_rows k).1 o)) (λ o. (full.cycle_rows k).0 ((full'.cycle_rows k).1 o))
      (λ x y a b. sym (ap cycle_or a) ∙ darts k ((full.cycle_rows k).1 (subst IsSome (sym a) refl)) ∙ ap cycle_or b)

  cycle_rows : (n : ℕ) → row_at f.cycles n ≡ row_at s.cycles n
  cycle_rows n =
      let c : CycleId = cycle_id n in
      same_option n (row_at f.cycles n) (row_at s.cycles n) (λ o. (cycles c).0 o) (λ o. (cycles c).1 o)
      (λ x y a b.
      let r = records c (subst IsSome (sym a) refl) in
      let i = sym (ap kind_or a) ∙ r.0 ∙ ap kind_or b in
      let j = sym (ap face_or a) ∙ r.1 ∙ ap face_or b in
      λ z. record { kind = i z; face = j z })

  bare_rows : (n : ℕ) → row_at f.bare n ≡ row_at s.bare n
  bare_rows n =
      let u : VertexId = vertex_id n in
      same_option n (row_at f.bare n) (row_at s.bare n)
      (λ o. let U = full.bare_vertex u o in (full'.bare u U).1 ((full.bare u U).0 o))
      (λ o. let U = full'.bare_vertex u o in (full.bare u U).1 ((full'.bare u U).0 o))
      (λ x y a b.
      let o : HasBareFace f u = subst IsSome (sym a) refl in
      let U = full.bare_vertex u o in
      sym (ap bare_or a) ∙ bare u U ((full.bare u U).0 o) ∙ ap bare_or b)

  one : f ≡ s
  one =
      whole f s (one_table f.cycle_of s.cycle_of full.cycle_of_ascend full'.cycle_of_ascend dart_rows) (one_table f.bare s.bare full.bare_ascend full'.bare_ascend bare_rows)
      (one_table f.cycles s.cycles full.cycles_ascend full'.cycles_ascend cycle_rows) faces

pub rows_written : RowsWritten
rows_written = record { orbit = orbit; cycle = cycle; one = λ v f s full full' a b c d e. one v f s full full' a b c d e }
