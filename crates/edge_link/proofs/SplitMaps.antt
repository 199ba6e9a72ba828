-- Where an edge parts a cycle: which half is outer, what is read of the tables afterwards, and the darts that are kept for cycles. w is the view with the edge and v without it; x is the dart of the fresh half, after a, and y that of the other, after b.
use Rattle.std.proofs.Common.{◌≡◌, ◌≢◌, ◌<◌, ◌==◌, ℕ, Bool, true, cond, List, [], ◌∷◌, IsSome, refl, sym, ap, subst, ◌∙◌, arith, ◌⊎◌, inl, inr}
use Rattle.std.specs.Prelude.{not, ◌&&◌}
use Rattle.std.specs.List.{AllByRecursion, Contains, filter}
use Rattle.std.proofs.lemmas.Bool.{cases_eq}
use Rattle.integers.proofs.Tests.{other_number, same_number}
use Rattle.plane_graphs.specs.Ascending.{Member}
use Rattle.slab_laws.specs.declared.names.CycleId.{CycleId}
use Rattle.slab_laws.specs.declared.names.CycleKind.TheVariants.{Outer}
use Rattle.slab_laws.specs.declared.names.DartId.{DartId}
use Rattle.slab_laws.specs.declared.names.FaceId.{FaceId}
use Rattle.slab_laws.specs.declared.names.VertexId.{VertexId}
use Rattle.slab_laws.specs.FaceLists.{Lists, AreDartsOn}
use Rattle.slab_laws.specs.FacesSound.{lead_in}
use Rattle.slab_laws.specs.Kinds.{is_outer as bounds_from_outside}
use Rattle.slab_laws.proofs.KindLemmas.{inner_kind, outer_kind}
use Rattle.slab_laws.specs.Sound.{skeleton_of, dart_in}
use Rattle.slab_laws.specs.Tables.{row_at, NamesAscend}
use Rattle.slab_laws.specs.View.{View, Faces, HasDart, HasCycle, dart_id, cycle_or, cycle_in, kind_in}
use Rattle.slab_faces.proofs.Member.{in_member, member_in, Member as Listed}
use Rattle.arr_notes.specs.CycleNames.{cycle_label}
use Rattle.arr_notes.specs.FaceWriters.{on_cycle, orbit_on, with_cycle, with_face, moved_to}
use Rattle.arr_notes.proofs.RowLaws.{row_at-each}
use Rattle.arr_notes.proofs.VertexReads.{put_miss}
use Rattle.dcel_records.specs.ListChanges.{cycle_listed, dart_listed}
use Rattle.face_changes.specs.FacesByPairs.{beside, first_or}
use Rattle.face_changes.specs.Kinds.{is_outer}
use Rattle.face_changes.specs.RecordsAfterSplits.{IsLinkedWithin}
use Rattle.face_steps.specs.RowsWritten.{AreDartRows}
use Rattle.face_steps.specs.StepPremises.{IsBetween}
use Rattle.face_steps.specs.Tabled.{AreTabled}
use Rattle.face_steps.proofs.Choices.{choices_of_kinds}
use Rattle.face_steps.proofs.CyclesApart.{cycle_cases}
use Rattle.face_steps.proofs.EdgePairs.{up, listed, lead_old}
use Rattle.face_steps.proofs.FaceRows.{cycle_number, map_some, map_cycle, orbit_hit, orbit_miss}
use Rattle.face_steps.proofs.TwoFaces.{two_faces_apart}
use Rattle.face_steps.proofs.Within.{within_by_either}
use Rattle.cycle_writers.specs.declared.moves.Which.{Which}
use Rattle.cycle_writers.specs.declared.moves.Which.TheVariants.{All, Inside}
use Rattle.cycle_writers.specs.Taken.{takes, takes_cycle, cycles_taken}
use Rattle.cycle_writers.specs.TakenLaws.{IsSideOf}
use Rattle.edge_link.specs.Halves.{IsHalfAsked}

-- ---- the least name is that of the unbounded face, so a fresh one comes after it
first_of_all : (ns : List ℕ) (n : ℕ) → NamesAscend ns → Contains ns 0 → ¬ Contains ns n → (first_or ns).0 < n
first_of_all [] n h c new = absurd (in_member [] 0 c)
first_of_all (k ∷ ns) n h c new =
    let zero : k ≡ 0 = elim (in_member (k ∷ ns) 0 c) [ inl e ↦ e | inr m ↦ go ns h.0 m ] in
    let other : n ≢ k = λ e. new (member_in (k ∷ ns) n (inl (sym e))) in
    omega (arith, zero, other)
  where
    go : (ms : List ℕ) → AllByRecursion (λ m. k < m) ms → Listed ms 0 → k ≡ 0
    go [] a m = absurd m
    go (l ∷ ms) a (inl e) = let b = a.0 in omega arith
    go (l ∷ ms) a (inr m) = go ms a.1 m

pub fresh_comes_later : (f : Faces) (a : FaceId) → NamesAscend f.faces → Contains f.faces 0 → ¬ Contains f.faces a.0 → (first_or f.faces).0 < a.0
fresh_comes_later f a = first_of_all f.faces a.0

-- ---- the lists, where a fresh cycle is the first of its face, and other darts are kept for the two halves
module _ (kept fresh : CycleId) (a b : FaceId) (x y : DartId) (l : Lists) where
  abbrev parted : Lists
  parted = dart_listed kept y (cycle_listed fresh a x l)

  pub still_listed : b ≢ a → parted.cycles b ≡ l.cycles b
  still_listed two = ap (λ z. cond z (fresh ∷ l.cycles b) (l.cycles b)) (other_number b.0 a.0 (λ e. two (λ i. record { 0 = e i })))

  pub still_kept : (c : CycleId) → c ≢ kept → c ≢ fresh → parted.dart_on c ≡ l.dart_on c
  still_kept c n m = ap (λ z. cond z y (cond (c.0 == fresh.0) x (l.dart_on c))) (other_number c.0 kept.0 (cycle_number c kept n)) ∙ ap (λ z. cond z x (l.dart_on c)) (other_number c.0 fresh.0 (cycle_number c fresh m))

  -- what is taken of another face is the same
  module _ (w : View) (which : Which) where
    one_test : (c : CycleId) → c ≢ fresh → takes_cycle w which kept parted c ≡ takes_cycle w which kept l c
    one_test c n = elim (cases_eq c.0 kept.0) [
      | inl e ↦ ap (λ z. not z && takes w which (beside (parted.dart_on c))) (is_one e) ∙ sym (ap (λ z. not z && takes w which (beside (l.dart_on c))) (is_one e))
      | inr e ↦ ap (λ d. not (c.0 == kept.0) && takes w which (beside d)) (still_kept c (λ q. e (ap (λ (z : CycleId). z.0) q)) n)
    ]
      where
        is_one : c.0 ≡ kept.0 → (c.0 == kept.0) ≡ true
        is_one e = ap (λ z. z == kept.0) e ∙ same_number kept.0

    tests : (cs : List CycleId) → ((c : CycleId) → Member c cs → c ≢ fresh) → filter (takes_cycle w which kept parted) cs ≡ filter (takes_cycle w which kept l) cs
    tests [] n = refl
    tests (c ∷ cs) n =
        let rest = tests cs (λ e m. n e (inr m)) in
        λ j. cond (one_test c (n c (inl refl)) j) (c ∷ rest j) (rest j)

    pub still_taken : b ≢ a → ((c : CycleId) → Member c (l.cycles b) → c ≢ fresh) → cycles_taken w which kept parted b ≡ cycles_taken w which kept l b
    still_taken two n = ap (filter (takes_cycle w which kept parted)) (still_listed two) ∙ tests (l.cycles b) n

-- ---- the kind that the cycle had decides
module _ (v w : View) (f : Faces) (x y : DartId) (p q : VertexId) (a b : DartId) (kept : CycleId) (i : IsBetween v w x y p q a b) (h : AreTabled v f) (at_a : cycle_in f a ≡ kept) (at_b : cycle_in f b ≡ kept) where
  together : cycle_in f a ≡ cycle_in f b
  together = at_a ∙ sym at_b

  pub half_told : (both : Bool) → both ≡ bounds_from_outside (kind_in f kept) → (which : Which) → IsHalfAsked w both x y which → (is_outer (skeleton_of w) (dart_in w x) ≡ true) × IsSideOf w x y which
  half_told both e All s = absurd s
  half_told both e (Inside half extent) (inl s) = (elim s.1 [ inl t ↦ (choices_of_kinds.split_outer v w f x y p q a b i h together (ap (kind_in f) at_a ∙ outer_kind _ (sym e ∙ t))).0 | inr o ↦ o ], inl s.0)
  half_told both e (Inside half extent) (inr s) =
      let other = choices_of_kinds.split_inner v w f y x q p b a (within_by_either.turned v w x y p q a b i) h (sym together) (ap (kind_in f) at_b ∙ inner_kind _ (sym e ∙ s.1)) in
      (other ∙ ap not s.2, inr (s.0, s.2))

  one_lead : lead_in v a ≡ lead_in v b
  one_lead = (h.cycled.orbits a b i.first i.second).0 together

  two_leads : lead_in w y ≢ lead_in w x
  two_leads e = (two_faces_apart.within v w x y p q i.line a b i.edge i.first i.second i.after_first i.after_second).0 one_lead (sym e)

  link : IsLinkedWithin v w x y a
  link = two_faces_apart.linked v w x y p q i.line a b i.edge i.first i.second i.after_first i.after_second one_lead

  elsewhere : (k : DartId) → HasDart v k → cycle_in f k ≢ kept → lead_in w k ≢ lead_in w x
  elsewhere k o n e = n ((h.cycled.orbits k a o i.first).1 (link.parted.cycles.from_d (dart_in v k) (listed v w x y p q i.line i.edge k o) (sym (lead_old v w x y p q i.line i.edge k o) ∙ e)) ∙ at_a)

  -- ---- d and m are x and y, in either order
  module _ (d m : DartId) (fresh : CycleId) (face : FaceId) (cs : List CycleId) (us : List VertexId) (rows : AreDartRows w (on_cycle m kept (on_cycle d kept f))) (at_y : cycle_in (on_cycle m kept (on_cycle d kept f)) y ≡ kept) (at_old : (k : DartId) → HasDart v k → cycle_in (on_cycle m kept (on_cycle d kept f)) k ≡ cycle_in f k) where
    abbrev s : Faces
    s = on_cycle m kept (on_cycle d kept f)

    abbrev S : Faces
    S = moved_to cs us face (with_cycle fresh Outer face (with_face face (orbit_on w x fresh s)))

    reads : (k : DartId) → HasDart w k → cycle_in S k ≡ cond ((cycle_label w k).0 == (cycle_label w x).0) fresh (cycle_in s k)
    reads k o =
        let label : ℕ → CycleId → CycleId = λ n c. cond ((cycle_label w (dart_id n)).0 == (cycle_label w x).0) fresh c in
        ap cycle_or (row_at-each label s.cycle_of k.0) ∙ map_cycle (label k.0) (row_at s.cycle_of k.0) ((rows.cycle_rows k).0 o)

    on_fresh : cycle_in S x ≡ fresh
    on_fresh = reads x i.edge.more.first ∙ orbit_hit w x fresh (cycle_in s x) x i.edge.sound_more i.edge.more.first i.edge.more.first refl

    on_kept : cycle_in S y ≡ kept
    on_kept = reads y i.edge.more.second ∙ orbit_miss w x fresh (cycle_in s y) y i.edge.sound_more i.edge.more.second i.edge.more.first two_leads ∙ at_y

    on_other : (k : DartId) → HasDart v k → cycle_in f k ≢ kept → cycle_in S k ≡ cycle_in f k
    on_other k o n =
        let there = up v w x y p q i.line i.edge k o in
        reads k there ∙ orbit_miss w x fresh (cycle_in s k) k i.edge.sound_more there i.edge.more.first (elsewhere k o n) ∙ at_old k o

    cycles_of : (c : CycleId) → HasCycle S c → (c ≡ fresh) ⊎ HasCycle f c
    cycles_of c o = elim (cycle_cases c fresh) [
      | inl e ↦ inl e
      | inr n ↦ inr (subst IsSome (put_miss fresh.0 _ f.cycles c.0 (cycle_number c fresh n)) ((map_some _ _).1 (subst IsSome (row_at-each _ _ c.0) o)))
    ]

    module _ (l : Lists) (darts : AreDartsOn v f l) where
      abbrev L : Lists
      L = dart_listed kept y (cycle_listed fresh face x l)

      on : (c : CycleId) (k : DartId) → L.dart_on c ≡ k → HasDart w k → cycle_in S k ≡ c → HasDart w (L.dart_on c) × (cycle_in S (L.dart_on c) ≡ c)
      on c k e o r = (subst (HasDart w) (sym e) o, ap (cycle_in S) e ∙ r)

      pub darts_parted : AreDartsOn w S L
      darts_parted c o = elim (cycle_cases c kept) [
        | inl e ↦ on c y (ap (λ z. cond z y (cond (c.0 == fresh.0) x (l.dart_on c))) (ap (λ (z : CycleId). z.0 == kept.0) e ∙ same_number kept.0)) i.edge.more.second (on_kept ∙ sym e)
        | inr n ↦ elim (cycle_cases c fresh) [
          | inl e ↦ on c x (ap (λ z. cond z y (cond (c.0 == fresh.0) x (l.dart_on c))) (other_number c.0 kept.0 (cycle_number c kept n)) ∙ ap (λ z. cond z x (l.dart_on c)) (ap (λ (z : CycleId). z.0 == fresh.0) e ∙ same_number fresh.0)) i.edge.more.first (on_fresh ∙ sym e)
          | inr m ↦ elim (cycles_of c o) [
            | inl e ↦ absurd (m e)
            | inr k ↦ let r = darts c k in on c (l.dart_on c) (still_kept kept fresh face face x y l c n m) (up v w x y p q i.line i.edge (l.dart_on c) r.0) (on_other (l.dart_on c) r.0 (λ e. n (sym r.1 ∙ e)) ∙ r.1)
          ]
        ]
      ]
