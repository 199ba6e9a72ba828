-- Names go on telling faces with one more edge, and with one fewer.
-- g is without the edge, h with it; I is the things that have names, `old` and `new` are their cells in g and in h; x is a dart of the edge, which parts the cycle of a.
use Rattle.std.proofs.Common.{◌≡◌, ◌≢◌, ◌↔◌, true, false, refl, sym, ap, ◌∙◌, ◌⊎◌, inl, inr}
use Rattle.std.specs.Prelude.{◌==◌}
use Rattle.std.proofs.lemmas.Bool.{cases_Bool, eqb-true, eq-eqb, false≢true, true≢false}
use Rattle.slab_laws.specs.declared.slab_cell.SlabCell.{SlabCell}
use Rattle.slab_laws.specs.declared.names.FaceId.{FaceId}
use Rattle.slab_laws.specs.Skeleton.{Skeleton}
use Rattle.slab_laws.specs.Darts.{Dart}
use Rattle.slab_laws.specs.Meets.{SameFace}
use Rattle.slab_laws.specs.Changes.{merged}
use Rattle.slab_laws.specs.Cycles.{left_of_dart}
use Rattle.slab_laws.specs.Rotation.{twin}
use Rattle.slab_faces.proofs.Turns.{face_trans, face_sym}
use Rattle.face_changes.specs.Kinds.{odd_at}
use Rattle.face_changes.specs.OneMoreEdge.{IsOneMoreEdge, LiesIn, PartsCycle}
use Rattle.face_changes.specs.FaceNames.{NamesTellFaces, AllLieIn, FaceNamesStay, AreNamesParted, FaceNamesPart, AreNamesMerged, FaceNamesMerge}
use Rattle.face_changes.proofs.OneMoreEdge.{cells_with_one_more_edge, faces_with_one_more_edge, sides_of_one_more_edge}

-- two names are one, or they aren't
pub face_cases : (a b : FaceId) → (a ≡ b) ⊎ (a ≢ b)
face_cases a b = elim (cases_Bool (a.0 == b.0)) [
  | inl t ↦ inl (λ i. record { 0 = eqb-true a.0 b.0 t i })
  | inr t ↦ inr (λ q. false≢true (sym t ∙ eq-eqb a.0 b.0 (ap (λ (z : FaceId). z.0) q)))
]

pub face_names_stay : (I : Type 0) → FaceNamesStay I
face_names_stay I g h x old new name m q lies = (
  λ t i j. (λ e. (both i j).1 ((t i j).0 e), λ s. (t i j).1 ((both i j).0 s)),
  λ t i j. (λ e. (both i j).0 ((t i j).0 e), λ s. (t i j).1 ((both i j).1 s)),
)
  where
    both : (i j : I) → SameFace h (new i) (new j) ↔ SameFace g (old i) (old j)
    both i j = sides_of_one_more_edge.one g h x (new i) (new j) (old i) (old j) m q (lies i) (lies j)

-- ---- a face is parted
module _ (I : Type 0) (g h : Skeleton) (x a : Dart) (old new : I → SlabCell) (name next : I → FaceId) (o : I) (fresh : FaceId) (m : IsOneMoreEdge g h x.edge) (p : PartsCycle g h x a) (lies : AllLieIn g h x.edge old new) (near : SameFace g (old o) (left_of_dart g a)) (s : AreNamesParted h x new name next (name o) fresh) (t : NamesTellFaces g old name) where
  data Case (k : I) : Type 0 where
    goes : name k ≡ name o → odd_at h x (new k) ≡ true → next k ≡ fresh → Case k
    stays : name k ≡ name o → odd_at h x (new k) ≡ false → next k ≡ name o → Case k
    off : name k ≢ name o → next k ≡ name k → Case k

  case : (k : I) → Case k
  case k = elim (face_cases (name k) (name o)) [
    | inr n ↦ off n (s.others k n)
    | inl e ↦ elim (cases_Bool (odd_at h x (new k))) [
      | inl b ↦ goes e b (s.moved k e b)
      | inr b ↦ stays e b (s.left k e (λ u. true≢false (sym u ∙ b)))
    ]
  ]

  module _ (i j : I) where
    law : SameFace h (new i) (new j) ↔ (SameFace g (old i) (old j) × (odd_at h x (new i) ≡ odd_at h x (new j)))
    law = faces_with_one_more_edge g h x (new i) (new j) (old i) (old j) m (lies i) (lies j)

    elsewhere : name i ≢ name o → SameFace g (old i) (old j) → SameFace h (new i) (new j)
    elsewhere n k = p.elsewhere (new i) (new j) (old i) (old j) (lies i) (lies j) (λ w. n ((t i o).1 (face_trans g _ _ _ w (face_sym g _ _ near)))) k

    there : Case i → Case j → next i ≡ next j → SameFace h (new i) (new j)
    there (goes e b n) (goes e' b' n') q = law.1 ((t i j).0 (e ∙ sym e'), b ∙ sym b')
    there (goes e b n) (stays e' b' n') q = absurd (s.fresh_one o (sym n' ∙ sym q ∙ n))
    there (goes e b n) (off e' n') q = absurd (s.fresh_one j (sym n' ∙ sym q ∙ n))
    there (stays e b n) (goes e' b' n') q = absurd (s.fresh_one o (sym n ∙ q ∙ n'))
    there (stays e b n) (stays e' b' n') q = law.1 ((t i j).0 (e ∙ sym e'), b ∙ sym b')
    there (stays e b n) (off e' n') q = absurd (e' (sym n' ∙ sym q ∙ n))
    there (off e n) (goes e' b' n') q = absurd (s.fresh_one i (sym n ∙ q ∙ n'))
    there (off e n) (stays e' b' n') q = absurd (e (sym n ∙ q ∙ n'))
    there (off e n) (off e' n') q = elsewhere e ((t i j).0 (sym n ∙ q ∙ n'))

    back : Case i → Case j → name i ≡ name j → odd_at h x (new i) ≡ odd_at h x (new j) → next i ≡ next j
    back (goes e b n) (goes e' b' n') q r = n ∙ sym n'
    back (goes e b n) (stays e' b' n') q r = absurd (true≢false (sym b ∙ r ∙ b'))
    back (goes e b n) (off e' n') q r = absurd (e' (sym q ∙ e))
    back (stays e b n) (goes e' b' n') q r = absurd (true≢false (sym b' ∙ sym r ∙ b))
    back (stays e b n) (stays e' b' n') q r = n ∙ sym n'
    back (stays e b n) (off e' n') q r = absurd (e' (sym q ∙ e))
    back (off e n) (goes e' b' n') q r = absurd (e (q ∙ e'))
    back (off e n) (stays e' b' n') q r = absurd (e (q ∙ e'))
    back (off e n) (off e' n') q r = n ∙ q ∙ sym n'

    parted : (next i ≡ next j) ↔ SameFace h (new i) (new j)
    parted = (λ q. there (case i) (case j) q, λ k. let l = law.0 k in back (case i) (case j) ((t i j).1 l.0) l.1)

pub face_names_part : (I : Type 0) → FaceNamesPart I
face_names_part I g h x a old new name next o fresh m p lies near s t i j = parted I g h x a old new name next o fresh m p lies near s t i j

-- ---- two faces become one
module _ (I : Type 0) (g h : Skeleton) (x a : Dart) (old new : I → SlabCell) (name next : I → FaceId) (o r : I) (m : IsOneMoreEdge g h x.edge) (p : PartsCycle g h x a) (lies : AllLieIn g h x.edge old new) (at_o : SameFace h (new o) (left_of_dart h x)) (at_r : SameFace h (new r) (left_of_dart h (twin x))) (s : AreNamesMerged name next (name o) (name r)) (t : NamesTellFaces h new name) where
  down : (c d b k : SlabCell) → LiesIn g h x.edge c b → LiesIn g h x.edge d k → SameFace h c d → SameFace g b k
  down c d b k C D w = ((faces_with_one_more_edge g h x c d b k m C D).0 w).0

  here : LiesIn g h x.edge (left_of_dart h x) (merged g x.edge (left_of_dart h x))
  here = record { real = cells_with_one_more_edge.new g h x m; in' = refl }

  here_twin : LiesIn g h x.edge (left_of_dart h (twin x)) (merged g x.edge (left_of_dart h (twin x)))
  here_twin = record { real = cells_with_one_more_edge.new g h (twin x) m; in' = refl }

  -- what is beside x or its twin is in the one face
  beside_a : (k : I) → (name k ≡ name o) ⊎ (name k ≡ name r) → SameFace g (old k) (left_of_dart g a)
  beside_a k (inl e) = face_trans g _ _ _ (down (new k) (left_of_dart h x) (old k) _ (lies k) here (face_trans h _ _ _ ((t k o).0 e) at_o)) (p.near _ here)
  beside_a k (inr e) = face_trans g _ _ _ (down (new k) (left_of_dart h (twin x)) (old k) _ (lies k) here_twin (face_trans h _ _ _ ((t k r).0 e) at_r)) (p.near_twin _ here_twin)

  -- and nothing else is
  of_a : (k : I) → SameFace g (old k) (left_of_dart g a) → (name k ≡ name o) ⊎ (name k ≡ name r)
  of_a k w = elim (p.sides (new k) (old k) (lies k) w) [
    | inl u ↦ inl ((t k o).1 (face_trans h _ _ _ u (face_sym h _ _ at_o)))
    | inr u ↦ inr ((t k r).1 (face_trans h _ _ _ u (face_sym h _ _ at_r)))
  ]

  -- its next name is the one that is kept, or nothing changes
  data Place (k : I) : Type 0 where
    within : SameFace g (old k) (left_of_dart g a) → next k ≡ name o → Place k
    beyond : ¬ SameFace g (old k) (left_of_dart g a) → name k ≢ name o → next k ≡ name k → Place k

  place : (k : I) → Place k
  place k = elim (face_cases (name k) (name r)) [
    | inl e ↦ within (beside_a k (inr e)) (s.moved k e)
    | inr n ↦ elim (face_cases (name k) (name o)) [
      | inl e ↦ within (beside_a k (inl e)) (s.others k n ∙ e)
      | inr n' ↦ beyond (λ w. elim (of_a k w) [ inl u ↦ n' u | inr u ↦ n u ]) n' (s.others k n)
    ]
  ]

  module _ (i j : I) where
    to : Place i → Place j → next i ≡ next j → SameFace g (old i) (old j)
    to (within u n) (within v l) q = face_trans g _ _ _ u (face_sym g _ _ v)
    to (within u n) (beyond v w l) q = absurd (w (sym l ∙ sym q ∙ n))
    to (beyond u w n) (within v l) q = absurd (w (sym n ∙ q ∙ l))
    to (beyond u w n) (beyond v w' l) q = down (new i) (new j) (old i) (old j) (lies i) (lies j) ((t i j).0 (sym n ∙ q ∙ l))

    from : Place i → Place j → SameFace g (old i) (old j) → next i ≡ next j
    from (within u n) (within v l) k = n ∙ sym l
    from (within u n) (beyond v w l) k = absurd (v (face_trans g _ _ _ (face_sym g _ _ k) u))
    from (beyond u w n) (within v l) k = absurd (u (face_trans g _ _ _ k v))
    from (beyond u w n) (beyond v w' l) k = n ∙ (t i j).1 (p.elsewhere (new i) (new j) (old i) (old j) (lies i) (lies j) u k) ∙ sym l

    merge : (next i ≡ next j) ↔ SameFace g (old i) (old j)
    merge = (λ q. to (place i) (place j) q, λ k. from (place i) (place j) k)

pub face_names_merge : (I : Type 0) → FaceNamesMerge I
face_names_merge I g h x a old new name next o r m p lies at_o at_r s t i j = merge I g h x a old new name next o r m p lies at_o at_r s t i j
