-- The labels that stand at ranks are those of the faces in their order.
use Rattle.std.proofs.Common.{◌≡◌, ℕ, ◌<◌, arith, sym, ap, ◌∙◌, List, length, map, get_or}
use Rattle.std.proofs.lemmas.List.{ext_get_or, get_or-map, length-map}
use Rattle.slab_laws.specs.declared.slab_cell.SlabCell.{SlabCell}
use Rattle.slab_laws.specs.Cycles.{left_of_dart}
use Rattle.slab_laws.specs.Faces.{face_labels, face_of}
use Rattle.slab_laws.specs.Skeleton.{Skeleton, IsPlaneSkeleton}
use Rattle.slab_laws.specs.Subdivision.{subdivision, first_cell}
use Rattle.slab_faces.proofs.FacesLemmas.{in_its_face}
use Rattle.face_roots.specs.declared.ranks.Root.{Root}
use Rattle.face_roots.specs.CycleRanks.{lead_at, AreRootsOf, AreRankedBy}
use Rattle.face_roots.proofs.OuterRanks.{IsFaceAtRank, first, outer, faces_counted, face_at_rank}
use Rattle.overlay_sweep.specs.KnownLabels.{IsToldBy, AreFaceLabels}

module _ (g : Skeleton) (plane : IsPlaneSkeleton g) (roots : List Root) (ranks : List ℕ) (are : AreRootsOf g roots) (by : AreRankedBy roots ranks) (labels faces : List ℕ) (of : AreFaceLabels g roots labels faces) (label : SlabCell → ℕ) (told : IsToldBy g labels label) where
  -- a cell and the least one of its face have one label
  of_least : (c : SlabCell) → label (face_of (face_labels g) c) ≡ label c
  of_least c = sym (told.constant c (face_of (face_labels g) c) (in_its_face g c plane))

  at_rank : (k : ℕ) → IsFaceAtRank g roots ranks k → get_or faces k 0 ≡ label (get_or (subdivision g).faces k first_cell)
  at_rank k (first z e) = ap (λ n. get_or faces n 0) z ∙ of.first ∙ sym (ap label e ∙ of_least first_cell ∙ told.first)
  at_rank k (outer c i r e) = ap (λ n. get_or faces n 0) (sym r) ∙ of.each label ranks told by c i ∙ sym (ap label e ∙ of_least (left_of_dart g (lead_at g c)))

  pub labels_listed : faces ≡ map label (subdivision g).faces
  labels_listed =
      let n : length faces ≡ length (subdivision g).faces = of.counted ∙ sym (faces_counted g plane roots ranks are by) in
      let m = length-map (subdivision g).faces label in
      ext_get_or 0 faces (map label (subdivision g).faces) (omega arith) (λ k h.
      let l : k < length (subdivision g).faces = omega arith in
      at_rank k (face_at_rank g plane roots ranks are by k l) ∙ sym (get_or-map label (subdivision g).faces k first_cell 0 l))
