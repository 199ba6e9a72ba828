-- The laws of faces and of the edges round them.
use Rattle.slab_laws.specs.Skeleton.{Skeleton}
use Rattle.slab_laws.specs.declared.slab_cell.SlabCell.{SlabCell}
use Rattle.slab_laws.specs.Meets.{SameFace}

-- c and d are in one face, or each is in one of the faces of a and b
pub data IsSplitBy (h : Skeleton) (a b : SlabCell) : SlabCell → SlabCell → Type 0 where
  whole : (c d : SlabCell) → SameFace h c d → IsSplitBy h a b c d
  over_under : (c d : SlabCell) → SameFace h c a → SameFace h b d → IsSplitBy h a b c d
  under_over : (c d : SlabCell) → SameFace h c b → SameFace h a d → IsSplitBy h a b c d
