-- The outermost edge of a slab.
use Rattle.std.specs.Prelude.{◌≡◌, ℕ, Bool, true, false, Option, Some, None}
use Rattle.std.specs.List.{Contains}
use Rattle.exact_plane.specs.Point.{Point}
use Rattle.plane_graphs.specs.Graph.{Edge}
use Rattle.slab_laws.specs.Skeleton.{Skeleton}
use Rattle.slab_laws.specs.Slabs.{spans}
use Rattle.envelope_laws.specs.declared.which.Which.{Which}
use Rattle.envelope_laws.specs.Envelopes.{edge_beyond, outside_of}

-- the edge spans the slab, and no other that does is further out (CGAL manual, envelopes)
pub record IsOutermostIn (w : Which) (g : Skeleton) (i : ℕ) (e : Edge) : Type 0 where
  pub is_edge : Contains g.edges e
  pub spanning : spans g i e ≡ true
  pub none : (f : Edge) → Contains g.edges f → spans g i f ≡ true → outside_of w f e ≡ true → ⊥

-- no edge spans the slab
abbrev pub IsGap : Skeleton → ℕ → Type 0
IsGap g i = (e : Edge) → Contains g.edges e → spans g i e ≡ false

-- the outermost edge of the slab, or that there is none
abbrev pub IsOutermostOf : Which → Skeleton → ℕ → Option Edge → Type 0
IsOutermostOf w g i None = IsGap g i
IsOutermostOf w g i (Some e) = IsOutermostIn w g i e

-- the edge, if there is one, passes further out than v
abbrev pub hides : Which → Option Edge → Point → Bool
hides w None v = false
hides w (Some e) v = edge_beyond w e v
